-- The records of a kind in a list, told by their keys.
-- (Definitions of this project.)
use Rattle.std.specs.Prelude.{◌≡◌, List}
use Rattle.pw_obis.specs.declared.reference.Register.{Register}
use Rattle.pw_tariff.specs.declared.ids.MeterId.{MeterId}
use Rattle.pw_model.specs.declared.records.Key.{Key}
use Rattle.pw_model.specs.declared.records.Key.TheVariants as key
use Rattle.pw_model.specs.declared.records.Entry.{Entry}
use Rattle.pw_model.specs.Counting.{Member}
use Rattle.pw_model.specs.Lists.{Lists}
use Rattle.pw_model.specs.Same.{entry_order}

-- the key of a reading
abbrev pub IsReading : Key → Type 0
IsReading (key.Reading m r t) = Unit {0}
IsReading _ = ⊥

-- that of a reading of the register
abbrev pub IsReadingOf : MeterId → Register → Key → Type 0
IsReadingOf m r (key.Reading n s t) = (n ≡ m) × (s ≡ r)
IsReadingOf m r _ = ⊥

-- the key of an assignment
abbrev pub IsAssignment : Key → Type 0
IsAssignment (key.Assignment m t) = Unit {0}
IsAssignment _ = ⊥

-- that of an assignment of the meter
abbrev pub IsAssignmentOf : MeterId → Key → Type 0
IsAssignmentOf m (key.Assignment n t) = n ≡ m
IsAssignmentOf m _ = ⊥

-- the key of a top-up
abbrev pub IsTopUp : Key → Type 0
IsTopUp (key.TopUp r) = Unit {0}
IsTopUp _ = ⊥

-- the key of a withdrawal
abbrev pub IsWithdrawal : Key → Type 0
IsWithdrawal (key.Withdrawal n) = Unit {0}
IsWithdrawal _ = ⊥

-- the records of a list with such a key, sorted by key and content
abbrev pub ListsHeld : (Key → Type 0) → List Entry → List Entry → Type 0
ListsHeld Of records = Lists entry_order (λ e. Member e records × Of e.key)
