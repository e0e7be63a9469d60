-- What a store in memory knows of the records that it keeps. It serves `src/held.rt` and `src/starts.rt`, which keep
-- these facts.
-- (Definitions of this project.)
use Rattle.std.specs.Prelude.{List, [], ◌∷◌, ℕ, Option, IsSome}
use Rattle.std.proofs.Props.{props}
use mathlib.Core.HLevel.{×_prop, Unit-prop, Π_prop, ⊥_prop}
use Rattle.pw_model.specs.declared.records.Key.{Key}
use Rattle.pw_model.specs.declared.records.Key.TheVariants as key
use Rattle.pw_model.specs.declared.records.Entry.{Entry}
use Rattle.pw_model.specs.declared.records.Named.TheVariants as named
use Rattle.pw_model.specs.References.{IsReference}
use Rattle.pw_time.specs.Instants.{IsInstant}
use Rattle.pw_model.specs.Counting.{EachOnce, Member}
use Rattle.pw_tariff.specs.declared.ids.AccountId.{AccountId}

-- the instant at which a reading or an assignment stands is one, and so is each reference; of a withdrawal, those of the
-- record that it names
abbrev pub IsNamed : Key → Type 0
IsNamed (key.Reading m r t) = IsInstant t
IsNamed (key.Assignment m t) = IsInstant t
IsNamed (key.TopUp r) = IsReference r
IsNamed (key.Withdrawal (named.Reading m r t w)) = IsInstant t
IsNamed (key.Withdrawal (named.Assignment m t o)) = IsInstant t
IsNamed (key.Withdrawal (named.TopUp r a c t)) = IsReference r

abbrev pub AreNamed : List Entry → Type 0
AreNamed records = (e : Entry) → Member e records → IsNamed e.key

-- ---- a fact has one proof at most
pub EachOnce-prop : {X : Type 0} (xs : List X) → IsProp (EachOnce xs)
EachOnce-prop [] = Unit-prop
EachOnce-prop (x ∷ xs) = ×_prop (Π_prop λ _. ⊥_prop) (EachOnce-prop xs)

IsNamed-prop : (k : Key) → IsProp (IsNamed k)
IsNamed-prop (key.Reading m r t) = Prim.hlevel props
IsNamed-prop (key.Assignment m t) = Prim.hlevel props
IsNamed-prop (key.TopUp r) = Prim.hlevel props
IsNamed-prop (key.Withdrawal (named.Reading m r t w)) = Prim.hlevel props
IsNamed-prop (key.Withdrawal (named.Assignment m t o)) = Prim.hlevel props
IsNamed-prop (key.Withdrawal (named.TopUp r a c t)) = Prim.hlevel props

pub AreNamed-prop : (records : List Entry) → IsProp (AreNamed records)
AreNamed-prop records = Π_prop λ e. Π_prop λ m. IsNamed-prop e.key

-- each start stands at an instant
abbrev pub AreDated : (ℕ → ℕ → Option (Option AccountId)) → Type 0
AreDated starts = (m t : ℕ) → IsSome (starts m t) → IsInstant t
