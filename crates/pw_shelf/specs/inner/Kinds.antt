-- Which records a store in memory looks for. It serves `src/lists.rt`.
-- (Definitions of this project.)
use Rattle.std.specs.Prelude.{[], ◌∷◌}
use Rattle.pw_time.specs.declared.instant.TheConstants.{FIRST_SECOND}
use Rattle.pw_obis.specs.declared.reference.Register.TheVariants.{I0}
use Rattle.pw_model.specs.declared.records.Key.{Key}
use Rattle.pw_model.specs.declared.records.Key.TheVariants as key
use Rattle.pw_model.specs.declared.records.Named.TheVariants as named
use Rattle.pw_model.specs.declared.records.Content.TheVariants as content
use Rattle.pw_model.specs.declared.records.Entry.{Entry}
use Rattle.pw_shelf.specs.declared.lists.Kind.{Kind}
use Rattle.pw_shelf.specs.declared.lists.Kind.TheVariants.{Readings, Assignments, TopUps, Withdrawals}
use Rattle.pw_model.specs.Kinds.{IsReadingOf, IsAssignmentOf, IsTopUp, IsWithdrawal}

abbrev pub IsOfKind : Kind → Key → Type 0
IsOfKind (Readings m r) k = IsReadingOf m r k
IsOfKind (Assignments m) k = IsAssignmentOf m k
IsOfKind TopUps k = IsTopUp k
IsOfKind Withdrawals k = IsWithdrawal k

-- no key of the kind stands before this one; `-` is the lowest character of a reference
abbrev pub lowest_key : Kind → Key
lowest_key (Readings m r) = key.Reading m r FIRST_SECOND
lowest_key (Assignments m) = key.Assignment m FIRST_SECOND
lowest_key TopUps = key.TopUp (45 ∷ [])
lowest_key Withdrawals = key.Withdrawal (named.Reading (record { 0 = 0 }) I0 FIRST_SECOND 0)

-- no record with the key stands before this one
abbrev pub lowest : Key → Entry
lowest k = record { key = k; content = content.Reading 0 }
