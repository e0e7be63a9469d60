-- When a new office file may take the old one's place over the same records.
-- (Definitions of this project.)
use Rattle.std.specs.Prelude.{◌≡◌, ◌&&◌, ℕ, ◌<◌, ◌≤◌, Bool, true, Option, Some, None, List, [], ◌∷◌, All, slice_get}
use Rattle.std.specs.List.{list_any}
use Rattle.pw_obis.specs.declared.reference.Register.{Register}
use Rattle.pw_tariff.specs.Office.{period_starts}
use Rattle.pw_tariff.specs.Words.{same_text}
use Rattle.pw_model.specs.declared.records.Entry.{Entry}
use Rattle.pw_model.specs.Counting.{Member, standing}
use Rattle.pw_model.specs.Lists.{reading_entry}
use Rattle.pw_moving.specs.declared.change.Listed.TheVariants.{Accounts, Meters}
use Rattle.pw_moving.specs.declared.change.Change.{Change}
use Rattle.pw_moving.specs.declared.change.Change.TheVariants as change
use Rattle.pw_moving.specs.declared.change.Respelling.{Respelling}
use Rattle.pw_moving.specs.Names.{names_in}
use Rattle.pw_moving.specs.Renaming.{Offices}
use Rattle.pw_moving.specs.Changes.{Differs}

-- ---- the latest reading that isn't withdrawn
-- a second that isn't behind the last one
abbrev pub IsUpTo : Option ℕ → ℕ → Type 0
IsUpTo None t = ⊥
IsUpTo (Some last) t = t ≤ last

-- no reading of a set that isn't withdrawn, whether it counts or not, stands behind a second; with none, none is there
abbrev pub AreUpTo : Option ℕ → List Entry → Type 0
AreUpTo last s = (m : ℕ) (r : Register) (t w : ℕ) → Member (reading_entry m r t w) (standing s) → IsUpTo last t

-- a second behind it
abbrev pub IsBehind : Option ℕ → ℕ → Type 0
IsBehind None t = Unit {0}
IsBehind (Some last) t = last < t

-- ---- the names that words spell otherwise
-- a word names the old name with the new one
abbrev pub spells : List ℕ → List ℕ → Respelling → Bool
spells old new word = same_text word.old.now old && same_text word.new.now new

-- what stands at a place of both files is so named
abbrev pub IsSpelt : List Respelling → Option (List ℕ) → Option (List ℕ) → Type 0
IsSpelt words (Some old) (Some new) = list_any (spells old new) words ≡ true
IsSpelt words _ _ = ⊥

-- ---- which changes may be adopted
-- an account or a meter behind the others, a name that the words spell otherwise, a period that starts behind the latest
-- reading that isn't withdrawn; no other
abbrev pub MayBeAdopted : List Respelling → Option ℕ → Offices → Change → Type 0
MayBeAdopted words last o (change.Added Accounts place) = Unit {0}
MayBeAdopted words last o (change.Added Meters place) = Unit {0}
MayBeAdopted words last o (change.Renamed list place) = IsSpelt words (slice_get (names_in list o.old) place) (slice_get (names_in list o.new) place)
MayBeAdopted words last o (change.NewPeriod p) = (t : ℕ) → slice_get (period_starts o.new) p.0 ≡ Some t → IsBehind last t
MayBeAdopted words last o _ = ⊥

-- ---- whether the words are met
-- a change is what a word says: a name that it spells otherwise
abbrev pub IsSaid : Respelling → Offices → Change → Type 0
IsSaid word o (change.Renamed list place) = IsSpelt (word ∷ []) (slice_get (names_in list o.old) place) (slice_get (names_in list o.new) place)
IsSaid word o _ = ⊥

-- a word is met: some change of the new file is what it says
abbrev pub IsMet : Offices → Respelling → Type 0
IsMet o word = (c : Change) × Differs o c × IsSaid word o c

-- ---- the whole file
-- the new file adopts the old one's records: each change of it may be adopted. Two lines that were swapped are two names that
-- moved, which no words spell
abbrev pub Adopts : List Respelling → Option ℕ → Offices → Type 0
Adopts words last o = (c : Change) → Differs o c → MayBeAdopted words last o c

-- the new file is adopted: it adopts the records, and each word is met
abbrev pub IsAdopted : List Respelling → Option ℕ → Offices → Type 0
IsAdopted words last o = Adopts words last o × All (IsMet o) words
