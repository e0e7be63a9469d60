-- Which office file may take the place of a store's own, and what is to be said of one.
-- (Definitions of this project.)
use Rattle.std.specs.Prelude.{◌↔◌, ℕ, Bool, IsTrue, Option, List}
use Rattle.pw_model.specs.declared.records.Entry.{Entry}
use Rattle.pw_moving.specs.declared.change.Respelling.{Respelling}
use Rattle.pw_moving.specs.Renaming.{Offices}
use Rattle.pw_moving.specs.Adopting.{Adopts, AreUpTo, IsAdopted}
use Rattle.pw_carrying.specs.LastReading.{IsLastReading}

-- it adopts the records of a set, by these words: no reading of theirs that isn't withdrawn stands behind a second (with
-- none there is no such reading), and each change of the file may be adopted behind that second
abbrev pub MayTake : List Respelling → Offices → List Entry → Type 0
MayTake words o s = (last : Option ℕ) × AreUpTo last s × Adopts words last o

-- whether a new office file is adopted over a set is answered rightly: the answer is yes exactly where the file is adopted,
-- with the latest reading of the set that isn't withdrawn, if there is one, as the last
abbrev pub IsWeighed : List Respelling → Offices → List Entry → Bool → Type 0
IsWeighed words o s adopts = (last : Option ℕ) × IsLastReading s last × (IsTrue adopts ↔ IsAdopted words last o)
