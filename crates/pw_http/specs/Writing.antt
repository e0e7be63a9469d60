-- What is written of a text.
-- (Definitions of this project.)
use Rattle.std.specs.Prelude.{ℕ, List, take, Option, Result, Ok, Err}
use Rattle.std.specs.Io.KnownBytes.{Appends}

-- all of it, or after an error a front of it
abbrev pub Writes : {T E : Type 0} → Option (List ℕ) → Option (List ℕ) → List ℕ → Result T E → Type 0
Writes old new text (Ok done) = Appends old new text
Writes old new text (Err fault) = (n : ℕ) × Appends old new (take n text)
