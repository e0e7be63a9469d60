-- What writing bytes, and telling a line, does to a stream. It serves `src/run.rt`.
use Rattle.std.specs.Prelude.{◌≡◌, ℕ, ◌⊎◌, List, Option, Result, Ok, Err}
use Rattle.std.specs.Io.KnownBytes.{Appends}
use Rattle.pw_read.specs.declared.run.Failure.{Failure}
use Rattle.pw_read.specs.Run.{WritesFront, failure_line, failure_status}

-- the bytes are written, or after an error a front of them
abbrev pub Writes : {T E : Type 0} → Option (List ℕ) → Option (List ℕ) → List ℕ → Result T E → Type 0
Writes old new bytes (Ok done) = Appends old new bytes
Writes old new bytes (Err error) = WritesFront old new bytes

-- a line is written and its status answered, or the writer fails within the line, and 3 is answered
abbrev pub TellsLine : List ℕ → ℕ → Option (List ℕ) → Option (List ℕ) → ℕ → Type 0
TellsLine line told old new status =
    ((status ≡ told) × Appends old new line) ⊎ ((status ≡ 3) × WritesFront old new line)

-- the line of a failure is told
abbrev pub Tells : Failure → Option (List ℕ) → Option (List ℕ) → ℕ → Type 0
Tells failure old new status = TellsLine (failure_line failure) (failure_status failure) old new status
