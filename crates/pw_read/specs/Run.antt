-- What a run of `read` does: it prints a body's text on one stream, or one line on the other.
use Rattle.std.specs.Prelude.{◌≡◌, ℕ, ◌<◌, ◌≤◌, ◌⊎◌, List, ◌++◌, length, take, Option, codes}
use Rattle.std.specs.Io.KnownBytes.{Appends}
use Rattle.pw_line.specs.Refused.{memory_line}
use Rattle.pw_read.specs.declared.fault.ReadFault.TheVariants.{Memory, Refused}
use Rattle.pw_read.specs.declared.run.Failure.{Failure}
use Rattle.pw_read.specs.declared.run.Failure.TheVariants.{Body, TooLarge, Device}
use Rattle.pw_frame.specs.declared.frames.TheConstants.{LONGEST_BODY}
use Rattle.pw_time.specs.declared.zone.Clock.{Clock}
use Rattle.pw_read.specs.FaultLine.{fault_line}
use Rattle.pw_read.specs.Text.{BodyShows, BodyRefused}

-- why a body is not printed; that a device fails or memory is refused says nothing of the body
abbrev pub IsFailure : Clock → List ℕ → Failure → Type 0
IsFailure clock body (Body (Refused refusal)) = (length body ≤ LONGEST_BODY) × BodyRefused clock body refusal.part refusal.cause
IsFailure clock body (Body Memory) = Unit {0}
IsFailure clock body TooLarge = LONGEST_BODY < length body
IsFailure clock body Device = Unit {0}

-- the line of a failure
abbrev pub failure_line : Failure → List ℕ
failure_line (Body (Refused refusal)) = fault_line refusal ++ codes "\n"
failure_line (Body Memory) = memory_line ++ codes "\n"
failure_line TooLarge = codes "body too large\n"
failure_line Device = codes "device failed\n"

-- 1 where the body is refused, 3 for devices and memory
abbrev pub failure_status : Failure → ℕ
failure_status (Body (Refused refusal)) = 1
failure_status (Body Memory) = 3
failure_status TooLarge = 1
failure_status Device = 3

-- a front of the bytes is written, or all of them
abbrev pub WritesFront : Option (List ℕ) → Option (List ℕ) → List ℕ → Type 0
WritesFront old new bytes = (n : ℕ) × Appends old new (take n bytes)

-- what is printed where a run fails: nothing, or, where a device failed, a front of the body's text
abbrev pub PrintsFront : Clock → List ℕ → Failure → Option (List ℕ) → Option (List ℕ) → Type 0
PrintsFront clock body Device old new =
    (old ≡ new)
    ⊎ ((length body ≤ LONGEST_BODY) × ((text : List ℕ) × BodyShows clock body text × WritesFront old new text))
PrintsFront clock body (Body fault) old new = old ≡ new
PrintsFront clock body TooLarge old new = old ≡ new

-- Of a body and of what both streams hold before and after: with status 0 its text is written and no line; with status 1
-- nothing but the line of its refusal; with status 3 a front of one failure's line, and of the body's text a front, or
-- nothing where it isn't the device that failed.
pub record IsRun (clock : Clock) (body : List ℕ) (old new old_line new_line : Option (List ℕ)) (status : ℕ) : Type 0 where
  pub printed : status ≡ 0 → (length body ≤ LONGEST_BODY) × ((text : List ℕ) × BodyShows clock body text × Appends old new text) × (old_line ≡ new_line)
  pub refused : status ≡ 1 → (failure : Failure) × IsFailure clock body failure × (failure_status failure ≡ 1) × (old ≡ new) × Appends old_line new_line (failure_line failure)
  pub failed : status ≡ 3 → (failure : Failure) × IsFailure clock body failure
      × PrintsFront clock body failure old new × WritesFront old_line new_line (failure_line failure)
