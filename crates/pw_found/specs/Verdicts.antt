-- What a command may do with what it finds.
-- (A format of this project.)
use Rattle.std.specs.Prelude.{◌≡◌, ◌⊎◌, ℕ, Option, None, Some, nat_lt, if◌then◌else◌}
use Rattle.sqlite_wal.specs.Recovery.{Image}
use Rattle.pw_found.specs.Files.{longest_empty_log, IsNoDatabase, IsNothing}
use Rattle.pw_found.specs.declared.files.Found.{Found}
use Rattle.pw_found.specs.declared.files.Found.TheVariants as found
use Rattle.pw_found.specs.declared.verdict.Purpose.{Purpose}
use Rattle.pw_found.specs.declared.verdict.Purpose.TheVariants as purpose
use Rattle.pw_found.specs.declared.verdict.Refusal.{Refusal}
use Rattle.pw_found.specs.declared.verdict.Refusal.TheVariants.{NoSuchStore, Memory, Unopened}
use Rattle.pw_found.specs.declared.cause.Cause.TheVariants as cause

-- by the sizes of the two files in bytes, where no name stands for no byte: a log that may have commits isn't written
-- over for want of its file
abbrev pub found_by_sizes : ℕ → ℕ → Found
found_by_sizes file log =
    if nat_lt 0 file then found.File else (if nat_lt longest_empty_log log then found.LogAlone else found.Nothing)

-- A store is made by the commands that take uploads, and by none that asks. What may hold uploads is left as it is.
abbrev pub refused : Found → Purpose → Option Refusal
refused found.Nothing purpose.Take = None
refused found.Nothing purpose.Ask = Some NoSuchStore
refused found.LogAlone _ = Some (Unopened cause.LogAlone)
refused found.Cut _ = Some (Unopened cause.Damaged)
refused found.File _ = None

-- Where no database is there yet, an opening makes one: to take uploads alone, and where no commit is in the log.
abbrev pub MayOpen : Purpose → Image → Type 0
MayOpen given image = IsNoDatabase image → (given ≡ purpose.Take) × IsNothing image

-- why the files can't be looked at
abbrev pub IsOfLooking : Refusal → Type 0
IsOfLooking refusal = (refusal ≡ Memory) ⊎ (refusal ≡ Unopened cause.Disk)
