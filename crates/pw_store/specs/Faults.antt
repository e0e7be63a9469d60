-- The numbers, names and lines of an opening's faults.
-- (A format of this project.)
use Rattle.std.specs.Prelude.{◌≡◌, ◌⊎◌, ℕ, List, codes}
use Rattle.sqlite.specs.declared.error.Error.{Error}
use Rattle.sqlite.specs.declared.error.Error.TheVariants.{SqliteFailure}
use Rattle.sqlite.specs.declared.error.ErrorCode.TheVariants.{OutOfMemory}
use Rattle.pw_line.specs.Refused.{refused_line}
use Rattle.pw_store.specs.declared.fault.OpenFault.{OpenFault}
use Rattle.pw_store.specs.declared.fault.OpenFault.TheVariants.{Store, Memory, OfficeDiffers, Version, Unclean}

abbrev pub open_told : OpenFault → ℕ × List ℕ
open_told Store = (70, codes "Store")
open_told Memory = (62, codes "Memory")
open_told OfficeDiffers = (71, codes "OfficeDiffers")
open_told Version = (72, codes "Version")
open_told Unclean = (73, codes "Unclean")

-- what a refused statement is to an opening: want of memory where it wanted memory, else a failure of the engine
abbrev pub IsOfStatement : Error → OpenFault → Type 0
IsOfStatement error fault =
    ((fault ≡ Memory) × (error ≡ SqliteFailure OutOfMemory)) ⊎ ((fault ≡ Store) × (error ≡ SqliteFailure OutOfMemory → ⊥))

abbrev pub open_line : OpenFault → List ℕ
open_line fault = refused_line (open_told fault).0 (open_told fault).1
