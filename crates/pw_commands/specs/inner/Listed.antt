-- Why a list of uploads isn't read. It serves `src/listed.rt`.
-- (Definitions of this project.)
use Rattle.std.specs.Prelude.{◌≡◌}
use Rattle.pw_commands.specs.declared.fault.Fault.{Fault}
use Rattle.pw_commands.specs.declared.fault.Fault.TheVariants as fault

-- a line of it, or want of memory
abbrev pub IsOfList : Fault → Type 0
IsOfList (fault.List line) = Unit {0}
IsOfList f = f ≡ fault.Memory
