-- The line that tells a refusal, without its end.
-- (A format of this project.)
use Rattle.std.specs.Prelude.{ℕ, List, ◌++◌, codes, decimal}

-- `refused`, the number, the name; single spaces stand between
abbrev pub refused_line : ℕ → List ℕ → List ℕ
refused_line number name = codes "refused " ++ (decimal number ++ (codes " " ++ name))

-- want of memory
abbrev pub memory_line : List ℕ
memory_line = refused_line 62 (codes "Memory")
