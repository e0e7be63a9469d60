-- The bytes of a frame's framework, by name. (ASCII; IEC 62056-21.)
use Rattle.std.specs.Prelude.{ℕ}

abbrev pub STX : ℕ
STX = 2

abbrev pub ETX : ℕ
ETX = 3

abbrev pub LF : ℕ
LF = 10

abbrev pub CR : ℕ
CR = 13

abbrev pub EXCLAMATION_MARK : ℕ
EXCLAMATION_MARK = 33

abbrev pub SLASH : ℕ
SLASH = 47
