-- The bytes that part addresses and values, by name. (ASCII.) `OPENING` is `(`, `CLOSING` is `)`.
use Rattle.std.specs.Prelude.{ℕ}

abbrev pub LF : ℕ
LF = 10

abbrev pub CR : ℕ
CR = 13

abbrev pub AMPERSAND : ℕ
AMPERSAND = 38

abbrev pub OPENING : ℕ
OPENING = 40

abbrev pub CLOSING : ℕ
CLOSING = 41

abbrev pub STAR : ℕ
STAR = 42

abbrev pub DASH : ℕ
DASH = 45

abbrev pub DOT : ℕ
DOT = 46

abbrev pub COLON : ℕ
COLON = 58
