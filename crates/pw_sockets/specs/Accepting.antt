-- Why no connection is accepted, by Linux's number of the error.
-- (accept(2); what it leads to is a choice of this project.)
use Rattle.std.specs.Prelude.{◌≡◌, ◌⊎◌, ℕ}
use Rattle.pw_sockets.specs.declared.accepting.Hindrance.{Hindrance}
use Rattle.pw_sockets.specs.declared.accepting.Hindrance.TheVariants.{Gone, Short, Broken}

-- ECONNABORTED
abbrev pub IsGone : ℕ → Type 0
IsGone number = number ≡ 103

-- ENOMEM, ENFILE, EMFILE, ENOBUFS
abbrev pub IsShort : ℕ → Type 0
IsShort number = (number ≡ 12) ⊎ (number ≡ 23) ⊎ (number ≡ 24) ⊎ (number ≡ 105)

-- any other number is of the listener
abbrev pub Hinders : ℕ → Hindrance → Type 0
Hinders number Gone = IsGone number
Hinders number Short = IsShort number
Hinders number Broken = (IsGone number → ⊥) × (IsShort number → ⊥)
