-- Whether clients are accepted. It serves `src/admission.rt`.
use Rattle.std.specs.Prelude.{⊤, ℕ}
use Rattle.pw_sockets.specs.declared.admission.Door.{Door}
use Rattle.pw_sockets.specs.declared.admission.Door.TheVariants.{Open, Quiet, Paused, Shut}

abbrev pub IsPaused : Door → Type 0
IsPaused (Paused since) = ⊤
IsPaused Open = ⊥
IsPaused Quiet = ⊥
IsPaused Shut = ⊥

-- a tenth of a second, in nanoseconds
abbrev pub pause : ℕ
pause = 100_000_000
