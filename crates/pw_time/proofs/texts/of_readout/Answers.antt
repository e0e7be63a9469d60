use Rattle.std.proofs.Common.{inl, inr}
use Rattle.pw_time.proofs.texts.of_readout.Goals as goal

pub returns-in_err-hour : goal.returns-in_err-hour
returns-in_err-hour c = rw c.from_residual-in_err-hour.ensures λ told are.
    let none = c.in_err-hour.ensures told.hour told.minute told.second (are.parts.hour, are.parts.minute, are.parts.second) in
    elim are.time_bytes [ inl together ↦ none.0 together | inr separated ↦ none.1 separated ]
