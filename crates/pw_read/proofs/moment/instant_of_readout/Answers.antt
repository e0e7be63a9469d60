use Rattle.std.proofs.Common.{inl, inr}
use Rattle.pw_read.proofs.moment.instant_of_readout.Goals as goal

pub returns-in_default : goal.returns-in_default
returns-in_default c = inl c.in_default.ensures

pub returns-in_default-first_told : goal.returns-in_default-first_told
returns-in_default-first_told c = inr c.in_default-first_told.ensures
