use Rattle.std.proofs.Common.{◌++◌}
use Rattle.pw_obis.proofs.OnePart.{ending_d}
use Rattle.pw_obis.proofs.OneCode.{unreadable, same_ending}
use Rattle.pw_obis.proofs.address.ending.Goals as goal

pub returns-in_err-d-clause-none : goal.returns-in_err-d-clause-none
returns-in_err-d-clause-none c = rw c.from_residual.ensures λ d e f x. c.in_err-d.ensures.none d (x.e_text ++ x.f_text) (ending_d c.args.text.now d e f x)

pub returns-in_err-e-clause-none : goal.returns-in_err-e-clause-none
returns-in_err-e-clause-none c = rw c.from_residual-in_err-e.ensures λ d e f x.
    unreadable c.args.text.now d c.in_ok-d.d e f c.in_ok-d.behind.now c.in_ok-d.ensures.some c.in_err-e.ensures.none x

pub returns-in_err-f-clause-none : goal.returns-in_err-f-clause-none
returns-in_err-f-clause-none c = rw c.from_residual-in_err-f.ensures λ d e f x.
    c.in_err-f.ensures.none f
    (same_ending c.args.text.now d c.in_ok-d.d e c.in_ok-e.e f c.in_ok-d.behind.now c.in_ok-e.rest.now
    c.in_ok-d.ensures.some c.in_ok-e.ensures.some x).f_is
