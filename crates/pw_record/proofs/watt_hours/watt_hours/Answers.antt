use Rattle.std.proofs.Common.{arith, rules}
use Rattle.pw_record.proofs.ElevenDigits.{few-digits}
use Rattle.pw_record.proofs.watt_hours.watt_hours.Goals as goal

pub returns-in_err-number-clause-none : goal.returns-in_err-number-clause-none
returns-in_err-number-clause-none c = rw c.from_residual.ensures λ wh x. omega (arith, c.in_err-number.ensures.none x.some x.few x.digits, few-digits c.args.text.now x.digits x.few)

pub returns-clause-some : goal.returns-clause-some
returns-clause-some c = search rules depth 0 fits 100
