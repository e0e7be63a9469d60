use Rattle.std.proofs.Common.{arith}
use Rattle.pw_tariff.proofs.Hours.{hour-of, no-hour-refused, no-hour-of}
use Rattle.pw_tariff.proofs.words.whole_hour.Goals as goal

pub returns-in_default : goal.returns-in_default
returns-in_default c = no-hour-refused c.args.text.now c.in_default.field-0 c.in_default.ensures

pub returns-then-seconds-ne0 : goal.returns-then-seconds-ne0
returns-then-seconds-ne0 c =
    no-hour-of c.args.text.now c.in-Ok.instant c.in-Ok.ensures (λ m. let v = c.seconds.ensures.value in absurd (omega (arith, v, m)))

pub returns : goal.returns
returns c = hour-of c.args.text.now c.in-Ok.instant c.in-Ok.ensures (let v = c.seconds.ensures.value in omega (arith, v))
