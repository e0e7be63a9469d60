use Rattle.std.proofs.Common.{arith}
use Rattle.std.proofs.lemmas.Int.{ints}
use Rattle.pw_time.specs.Outcomes.{always}
use Rattle.pw_time.proofs.OutcomeFacts.{once_outcome}
use Rattle.pw_time.proofs.civil.CivilTime.at_offset.Goals as goal

pub returns : goal.returns
returns c =
    let shown = c.in_ok-shown.ensures in
    once_outcome (always c.args.ahead) c.args.self.now _ c.instant_at.result shown.there
    (omega (arith, ints, shown.value, shown.bound), λ other shows. omega (arith, ints, shown.value, shown.bound, shows))
    c.instant_at.ensures.value c.instant_at.ensures.range
