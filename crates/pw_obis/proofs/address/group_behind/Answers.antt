use Rattle.pw_obis.proofs.OnePart.{behind_some}
use Rattle.pw_obis.proofs.address.group_behind.Goals as goal

pub returns-clause-some : goal.returns-clause-some
returns-clause-some c =
    behind_some c.args.mark c.args.text.now c.in_ok-value.value c.in-Some.behind.now c.in_ok-value.rest.now c.in-Some.ensures.some c.in_ok-value.ensures.some
