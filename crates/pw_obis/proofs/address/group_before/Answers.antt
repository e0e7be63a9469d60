use Rattle.pw_obis.proofs.OnePart.{before_some, before_none, group_first, no_group_with}
use Rattle.pw_obis.proofs.address.group_before.Goals as goal

pub returns-in_default : goal.returns-in_default
returns-in_default c =
    before_none c.args.mark c.args.text.now
    (λ g. c.in_default.ensures.none _ _ (group_first c.args.mark c.args.text.now c.requires g))

pub returns-in-Some-behind_mark : goal.returns-in-Some-behind_mark
returns-in-Some-behind_mark c =
    before_some c.args.mark c.args.text.now c.in-Some.value c.in-Some.behind.now c.in-Some-behind_mark.rest.now c.in-Some.ensures.some c.in-Some-behind_mark.ensures.some

pub returns-in-None : goal.returns-in-None
returns-in-None c =
    before_none c.args.mark c.args.text.now
    (no_group_with c.args.mark c.args.text.now c.in-Some.value c.in-Some.behind.now c.requires c.in-Some.ensures.some c.in-None.ensures.none)
