use Rattle.pw_time.proofs.SummerFacts.{odd_is_summer}
use Rattle.pw_time.proofs.zone.Zone.is_summer.Goals as goal

pub returns : goal.returns
returns c =
    odd_is_summer c.args.second c.passed.result c.passed.ensures.before c.passed.ensures.behind c.passed.ensures.bound
