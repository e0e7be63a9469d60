use Rattle.std.proofs.Common.{rules}
use Rattle.pw_report.proofs.Meters.{meter-within}
use Rattle.pw_http.proofs.answers.show_meter.Goals as goal

pub show-requires : goal.show-requires
show-requires g c = meter-within _ _ _ (rw c.office.ensures at c.in-Some.ensures.some)

pub returns-in-None : goal.returns-in-None
returns-in-None g c = search rules
