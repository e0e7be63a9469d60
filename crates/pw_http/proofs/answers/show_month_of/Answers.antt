use Rattle.std.proofs.Common.{rules}
use Rattle.pw_http.proofs.answers.show_month_of.Goals as goal

pub show-requires : goal.show-requires
show-requires g c = (c.requires, c.in-Some.ensures.some.there)

pub returns-in-None : goal.returns-in-None
returns-in-None g c = search rules
