use Rattle.std.proofs.Common.{rules}
use Rattle.std.proofs.lemmas.Option.{slice_get_within}
use Rattle.pw_http.proofs.answers.show_month.Goals as goal

pub show_month_of-requires : goal.show_month_of-requires
show_month_of-requires g c = slice_get_within _ _ _ (rw c.office.ensures at c.in-Some.ensures.some)

pub returns-in_default : goal.returns-in_default
returns-in_default g c = search rules
