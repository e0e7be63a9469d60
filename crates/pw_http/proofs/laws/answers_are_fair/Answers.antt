use Rattle.pw_http.proofs.Headlines.{always-fair}
use Rattle.pw_http.proofs.laws.answers_are_fair.Goals as goal

pub returns : goal.returns
returns g c = always-fair g.S.Shelf
