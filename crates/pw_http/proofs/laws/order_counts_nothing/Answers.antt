use Rattle.pw_http.proofs.Headlines.{same-end}
use Rattle.pw_http.proofs.laws.order_counts_nothing.Goals as goal

pub returns : goal.returns
returns g c = same-end g.S.Shelf
