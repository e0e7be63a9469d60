use Rattle.pw_http.proofs.Headlines.{many-same-end}
use Rattle.pw_http.proofs.laws.many_connections_end_the_same.Goals as goal

pub returns : goal.returns
returns g c = many-same-end g.S.Shelf
