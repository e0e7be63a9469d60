use Rattle.pw_http.proofs.Headlines.{many-headline}
use Rattle.pw_http.proofs.laws.many_connections_come_to.Goals as goal

pub returns : goal.returns
returns g c = many-headline g.S.Shelf
