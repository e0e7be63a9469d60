use Rattle.pw_http.proofs.Headlines.{talk-headline}
use Rattle.pw_http.proofs.books.converse_for.Goals as goal

pub returns-clause-headline : goal.returns-clause-headline
returns-clause-headline g c = talk-headline g.S.Shelf _ _ _ _ _ _ _ _ c.serve_for.result c.serve_for.ensures.talk
