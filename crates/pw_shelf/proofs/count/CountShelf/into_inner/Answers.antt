use Rattle.pw_shelf.proofs.count.CountShelf.into_inner.Goals as goal

pub returns : goal.returns
returns g c = assumption
