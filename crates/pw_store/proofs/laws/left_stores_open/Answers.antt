use Rattle.sqlite.specs.Held.{state}
use Rattle.pw_store.proofs.LeftOpening.{left_opens}
use Rattle.pw_store.proofs.laws.left_stores_open.Goals as goal

pub returns : goal.returns
returns g c = left_opens (state g.S.Store c.args.shelf.conn) (state g.S.Store c.args.shelf.opened.value) c.args.shelf.keeps
