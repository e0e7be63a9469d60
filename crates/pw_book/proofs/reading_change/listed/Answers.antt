use Rattle.pw_book.proofs.Neighbouring.{three-listed}
use Rattle.pw_book.proofs.reading_change.listed.Goals as goal

pub returns : goal.returns
returns c = three-listed c.args.below.now c.args.here.now c.args.above.now _ _ _ _ c.new-points.ensures.items c.in_ok-add_if_there.ensures c.in_ok-add_if_there-2.ensures c.in_ok-add_if_there-3.ensures
