use Rattle.std.proofs.Common.{rules}
use Rattle.std.proofs.lemmas.Result.{on_ok_weaker}
use Rattle.pw_book.proofs.Changing.{moves-one}
use Rattle.pw_book.proofs.moving.change_total.Goals as goal

pub returns-clause-moved : goal.returns-clause-moved
returns-clause-moved g c = λ k.
    let before = c.total_put.ensures.written.kept.clean k in
    on_ok_weaker c.total_put.result (λ w. moves-one c.args.key.now c.args.more c.args.less c.settled.result c.in_ok-total.total _ _ _ (c.in_ok-total.ensures.asked.same before) w (c.in_ok-total.ensures.amount before) c.settled.ensures.settled) (c.total_put.ensures.put k)

pub returns-clause-tally : goal.returns-clause-tally
returns-clause-tally g c = search rules depth 0 fits 100
