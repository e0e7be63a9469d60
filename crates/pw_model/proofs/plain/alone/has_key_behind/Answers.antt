use Rattle.pw_model.proofs.Places.{behind-told}
use Rattle.pw_model.proofs.plain.alone.has_key_behind.Goals as goal

pub returns-then-behind-in_order : goal.returns-then-behind-in_order
returns-then-behind-in_order c =
    behind-told c.args.in_order.now c.args.index c.index-in_order-index.result c.index-in_order-behind.result c.is_same_key.result c.requires c.if-behind-in_order.true
    c.index-in_order-index.is c.index-in_order-behind.is c.is_same_key.ensures
