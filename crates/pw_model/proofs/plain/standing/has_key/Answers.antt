use Rattle.std.proofs.Common.{rules, arith, suc, length, ◌∙◌}
use Rattle.std.proofs.lemmas.Bool.{lt-leb}
use Rattle.std.proofs.lemmas.List.Sorted.{IsPartitionPoint-from_clause}
use Rattle.std.specs.Ordering.{is_lt}
use Rattle.pw_model.specs.declared.records.Entry.{Entry}
use Rattle.pw_model.specs.Same.{key_order}
use Rattle.pw_model.proofs.Standing.{IsKeyPoint, key-parts, key-found, key-lost}
use Rattle.pw_model.proofs.plain.standing.has_key.Goals as goal

point-then : (c : goal.After-is_same_key) → IsKeyPoint c.args.in_order.now c.args.key.now c.partition_point-place.result
point-then c = IsPartitionPoint-from_clause (λ (f : Entry). is_lt (key_order f.key c.args.key.now)) _ _ c.partition_point-place.ensures.partitioned (key-parts c.args.in_order.now c.args.key.now c.requires) (λ a r q k. search rules)

point-else : (c : goal.Else-place-in_order) → IsKeyPoint c.args.in_order.now c.args.key.now c.partition_point-place.result
point-else c = IsPartitionPoint-from_clause (λ (f : Entry). is_lt (key_order f.key c.args.key.now)) _ _ c.partition_point-place.ensures.partitioned (key-parts c.args.in_order.now c.args.key.now c.requires) (λ a r q k. search rules)

pub returns-then-place-in_order : goal.returns-then-place-in_order
returns-then-place-in_order c =
    key-found c.args.in_order.now c.args.key.now c.partition_point-place.result c.index-in_order-place.result c.is_same_key.result c.requires (point-then c) c.if-place-in_order.true c.is_same_key.ensures

pub returns-else-place-in_order : goal.returns-else-place-in_order
returns-else-place-in_order c =
    lt-leb (suc c.partition_point-place.result) (length c.args.in_order.now) (let long = c.if-place-in_order.false in omega (arith, long))
    ∙ key-lost c.args.in_order.now c.args.key.now c.partition_point-place.result c.requires (point-else c) c.if-place-in_order.false
