use Rattle.std.proofs.Common.{rules, arith, suc, length, ◌∙◌}
use Rattle.std.proofs.lemmas.Bool.{lt-leb}
use Rattle.std.proofs.lemmas.List.Sorted.{IsPartitionPoint-from_clause}
use Rattle.std.specs.Ordering.{is_lt}
use Rattle.pw_model.specs.declared.records.Entry.{Entry}
use Rattle.pw_model.specs.Lists.{IsInOrder}
use Rattle.pw_model.specs.Same.{key_order, entry_order}
use Rattle.pw_model.proofs.Standing.{IsKeyPoint, key-parts, key-found, key-lost}
use Rattle.pw_parts.proofs.counting.has_key.Goals as goal

point-then : (c : goal.After-is_same_key) → IsInOrder entry_order c.args.records.now → IsKeyPoint c.args.records.now c.args.key.now c.partition_point-place.result
point-then c r = IsPartitionPoint-from_clause (λ (f : Entry). is_lt (key_order f.key c.args.key.now)) _ _ c.partition_point-place.ensures.partitioned (key-parts c.args.records.now c.args.key.now r) (λ a b q k. search rules)

point-else : (c : goal.Else-place-records) → IsInOrder entry_order c.args.records.now → IsKeyPoint c.args.records.now c.args.key.now c.partition_point-place.result
point-else c r = IsPartitionPoint-from_clause (λ (f : Entry). is_lt (key_order f.key c.args.key.now)) _ _ c.partition_point-place.ensures.partitioned (key-parts c.args.records.now c.args.key.now r) (λ a b q k. search rules)

pub returns-then-place-records : goal.returns-then-place-records
returns-then-place-records c = λ r.
    key-found c.args.records.now c.args.key.now c.partition_point-place.result c.index-records-place.result c.is_same_key.result r (point-then c r) c.if-place-records.true c.is_same_key.ensures

pub returns-else-place-records : goal.returns-else-place-records
returns-else-place-records c = λ r.
    lt-leb (suc c.partition_point-place.result) (length c.args.records.now) (let long = c.if-place-records.false in omega (arith, long))
    ∙ key-lost c.args.records.now c.args.key.now c.partition_point-place.result r (point-else c r) c.if-place-records.false
