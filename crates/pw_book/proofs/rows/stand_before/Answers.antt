use Rattle.std.proofs.Common.{◌≡◌, ℕ, true, false, ltb, rules, arith}
use Rattle.std.proofs.lemmas.Bool.{ltb-false, ltb-true}
use Rattle.std.specs.List.Sorted.{IsPartitionPoint}
use Rattle.std.proofs.lemmas.List.Sorted.{IsPartitionPoint-from_clause, IsPartitionedBy-ltb}
use Rattle.pw_model.specs.Lists.{IsInOrder}
use Rattle.pw_model.specs.Seconds.{by_second}
use Rattle.pw_book.proofs.RowFacts.{never-falls}
use Rattle.pw_book.proofs.rows.stand_before.Goals as goal

point : (c : goal.After-partition_point) → IsInOrder by_second c.args.points.now → IsPartitionPoint (λ (y : ℕ × ℕ). ltb y.0 c.args.instant ≡ true) (λ (y : ℕ × ℕ). ltb y.0 c.args.instant ≡ false) c.args.points.now c.partition_point.result
point c r =
    let parted = IsPartitionedBy-ltb (λ (y : ℕ × ℕ). y.0) _ c.args.instant (never-falls c.args.points.now r) in
    IsPartitionPoint-from_clause (λ (y : ℕ × ℕ). ltb y.0 c.args.instant) _ _ c.partition_point.ensures.partitioned parted (λ a r q k. search rules)

pub returns : goal.returns
returns c = λ r. record {
  bound = c.partition_point.ensures.bound;
  early = λ i a l. ltb-true _ _ ((point c r).0 i a (omega arith) l);
  late = λ i a l m. ltb-false _ _ ((point c r).1 i a l m);
}
