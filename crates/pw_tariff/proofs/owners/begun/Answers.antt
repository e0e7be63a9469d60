use Rattle.std.proofs.Common.{◌≡◌, ◌<◌, ℕ, true, false, leb, leb-true, rules, arith}
use Rattle.std.proofs.lemmas.Bool.Decides.{nat_tests}
use Rattle.std.specs.List.Sorted.{IsNonDecreasingBy, IsPartitionPoint}
use Rattle.std.proofs.lemmas.List.Sorted.{IsPartitionPoint-from_clause, IsPartitionedBy-leb}
use Rattle.pw_tariff.proofs.Starts.{Start, start-at_most}
use Rattle.pw_tariff.proofs.owners.begun.Goals as goal

not_leb : (a b : ℕ) → leb a b ≡ false → b < a
not_leb a b h = grind (arith, nat_tests, h)

point : (c : goal.After-partition_point) → IsPartitionPoint (λ (y : Start). leb y.0 c.args.second ≡ true) (λ (y : Start). leb y.0 c.args.second ≡ false) c.args.starts.now c.partition_point.result
point c =
    let sorted : IsNonDecreasingBy (λ (y : Start). y.0) c.args.starts.now = λ i j s a b. start-at_most c.args.starts.now s i j c.requires a b in
    let parted = IsPartitionedBy-leb (λ (y : Start). y.0) _ c.args.second sorted in
    IsPartitionPoint-from_clause (λ (y : Start). leb y.0 c.args.second) _ _ c.partition_point.ensures.partitioned parted (λ a r q k. search rules)

pub returns : goal.returns
returns c = record {
  bound = c.partition_point.ensures.bound;
  early = λ k s l. leb-true _ _ ((point c).0 k s (omega arith) l);
  late = λ k s l m. not_leb _ _ ((point c).1 k s l m);
}
