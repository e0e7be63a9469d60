use Rattle.std.proofs.Common.{◌≡◌, ◌<◌, ℕ, true, false, leb, leb-true, rules, arith, subst, sym}
use Rattle.std.proofs.lemmas.Bool.Decides.{nat_tests}
use Rattle.std.specs.List.Sorted.{IsNonDecreasing, IsPartitionPoint}
use Rattle.std.proofs.lemmas.List.Sorted.{IsPartitionPoint-from_clause, IsPartitionedBy-leb}
use Rattle.pw_time.specs.Summer.{central_changes}
use Rattle.pw_time.proofs.TableFacts.{changes_sorted}
use Rattle.pw_time.proofs.zone.Zone.passed.Goals as goal

not_leb : (a b : ℕ) → leb a b ≡ false → b < a
not_leb a b h = grind (arith, nat_tests, h)

point : (c : goal.After-partition_point) → IsPartitionPoint (λ y. leb y c.args.second ≡ true) (λ y. leb y c.args.second ≡ false) central_changes c.partition_point.result
point c =
    let sorted = subst IsNonDecreasing (sym c.self.invariant) changes_sorted in
    let parted = IsPartitionedBy-leb (λ y. y) _ c.args.second sorted in
    rw (← c.self.invariant) (IsPartitionPoint-from_clause (λ y. leb y c.args.second) _ _ c.partition_point.ensures.partitioned parted (λ a r q k. search rules))

pub returns-clause-before : goal.returns-clause-before
returns-clause-before c = λ k h. leb-true _ _ ((point c).0 k 0 (omega arith) h)

pub returns-clause-behind : goal.returns-clause-behind
returns-clause-behind c = λ k low high.
    not_leb _ _ ((point c).1 k 0 low high)
