use Rattle.std.proofs.Common.{rules}
use Rattle.std.proofs.lemmas.List.Sorted.{IsPartitionPoint-from_clause}
use Rattle.pw_model.specs.declared.records.Entry.{Entry}
use Rattle.pw_parts.specs.inner.Places.{is_before}
use Rattle.pw_parts.proofs.Parted.{IsParted, before-parts, parted-front, parted-behind}
use Rattle.pw_parts.proofs.places.parted.Goals as goal

point : (c : goal.After-split_at) → IsParted (is_before c.args.place) c.args.records.now c.partition_point-count.result
point c = IsPartitionPoint-from_clause (λ (e : Entry). is_before c.args.place e.key) _ _ c.partition_point-count.ensures.partitioned (before-parts c.args.place c.args.records.now c.requires) (λ a r q k. search rules)

pub returns-clause-before : goal.returns-clause-before
returns-clause-before c = rw c.split_at.ensures.front (parted-front (is_before c.args.place) c.partition_point-count.result c.args.records.now c.requires (point c))

pub returns-clause-behind : goal.returns-clause-behind
returns-clause-behind c = rw c.split_at.ensures.back (parted-behind (is_before c.args.place) c.partition_point-count.result c.args.records.now c.requires (point c))
