use Rattle.std.proofs.Common.{rules}
use Rattle.std.proofs.lemmas.List.Sorted.{IsPartitionPoint-from_clause}
use Rattle.pw_model.specs.declared.records.Entry.{Entry}
use Rattle.pw_parts.specs.inner.Places.{is_at}
use Rattle.pw_parts.proofs.Parted.{IsParted, at-parts, held-within, parted-front}
use Rattle.pw_parts.proofs.places.at_place.Goals as goal

point : (c : goal.After-found-1) → IsParted (is_at c.args.place) c.parted.result.1.now c.partition_point-count.result
point c = IsPartitionPoint-from_clause (λ (e : Entry). is_at c.args.place e.key) _ _ c.partition_point-count.ensures.partitioned (at-parts c.args.place c.args.records.now c.parted.result.1.now c.parted.ensures.behind) (λ a r q k. search rules)

pub returns : goal.returns
returns c = rw c.split_at.ensures.front (held-within c.args.place c.args.records.now c.parted.result.1.now _ c.parted.ensures.behind (parted-front (is_at c.args.place) c.partition_point-count.result c.parted.result.1.now c.parted.ensures.behind.rising (point c)))
