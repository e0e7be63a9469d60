use Rattle.std.proofs.Common.{rules, arith, suc, length, sym, ◌∙◌}
use Rattle.std.proofs.lemmas.Bool.{true≢false, lt-leb}
use Rattle.std.proofs.lemmas.List.Sorted.{IsPartitionPoint-from_clause}
use Rattle.std.specs.Ordering.{is_lt}
use Rattle.pw_model.specs.declared.records.Entry.{Entry}
use Rattle.pw_model.specs.Same.{entry_order}
use Rattle.pw_model.proofs.Standing.{IsEntryPoint, entry-parts, entry-there, not-there, at-apart}
use Rattle.pw_model.proofs.plain.alone.counts_among.Goals as goal
use Rattle.pw_model.proofs.plain.alone.counts_among.Goals.{then-place-in_order, else-place-in_order}

point : (c : goal.Else-is_same_entry) → IsEntryPoint c.args.in_order.now c.args.entry.now c.partition_point-place.result
point c =
    IsPartitionPoint-from_clause (λ (f : Entry). is_lt (entry_order f c.args.entry.now)) _ _ c.partition_point-place.ensures.partitioned
    (entry-parts c.args.in_order.now c.args.entry.now c.requires.rising) (λ a r q k. search rules)

pub returns-then-is_same_entry : goal.returns-then-is_same_entry
returns-then-is_same_entry c =
    c.stands_alone.ensures c.args.entry.now (elim c.if-place-in_order.branch [
      | then-place-in_order w ↦
          entry-there c.args.in_order.now c.args.entry.now c.partition_point-place.result w.index-in_order-place.result w.is_same_entry.result w.if-place-in_order.true
          w.index-in_order-place.is w.is_same_entry.ensures
          (sym w.value-is ∙ c.if-is_same_entry.true)
      | else-place-in_order w ↦ absurd (true≢false (
          sym c.if-is_same_entry.true ∙ w.value-is
          ∙ lt-leb (suc c.partition_point-place.result) (length c.args.in_order.now) (let long = w.if-place-in_order.false in omega (arith, long))))
    ])

pub returns-else-is_same_entry : goal.returns-else-is_same_entry
returns-else-is_same_entry c k = rw c.if-is_same_entry.false (not-there c.args.in_order.now c.args.entry.now c.partition_point-place.result c.requires.rising (point c) (λ a. elim c.if-place-in_order.branch [
  | then-place-in_order w ↦
      at-apart c.args.in_order.now c.args.entry.now c.partition_point-place.result w.index-in_order-place.result w.is_same_entry.result w.index-in_order-place.is w.is_same_entry.ensures
      (sym w.value-is ∙ c.if-is_same_entry.false) w.if-place-in_order.true a
  | else-place-in_order w ↦ (let short = a.0 in let long = w.if-place-in_order.false in omega (arith, short, long))
]))
