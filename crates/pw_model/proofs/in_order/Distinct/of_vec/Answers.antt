use Rattle.std.specs.Ordering.{is_lt}
use Rattle.std.proofs.Common.{rules}
use Rattle.std.proofs.lemmas.List.Filters.{dedup_is}
use Rattle.std.proofs.lemmas.List.Sorted.{answers_always}
use Rattle.pw_model.specs.declared.records.Entry.{Entry}
use Rattle.pw_model.specs.inner.Search.{AreSorted}
use Rattle.pw_model.specs.Same.{entry_order}
use Rattle.pw_model.proofs.SortedRecords.{entry-ranks, sorted-told}
use Rattle.pw_model.proofs.in_order.Distinct.of_vec.Goals as goal

pub returns-clause-sorted : goal.returns-clause-sorted
returns-clause-sorted c =
    sorted-told c.args.entries.items _ c.dedup.new.self.items c.sort_unstable_by.ensures.permutation
    (c.sort_unstable_by.ensures.sorted (λ (x y : Entry). is_lt (entry_order x y)) entry-ranks (answers_always _ _ _ (λ f a r f' k. search rules))) (dedup_is _ _ _ c.dedup.ensures.filtered)

pub invariant_of-result : goal.invariant_of-result
invariant_of-result c =
    let all : AreSorted c.args.entries.items c.dedup.new.self.items =
    sorted-told c.args.entries.items _ c.dedup.new.self.items c.sort_unstable_by.ensures.permutation
    (c.sort_unstable_by.ensures.sorted (λ (x y : Entry). is_lt (entry_order x y)) entry-ranks (answers_always _ _ _ (λ f a r f' k. search rules))) (dedup_is _ _ _ c.dedup.ensures.filtered) in
    all.rising
