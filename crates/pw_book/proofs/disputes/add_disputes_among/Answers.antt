use Rattle.std.proofs.Common.{List, ◌++◌, ap, sym, subst, ◌∙◌}
use Rattle.pw_model.specs.declared.records.Dispute.{Dispute}
use Rattle.pw_model.specs.declared.records.Entry.{Entry}
use Rattle.pw_book.specs.inner.Groups.{AreOfSharedKeys}
use Rattle.pw_book.proofs.Shared.{shared-disputes, shared-sorted}
use Rattle.pw_book.proofs.disputes.add_disputes_among.Goals as goal

pub returns-clause-disputes : goal.returns-clause-disputes
returns-clause-disputes g c = λ k r few.
    let records = (g.S.Shelf.state c.args.shelf.now).content.records in
    let held = c.args.held.now in
    let shared = c.deref.result.now in
    let more = c.in_ok-more.more.items in
    let P : List Entry → Type 0 = AreOfSharedKeys held in
    let are = subst P (sym c.deref.ensures.value) (c.in_ok-shared.ensures r) in
    let standing = c.deref-2.ensures.value ∙ c.in_ok-standing.ensures.standing k in (
      more,
      shared-disputes records held shared are more (shared-sorted records held shared c.deref-2.result.now more are standing few c.in_ok-more.ensures),
      c.in_ok-extend_from_slice.ensures.items ∙ ap (λ (xs : List Dispute). c.args.disputes.now.items ++ xs) c.deref-3.ensures.value,
    )
