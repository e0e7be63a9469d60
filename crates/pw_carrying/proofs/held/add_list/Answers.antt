use Rattle.std.proofs.Common.{◌≡◌, cond, List, [], ◌∷◌, ◌++◌, Vec, Global, ◌∙◌, refl, ap, sym}
use Rattle.std.proofs.lemmas.List.{append-nil, take_all}
use Rattle.pw_tariff.specs.Office.{office_of}
use Rattle.pw_model.specs.declared.records.Entry.{Entry}
use Rattle.pw_book.specs.Posting.{fresh_of}
use Rattle.pw_book.proofs.NotHeld.{passed, put}
use Rattle.pw_carrying.proofs.NotSent.{lacking-next, sent-told, unsent-more}
use Rattle.pw_carrying.proofs.held.add_list.Goals as goal
use Rattle.pw_carrying.proofs.held.add_list.Goals.{then-not-was_sent+in_ok-push, else-not-was_sent}

pub loop-entry-init : goal.loop-entry-init
loop-entry-init g c = record { found = sym (append-nil c.args.found.now.items) }

pub loop-entry-preserved : goal.loop-entry-preserved
loop-entry-preserved g c =
    let e = c.entry-item.result in
    let told = c.was_sent.result in
    let step : c.if-not-was_sent.found.items ≡ c.loop-entry.found.items ++ cond told [] (e ∷ []) = elim c.if-not-was_sent.branch [
      | then-not-was_sent+in_ok-push w ↦ put _ _ e told w.if-not-was_sent.true (ap (λ (v : Vec Entry Global). v.items) w.found-is ∙ w.in_ok-push.ensures.items)
      | else-not-was_sent w ↦ passed _ _ e told w.if-not-was_sent.false (ap (λ (v : Vec Entry Global). v.items) w.found-is)
    ] in
    record {
      found = lacking-next c.args.sent.now c.deref-entry-items.result.now c.loop-entry.entry-index e c.args.found.now.items _ _ told c.loop-entry-test.true c.entry-item.is (sent-told c.args.sent.now e told c.was_sent.ensures) c.loop-entry.invariant.found step;
    }

pub returns-clause-adds : goal.returns-clause-adds
returns-clause-adds g c = λ k.
    let held = c.in_ok-records.records.items in
    unsent-more (office_of c.args.office.now) c.args.sent.now c.args.list (g.S.Shelf.state c.args.shelf.now).content.records held (fresh_of c.args.sent.now held) c.args.found.now.items c.loop-entry.found.items
    c.requires.list (λ of. c.in_ok-records.ensures.rows k of) refl
    (c.loop-entry.invariant.found ∙ ap (λ (xs : List Entry). c.args.found.now.items ++ fresh_of c.args.sent.now xs) (take_all c.loop-entry.entry-index c.deref-entry-items.result.now c.loop-entry-test.false ∙ c.deref-entry-items.ensures.value))
