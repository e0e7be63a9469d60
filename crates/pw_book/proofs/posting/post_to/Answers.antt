use Rattle.std.proofs.Common.{◌∙◌, List, length, refl, sym, subst}
use Rattle.std.proofs.lemmas.Result.{err_from_is_err_and}
use Rattle.pw_tariff.specs.Office.{office_of}
use Rattle.pw_model.specs.declared.records.Entry.{Entry}
use Rattle.pw_model.specs.Counting.{Member}
use Rattle.pw_model.specs.Office.{AllOfOffice}
use Rattle.pw_model.specs.Shelf.{IsTrueContent, ShelfContent}
use Rattle.pw_model.proofs.TopUps.{rising-once}
use Rattle.pw_book.proofs.SameEntries.{one-list}
use Rattle.pw_book.proofs.Answering.{accepted-is, fits, full-is, leaves-posted, leaves-same, posted-full, rest-lent, room-is, upload-same, weighed-lent, whole, written}
use Rattle.pw_book.proofs.Spending.{cheap-so-far, cheap-whole, fresh-lent, lent-tally}
use Rattle.pw_book.proofs.posting.post_to.Goals as goal

pub returns-in_err-held-clause-cost : goal.returns-in_err-held-clause-cost
returns-in_err-held-clause-cost g c = λ k.
    cheap-so-far (office_of c.args.basis.now.office.now) c.args.entries.now c.entries-distinct.result.now _ _ _ (rising-once _ c.entries-distinct.ensures.rising) (one-list c.entries-distinct.ensures.entries) (lent-tally _ _ refl c.weigh.ensures.tally)

pub returns-in_err-accepted-clause-cost : goal.returns-in_err-accepted-clause-cost
returns-in_err-accepted-clause-cost g c = λ k.
    cheap-so-far (office_of c.args.basis.now.office.now) c.args.entries.now c.entries-distinct.result.now _ _ _ (rising-once _ c.entries-distinct.ensures.rising) (one-list c.entries-distinct.ensures.entries) (lent-tally _ _ refl c.weigh.ensures.tally)

pub returns-in_err-accepted-clause-posted : goal.returns-in_err-accepted-clause-posted
returns-in_err-accepted-clause-posted g c = λ k.
    let office = office_of c.args.basis.now.office.now in
    let before = c.weigh.ensures.asked.kept.clean k in
    let old = (g.S.Shelf.state c.args.shelf.now).content in
    let p = err_from_is_err_and c.from_residual-in_err-accepted.result c.from_residual-in_err-accepted.ensures.1 in
    let fresh = c.in_ok-held.fresh.items in
    let w = weighed-lent old.records c.args.entries.now c.entries-distinct.result.now c.entries-distinct.result.now fresh fresh c.in_ok-held.held (g.met.S.Shelf.once c.args.shelf.now before) (rising-once _ c.entries-distinct.ensures.rising) (one-list c.entries-distinct.ensures.entries) (c.in_ok-held.ensures.held k) refl (c.in_ok-held.ensures.fresh k) refl in
    posted-full office c.args.limit c.args.entries.now old _ c.in_ok-held.held p.0 c.from_residual-in_err-accepted.result p.1 (p.2 ∙ c.in_err-accepted.ensures.1)
    (full-is office c.args.entries.now c.entries-distinct.result.now fresh old c.in_ok-held.held c.args.limit w _ _ (c.len-2.ensures ∙ c.in_ok-held.fresh.ok.0) c.in_err-accepted.ensures.0 (c.weigh.ensures.asked.content k))

pub upload-requires-clause-of_office : goal.upload-requires-clause-of_office
upload-requires-clause-of_office g c = λ e m.
    let P : List Entry → Type 0 = λ l. Member e l in
    c.requires.of_office e (((one-list c.entries-distinct.ensures.entries) e).0 (subst P refl (c.in_ok-held.ensures.part e (subst P c.deref.ensures.value m))))

pub upload-requires-clause-ready : goal.upload-requires-clause-ready
upload-requires-clause-ready g c = λ k.
    let office = office_of c.args.basis.now.office.now in
    let before = c.weigh.ensures.asked.kept.clean k in
    let old = (g.S.Shelf.state c.args.shelf.now).content in
    let same = c.weigh.ensures.asked.content k in
    let w = weighed-lent old.records c.args.entries.now c.entries-distinct.result.now c.entries-distinct.result.now c.in_ok-held.fresh.items c.deref.result.now c.in_ok-held.held (g.met.S.Shelf.once c.args.shelf.now before) (rising-once _ c.entries-distinct.ensures.rising) (one-list c.entries-distinct.ensures.entries) (c.in_ok-held.ensures.held k) refl (c.in_ok-held.ensures.fresh k) c.deref.ensures.value in
    let T : ShelfContent → Type 0 = λ d. IsTrueContent office d in
    let H : ShelfContent → Type 0 = λ d. AllOfOffice office d.records in
    record {
      fresh = written office c.args.entries.now c.entries-distinct.result.now c.deref.result.now old c.in_ok-held.held c.args.limit w _ same;
      room = fits office c.args.entries.now c.entries-distinct.result.now c.deref.result.now old c.in_ok-held.held c.args.limit w _ _ (c.len-2.ensures ∙ sym c.deref.ensures.len) c.in_ok-accepted.ensures.0 c.requires.most same;
      truth = subst T (sym same) (c.requires.truth before);
      held = subst H (sym same) (c.requires.held before);
    }

pub returns-in_err-upload-clause-left : goal.returns-in_err-upload-clause-left
returns-in_err-upload-clause-left g c = λ k.
    let office = office_of c.args.basis.now.office.now in
    let p = err_from_is_err_and c.from_residual-in_err-upload.result c.from_residual-in_err-upload.ensures.1 in
    let middle = c.upload.ensures.cleanness k in
    let before = c.weigh.ensures.asked.kept.clean middle in
    let old = (g.S.Shelf.state c.args.shelf.now).content in
    let w = weighed-lent old.records c.args.entries.now c.entries-distinct.result.now c.entries-distinct.result.now c.in_ok-held.fresh.items c.deref.result.now c.in_ok-held.held (g.met.S.Shelf.once c.args.shelf.now before) (rising-once _ c.entries-distinct.ensures.rising) (one-list c.entries-distinct.ensures.entries) (c.in_ok-held.ensures.held middle) refl (c.in_ok-held.ensures.fresh middle) c.deref.ensures.value in
    leaves-posted office c.args.limit c.args.entries.now old _ _ _ c.in_err-upload.field-0.0 p.0 c.from_residual-in_err-upload.result p.1 p.2
    (leaves-same office c.args.limit c.args.entries.now c.deref.result.now old _ _ _ _ (room-is office c.args.entries.now c.entries-distinct.result.now c.deref.result.now old c.in_ok-held.held c.args.limit w _ (c.len-2.ensures ∙ sym c.deref.ensures.len) c.in_ok-accepted.ensures.0)
    (whole office c.args.entries.now c.entries-distinct.result.now c.deref.result.now old c.in_ok-held.held c.args.limit w) (c.weigh.ensures.asked.content middle) (c.weigh.ensures.asked.kept.left middle) (c.in_err-upload.ensures.left k))

pub returns-clause-posted : goal.returns-clause-posted
returns-clause-posted g c = λ k.
    let office = office_of c.args.basis.now.office.now in
    let middle = c.upload.ensures.cleanness k in
    let before = c.weigh.ensures.asked.kept.clean middle in
    let old = (g.S.Shelf.state c.args.shelf.now).content in
    let w = weighed-lent old.records c.args.entries.now c.entries-distinct.result.now c.entries-distinct.result.now c.in_ok-held.fresh.items c.deref.result.now c.in_ok-held.held (g.met.S.Shelf.once c.args.shelf.now before) (rising-once _ c.entries-distinct.ensures.rising) (one-list c.entries-distinct.ensures.entries) (c.in_ok-held.ensures.held middle) refl (c.in_ok-held.ensures.fresh middle) c.deref.ensures.value in
    let n = c.len-2.ensures ∙ sym c.deref.ensures.len in
    accepted-is office c.args.entries.now c.entries-distinct.result.now c.deref.result.now old c.in_ok-held.held c.args.limit w _ _ _ c.in_ok-accepted.accepted n
    (rest-lent c.deref.result.now (length c.entries-distinct.result.now) c.len.result refl refl (c.len.ensures ∙ sym c.deref.ensures.len))
    c.requires.most c.in_ok-accepted.ensures.0 c.in_ok-accepted.ensures.1 c.in_ok-accepted.ensures.2
    (upload-same office c.args.entries.now c.deref.result.now old _ _ (whole office c.args.entries.now c.entries-distinct.result.now c.deref.result.now old c.in_ok-held.held c.args.limit w) (c.weigh.ensures.asked.content middle) (c.in_ok-upload.ensures.posted k))

pub returns-in_err-upload-clause-cost : goal.returns-in_err-upload-clause-cost
returns-in_err-upload-clause-cost g c = λ k.
    cheap-whole (office_of c.args.basis.now.office.now) c.args.entries.now c.entries-distinct.result.now c.deref.result.now (g.S.Shelf.state c.args.shelf.now).content _ _ _ _
    (fresh-lent refl c.deref.ensures.value (rising-once _ c.entries-distinct.ensures.rising) (one-list c.entries-distinct.ensures.entries) c.in_ok-held.ensures.few c.in_ok-held.ensures.part)
    (c.weigh.ensures.asked.content (c.upload.ensures.cleanness k)) (lent-tally _ _ refl c.weigh.ensures.tally) (c.upload.ensures.tally k)

pub returns-clause-cost : goal.returns-clause-cost
returns-clause-cost g c = λ k.
    cheap-whole (office_of c.args.basis.now.office.now) c.args.entries.now c.entries-distinct.result.now c.deref.result.now (g.S.Shelf.state c.args.shelf.now).content _ _ _ _
    (fresh-lent refl c.deref.ensures.value (rising-once _ c.entries-distinct.ensures.rising) (one-list c.entries-distinct.ensures.entries) c.in_ok-held.ensures.few c.in_ok-held.ensures.part)
    (c.weigh.ensures.asked.content (c.upload.ensures.cleanness k)) (lent-tally _ _ refl c.weigh.ensures.tally) (c.upload.ensures.tally k)
