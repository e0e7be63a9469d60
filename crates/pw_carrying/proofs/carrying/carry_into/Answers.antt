use Rattle.std.proofs.Common.{◌+◌, ◌*◌, ap, length, refl, sym}
use Rattle.std.proofs.lemmas.Result.{err_from_is_err_and}
use Rattle.pw_tariff.specs.Office.{OfficeFile}
use Rattle.pw_model.specs.Shelf.{ShelfContent}
use Rattle.pw_moving.specs.Renaming.{Offices}
use Rattle.pw_book.proofs.Questions.{answered-open}
use Rattle.pw_carrying.proofs.Listing.{all-carried, carried-failed, last-failed, up-to-none, waits-of-office}
use Rattle.pw_carrying.proofs.Uploads.{uploads-failed, uploads-then}
use Rattle.pw_carrying.proofs.carrying.carry_into.Goals as goal

pub returns-in_err-carry_held-clause-carried : goal.returns-in_err-carry_held-clause-carried
returns-in_err-carry_held-clause-carried g c = λ k t.
    let o : Offices = record { old = c.args.from.now.office; new = c.args.into.now.office } in
    let question = c.in_ok-held.ensures.question in
    let counted = c.in_err-carry_held.ensures.asked.kept.clean k in
    let start = question.asked.kept.clean counted in
    let records = (g.S.Shelf.state c.args.from.now.shelf).content.records in
    let before = (g.T.Shelf.state c.args.into.now.shelf).content.records in
    let none = up-to-none o records c.new-waiting.result.entries.items before (c.args.from.now.of_office (answered-open g.S.Shelf c.in_ok-held.held c.args.from.now c.count.new.self question) start) c.new-waiting.ensures in
    let same = ap (λ (d : ShelfContent). d.records) (question.asked.content counted) in
    let p = err_from_is_err_and c.from_residual-in_err-carry_held.result c.from_residual-in_err-carry_held.ensures.1 in
    carried-failed (Unit {0}) c.in_err-carry_held.field-0.0 p.0 c.from_residual-in_err-carry_held.result o records before (g.T.Shelf.state c.carry_held.new.into.shelf).content.records _ p.1 p.2
    (c.in_err-carry_held.ensures.carried k t o records before (sym question.office) refl same none)

pub returns-in_err-post_waiting-clause-carried : goal.returns-in_err-post_waiting-clause-carried
returns-in_err-post_waiting-clause-carried g c = λ k t.
    let o : Offices = record { old = c.args.from.now.office; new = c.args.into.now.office } in
    let question = c.in_ok-held.ensures.question in
    let counted = c.in_ok-carry_held.ensures.asked.kept.clean k in
    let start = question.asked.kept.clean counted in
    let records = (g.S.Shelf.state c.args.from.now.shelf).content.records in
    let before = (g.T.Shelf.state c.args.into.now.shelf).content.records in
    let none = up-to-none o records c.new-waiting.result.entries.items before (c.args.from.now.of_office (answered-open g.S.Shelf c.in_ok-held.held c.args.from.now c.count.new.self question) start) c.new-waiting.ensures in
    let same = ap (λ (d : ShelfContent). d.records) (question.asked.content counted) in
    let p = err_from_is_err_and c.from_residual-in_err-post_waiting.result c.from_residual-in_err-post_waiting.ensures.1 in
    let sent = c.in_err-post_waiting.ensures.uploads.clean t in
    let mid = (g.T.Shelf.state c.carry_held.new.into.shelf).content.records in
    let waiting = c.carry_held.new.waiting.entries.items in
    let left = c.post_waiting.new.waiting.entries.items in
    let after = (g.T.Shelf.state c.post_waiting.new.into.shelf).content.records in
    let all = c.in_ok-carry_held.ensures.carried k sent o records before (sym question.office) refl same none in
    let last = c.in_err-post_waiting.ensures.sends t o (sym question.office) (sym c.in_ok-carry_held.ensures.uploads.office) (waits-of-office o records _ waiting before mid all) in
    carried-failed (Unit {0}) c.in_err-post_waiting.field-0.0 p.0 c.from_residual-in_err-post_waiting.result o records before after (Unit {0}) p.1 p.2
    (last-failed (Unit {0}) (Unit {0}) c.in_err-post_waiting.field-0.0 o records waiting left before mid after _ (Unit {0}) all last)

pub returns-in_err-post_waiting-clause-uploads : goal.returns-in_err-post_waiting-clause-uploads
returns-in_err-post_waiting-clause-uploads g c =
    let p = err_from_is_err_and c.from_residual-in_err-post_waiting.result c.from_residual-in_err-post_waiting.ensures.1 in
    uploads-failed g.T.Shelf (Unit {0}) c.in_err-post_waiting.field-0.0 p.0 c.from_residual-in_err-post_waiting.result _ _ p.1 p.2
    (uploads-then g.T.Shelf g.met.T.Shelf.same_then (tt {0}) _ _ _ _ c.in_ok-carry_held.ensures.uploads c.in_err-post_waiting.ensures.uploads)

pub returns-clause-carried : goal.returns-clause-carried
returns-clause-carried g c = λ k t.
    let o : Offices = record { old = c.args.from.now.office; new = c.args.into.now.office } in
    let question = c.in_ok-held.ensures.question in
    let counted = c.in_ok-carry_held.ensures.asked.kept.clean k in
    let start = question.asked.kept.clean counted in
    let records = (g.S.Shelf.state c.args.from.now.shelf).content.records in
    let before = (g.T.Shelf.state c.args.into.now.shelf).content.records in
    let none = up-to-none o records c.new-waiting.result.entries.items before (c.args.from.now.of_office (answered-open g.S.Shelf c.in_ok-held.held c.args.from.now c.count.new.self question) start) c.new-waiting.ensures in
    let same = ap (λ (d : ShelfContent). d.records) (question.asked.content counted) in
    let sent = c.in_ok-post_waiting.ensures.uploads.clean t in
    let mid = (g.T.Shelf.state c.carry_held.new.into.shelf).content.records in
    let waiting = c.carry_held.new.waiting.entries.items in
    let left = c.post_waiting.new.waiting.entries.items in
    let after = (g.T.Shelf.state c.post_waiting.new.into.shelf).content.records in
    let all = c.in_ok-carry_held.ensures.carried k sent o records before (sym question.office) refl same none in
    let last = c.in_ok-post_waiting.ensures.sends t o (sym question.office) (sym c.in_ok-carry_held.ensures.uploads.office) (waits-of-office o records _ waiting before mid all) in
    all-carried o records waiting left before mid after _ c.in_ok-held.held (ap (λ (f : OfficeFile). 7 * length f.meters + 2) question.office) all last (c.in_ok-held.ensures.count counted)
