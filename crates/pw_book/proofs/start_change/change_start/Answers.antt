use Rattle.std.proofs.Common.{ℕ, Option, List, sym, subst, arith}
use Rattle.std.proofs.lemmas.Result.{on_ok_weaker}
use Rattle.pw_tariff.specs.declared.ids.AccountId.{AccountId}
use Rattle.pw_tariff.specs.Office.{office_of}
use Rattle.pw_model.specs.Seconds.{ListsSeconds}
use Rattle.pw_book.proofs.StartChanged.{start-changed, start-kept, start-settled, window-counted}
use Rattle.pw_book.proofs.Walking.{due-most}
use Rattle.pw_book.proofs.start_change.change_start.Goals as goal

pub returns-clause-settled : goal.returns-clause-settled
returns-clause-settled g c = λ k was is p s o h e.
    let third = c.keep_start.ensures.kept.clean k in
    let second = c.move_energies.ensures.kept.clean third in
    let first = c.weigh_window.ensures.kept.clean second in
    let office = office_of c.args.basis.now.office.now in
    let m = c.args.meter.0 in
    let z = c.args.start in
    let content = (g.S.Shelf.state c.args.shelf.now).content in
    let P : List (ℕ × Option AccountId) → Type 0 = λ xs. ListsSeconds (content.start m) xs in
    let listed = c.in_ok-old.ensures.rows first in
    let until = c.until_next.ensures (content.start m) (subst P (sym c.deref-2.ensures.value) listed) in
    let others = c.in_ok-new.ensures (content.start m) (subst P (sym c.deref.ensures.value) listed) in
    let changed = start-changed content _ was is m z c.until_next.result c.args.owner c.owners_of.result c.owners_of-2.result c.deref-3.result.now c.deref-4.result.now c.in_ok-old.old.items c.in_ok-new.new.items
    (c.in_ok-old.ensures.asked.same first) p s o h e listed until others c.owners_of.ensures c.deref-3.ensures.value c.owners_of-2.ensures c.deref-4.ensures.value in
    let differ = c.in_ok-changes.ensures.moved second was is changed in
    on_ok_weaker c.keep_start.result
    (λ q. start-settled office was is _ _ _ _ _ _ _ m z c.args.owner (c.in_ok-old.ensures.asked.same first) (c.in_ok-changes.ensures.same second) differ (c.in_ok-move_energies.ensures.moved third) q)
    (c.keep_start.ensures.kept_start k)

pub returns-clause-start : goal.returns-clause-start
returns-clause-start g c = λ k.
    let third = c.keep_start.ensures.kept.clean k in
    let second = c.move_energies.ensures.kept.clean third in
    let first = c.weigh_window.ensures.kept.clean second in
    on_ok_weaker c.keep_start.result
    (λ q. start-kept _ _ _ _ _ _ _ _ c.args.meter.0 c.args.start c.args.owner (c.in_ok-old.ensures.asked.same first) (c.in_ok-changes.ensures.same second) (c.in_ok-move_energies.ensures.moved third) q)
    (c.keep_start.ensures.kept_start k)

pub returns-in_err-changes-clause-tally : goal.returns-in_err-changes-clause-tally
returns-in_err-changes-clause-tally g c = λ k starts points h w.
    let first = c.weigh_window.ensures.kept.clean k in
    let read = window-counted _ _ c.args.meter.0 c.args.start c.until_next.result starts _ points c.deref.result.now c.deref-2.result.now c.in_ok-old.old.items _ _ _ (c.in_ok-old.ensures.asked.same first) (c.in_ok-old.ensures.rows first)
    c.deref.ensures.len c.deref.ensures.value c.deref-2.ensures.value c.until_next.ensures c.in_ok-old.ensures.asked.tally (c.weigh_window.ensures.tally k) h w in
    omega (arith, read)

pub returns-in_err-move_energies-clause-tally : goal.returns-in_err-move_energies-clause-tally
returns-in_err-move_energies-clause-tally g c = λ k starts points h w.
    let second = c.move_energies.ensures.kept.clean k in
    let first = c.weigh_window.ensures.kept.clean second in
    let read = window-counted _ _ c.args.meter.0 c.args.start c.until_next.result starts _ points c.deref.result.now c.deref-2.result.now c.in_ok-old.old.items _ _ _ (c.in_ok-old.ensures.asked.same first) (c.in_ok-old.ensures.rows first)
    c.deref.ensures.len c.deref.ensures.value c.deref-2.ensures.value c.until_next.ensures c.in_ok-old.ensures.asked.tally (c.weigh_window.ensures.tally second) h w in
    let moved = c.move_energies.ensures.tally in
    let most = due-most (office_of c.args.basis.now.office.now) c.in_ok-changes.changes.rows.entries in
    omega (arith, read, moved, most)

pub returns-clause-tally : goal.returns-clause-tally
returns-clause-tally g c = λ k starts points h w.
    let third = c.keep_start.ensures.kept.clean k in
    let second = c.move_energies.ensures.kept.clean third in
    let first = c.weigh_window.ensures.kept.clean second in
    let read = window-counted _ _ c.args.meter.0 c.args.start c.until_next.result starts _ points c.deref.result.now c.deref-2.result.now c.in_ok-old.old.items _ _ _ (c.in_ok-old.ensures.asked.same first) (c.in_ok-old.ensures.rows first)
    c.deref.ensures.len c.deref.ensures.value c.deref-2.ensures.value c.until_next.ensures c.in_ok-old.ensures.asked.tally (c.weigh_window.ensures.tally second) h w in
    let moved = c.move_energies.ensures.tally in
    let most = due-most (office_of c.args.basis.now.office.now) c.in_ok-changes.changes.rows.entries in
    let put = c.keep_start.ensures.tally in
    omega (arith, read, moved, most, put)
