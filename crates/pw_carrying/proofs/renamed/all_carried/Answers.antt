use Rattle.std.proofs.Common.{List, sym, subst}
use Rattle.pw_tariff.specs.Office.{OfficeFile, office_of}
use Rattle.pw_model.specs.declared.records.Entry.{Entry}
use Rattle.pw_model.specs.Office.{AllOfOffice, IsOfOffice}
use Rattle.pw_model.proofs.Places.{at-told}
use Rattle.pw_moving.specs.Renaming.{CanBeCarried, Offices}
use Rattle.pw_carrying.proofs.Sent.{able-all, all-next, all-stops, carried-all, carried-office}
use Rattle.pw_carrying.proofs.renamed.all_carried.Goals as goal

pub returns-in-None-clause-able : goal.returns-in-None-clause-able
returns-in-None-clause-able c = λ of.
    let o : Offices = record { old = c.args.basis.now.office.now; new = c.args.new.now } in
    let e = c.entry-item.result in
    let at = at-told c.args.records.now c.loop-entry.entry-index e c.loop-entry-test.true c.entry-item.is in
    let N : OfficeFile → Type 0 = λ file. IsOfOffice (office_of file) e → CanBeCarried c.in_ok-renaming.renaming e → ⊥ in
    all-stops o _ c.args.records.now c.loop-entry.entry-index e c.in_ok-renaming.ensures at (subst N c.new-terms.ensures.file c.in-None.ensures.none) c.loop-entry.invariant.able of

pub loop-entry-preserved : goal.loop-entry-preserved
loop-entry-preserved c =
    let o : Offices = record { old = c.args.basis.now.office.now; new = c.args.new.now } in
    let e = c.entry-item.result in
    let at = at-told c.args.records.now c.loop-entry.entry-index e c.loop-entry-test.true c.entry-item.is in
    let next = all-next o _ c.args.records.now c.loop-entry.entry-index e c.in-Some.carried c.loop-entry.found.items c.push.new.self.items c.in_ok-renaming.ensures at c.in-Some.ensures.some c.loop-entry.invariant.found c.loop-entry.invariant.able c.in_ok-push-in-Some.ensures.items in
    record { found = next.0; able = next.1 }

pub returns-clause-of_office : goal.returns-clause-of_office
returns-clause-of_office c =
    let o : Offices = record { old = c.args.basis.now.office.now; new = c.args.new.now } in
    let all = carried-all o c.args.records.now c.loop-entry.entry-index c.loop-entry.found.items c.loop-entry-test.false c.loop-entry.invariant.found in
    let P : List Entry → Type 0 = λ xs. AllOfOffice (office_of c.args.new.now) xs in
    subst P (sym all) (carried-office o c.args.records.now (able-all o c.args.records.now c.loop-entry.entry-index c.loop-entry-test.false c.loop-entry.invariant.able))
