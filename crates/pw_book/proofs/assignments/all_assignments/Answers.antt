use Rattle.std.proofs.Common.{◌≡◌, ◌∙◌, ℕ, ◌+◌, ◌++◌, List, ap, subst, sym, arith}
use Rattle.pw_tariff.specs.declared.ids.MeterId.{MeterId}
use Rattle.pw_tariff.specs.Office.{office_of}
use Rattle.pw_model.specs.declared.records.Entry.{Entry}
use Rattle.pw_model.specs.Kinds.{IsAssignmentOf, ListsHeld}
use Rattle.pw_model.specs.Shelf.{ShelfContent}
use Rattle.pw_book.specs.inner.Places.{AssignmentsBefore}
use Rattle.pw_book.proofs.ByMeter.{assignments-all, assignments-more}
use Rattle.pw_book.proofs.Chains.{asked-then}
use Rattle.pw_book.proofs.assignments.all_assignments.Goals as goal

pub loop-meter-preserved : goal.loop-meter-preserved
loop-meter-preserved g c = record {
  assignments = λ k.
      let was = c.loop-meter.invariant in
      let before = c.assignments_held.ensures.asked.kept.clean k in
      let m : MeterId = record { 0 = c.loop-meter.meter } in
      let records = (g.S.Shelf.state c.args.shelf.now).content.records in
      let R : ShelfContent → Type 0 = λ d. ListsHeld (IsAssignmentOf m) d.records c.in_ok-assignments.assignments.items in
      let here = subst R (was.asked.content before) (c.in_ok-assignments.ensures.rows k) in
      let all = assignments-more records m c.loop-meter.found.items c.in_ok-assignments.assignments.items (was.assignments before) here in
      let A : List Entry → Type 0 = AssignmentsBefore records (c.loop-meter.meter + 1) in
      subst A (sym (c.in_ok-extend_from_slice.ensures.items ∙ ap (λ (xs : List Entry). c.loop-meter.found.items ++ xs) c.deref.ensures.value)) all;
  asked = asked-then _ g.met.S.Shelf.same_then _ _ _ _ c.loop-meter.invariant.asked c.in_ok-assignments.ensures.asked;
}

pub returns-clause-assignments : goal.returns-clause-assignments
returns-clause-assignments g c = λ k.
    let start = c.loop-meter.invariant.asked.kept.clean k in
    let office = office_of c.args.office.now in
    let records = (g.S.Shelf.state c.args.shelf.now).content.records in
    let all : c.loop-meter.meter ≡ office.meters = omega (arith, c.meters-meter-end.ensures.count, c.loop-meter.auto.meter-end, c.loop-meter-test.false) in
    let A : ℕ → Type 0 = λ n. AssignmentsBefore records n c.loop-meter.found.items in
    assignments-all office records c.loop-meter.found.items (c.requires.of_office start) (subst A all (c.loop-meter.invariant.assignments k))
