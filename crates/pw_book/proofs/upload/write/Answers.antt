use Rattle.std.proofs.Common.{refl, arith, ◌∙◌, inl, inr}
use Rattle.std.proofs.lemmas.Result.{on_ok_weaker, on_err_weaker}
use Rattle.pw_tariff.specs.Office.{office_of}
use Rattle.pw_book.proofs.Chains.{kept-then, kept-none}
use Rattle.pw_model.proofs.SoundOffice.{sound-office}
use Rattle.pw_book.proofs.Joining.{all-written, joined-fresh, joined-none, joined-next, joined-room, joined-of_office, got-of_office, got-member, with-upload}
use Rattle.pw_book.proofs.Known.{none-known}
use Rattle.pw_book.proofs.Spending.{assignments-next, behind-next, behind-none, enough-next, enough-none, only-next, readings-next, several-next, top-ups-next, costs-less, costs-so-far, costs-next}
use Rattle.pw_book.proofs.Truthful.{none-there}
use Rattle.pw_book.proofs.Walking.{due-none}
use Rattle.pw_book.proofs.upload.write.Goals as goal

pub put-requires-clause-of_office : goal.put-requires-clause-of_office
put-requires-clause-of_office g c = got-of_office (office_of c.args.basis.now.office.now) c.args.entries.now c.loop-entry.entry-index c.entry-item.result c.loop-entry-test.true c.entry-item.is c.requires.of_office

pub put-requires-clause-fresh : goal.put-requires-clause-fresh
put-requires-clause-fresh g c = λ k.
    joined-fresh (office_of c.args.basis.now.office.now) c.args.entries.now c.loop-entry.entry-index c.entry-item.result (g.S.Shelf.state c.args.shelf.now).content (g.S.Shelf.state c.loop-entry.shelf).content c.loop-entry-test.true c.entry-item.is (c.requires.ready (c.loop-entry.invariant.kept.clean k)).fresh (c.loop-entry.invariant.put k).records

pub put-requires-clause-room : goal.put-requires-clause-room
put-requires-clause-room g c = λ k.
    let start = c.loop-entry.invariant.kept.clean k in
    let office = office_of c.args.basis.now.office.now in
    let so_far = c.loop-entry.invariant.put k in
    joined-room office c.args.entries.now c.loop-entry.entry-index c.entry-item.result (g.S.Shelf.state c.args.shelf.now).content (g.S.Shelf.state c.loop-entry.shelf).content c.loop-entry-test.true c.entry-item.is so_far.records (g.met.S.Shelf.once c.loop-entry.shelf k) (c.requires.ready start).room
    (joined-fresh office c.args.entries.now c.loop-entry.entry-index c.entry-item.result (g.S.Shelf.state c.args.shelf.now).content (g.S.Shelf.state c.loop-entry.shelf).content c.loop-entry-test.true c.entry-item.is (c.requires.ready start).fresh so_far.records)

pub returns-in_err-put-clause-tally : goal.returns-in_err-put-clause-tally
returns-in_err-put-clause-tally g c = λ k.
    let before = c.put.ensures.kept.clean k in
    let m = got-member (office_of c.args.basis.now.office.now) c.args.entries.now c.loop-entry.entry-index c.entry-item.result c.loop-entry-test.true c.entry-item.is in
    costs-less (office_of c.args.basis.now.office.now) c.args.entries.now _ _ _ _ (omega arith)
    (costs-next (office_of c.args.basis.now.office.now) c.args.entries.now c.entry-item.result c.loop-entry.entry-index (g.S.Shelf.state c.args.shelf.now).content (g.S.Shelf.state c.loop-entry.shelf).content _ _ _ c.loop-entry-test.true m (c.loop-entry.invariant.start before) (c.loop-entry.invariant.readings before) (c.loop-entry.invariant.first before) (c.loop-entry.invariant.behind before) (c.loop-entry.invariant.assignments before) (c.loop-entry.invariant.enough before) (c.loop-entry.invariant.several before) (c.loop-entry.invariant.top_ups before) (c.put.ensures.tally k))

pub loop-entry-init : goal.loop-entry-init
loop-entry-init g c =
    let owed = due-none (office_of c.args.basis.now.office.now) c.nothing_gathered-so_far.result.changes.rows.entries c.nothing_gathered-so_far.ensures.changes in
    record {
      few = λ side t. let none = none-there side c.nothing_gathered-so_far.result.changes.rows t c.nothing_gathered-so_far.ensures.changes in omega (arith, none);
      put = λ k. joined-none (office_of c.args.basis.now.office.now) _ _ _ refl c.nothing_gathered-so_far.ensures.changes (c.requires.ready k).truth;
      known = λ k. none-known _ c.nothing_gathered-so_far.result.known c.nothing_gathered-so_far.ensures.known;
      start = λ k starts a. refl;
      readings = λ k starts a. omega (arith, owed);
      first = λ k z. (refl, omega (arith, owed));
      behind = λ k starts points a. behind-none c.args.entries.now _ _ starts points refl a;
      assignment = λ k e starts points q a. omega (arith, owed);
      assignments = λ k starts points a. omega (arith, owed);
      enough = λ k most a left n. enough-none (office_of c.args.basis.now.office.now) c.args.entries.now _ _ most left refl n a;
      several = λ k most a. omega (arith, owed);
      top_ups = λ k a. omega (arith, owed);
      kept = kept-none g.S.Shelf.state g.S.Shelf.left g.S.Shelf.clean g.S.Shelf.same_store g.met.S.Shelf.same_yet c.args.shelf.now;
    }

pub loop-entry-preserved : goal.loop-entry-preserved
loop-entry-preserved g c =
    let office = office_of c.args.basis.now.office.now in
    let m = got-member office c.args.entries.now c.loop-entry.entry-index c.entry-item.result c.loop-entry-test.true c.entry-item.is in
    record {
      few = λ side t. (let a = c.loop-entry.invariant.few side t in let b = c.in_ok-put.ensures.few side t in omega (arith, a, b));
      put = λ k.
          let before = c.put.ensures.kept.clean k in
          let start = c.loop-entry.invariant.kept.clean before in
          let so_far = c.loop-entry.invariant.put before in
          joined-next office _ _ c.args.entries.now c.loop-entry.entry-index c.entry-item.result _ _ _ c.loop-entry-test.true c.entry-item.is so_far
          (c.in_ok-put.ensures.put k so_far.truth (joined-of_office office c.args.entries.now c.loop-entry.entry-index (g.S.Shelf.state c.args.shelf.now).content (g.S.Shelf.state c.loop-entry.shelf).content c.requires.of_office (c.requires.ready start).held so_far.records));
      known = λ k. c.in_ok-put.ensures.known k;
      start = λ k starts a. c.in_ok-put.ensures.start k (a c.entry-item.result m).0 ∙ c.loop-entry.invariant.start (c.put.ensures.kept.clean k) starts a;
      readings = λ k starts a.
          let before = c.put.ensures.kept.clean k in
          readings-next office c.args.entries.now c.entry-item.result c.loop-entry.entry-index (g.S.Shelf.state c.args.shelf.now).content (g.S.Shelf.state c.loop-entry.shelf).content starts _ _ _ m a (c.loop-entry.invariant.start before starts a) (c.loop-entry.invariant.readings before starts a) (c.put.ensures.tally k);
      first = λ k z. absurd (omega (arith, z));
      behind = λ k starts points a.
          let before = c.put.ensures.kept.clean k in
          behind-next c.args.entries.now c.entry-item.result c.loop-entry.entry-index (g.S.Shelf.state c.args.shelf.now).content (g.S.Shelf.state c.loop-entry.shelf).content _ starts points m a (c.loop-entry.invariant.behind before starts points a) (c.in_ok-put.ensures.alone k);
      assignment = λ k e starts points q a.
          let before = c.put.ensures.kept.clean k in
          let x = only-next office c.args.entries.now c.entry-item.result e c.loop-entry.entry-index (g.S.Shelf.state c.args.shelf.now).content (g.S.Shelf.state c.loop-entry.shelf).content starts points _ _ _ q c.loop-entry-test.true m a (c.loop-entry.invariant.first before) (c.put.ensures.tally k) in
          omega (arith, x);
      assignments = λ k starts points a.
          let before = c.put.ensures.kept.clean k in
          assignments-next office c.args.entries.now c.entry-item.result c.loop-entry.entry-index (g.S.Shelf.state c.args.shelf.now).content (g.S.Shelf.state c.loop-entry.shelf).content starts points _ _ _ c.loop-entry-test.true m a (c.loop-entry.invariant.behind before starts points a) (c.loop-entry.invariant.assignments before starts points a) (c.put.ensures.tally k);
      enough = λ k most a left n.
          let before = c.put.ensures.kept.clean k in
          enough-next office c.args.entries.now c.entry-item.result c.loop-entry.entry-index (g.S.Shelf.state c.loop-entry.shelf).content _ most left (c.loop-entry.invariant.enough before most a) (c.in_ok-put.ensures.alone k) n;
      several = λ k most a.
          let before = c.put.ensures.kept.clean k in
          several-next office c.args.entries.now c.entry-item.result c.loop-entry.entry-index (g.S.Shelf.state c.loop-entry.shelf).content most _ _ _ c.loop-entry-test.true m (c.loop-entry.invariant.enough before most a) (c.loop-entry.invariant.several before most a) (c.put.ensures.tally k);
      top_ups = λ k a.
          let before = c.put.ensures.kept.clean k in
          top-ups-next office c.args.entries.now c.entry-item.result c.loop-entry.entry-index (g.S.Shelf.state c.loop-entry.shelf).content _ _ _ m a (c.loop-entry.invariant.top_ups before a) (c.put.ensures.tally k);
      kept = kept-then _ _ _ _ g.met.S.Shelf.same_then _ _ _ _ c.loop-entry.invariant.kept c.in_ok-put.ensures.kept;
    }

-- what is gathered is written once, behind the last entry
pub move_energies-requires-clause-few : goal.move_energies-requires-clause-few
move_energies-requires-clause-few g c = λ side t. (let a = c.loop-entry.invariant.few side t in let l = c.loop-entry.auto.entry-index-end in omega (arith, a, l))

pub returns-in_err-move_energies-clause-tally : goal.returns-in_err-move_energies-clause-tally
returns-in_err-move_energies-clause-tally g c = λ k.
    let before = c.move_energies.ensures.kept.clean k in
    let t = c.move_energies.ensures.tally in
    costs-so-far (office_of c.args.basis.now.office.now) c.args.entries.now c.loop-entry.entry-index _ _ _ _ c.loop-entry.auto.entry-index-end (c.loop-entry.invariant.readings before) (c.loop-entry.invariant.assignment before) (c.loop-entry.invariant.assignments before) (c.loop-entry.invariant.several before) (c.loop-entry.invariant.top_ups before) (omega (arith, t))

pub returns-clause-posted : goal.returns-clause-posted
returns-clause-posted g c = λ k.
    let written = c.commit.ensures.cleanness k in
    let before = c.move_energies.ensures.kept.clean written in
    let start = c.loop-entry.invariant.kept.clean before in
    let office = office_of c.args.basis.now.office.now in
    let all = all-written office (sound-office c.args.basis.now.office.now c.requires.sound) _ c.args.entries.now c.loop-entry.entry-index _ _ _ c.loop-entry-test.false c.loop-entry.auto.entry-index-end c.requires.of_office (c.requires.ready start).held (c.requires.ready start).room
    (g.met.S.Shelf.once _ before) (c.loop-entry.invariant.put before) (c.in_ok-move_energies.ensures.moved written) in
    on_ok_weaker c.commit.result (λ same. with-upload office c.args.entries.now _ _ _ same all) (c.commit.ensures.same k)

pub returns-clause-left : goal.returns-clause-left
returns-clause-left g c = λ k.
    let written = c.commit.ensures.cleanness k in
    let before = c.move_energies.ensures.kept.clean written in
    let start = c.loop-entry.invariant.kept.clean before in
    let office = office_of c.args.basis.now.office.now in
    let all = all-written office (sound-office c.args.basis.now.office.now c.requires.sound) _ c.args.entries.now c.loop-entry.entry-index _ _ _ c.loop-entry-test.false c.loop-entry.auto.entry-index-end c.requires.of_office (c.requires.ready start).held (c.requires.ready start).room
    (g.met.S.Shelf.once _ before) (c.loop-entry.invariant.put before) (c.in_ok-move_energies.ensures.moved written) in
    on_err_weaker c.commit.result (λ left d now. elim (left d now) [
      | inl old ↦ inl (c.loop-entry.invariant.kept.left before d (c.in_ok-move_energies.ensures.kept.left written d old))
      | inr same ↦ inr (with-upload office c.args.entries.now _ _ d same all)
    ]) (c.commit.ensures.left k)

pub returns-clause-tally : goal.returns-clause-tally
returns-clause-tally g c = λ k.
    let written = c.commit.ensures.cleanness k in
    let before = c.move_energies.ensures.kept.clean written in
    let t = c.commit.ensures.tally in
    let m = c.move_energies.ensures.tally in
    costs-so-far (office_of c.args.basis.now.office.now) c.args.entries.now c.loop-entry.entry-index _ _ _ _ c.loop-entry.auto.entry-index-end (c.loop-entry.invariant.readings before) (c.loop-entry.invariant.assignment before) (c.loop-entry.invariant.assignments before) (c.loop-entry.invariant.several before) (c.loop-entry.invariant.top_ups before) (omega (arith, t, m))
