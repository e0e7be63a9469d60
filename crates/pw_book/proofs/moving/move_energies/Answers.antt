use Rattle.std.proofs.Common.{List, length, arith, refl, sym, subst, rules}
use Rattle.std.proofs.lemmas.Bool.{true≢false}
use Rattle.pw_tariff.specs.Office.{office_of, periods_in}
use Rattle.pw_model.specs.declared.records.TotalKey.{TotalKey}
use Rattle.pw_parts.specs.declared.changes.Change.{Change}
use Rattle.pw_parts.specs.declared.changes.Side.TheVariants.{Gains, Loses}
use Rattle.pw_book.specs.inner.Moves.{MovesTotals, OfOwners}
use Rattle.pw_parts.specs.Changes.{gathered}
use Rattle.pw_book.proofs.Chains.{kept-then, kept-none}
use Rattle.pw_book.proofs.Walking.{Moved, first-gathered, rest-all, rest-next, rest-same, not-empty, nothing-moves, taken-due, taken-more, taken-none, taken-past, taken-same, walk-begins, walk-ends, walk-moves, walk-passes}
use Rattle.pw_book.proofs.moving.move_energies.Goals as goal

pub loop-key-init : goal.loop-key-init
loop-key-init g c =
    let gives = c.into_iter-key-iterator.ensures.into_iter_gives in
    record {
      rest = rest-all c.args.changes.now.rows _ gives.5 gives.0;
      moved = λ k. walk-begins (periods_in c.args.office.now) (length c.args.office.now.bands) (length c.args.office.now.accounts) Gains Loses c.args.changes.now.rows _ _ _ refl gives.0;
      tally = taken-none _ _ _ _ (omega arith);
      kept = kept-none g.S.Shelf.state g.S.Shelf.left g.S.Shelf.clean g.S.Shelf.same_store g.met.S.Shelf.same_yet c.args.shelf.now;
    }

pub change_total-requires-clause-fits : goal.change_total-requires-clause-fits
change_total-requires-clause-fits g c =
    let r = rest-same c.args.changes.now.rows c.in-Some.ensures.steps c.loop-key.invariant.rest in
    let more = first-gathered Gains c.args.changes.now.rows (c.in-Some.key.now, c.in-Some.change.now) _ r in
    let few = c.requires.few Gains c.in-Some.key.now in
    omega (arith, more, few)

pub loop-key-preserved-in-Continue-1 : goal.loop-key-preserved-in-Continue-1
loop-key-preserved-in-Continue-1 g c =
    let rows = c.args.changes.now.rows in
    let office = office_of c.args.office.now in
    let e : TotalKey × Change = (c.in-Some.key.now, c.in-Some.change.now) in
    let r = rest-same rows c.in-Some.ensures.steps c.loop-key.invariant.rest in
    let own : OfOwners (periods_in c.args.office.now) (length c.args.office.now.bands) (length c.args.office.now.accounts) c.in-Some.key.now = c.is_energy_of.ensures.0 (search rules) in
    let more = first-gathered Gains rows e _ r in
    let less = first-gathered Loses rows e _ r in
    record {
      rest = rest-next rows e _ r;
      moved = λ k. (
          let M : List (TotalKey × Change) → Type 0 = λ es. MovesTotals (Moved office.periods office.bands office.accounts es) (gathered Gains rows) (gathered Loses rows) (g.S.Shelf.state c.args.shelf.now).content (g.S.Shelf.state c.loop-key.shelf).content in
          let so_far = subst M c.in-Some.ensures.steps (c.loop-key.invariant.moved (c.change_total.ensures.kept.clean k)) in
          walk-moves office.periods office.bands office.accounts Gains Loses rows e _ _ _ _ _ _ r own more less so_far (c.in_ok-change_total.ensures.moved k));
      tally = taken-more office rows e _ _ _ _ r own (taken-same office _ _ c.in-Some.ensures.steps c.loop-key.invariant.tally) c.change_total.ensures.tally;
      kept = kept-then _ _ _ _ g.met.S.Shelf.same_then _ _ _ _ c.loop-key.invariant.kept c.in_ok-change_total.ensures.kept;
    }

pub returns-in_err-change_total-clause-tally : goal.returns-in_err-change_total-clause-tally
returns-in_err-change_total-clause-tally g c =
    let rows = c.args.changes.now.rows in
    let office = office_of c.args.office.now in
    let e : TotalKey × Change = (c.in-Some.key.now, c.in-Some.change.now) in
    let r = rest-same rows c.in-Some.ensures.steps c.loop-key.invariant.rest in
    let own : OfOwners (periods_in c.args.office.now) (length c.args.office.now.bands) (length c.args.office.now.accounts) c.in-Some.key.now = c.is_energy_of.ensures.0 (search rules) in
    taken-due office rows.entries _ _ _ (not-empty c.args.changes.now.rows c.is_empty.ensures c.if-is_empty.false) (taken-more office rows e _ _ _ _ r own (taken-same office _ _ c.in-Some.ensures.steps c.loop-key.invariant.tally) c.change_total.ensures.tally)

pub loop-key-preserved : goal.loop-key-preserved
loop-key-preserved g c =
    let rows = c.args.changes.now.rows in
    let office = office_of c.args.office.now in
    let e : TotalKey × Change = (c.in-Some.key.now, c.in-Some.change.now) in
    let r = rest-same rows c.in-Some.ensures.steps c.loop-key.invariant.rest in
    record {
      rest = rest-next rows e _ r;
      moved = λ k. (
          let M : List (TotalKey × Change) → Type 0 = λ es. MovesTotals (Moved office.periods office.bands office.accounts es) (gathered Gains rows) (gathered Loses rows) (g.S.Shelf.state c.args.shelf.now).content (g.S.Shelf.state c.loop-key.shelf).content in
          let so_far = subst M c.in-Some.ensures.steps (c.loop-key.invariant.moved k) in
          walk-passes office.periods office.bands office.accounts Gains Loses rows e _ _ _ (λ o. true≢false (sym (c.if-is_energy_of.ensures.1 o))) so_far);
      tally = taken-past office e _ _ _ (taken-same office _ _ c.in-Some.ensures.steps c.loop-key.invariant.tally);
      kept = c.loop-key.invariant.kept;
    }

pub returns-clause-moved : goal.returns-clause-moved
returns-clause-moved g c = λ k. walk-ends (periods_in c.args.office.now) (length c.args.office.now.bands) (length c.args.office.now.accounts) _ _ _ _ _ c.in-None.ensures.steps.0 (c.loop-key.invariant.moved k)

pub returns-clause-tally : goal.returns-clause-tally
returns-clause-tally g c = taken-due (office_of c.args.office.now) c.args.changes.now.rows.entries _ _ _ (not-empty c.args.changes.now.rows c.is_empty.ensures c.if-is_empty.false) c.loop-key.invariant.tally

pub returns-then-is_empty-clause-moved : goal.returns-then-is_empty-clause-moved
returns-then-is_empty-clause-moved g c = λ k. nothing-moves (periods_in c.args.office.now) (length c.args.office.now.bands) (length c.args.office.now.accounts) c.args.changes.now.rows _ _ refl (c.is_empty.ensures.0 c.if-is_empty.true)
