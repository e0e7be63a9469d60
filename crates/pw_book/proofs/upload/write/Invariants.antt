use Rattle.std.proofs.Common.{◌≡◌, ℕ, ◌+◌, ◌*◌, ◌≤◌, ◌^◌, [], ◌∷◌, length, take}
use Rattle.pw_tariff.specs.Office.{office_of}
use Rattle.pw_model.specs.declared.records.Entry.{Entry}
use Rattle.pw_model.specs.Bearing.{bears_on}
use Rattle.pw_shelf.specs.Calls.{GoesOn}
use Rattle.pw_book.specs.Cost.{AreAssignmentsWith, AreReadingsWith, AreTopUps, IsAssignmentUpToNext, classes_of}
use Rattle.pw_model.specs.declared.records.TotalKey.{TotalKey}
use Rattle.pw_parts.specs.Changes.{gathered}
use Rattle.pw_parts.specs.declared.changes.Side.{Side}
use Rattle.pw_book.specs.inner.Added.{AreEnoughFor, IsPut}
use Rattle.pw_book.specs.inner.Gathered.{AreKnown, due}
use Rattle.pw_book.proofs.Spending.{IsBehind}
use Rattle.pw_book.proofs.upload.write.Given as goal

abbrev pub invariant-loop-entry : goal.invariant-loop-entry
invariant-loop-entry g l = record {
  -- what is gathered is little, however many entries there are
  few : (side : Side) (k : TotalKey) → gathered side l.so_far.changes.rows k ≤ l.entry-index * 2 ^ 39;
  put : g.S.Shelf.clean l.shelf → IsPut (office_of l.basis.office.now) l.so_far.changes.rows (take l.entry-index l.entries) (g.S.Shelf.state l.initial.shelf).content (g.S.Shelf.state l.shelf).content;
  known : g.S.Shelf.clean l.shelf → AreKnown (g.S.Shelf.state l.shelf).content.start l.so_far.known;
  start : g.S.Shelf.clean l.shelf → (starts : ℕ) → AreReadingsWith (g.S.Shelf.state l.initial.shelf).content starts l.entries →
      (g.S.Shelf.state l.shelf).content.start ≡ (g.S.Shelf.state l.initial.shelf).content.start;
  readings : g.S.Shelf.clean l.shelf → (starts : ℕ) → AreReadingsWith (g.S.Shelf.state l.initial.shelf).content starts l.entries →
      (g.S.Shelf.state l.shelf).tally + due (office_of l.basis.office.now) l.so_far.changes.rows.entries ≤ (g.S.Shelf.state l.initial.shelf).tally + l.entry-index * (13 + starts + 6 * classes_of (office_of l.basis.office.now));
  first : g.S.Shelf.clean l.shelf → l.entry-index ≡ 0 → ((g.S.Shelf.state l.shelf).content ≡ (g.S.Shelf.state l.initial.shelf).content) × ((g.S.Shelf.state l.shelf).tally + due (office_of l.basis.office.now) l.so_far.changes.rows.entries ≡ (g.S.Shelf.state l.initial.shelf).tally);
  behind : g.S.Shelf.clean l.shelf → (starts points : ℕ) → AreAssignmentsWith (g.S.Shelf.state l.initial.shelf).content starts points l.entries →
      IsBehind l.entries l.entry-index (g.S.Shelf.state l.initial.shelf).content (g.S.Shelf.state l.shelf).content starts;
  assignment : g.S.Shelf.clean l.shelf → (e : Entry) (starts points : ℕ) → l.entries ≡ e ∷ [] → IsAssignmentUpToNext (g.S.Shelf.state l.initial.shelf).content starts points (bears_on e) →
      (g.S.Shelf.state l.shelf).tally + due (office_of l.basis.office.now) l.so_far.changes.rows.entries ≤ (g.S.Shelf.state l.initial.shelf).tally + l.entry-index * (39 + starts + points + 6 * classes_of (office_of l.basis.office.now));
  assignments : g.S.Shelf.clean l.shelf → (starts points : ℕ) → AreAssignmentsWith (g.S.Shelf.state l.initial.shelf).content starts points l.entries →
      (g.S.Shelf.state l.shelf).tally + due (office_of l.basis.office.now) l.so_far.changes.rows.entries ≤ (g.S.Shelf.state l.initial.shelf).tally + l.entry-index * (39 + (starts + length l.entries) + points + 6 * classes_of (office_of l.basis.office.now));
  enough : g.S.Shelf.clean l.shelf → (most : ℕ) → AreEnoughFor (office_of l.basis.office.now) (g.S.Shelf.state l.initial.shelf).content (length l.entries) most l.entries →
      (left : ℕ) → l.entry-index + left ≡ length l.entries → AreEnoughFor (office_of l.basis.office.now) (g.S.Shelf.state l.shelf).content left most l.entries;
  several : g.S.Shelf.clean l.shelf → (most : ℕ) → AreEnoughFor (office_of l.basis.office.now) (g.S.Shelf.state l.initial.shelf).content (length l.entries) most l.entries →
      (g.S.Shelf.state l.shelf).tally + due (office_of l.basis.office.now) l.so_far.changes.rows.entries ≤ (g.S.Shelf.state l.initial.shelf).tally + l.entry-index * most;
  top_ups : g.S.Shelf.clean l.shelf → AreTopUps l.entries → (g.S.Shelf.state l.shelf).tally + due (office_of l.basis.office.now) l.so_far.changes.rows.entries ≤ (g.S.Shelf.state l.initial.shelf).tally + l.entry-index * 10;
  kept : GoesOn g.S.Shelf.state g.S.Shelf.left g.S.Shelf.clean g.S.Shelf.same_store 0 l.initial.shelf l.shelf;
}
