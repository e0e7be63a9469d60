use Rattle.std.proofs.Common.{◌≡◌, ℕ, ◌+◌, ◌*◌, ◌≤◌, ◌^◌, take}
use Rattle.std.specs.List.{sum_by}
use Rattle.pw_obis.specs.Registers.{registers}
use Rattle.pw_obis.specs.declared.reference.Register.{Register}
use Rattle.pw_tariff.specs.Office.{office_of}
use Rattle.pw_model.specs.declared.records.Contents.{Contents}
use Rattle.pw_model.specs.declared.records.Key.{Key}
use Rattle.pw_model.specs.declared.records.TotalKey.{TotalKey}
use Rattle.pw_shelf.specs.Calls.{GoesOn}
use Rattle.pw_parts.specs.declared.changes.Side.{Side}
use Rattle.pw_parts.specs.declared.changes.Side.TheVariants.{Loses, Gains}
use Rattle.pw_book.specs.inner.Settling.{EndsBeforeNext, HavePoints, IsStartChanged, register_told}
use Rattle.pw_parts.specs.Changes.{gathered}
use Rattle.pw_book.proofs.start_change.weigh_window.Given as goal

abbrev pub invariant-loop-register : goal.invariant-loop-register
invariant-loop-register g l = record {
  few : (side : Side) (k : TotalKey) → gathered side l.changes.rows k ≤ l.register-index * 2 ^ 110;
  -- what the registers so far gave and give
  moved : g.S.Shelf.clean l.shelf → (was is : Key → Contents) →
      IsStartChanged (g.S.Shelf.state l.initial.shelf).content was is l.window.meter.0 l.window.from l.window.until l.window.before l.window.after → (k : TotalKey) →
      gathered Gains l.changes.rows k + sum_by (register_told (office_of l.basis.office.now) was l.window.meter.0 k) (take l.register-index registers)
      ≡ gathered Loses l.changes.rows k + sum_by (register_told (office_of l.basis.office.now) is l.window.meter.0 k) (take l.register-index registers);
  same : g.S.Shelf.clean l.shelf → (g.S.Shelf.state l.shelf).content ≡ (g.S.Shelf.state l.initial.shelf).content;
  tally : g.S.Shelf.clean l.shelf → (points : Register → ℕ) → EndsBeforeNext ((g.S.Shelf.state l.initial.shelf).content.start l.window.meter.0) l.window.from l.window.until →
      HavePoints (g.S.Shelf.state l.initial.shelf).content l.window.meter.0 l.window.from points →
      (g.S.Shelf.state l.shelf).tally ≤ (g.S.Shelf.state l.initial.shelf).tally + 5 * l.register-index + sum_by points (take l.register-index registers);
  kept : GoesOn g.S.Shelf.state g.S.Shelf.left g.S.Shelf.clean g.S.Shelf.same_store 0 l.initial.shelf l.shelf;
}
