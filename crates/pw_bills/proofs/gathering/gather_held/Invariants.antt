use Rattle.std.proofs.Common.{ℕ, ◌+◌, ◌*◌, ◌≤◌}
use Rattle.pw_flow.specs.Time.{sum_over}
use Rattle.pw_book.specs.Asking.{IsOnlyAsked}
use Rattle.pw_bills.specs.inner.Gathering.{AreEnoughToGather, Pass, FitsMore, MeterStep, Steps, pass_of}
use Rattle.pw_bills.proofs.gathering.gather_held.Given as goal

abbrev pub invariant-loop-meter : goal.invariant-loop-meter
invariant-loop-meter g l =
    let q : Pass = pass_of l.basis.office.now (g.S.Shelf.state l.initial.shelf).content l.stretches.account l.stretches.begins.now (l.stretches.last + 1) in
    record {
      few : FitsMore g.G.Gathers.fits (6 * l.meter) l.gathered;
      -- what the meters so far add
      steps : g.S.Shelf.clean l.shelf → Steps (MeterStep g.G.Gathers.adds q) l.meter l.initial.gathered l.gathered;
      tally : g.S.Shelf.clean l.shelf → (most : ℕ → ℕ) → AreEnoughToGather g.G.Gathers.reads q most → (g.S.Shelf.state l.shelf).tally ≤ (g.S.Shelf.state l.initial.shelf).tally + sum_over most 0 l.meter;
      asked : IsOnlyAsked g.S.Shelf 0 l.initial.shelf l.shelf;
    }
