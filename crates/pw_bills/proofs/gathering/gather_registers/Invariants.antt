use Rattle.std.proofs.Common.{ℕ, ◌+◌, ◌≤◌, take}
use Rattle.std.specs.List.{sum_by}
use Rattle.pw_obis.specs.Registers.{registers}
use Rattle.pw_obis.specs.declared.reference.Register.{Register}
use Rattle.pw_book.specs.Asking.{IsOnlyAsked}
use Rattle.pw_bills.specs.inner.Gathering.{AreNamed, Pass, FitsMore, IsSoundPass, RegisterStep, Steps, pass_of, counted_reads}
use Rattle.pw_bills.proofs.gathering.gather_registers.Given as goal

abbrev pub invariant-loop-register : goal.invariant-loop-register
invariant-loop-register g l =
    let q : Pass = pass_of l.basis.office.now (g.S.Shelf.state l.initial.shelf).content l.stretches.account l.stretches.begins.now (l.stretches.last + 1) in
    record {
      few : (n : ℕ) → g.G.Gathers.fits n l.initial.gathered → FitsMore g.G.Gathers.fits (n + l.register-index) l.gathered;
      -- what the registers so far add
      steps : g.S.Shelf.clean l.shelf → IsSoundPass q → AreNamed q l.meter.0 l.owners → Steps (RegisterStep g.G.Gathers.adds q l.meter.0) l.register-index l.initial.gathered l.gathered;
      tally : g.S.Shelf.clean l.shelf → (each : Register → ℕ) → ((r : Register) → g.G.Gathers.reads q l.meter.0 r (each r)) →
          (g.S.Shelf.state l.shelf).tally ≤ (g.S.Shelf.state l.initial.shelf).tally + sum_by (counted_reads l.basis.office.now l.meter.0 each) (take l.register-index registers);
      asked : IsOnlyAsked g.S.Shelf 0 l.initial.shelf l.shelf;
    }
