use Rattle.std.proofs.Common.{ℕ, List, subst, sym}
use Rattle.pw_shelf.specs.Seconds.{ListsSecondsWithin}
use Rattle.pw_shelf.specs.Standing.{point_now}
use Rattle.pw_shelf.proofs.Within.{points-within}
use Rattle.pw_shelf.proofs.points.Points.within.Goals as goal

pub returns-clause-rows : goal.returns-clause-rows
returns-clause-rows c =
    let P : List (ℕ × ℕ) → Type 0 = ListsSecondsWithin c.args.from c.args.to
    (point_now c.args.self.now.table c.args.meter.0 c.args.register) in
    subst P (sym c.in_ok-found.ensures.points)
    (points-within c.args.meter c.args.register c.args.from c.args.to c.args.self.now.table
    c.in_ok-found.ensures.ordered)
