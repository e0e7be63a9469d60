use Rattle.std.proofs.Common.{◌≡◌, ℕ, ◌≤◌, Some, rules}
use Rattle.pw_time.specs.declared.instant.TheConstants.{LAST_SECOND}
use Rattle.pw_book.proofs.WindowPairs.{points-over, tally-five, within-counted}
use Rattle.pw_book.proofs.start_change.points_over.Goals as goal

pub returns-clause-points : goal.returns-clause-points
returns-clause-points g c = λ k.
    let second = c.points_between.ensures.asked.kept.clean k in
    let first = c.point_after.ensures.asked.kept.clean second in
    points-over (g.S.Shelf.state c.args.shelf.now).content _ _ c.args.window.now.meter.0 c.args.register c.args.window.now.from c.args.window.now.until c.in_ok-before.before c.in_ok-within.within.items c.in_ok-after.after
    (c.in_ok-before.ensures.asked.same first) (c.in_ok-after.ensures.asked.same second) (c.in_ok-before.ensures.row first) (c.in_ok-after.ensures.row second) (c.in_ok-within.ensures.rows k)

pub returns-clause-tally : goal.returns-clause-tally
returns-clause-tally g c = λ k most w h.
    let second = c.points_between.ensures.asked.kept.clean k in
    let first = c.point_after.ensures.asked.kept.clean second in
    let content = (g.S.Shelf.state c.args.shelf.now).content in
    let window = c.args.window.now in
    let last : (b : ℕ × ℕ) → c.in_ok-after.after ≡ Some b → b.0 ≤ LAST_SECOND = λ b e. search rules in
    let over = points-over content _ _ window.meter.0 c.args.register window.from window.until c.in_ok-before.before c.in_ok-within.within.items c.in_ok-after.after
    (c.in_ok-before.ensures.asked.same first) (c.in_ok-after.ensures.asked.same second) (c.in_ok-before.ensures.row first) (c.in_ok-after.ensures.row second) (c.in_ok-within.ensures.rows k) in
    let few = within-counted content window.meter.0 c.args.register window.from window.until most _ c.in_ok-within.within.items c.in_ok-after.after over w last h in
    tally-five _ _ _ _ c.in_ok-before.before c.in_ok-after.after _ _ most c.in_ok-before.ensures.asked.tally c.in_ok-after.ensures.asked.tally c.in_ok-within.ensures.asked.tally c.in_ok-within.within.ok.0 few
