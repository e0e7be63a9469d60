use Rattle.std.proofs.Common.{arith, ◌≤◌, sym, rules}
use Rattle.pw_time.proofs.OutcomeFacts.{fold_outcome}
use Rattle.pw_time.proofs.civil.CivilTime.in_zone.Goals as goal

pub returns-in-true-false : goal.returns-in-true-false
returns-in-true-false c =
    let shown = c.in_ok-shown.ensures in
    let low : 7200 ≤ c.in_ok-shown.shown = omega (arith, shown.bound) in
    (shown.there, fold_outcome c.args.self.now c.in_ok-shown.shown shown.value low (sym c.in-true-false.ensures) (sym c.in-true-false.ensures'))

pub returns-in-false-true : goal.returns-in-false-true
returns-in-false-true c = search rules depth 0 fits 100
