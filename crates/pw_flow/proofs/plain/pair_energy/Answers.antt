use Rattle.std.proofs.Common.{rules, ◌≡◌, ◌+◌, Bool, arith, sym, ◌∙◌}
use Rattle.pw_flow.specs.Flow.{pair_flow}
use Rattle.pw_flow.proofs.Level.{sum-more}
use Rattle.pw_flow.proofs.Turns.{turn-kept, turn-left, flows-le, sum-from_start, cell-ended, rise-ended}
use Rattle.pw_flow.proofs.plain.pair_energy.Goals.{then-keeps, else-keeps}
use Rattle.pw_flow.proofs.plain.pair_energy.Goals as goal

yes : {b a d : Bool} → b ≡ d → b ≡ a → a ≡ d
yes h k = sym k ∙ h

pub loop-second-init : goal.loop-second-init
loop-second-init g c = record {
  cell = λ asked a. sym (sum-from_start _ c.args.from.at);
  at_most = omega arith;
  backwards = λ b. search rules;
}

pub overflow_add-energy : goal.overflow_add-energy
overflow_add-energy g c =
    let f = pair_flow (c.args.from.at, c.args.from.watt_hours) (c.args.to.at, c.args.to.watt_hours) in
    let m = sum-more f c.args.from.at c.loop-second.second (omega arith) in
    let u = flows-le c.args.from.at c.args.from.watt_hours c.args.to.at c.args.to.watt_hours (c.loop-second.second + 1) (omega arith) (omega arith) in
    search (rules, m, u)

pub loop-second-preserved : goal.loop-second-preserved
loop-second-preserved g c =
    let f = pair_flow (c.args.from.at, c.args.from.watt_hours) (c.args.to.at, c.args.to.watt_hours) in
    let m = sum-more f c.args.from.at c.loop-second.second (omega arith) in
    record {
      cell = λ asked answers. elim c.if-keeps.branch [
        | then-keeps w ↦ rw w.energy-is (turn-kept asked f c.args.from.at c.loop-second.second c.loop-second.energy w.flow_at-energy.result
            (omega arith) (yes w.if-keeps.true (answers c.loop-second.second c.keeps.result (omega arith) c.keeps.ensures)) w.flow_at-energy.ensures (c.loop-second.invariant.cell asked answers))
        | else-keeps w ↦ rw w.energy-is (turn-left asked f c.args.from.at c.loop-second.second c.loop-second.energy
            (omega arith) (yes w.if-keeps.false (answers c.loop-second.second c.keeps.result (omega arith) c.keeps.ensures)) (c.loop-second.invariant.cell asked answers))
      ];
      at_most = elim c.if-keeps.branch [
        | then-keeps w ↦ omega (arith, m, w.flow_at-energy.ensures)
        | else-keeps w ↦ omega (arith, m)
      ];
      backwards = λ b. absurd (omega arith);
    }

pub returns-clause-cell : goal.returns-clause-cell
returns-clause-cell g c = λ asked answers.
    cell-ended asked c.args.from.at c.args.from.watt_hours c.args.to.at c.args.to.watt_hours c.loop-second.second c.loop-second.energy
    (omega arith) (omega arith) (λ h. c.loop-second.auto.second-end h) c.loop-second.invariant.backwards (c.loop-second.invariant.cell asked answers)

pub returns-clause-at_most_rise : goal.returns-clause-at_most_rise
returns-clause-at_most_rise g c =
    rise-ended c.args.from.at c.args.from.watt_hours c.args.to.at c.args.to.watt_hours c.loop-second.second c.loop-second.energy
    (omega arith) (λ h. c.loop-second.auto.second-end h) c.loop-second.invariant.backwards c.loop-second.invariant.at_most
