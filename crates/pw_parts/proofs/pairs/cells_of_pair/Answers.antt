use Rattle.std.proofs.Common.{◌<◌, sym, ◌∙◌, rules}
use Rattle.pw_flow.proofs.Level.{cell-fall}
use Rattle.pw_tariff.specs.Shares.{class_seconds}
use Rattle.pw_parts.proofs.Gathering.{none-in-all, none-for}
use Rattle.pw_parts.proofs.pairs.cells_of_pair.Goals as goal

pub returns-then-le-clause-bound : goal.returns-then-le-clause-bound
returns-then-le-clause-bound c = none-in-all c.new.result.items c.new.ensures.items

pub returns-then-get-clause-cells : goal.returns-then-get-clause-cells
returns-then-get-clause-cells c = λ later o p b.
    let lower : c.args.to.1 < c.args.from.1 = rw (c.get.ensures.value, c.get-2.ensures.value) at c.if-get.true in
    none-for c.new-then-get.result.items o p b c.new-then-get.ensures.items ∙ sym (cell-fall (class_seconds c.args.basis.now.office.now c.args.owners.now o p b) c.args.from.0 c.args.from.1 c.args.to.0 c.args.to.1 lower)

pub returns-then-get-clause-bound : goal.returns-then-get-clause-bound
returns-then-get-clause-bound c = none-in-all c.new-then-get.result.items c.new-then-get.ensures.items

pub returns-clause-cells : goal.returns-clause-cells
returns-clause-cells c = search rules depth 0 fits 100
