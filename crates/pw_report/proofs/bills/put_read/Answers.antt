use Rattle.std.proofs.Common.{◌∙◌, ◌++◌, ℕ, List, ap}
use Rattle.pw_report.specs.Bills.{read_line}
use Rattle.pw_report.proofs.Fields.{each-next}
use Rattle.pw_report.proofs.bills.put_read.Goals as goal

pub loop-row-preserved : goal.loop-row-preserved
loop-row-preserved c =
    let line = read_line c.args.office.now in
    c.in_ok-put_last.ensures
    ∙ ap (λ (t : List ℕ). t ++ line c.row-item.result) c.loop-row.invariant
    ∙ each-next line c.args.text.now.items c.args.read.now c.loop-row.row-index c.row-item.result c.loop-row-test.true c.row-item.is
