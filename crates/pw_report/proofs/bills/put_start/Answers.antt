use Rattle.std.proofs.Common.{◌≡◌, ◌∙◌, sym}
use Rattle.pw_report.specs.Names.{period_name}
use Rattle.pw_report.proofs.Periods.{start-name}
use Rattle.pw_report.proofs.bills.put_start.Goals as goal

pub returns : goal.returns
returns c =
    let name : c.instant_text.result ≡ period_name c.args.office.now c.args.period.0 =
    c.instant_text.ensures ∙ sym (start-name c.args.office.now c.args.period.0 c.start_of.result c.start_of.ensures) in
    rw name at c.put_line.ensures
