use Rattle.std.proofs.Common.{List, ap, filter, sym, subst}
use Rattle.std.specs.Option.{option_copied}
use Rattle.sqlite.specs.Held.{state}
use Rattle.sqlite.specs.Order.{Row}
use Rattle.pw_tariff.specs.Office.{office_of}
use Rattle.pw_schema.specs.Judges.{IsRest, is_above_zero}
use Rattle.pw_schema.specs.declared.kind.TotalKind.TheVariants.{Payments}
use Rattle.pw_store.specs.Content.{payment_tree}
use Rattle.pw_store.proofs.Checked.{payments_numbered}
use Rattle.pw_store.proofs.Compared.{met_is, totals_hold, totals_refuse, totals_tell}
use Rattle.pw_store.proofs.Passed.{passed}
use Rattle.pw_store.specs.inner.Opened.{RefusesUnless}
use Rattle.pw_store.specs.Opening.{HoldsTotals}
use Rattle.pw_store.proofs.sums.read_payments.Goals as goal

pub returns-in_err-count-clause-cause : goal.returns-in_err-count-clause-cause
returns-in_err-count-clause-cause g c clean =
    let table : List Row = (state g.S.Store c.args.conn.now).now.trees payment_tree in
    passed c.from_residual.result (RefusesUnless (HoldsTotals (office_of c.args.office.now) Payments table)) c.from_residual.ensures.1 (totals_refuse (office_of c.args.office.now) Payments table c.new-payments.result (ap office_of c.new-payments.ensures.office) c.new-payments.ensures.kind c.in_err-count.field-0.0 c.in_err-count.ensures.others (c.in_err-count.ensures.refused clean))

pub returns-clause-holds : goal.returns-clause-holds
returns-clause-holds g c clean =
    let table : List Row = (state g.S.Store c.args.conn.now).now.trees payment_tree in
    let it = c.in_ok-count.ensures.took in
    totals_hold (office_of c.args.office.now) Payments table c.new-payments.result (ap office_of c.new-payments.ensures.office) c.new-payments.ensures.kind c.judge_listing.new.judge it.0 it.1 (it.2 clean)

pub returns-clause-numbered : goal.returns-clause-numbered
returns-clause-numbered g c clean =
    let table : List Row = (state g.S.Store c.args.conn.now).now.trees payment_tree in
    let it = c.in_ok-count.ensures.took in
    payments_numbered (office_of c.args.office.now) table (totals_hold (office_of c.args.office.now) Payments table c.new-payments.result (ap office_of c.new-payments.ensures.office) c.new-payments.ensures.kind c.judge_listing.new.judge it.0 it.1 (it.2 clean))

pub returns-clause-tells : goal.returns-clause-tells
returns-clause-tells g c clean =
    let table : List Row = (state g.S.Store c.args.conn.now).now.trees payment_tree in
    let it = c.in_ok-count.ensures.took in
    let told = totals_tell (office_of c.args.office.now) Payments table c.new-payments.result (ap office_of c.new-payments.ensures.office) c.new-payments.ensures.kind c.judge_listing.new.judge it.0 it.1 (it.2 clean) (option_copied c.args.expected) (ap option_copied c.new-payments.ensures.rest) in
    (told.0, told.1, met_is (option_copied c.args.expected) (filter is_above_zero told.0) (option_copied c.rest.result) c.is_at_end.result (subst (λ r. IsRest (option_copied c.args.expected) (filter is_above_zero told.0) (option_copied r)) (sym c.rest.ensures) told.2) c.is_at_end.ensures)
