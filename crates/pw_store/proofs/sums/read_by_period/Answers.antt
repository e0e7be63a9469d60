use Rattle.std.proofs.Common.{List, Some, ap, filter, sym, subst}
use Rattle.std.specs.Option.{option_copied}
use Rattle.sqlite.specs.Held.{state}
use Rattle.sqlite.specs.Order.{Row}
use Rattle.pw_tariff.specs.Office.{office_of}
use Rattle.pw_schema.proofs.Outcomes.{early}
use Rattle.pw_schema.specs.Judges.{IsRest, is_above_zero}
use Rattle.pw_schema.specs.declared.kind.TotalKind.TheVariants.{Energies}
use Rattle.pw_store.specs.Content.{energy_tree}
use Rattle.pw_store.specs.inner.Sums.{AreNumbered}
use Rattle.pw_store.proofs.InTurn.{trees_same}
use Rattle.pw_store.proofs.Compared.{totals_hold, totals_refuse, totals_tell}
use Rattle.pw_store.proofs.Passed.{passed}
use Rattle.pw_store.specs.inner.Opened.{RefusesUnless}
use Rattle.pw_store.specs.Opening.{HoldsTotals}
use Rattle.pw_store.proofs.sums.read_by_period.Goals as goal

pub returns-in_err-count-clause-cause : goal.returns-in_err-count-clause-cause
returns-in_err-count-clause-cause g c clean =
    let table : List Row = (state g.S.Store c.args.conn.now).now.trees energy_tree in
    passed c.from_residual.result (RefusesUnless (HoldsTotals (office_of c.args.office.now) Energies table)) c.from_residual.ensures.1 (totals_refuse (office_of c.args.office.now) Energies table c.new-energies.result (ap office_of c.new-energies.ensures.office) c.new-energies.ensures.kind c.in_err-count.field-0.0 c.in_err-count.ensures.others (c.in_err-count.ensures.refused clean))

pub returns-clause-holds : goal.returns-clause-holds
returns-clause-holds g c clean =
    let before = early (state g.S.Store c.judge_listing.new.conn) (state g.S.Store c.check_rowids.new.conn) c.in_ok-check_rowids.ensures.looks.crash clean in
    let table : List Row = (state g.S.Store c.args.conn.now).now.trees energy_tree in
    let it = c.in_ok-count.ensures.took in
    totals_hold (office_of c.args.office.now) Energies table c.new-energies.result (ap office_of c.new-energies.ensures.office) c.new-energies.ensures.kind c.judge_listing.new.judge it.0 it.1 (it.2 before)

pub returns-clause-numbered : goal.returns-clause-numbered
returns-clause-numbered g c clean =
    let before = early (state g.S.Store c.judge_listing.new.conn) (state g.S.Store c.check_rowids.new.conn) c.in_ok-check_rowids.ensures.looks.crash clean in
    let same = trees_same (state g.S.Store c.args.conn.now) (state g.S.Store c.judge_listing.new.conn) (c.in_ok-count.ensures.looks.same before) in
    subst (λ db. AreNumbered (db energy_tree)) same (c.in_ok-check_rowids.ensures.numbered clean)

pub returns-clause-tells : goal.returns-clause-tells
returns-clause-tells g c clean =
    let before = early (state g.S.Store c.judge_listing.new.conn) (state g.S.Store c.check_rowids.new.conn) c.in_ok-check_rowids.ensures.looks.crash clean in
    let table : List Row = (state g.S.Store c.args.conn.now).now.trees energy_tree in
    let it = c.in_ok-count.ensures.took in
    let told = totals_tell (office_of c.args.office.now) Energies table c.new-energies.result (ap office_of c.new-energies.ensures.office) c.new-energies.ensures.kind c.judge_listing.new.judge it.0 it.1 (it.2 before) (Some c.args.expected.now) (ap option_copied c.new-energies.ensures.rest) in
    (told.0, told.1, subst (λ r. IsRest (Some c.args.expected.now) (filter is_above_zero told.0) (option_copied r)) (sym c.rest.ensures) told.2)
