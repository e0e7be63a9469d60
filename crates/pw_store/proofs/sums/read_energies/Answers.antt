use Rattle.std.proofs.Common.{◌≡◌, []}
use Rattle.std.proofs.lemmas.Result.{IfErr-weaker, on_ok_weaker}
use Rattle.sqlite.specs.Held.{state}
use Rattle.pw_tariff.specs.Office.{office_of}
use Rattle.pw_schema.proofs.Outcomes.{early}
use Rattle.pw_schema.specs.declared.kind.TotalKind.TheVariants.{Energies}
use Rattle.pw_store.specs.Content.{energy_tree, total_tree}
use Rattle.pw_store.specs.Opening.{HoldsTotals}
use Rattle.pw_store.specs.inner.Opened.{HoldsEnergies, RefusesUnless}
use Rattle.pw_store.proofs.InTurn.{trees_same}
use Rattle.pw_store.proofs.Passed.{passed}
use Rattle.pw_store.proofs.Scanning.{refuses_more}
use Rattle.pw_store.proofs.sums.read_energies.Goals as goal

pub returns-in_err-check_old_totals-clause-cause : goal.returns-in_err-check_old_totals-clause-cause
returns-in_err-check_old_totals-clause-cause g c clean =
    passed c.from_residual.result (RefusesUnless (HoldsEnergies (office_of c.args.office.now) (state g.S.Store c.args.conn.now).now.trees)) c.from_residual.ensures.1 (refuses_more _ _ c.in_err-check_old_totals.field-0.0 (λ it. it.old) (c.in_err-check_old_totals.ensures.cause clean))

pub returns-clause-holds : goal.returns-clause-holds
returns-clause-holds g c clean =
    let before = early (state g.S.Store c.check_old_totals.new.conn) (state g.S.Store c.read_by_period.new.conn) c.read_by_period.ensures.looks.crash clean in
    let same = trees_same (state g.S.Store c.args.conn.now) (state g.S.Store c.check_old_totals.new.conn) (c.in_ok-check_old_totals.ensures.looks.same before) in
    rw same at (c.read_by_period.ensures.holds clean)

pub returns-clause-none : goal.returns-clause-none
returns-clause-none g c clean =
    let before = early (state g.S.Store c.check_old_totals.new.conn) (state g.S.Store c.read_by_period.new.conn) c.read_by_period.ensures.looks.crash clean in
    on_ok_weaker {Q = (state g.S.Store c.args.conn.now).now.trees total_tree ≡ []} c.read_by_period.result (λ it. c.in_ok-check_old_totals.ensures.none before) (c.read_by_period.ensures.holds clean)

pub returns-clause-numbered : goal.returns-clause-numbered
returns-clause-numbered g c clean =
    let before = early (state g.S.Store c.check_old_totals.new.conn) (state g.S.Store c.read_by_period.new.conn) c.read_by_period.ensures.looks.crash clean in
    let same = trees_same (state g.S.Store c.args.conn.now) (state g.S.Store c.check_old_totals.new.conn) (c.in_ok-check_old_totals.ensures.looks.same before) in
    rw same at (c.read_by_period.ensures.numbered clean)

pub returns-clause-tells : goal.returns-clause-tells
returns-clause-tells g c clean =
    let before = early (state g.S.Store c.check_old_totals.new.conn) (state g.S.Store c.read_by_period.new.conn) c.read_by_period.ensures.looks.crash clean in
    let same = trees_same (state g.S.Store c.args.conn.now) (state g.S.Store c.check_old_totals.new.conn) (c.in_ok-check_old_totals.ensures.looks.same before) in
    rw same at (c.read_by_period.ensures.tells clean)

pub returns-clause-cause : goal.returns-clause-cause
returns-clause-cause g c clean =
    let office = office_of c.args.office.now in
    let old = (state g.S.Store c.args.conn.now).now.trees in
    let before = early (state g.S.Store c.check_old_totals.new.conn) (state g.S.Store c.read_by_period.new.conn) c.read_by_period.ensures.looks.crash clean in
    let same = trees_same (state g.S.Store c.args.conn.now) (state g.S.Store c.check_old_totals.new.conn) (c.in_ok-check_old_totals.ensures.looks.same before) in
    IfErr-weaker c.read_by_period.result (RefusesUnless (HoldsTotals office Energies (old energy_tree))) (RefusesUnless (HoldsEnergies office old)) (λ fault. refuses_more _ _ fault (λ it. it.energies)) (rw same at (c.read_by_period.ensures.cause clean))
