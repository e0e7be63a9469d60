use Rattle.std.proofs.Common.{◌∙◌, sym, ap, map}
use Rattle.toml.specs.View.{table_view}
use Rattle.pw_time.specs.declared.instant.TheConstants.{FIRST_SECOND}
use Rattle.pw_tariff.specs.Office.{PeriodText}
use Rattle.pw_tariff.specs.Held.{bands_of, period_of}
use Rattle.pw_tariff.specs.inner.Held.{table_in}
use Rattle.pw_tariff.specs.Text.{period_of_table, periods_in_turn}
use Rattle.pw_tariff.proofs.EachTable.{no-other}
use Rattle.pw_tariff.proofs.Listed.{table-read}
use Rattle.pw_tariff.proofs.Order.{all-taken, held-more}
use Rattle.pw_tariff.proofs.Passed.{passed-on}
use Rattle.pw_tariff.proofs.Turns.{refused, passed, ended}
use Rattle.pw_tariff.proofs.periods.read_each.Goals as goal

pub returns-in_default : goal.returns-in_default
returns-in_default c = absurd (no-other c.args.array.now.items c.deref-value-items.result.now c.loop-value.value-index c.value-item.result c.deref-value-items.ensures.value c.requires c.loop-value-test.true c.value-item.is c.in_default.ensures)

pub returns-in_err-period : goal.returns-in_err-period
returns-in_err-period c =
    let t = table-read c.value-item.result (table_view c.in-Some.table.now) c.in-Some.ensures in
    let r = rw (← t) at c.in_err-period.ensures in
    passed-on _ _ c.from_residual.result c.from_residual.ensures.1
    (rw (← c.deref-value-items.ensures.value) (refused (periods_in_turn (bands_of c.args.bands.now) FIRST_SECOND (map table_in c.deref-value-items.result.now))
    (bands_of c.args.bands.now) table_in c.loop-value.before c.deref-value-items.result.now c.loop-value.value-index c.value-item.result
    c.in_err-period.field-0.0 c.loop-value-test.true c.value-item.is c.loop-value.invariant.checks r))

pub loop-value-preserved : goal.loop-value-preserved
loop-value-preserved c =
    let t = table-read c.value-item.result (table_view c.in-Some.table.now) c.in-Some.ensures in
    let read = c.in_ok-period.ensures.1 ∙ ap period_of_table (sym t) in
    let checked = c.in_ok-period.ensures.0 in
    let checked2 = rw (← t) at checked in
    record {
      checks = passed (periods_in_turn (bands_of c.args.bands.now) FIRST_SECOND (map table_in c.deref-value-items.result.now)) (bands_of c.args.bands.now) table_in c.loop-value.before c.seconds-before.result c.deref-value-items.result.now c.loop-value.value-index c.value-item.result
          c.loop-value-test.true c.value-item.is (c.seconds-before.ensures.value ∙ ap (λ (p : PeriodText). p.start) read) c.loop-value.invariant.checks checked2;
      periods = rw c.in_ok-push.ensures.items (held-more period_of period_of_table table_in c.loop-value.periods.items c.in_ok-period.period
          c.deref-value-items.result.now c.loop-value.value-index c.value-item.result
          c.loop-value-test.true c.value-item.is c.loop-value.invariant.periods read);
    }

pub returns : goal.returns
returns c =
    let whole = all-taken c.deref-value-items.result.now c.loop-value.value-index c.loop-value-test.false in
    let same = rw whole at c.loop-value.invariant.periods in
    rw (← c.deref-value-items.ensures.value) (
      ended (periods_in_turn (bands_of c.args.bands.now) FIRST_SECOND (map table_in c.deref-value-items.result.now)) (bands_of c.args.bands.now) table_in c.loop-value.before c.deref-value-items.result.now c.loop-value.value-index c.loop-value-test.false c.loop-value.invariant.checks,
      same,
    )
