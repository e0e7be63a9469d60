use Rattle.std.proofs.Common.{string_bytes}
use Rattle.toml.specs.View.{table_view}
use Rattle.pw_tariff.specs.declared.office.Meter.{Meter}
use Rattle.pw_tariff.specs.Held.{meter_of}
use Rattle.pw_tariff.specs.Text.{meter_checks, meter_of_table, id_of}
use Rattle.pw_tariff.proofs.EachTable.{no-other, refused-at, read-more, all-read}
use Rattle.pw_tariff.proofs.Passed.{passed-on}
use Rattle.pw_tariff.proofs.meters.read_each.Goals as goal

pub returns-in_default : goal.returns-in_default
returns-in_default c = absurd (no-other c.args.array.now.items c.deref-value-items.result.now c.loop-value.value-index c.value-item.result c.deref-value-items.ensures.value c.requires c.loop-value-test.true c.value-item.is c.in_default.ensures)

pub returns-in_err-meter : goal.returns-in_err-meter
returns-in_err-meter c =
    let refused = rw c.deref.ensures.value at c.in_err-meter.ensures in
    passed-on _ _ c.from_residual.result c.from_residual.ensures.1
    (refused-at (λ (m : Meter). string_bytes m.id) id_of meter_checks c.loop-value.meters.items c.args.array.now.items
    c.deref-value-items.result.now c.loop-value.value-index c.value-item.result (table_view c.in-Some.table.now) c.in_err-meter.field-0.0
    c.deref-value-items.ensures.value c.loop-value-test.true c.value-item.is c.in-Some.ensures c.loop-value.invariant.checks refused)

pub loop-value-preserved : goal.loop-value-preserved
loop-value-preserved c =
    let read = rw c.deref.ensures.value at c.in_ok-meter.ensures in
    let more = read-more (λ (m : Meter). string_bytes m.id) id_of meter_checks meter_of meter_of_table c.loop-value.meters.items c.in_ok-meter.meter
    c.deref-value-items.result.now c.loop-value.value-index c.value-item.result (table_view c.in-Some.table.now)
    c.loop-value-test.true c.value-item.is c.in-Some.ensures c.loop-value.invariant.checks c.loop-value.invariant.meters read in
    record { checks = rw c.in_ok-push.ensures.items more.0; meters = rw c.in_ok-push.ensures.items more.1 }

pub returns : goal.returns
returns c =
    all-read (λ (m : Meter). string_bytes m.id) id_of meter_checks meter_of meter_of_table c.loop-value.meters.items c.args.array.now.items c.deref-value-items.result.now c.loop-value.value-index
    c.deref-value-items.ensures.value c.loop-value-test.false c.loop-value.invariant.checks c.loop-value.invariant.meters
