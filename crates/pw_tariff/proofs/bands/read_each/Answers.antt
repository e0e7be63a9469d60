use Rattle.std.proofs.Common.{[], ◌∷◌}
use Rattle.toml.specs.View.{table_view}
use Rattle.pw_tariff.specs.declared.office.Band.{Band}
use Rattle.pw_tariff.specs.Held.{band_of}
use Rattle.pw_tariff.specs.Text.{band_checks, band_of_table, band_name_of}
use Rattle.pw_tariff.proofs.EachTable.{no-other, refused-at, read-more, all-read}
use Rattle.pw_tariff.proofs.Passed.{passed-on}
use Rattle.pw_tariff.proofs.bands.read_each.Goals as goal

pub returns-in_default : goal.returns-in_default
returns-in_default c = absurd (no-other c.args.array.now.items c.deref-value-items.result.now c.loop-value.value-index c.value-item.result c.deref-value-items.ensures.value c.requires c.loop-value-test.true c.value-item.is c.in_default.ensures)

pub returns-in_err-band : goal.returns-in_err-band
returns-in_err-band c =
    let refused = rw c.deref.ensures.value at c.in_err-band.ensures in
    passed-on _ _ c.from_residual.result c.from_residual.ensures.1
    (refused-at (λ (b : Band). b.name ∷ []) band_name_of band_checks c.loop-value.bands.items c.args.array.now.items
    c.deref-value-items.result.now c.loop-value.value-index c.value-item.result (table_view c.in-Some.table.now) c.in_err-band.field-0.0
    c.deref-value-items.ensures.value c.loop-value-test.true c.value-item.is c.in-Some.ensures c.loop-value.invariant.checks refused)

pub loop-value-preserved : goal.loop-value-preserved
loop-value-preserved c =
    let read = rw c.deref.ensures.value at c.in_ok-band.ensures in
    let more = read-more (λ (b : Band). b.name ∷ []) band_name_of band_checks band_of band_of_table c.loop-value.bands.items c.in_ok-band.band
    c.deref-value-items.result.now c.loop-value.value-index c.value-item.result (table_view c.in-Some.table.now)
    c.loop-value-test.true c.value-item.is c.in-Some.ensures c.loop-value.invariant.checks c.loop-value.invariant.bands read in
    record { checks = rw c.in_ok-push.ensures.items more.0; bands = rw c.in_ok-push.ensures.items more.1 }

pub returns : goal.returns
returns c =
    all-read (λ (b : Band). b.name ∷ []) band_name_of band_checks band_of band_of_table c.loop-value.bands.items c.args.array.now.items c.deref-value-items.result.now c.loop-value.value-index
    c.deref-value-items.ensures.value c.loop-value-test.false c.loop-value.invariant.checks c.loop-value.invariant.bands
