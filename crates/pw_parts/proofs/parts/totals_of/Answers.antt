use Rattle.std.proofs.Common.{◌≡◌, ℕ, ◌<◌, ◌∙◌, sym, arith}
use Rattle.pw_model.specs.declared.records.TotalKey.{TotalKey}
use Rattle.pw_model.specs.Shelf.{total_among}
use Rattle.pw_model.proofs.EntryOrder.{if-ok}
use Rattle.pw_model.proofs.SoundOffice.{sound-office}
use Rattle.pw_tariff.specs.Office.{office_of}
use Rattle.pw_parts.specs.Parts.{by_total}
use Rattle.pw_parts.specs.declared.changes.Side.TheVariants.{Gains}
use Rattle.pw_parts.specs.inner.Totals.{total_in}
use Rattle.pw_parts.proofs.Whole.{lists-alike, totals-whole, total-fits, energies-fit}
use Rattle.pw_parts.proofs.parts.totals_of.Goals as goal

pub add_meters-requires-clause-room : goal.add_meters-requires-clause-room
add_meters-requires-clause-room c = λ k.
    let z = c.new-totals.ensures Gains k in
    let f = energies-fit (office_of c.args.basis.now.office.now) c.args.records.now k (sound-office c.args.basis.now.office.now c.meters-meters.ensures.sound) c.requires.counted.of_office c.requires.few in
    omega (arith, z, f)

pub add_payments-requires : goal.add_payments-requires
add_payments-requires c = λ k.
    let office = office_of c.args.basis.now.office.now in
    let z = c.new-totals.ensures Gains k in
    let a = c.in_ok-add_meters.ensures k in
    let w = totals-whole office c.args.records.now c.top_ups_among.result.now k c.requires.counted c.top_ups_among.ensures in
    let f = total-fits office c.args.records.now k (sound-office c.args.basis.now.office.now c.meters-meters.ensures.sound) c.requires.counted.of_office c.requires.few in
    omega (arith, z, a, w, f)

pub gains-requires : goal.gains-requires
gains-requires c = λ k.
    let office = office_of c.args.basis.now.office.now in
    let z = c.new-totals.ensures Gains k in
    let a = c.in_ok-add_meters.ensures k in
    let b = c.in_ok-add_payments.ensures k in
    let w = totals-whole office c.args.records.now c.top_ups_among.result.now k c.requires.counted c.top_ups_among.ensures in
    let f = total-fits office c.args.records.now k (sound-office c.args.basis.now.office.now c.meters-meters.ensures.sound) c.requires.counted.of_office c.requires.few in
    omega (arith, z, a, b, w, f)

pub returns : goal.returns
returns c =
    let office = office_of c.args.basis.now.office.now in
    let rows = c.add_payments.new.totals.rows in
    let same : (k : TotalKey) → total_in rows k ≡ total_among office c.args.records.now k = λ k.
    (let z = c.new-totals.ensures Gains k in
    let a = c.in_ok-add_meters.ensures k in
    let b = c.in_ok-add_payments.ensures k in
    let w = totals-whole office c.args.records.now c.top_ups_among.result.now k c.requires.counted c.top_ups_among.ensures in
    omega (arith, z, a, b, w)) in
    if-ok c.gains.result _ _
    (λ totals l. lists-alike by_total (λ (t : TotalKey × ℕ). (t.1 ≡ total_in rows t.0) × (0 < t.1)) (λ (t : TotalKey × ℕ). (t.1 ≡ total_among office c.args.records.now t.0) × (0 < t.1)) totals.items
    (λ t. (λ h. (h.0 ∙ same t.0, h.1), λ h. (h.0 ∙ sym (same t.0), h.1))) l)
    c.gains.ensures
