use Rattle.std.proofs.Common.{◌≡◌, rules, sym, subst, ap, ◌∙◌, Some}
use Rattle.pw_time.specs.declared.zone.Clock.TheVariants.{Marked}
use Rattle.pw_tariff.specs.Office.{MeterText}
use Rattle.pw_record.specs.declared.laws.UploadKind.{UploadKind}
use Rattle.pw_record.specs.Names.{HasClock}
use Rattle.pw_record.specs.Laws.{HasOneOutcome, upload_with}
use Rattle.pw_record.proofs.OfOffice.{within}
use Rattle.pw_record.proofs.EachOutcome.{of-telegrams, of-readouts, of-unknown, of-marked, of-assignments, of-top_ups, of-withdrawals}
use Rattle.pw_record.proofs.laws.each_upload_has_one_outcome.Goals as goal

pub returns-in_default : goal.returns-in_default
returns-in_default c =
    let P : UploadKind → Type 0 = λ k. HasOneOutcome c.args.office.now (upload_with k c.args.upload.body.now) in
    subst P (sym c.in-Readouts.is) (of-unknown c.args.office.now c.bands.ensures.sound.named c.in-Readouts.id.now c.args.upload.body.now c.in_default.ensures.none)

pub clock-clock-requires : goal.clock-clock-requires
clock-clock-requires c = within (λ (m : MeterText). m.id) c.args.office.now.meters c.in-Some.meter.0 c.in-Readouts.id.now c.in-Some.ensures.some

pub returns-then-eq : goal.returns-then-eq
returns-then-eq c =
    let P : UploadKind → Type 0 = λ k. HasOneOutcome c.args.office.now (upload_with k c.args.upload.body.now) in
    let marked : c.clock-clock.result ≡ Marked = search rules in
    let clock : HasClock c.args.office.now c.in-Some.meter.0 Marked = c.clock-clock.ensures ∙ ap Some marked in
    subst P (sym c.in-Readouts.is)
    (of-marked c.args.office.now c.bands.ensures.sound.named c.in-Readouts.id.now c.args.upload.body.now c.in-Some.meter.0 c.in-Some.ensures.some clock)

pub frames_have_an_outcome-requires-in-Readouts : goal.frames_have_an_outcome-requires-in-Readouts
frames_have_an_outcome-requires-in-Readouts c =
    within (λ (m : MeterText). m.id) c.args.office.now.meters c.in-Some.meter.0 c.in-Readouts.id.now c.in-Some.ensures.some

pub returns-in-Telegrams : goal.returns-in-Telegrams
returns-in-Telegrams c =
    let P : UploadKind → Type 0 = λ k. HasOneOutcome c.args.office.now (upload_with k c.args.upload.body.now) in
    subst P (sym c.in-Telegrams.is) (of-telegrams c.args.office.now c.bands.ensures.sound.named c.args.upload.body.now c.frames_have_an_outcome.ensures)

pub returns-else-eq : goal.returns-else-eq
returns-else-eq c =
    let P : UploadKind → Type 0 = λ k. HasOneOutcome c.args.office.now (upload_with k c.args.upload.body.now) in
    let unmarked : c.clock-clock.result ≡ Marked → ⊥ = search rules in
    subst P (sym c.in-Readouts.is)
    (of-readouts c.args.office.now c.bands.ensures.sound.named c.in-Readouts.id.now c.args.upload.body.now c.in-Some.meter.0 c.clock-clock.result
    (record { meter_is = c.in-Some.ensures.some; clock_is = c.clock-clock.ensures; unmarked = unmarked }) c.frames_have_an_outcome-in-Readouts.ensures)

pub returns-in-Assignments : goal.returns-in-Assignments
returns-in-Assignments c =
    let P : UploadKind → Type 0 = λ k. HasOneOutcome c.args.office.now (upload_with k c.args.upload.body.now) in
    subst P (sym c.in-Assignments.is) (of-assignments c.args.office.now c.bands.ensures.sound.named c.args.upload.body.now)

pub returns-in-TopUps : goal.returns-in-TopUps
returns-in-TopUps c =
    let P : UploadKind → Type 0 = λ k. HasOneOutcome c.args.office.now (upload_with k c.args.upload.body.now) in
    subst P (sym c.in-TopUps.is) (of-top_ups c.args.office.now c.bands.ensures.sound.named c.args.upload.body.now)

pub returns-in-Withdrawals : goal.returns-in-Withdrawals
returns-in-Withdrawals c =
    let P : UploadKind → Type 0 = λ k. HasOneOutcome c.args.office.now (upload_with k c.args.upload.body.now) in
    subst P (sym c.in-Withdrawals.is) (of-withdrawals c.args.office.now c.bands.ensures.sound.named c.args.upload.body.now)
