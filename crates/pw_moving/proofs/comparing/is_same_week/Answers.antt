use Rattle.std.proofs.Common.{refl, sym, ◌∙◌, arith}
use Rattle.std.proofs.lemmas.Bool.{true≢false}
use Rattle.pw_moving.proofs.Weekly.{days-more, days-none, hours-more, hours-none, other-numbers, same-numbers, week-whole}
use Rattle.pw_moving.proofs.comparing.is_same_week.Goals as goal

pub loop-day-init : goal.loop-day-init
loop-day-init c = days-none (record { old = c.args.old.now; new = c.args.new.now }) c.args.period.0

pub loop-hour-init : goal.loop-hour-init
loop-hour-init c = hours-none (record { old = c.args.old.now; new = c.args.new.now }) c.args.period.0 c.loop-day.day

pub loop-hour-preserved : goal.loop-hour-preserved
loop-hour-preserved c = hours-more (record { old = c.args.old.now; new = c.args.new.now }) c.args.period.0 c.loop-day.day c.loop-hour.hour c.loop-hour.invariant
    (sym c.band_of_hour.ensures.band ∙ same-numbers c.band_of_hour.result.0 c.band_of_hour-in-loop-hour.result.0 c.if-ne.ensures ∙ c.band_of_hour-in-loop-hour.ensures.band)

pub loop-day-preserved : goal.loop-day-preserved
loop-day-preserved c =
    let past = c.loop-hour-test.false in
    days-more (record { old = c.args.old.now; new = c.args.new.now }) c.args.period.0 c.loop-day.day c.loop-day.invariant (λ hour l. c.loop-hour.invariant hour (omega (arith, l, past)))

pub returns-then-ne : goal.returns-then-ne
returns-then-ne c = (
  λ i. absurd (true≢false (sym i)),
  λ h. absurd (other-numbers c.band_of_hour.result.0 c.band_of_hour-in-loop-hour.result.0 c.if-ne.ensures
      (c.band_of_hour.ensures.band ∙ h c.loop-day.day c.loop-hour.hour c.loop-day-test.true c.loop-hour-test.true ∙ sym c.band_of_hour-in-loop-hour.ensures.band)),
)

pub returns : goal.returns
returns c =
    let past = c.loop-day-test.false in
    (λ i. week-whole (record { old = c.args.old.now; new = c.args.new.now }) c.args.period.0 (λ day l. c.loop-day.invariant day (omega (arith, l, past))), λ h. refl)
