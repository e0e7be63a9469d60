use Rattle.std.proofs.Common.{◌≡◌, Vec, Global, refl, ap, ◌∙◌, subst, arith}
use Rattle.std.proofs.lemmas.Result.{on_ok_weaker}
use Rattle.pw_model.specs.Lists.{Lists}
use Rattle.pw_moving.specs.declared.change.Change.{Change}
use Rattle.pw_moving.specs.declared.change.Change.TheVariants as change
use Rattle.pw_moving.specs.Renaming.{Offices}
use Rattle.pw_moving.specs.Changes.{Differs, change_order}
use Rattle.pw_moving.specs.inner.Comparing.{Puts}
use Rattle.pw_moving.proofs.Lines.{confirmed, like-some, period-next, puts-nothing, puts-one, refuted, unlike-some}
use Rattle.pw_moving.proofs.comparing.put_period.Goals as goal
use Rattle.pw_moving.proofs.comparing.put_period.Goals.{then-period_start+in_ok-push-3, else-period_start, then-not-is_same_week+in_ok-push-4, else-not-is_same_week}

pub returns : goal.returns
returns c =
    let o : Offices = record { old = c.args.old.now; new = c.args.new.now } in
    let olds = c.periods.ensures.count in
    let news = c.periods-2.ensures.count in
    let first = c.if-periods-period.false in
    let second = c.if-periods-period-2.false in
    let start : Puts (Lists change_order (λ x. Differs o x × (x ≡ change.Start c.args.period))) c.args.changes.now.items c.if-period_start.changes.items = elim c.if-period_start.branch [
      | then-period_start+in_ok-push-3 w ↦ puts-one (λ x. Differs o x × (x ≡ change.Start c.args.period)) (change.Start c.args.period) c.args.changes.now.items c.if-period_start.changes.items
          (ap (λ (v : Vec Change Global). v.items) w.changes-is ∙ w.in_ok-push-3.ensures.items)
          (unlike-some _ _ c.period_start.result c.period_start-2.result c.period_start.ensures c.period_start-2.ensures w.if-period_start.true, refl) (λ y h. h.1)
      | else-period_start w ↦ puts-nothing (λ x. Differs o x × (x ≡ change.Start c.args.period)) c.args.changes.now.items c.if-period_start.changes.items
          (ap (λ (v : Vec Change Global). v.items) w.changes-is)
          (λ y h. like-some _ _ c.period_start.result c.period_start-2.result c.period_start.ensures c.period_start-2.ensures w.if-period_start.false
          (subst (λ (z : Change). Differs o z) h.1 h.0))
    ] in
    let week : Puts (Lists change_order (λ x. Differs o x × (x ≡ change.Week c.args.period))) c.if-period_start.changes.items c.if-not-is_same_week.changes.items = elim c.if-not-is_same_week.branch [
      | then-not-is_same_week+in_ok-push-4 w ↦ puts-one (λ x. Differs o x × (x ≡ change.Week c.args.period)) (change.Week c.args.period) c.if-period_start.changes.items c.if-not-is_same_week.changes.items
          (ap (λ (v : Vec Change Global). v.items) w.changes-is ∙ w.in_ok-push-4.ensures.items)
          (((omega (arith, olds, first), omega (arith, news, second)), refuted c.is_same_week.result w.if-not-is_same_week.true c.is_same_week.ensures), refl) (λ y h. h.1)
      | else-not-is_same_week w ↦ puts-nothing (λ x. Differs o x × (x ≡ change.Week c.args.period)) c.if-period_start.changes.items c.if-not-is_same_week.changes.items
          (ap (λ (v : Vec Change Global). v.items) w.changes-is)
          (λ y h. (subst (λ (z : Change). Differs o z) h.1 h.0).1 (confirmed c.is_same_week.result w.if-not-is_same_week.false c.is_same_week.ensures))
    ] in
    on_ok_weaker c.put_prices.result (λ h. period-next o c.args.period c.args.changes.now.items c.if-period_start.changes.items c.if-not-is_same_week.changes.items c.put_prices.new.changes.items
    (omega (arith, olds, first)) (omega (arith, news, second)) start week h) c.put_prices.ensures
