use Rattle.std.proofs.Common.{◌≡◌, All, List, [], ◌∷◌, ◌++◌, ap, sym, subst, ◌∙◌}
use Rattle.std.specs.List.Sorted.{IsStrictlyIncreasing}
use Rattle.pw_time.specs.Instants.{IsInstant}
use Rattle.pw_flow.specs.declared.plain.Point.{Point}
use Rattle.pw_flow.specs.Plain.{value_at}
use Rattle.pw_flow.specs.inner.Plain.{times_of}
use Rattle.pw_model.proofs.Places.{at-told, take-all}
use Rattle.pw_model.proofs.PlainPoints.{point_of, counted, counted-next, counted-pass, instants-more, points-rise, points-told}
use Rattle.pw_model.proofs.plain.points.points_of.Goals as goal
use Rattle.pw_model.proofs.plain.points.points_of.Goals.{then-row+in_ok-push, else-row}

pub loop-row-preserved : goal.loop-row-preserved
loop-row-preserved c =
    let at = at-told c.deref-row-items.result.now c.loop-row.row-index c.row-item.result c.loop-row-test.true c.row-item.is in
    elim c.if-row.branch [
      | then-row+in_ok-push w ↦ (
          let point : Point = record { at = w.seconds.result; watt_hours = w.get.result } in
          let next = counted-next c.deref-row-items.result.now c.loop-row.row-index c.row-item.result at w.if-row.true in
          let push : c.if-row.points.items ≡ c.loop-row.points.items ++ point ∷ [] = ap (λ v. v.items) w.points-is ∙ w.in_ok-push.ensures.items in
          let same : point ≡ point_of c.row-item.result = λ i. record { at = w.seconds.ensures.value i; watt_hours = w.get.ensures.value i } in
          let P : List Point → Type 0 = λ ps. All (λ p. IsInstant p.at) ps in
          record {
            points = push ∙ (λ i. c.loop-row.invariant.points i ++ same i ∷ []) ∙ sym next;
            instants = subst P (sym push) (instants-more c.loop-row.points.items point c.loop-row.invariant.instants w.seconds.ensures.within);
          })
      | else-row w ↦ record {
        points = ap (λ v. v.items) w.points-is ∙ c.loop-row.invariant.points ∙ sym (counted-pass c.deref-row-items.result.now c.loop-row.row-index c.row-item.result at w.if-row.false);
        instants = rw w.points-is c.loop-row.invariant.instants;
      }
    ]

pub returns-clause-rising : goal.returns-clause-rising
returns-clause-rising c =
    let all : c.loop-row.points.items ≡ counted c.in_ok-rows.rows.items
    = c.loop-row.invariant.points ∙ ap counted (take-all c.deref-row-items.result.now c.loop-row.row-index c.loop-row-test.false ∙ c.deref-row-items.ensures.value) in
    let P : List Point → Type 0 = λ ps. IsStrictlyIncreasing (times_of ps) in
    subst P (sym all) (points-rise c.args.entries.now c.args.meter.0 c.args.register c.in_ok-rows.rows.items c.in_ok-rows.ensures)

pub returns-clause-values : goal.returns-clause-values
returns-clause-values c =
    let all : c.loop-row.points.items ≡ counted c.in_ok-rows.rows.items
    = c.loop-row.invariant.points ∙ ap counted (take-all c.deref-row-items.result.now c.loop-row.row-index c.loop-row-test.false ∙ c.deref-row-items.ensures.value) in
    λ t l. ap (λ ps. value_at ps t) all ∙ points-told c.args.entries.now c.args.meter.0 c.args.register c.in_ok-rows.rows.items t c.in_ok-rows.ensures
