use Rattle.std.proofs.Common.{◌≡◌, ℕ, Option, List, map, ◌∙◌, subst, sym}
use Rattle.std.specs.declared.ops.Bound.TheVariants.{Included}
use Rattle.pw_tariff.specs.declared.ids.AccountId.{AccountId}
use Rattle.pw_tariff.specs.declared.ids.MeterId.{MeterId}
use Rattle.pw_time.specs.declared.instant.TheConstants.{FIRST_SECOND, LAST_SECOND}
use Rattle.pw_shelf.specs.Orders.{start_order}
use Rattle.pw_model.specs.Seconds.{ListsSeconds}
use Rattle.pw_shelf.specs.Standing.{start_now}
use Rattle.pw_shelf.specs.inner.Table.{rows_between}
use Rattle.pw_shelf.proofs.Within.{starts-all}
use Rattle.pw_shelf.proofs.starts.Starts.of.Goals as goal

pub returns-clause-rows : goal.returns-clause-rows
returns-clause-rows c =
    let told : ℕ → ℕ → List (ℕ × Option AccountId) =
    λ from to. map (λ (e : (MeterId × ℕ) × Option AccountId). (e.0.1, e.1))
    (rows_between start_order (Included (c.args.meter, from)) (Included (c.args.meter, to)) c.args.self.now.table) in
    let first : c.in-Some.first ≡ FIRST_SECOND = c.in-Some.ensures.value in
    let last : c.in-Some-of.last ≡ LAST_SECOND = c.in-Some-of.ensures.value in
    let P : List (ℕ × Option AccountId) → Type 0 = ListsSeconds (start_now c.args.self.now.table c.args.meter.0) in
    subst P (sym (c.in_ok-found.ensures.starts ∙ (λ i. told (first i) (last i))))
    (starts-all c.args.meter c.args.self.now.table c.in_ok-found.ensures.ordered c.args.self.now.dated)
