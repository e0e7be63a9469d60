use Rattle.std.proofs.Common.{◌≡◌, ◌∙◌, ◌/◌, ℕ, pos, ◌+ℤ◌, ◌-ℤ◌, FitsSigned, ap, arith, rules}
use Rattle.std.specs.Int.{w128}
use Rattle.std.proofs.lemmas.Int.{ints, to_z-of_z}
use Rattle.pw_tariff.specs.declared.ids.Direction.TheVariants.{Import, Export}
use Rattle.pw_report.specs.Amounts.{cents_below}
use Rattle.pw_report.specs.inner.Told.{bill_of_sheet}
use Rattle.pw_report.proofs.BillCents.{IsNear, cents-of, near-is, rounding-fits, rounding-is}
use Rattle.pw_report.proofs.bills.amounts_of.Goals as goal

pub overflow_sub-result-2 : goal.overflow_sub-result-2
overflow_sub-result-2 c =
    let begin : IsNear c.in_cents-begin.result = record { low = c.in_cents-begin.ensures.low; high = c.in_cents-begin.ensures.high } in
    let end : IsNear c.in_cents-end.result = record { low = c.in_cents-end.ensures.low; high = c.in_cents-end.ensures.high } in
    let paid = c.from-topped_up.ensures in
    let topped : IsNear c.from-topped_up.result = record { low = omega (arith, ints, paid); high = omega (arith, ints, paid) } in
    rounding-fits c.in_cents-begin.result c.from-topped_up.result c.in_cents-end.result c.whole_cost.result c.whole_cost-2.result begin topped end c.whole_cost.ensures.bound c.whole_cost-2.ensures.bound

pub returns : goal.returns
returns c =
    let told = c.args.sheet.now.bill.now in
    let bill = bill_of_sheet c.args.sheet.now in
    let begin : IsNear c.in_cents-begin.result = record { low = c.in_cents-begin.ensures.low; high = c.in_cents-begin.ensures.high } in
    let end : IsNear c.in_cents-end.result = record { low = c.in_cents-end.ensures.low; high = c.in_cents-end.ensures.high } in
    let paid = c.from-topped_up.ensures in
    let topped : IsNear c.from-topped_up.result = record { low = omega (arith, ints, paid); high = omega (arith, ints, paid) } in
    let begin_fits : FitsSigned w128 told.begin = search rules in
    let end_fits : FitsSigned w128 told.end = search rules in
    let begun : c.in_cents-begin.result ≡ cents_below told.begin = c.in_cents-begin.ensures.cents ∙ ap cents_below (to_z-of_z w128 told.begin begin_fits) in
    let ended : c.in_cents-end.result ≡ cents_below told.end = c.in_cents-end.ensures.cents ∙ ap cents_below (to_z-of_z w128 told.end end_fits) in
    let imported : c.whole_cost.result ≡ bill.whole_cost Import = c.whole_cost.ensures.cost in
    let exported : c.whole_cost-2.result ≡ bill.whole_cost Export = c.whole_cost-2.ensures.cost in
    record {
      begin_is = near-is _ begin ∙ begun;
      topped_up_is = near-is _ topped ∙ paid;
      imported_is = cents-of _ c.whole_cost.ensures.bound ∙ ap (λ (n : ℕ). pos (n / 10_000_000)) imported;
      exported_is = cents-of _ c.whole_cost-2.ensures.bound ∙ ap (λ (n : ℕ). pos (n / 10_000_000)) exported;
      end_is = near-is _ end ∙ ended;
      rounding_is = rounding-is c.in_cents-begin.result c.from-topped_up.result c.in_cents-end.result c.whole_cost.result c.whole_cost-2.result begin topped end c.whole_cost.ensures.bound c.whole_cost-2.ensures.bound
          ∙ (λ i. ended i -ℤ (((begun i +ℤ paid i) -ℤ pos (imported i / 10_000_000)) +ℤ pos (exported i / 10_000_000)));
    }
