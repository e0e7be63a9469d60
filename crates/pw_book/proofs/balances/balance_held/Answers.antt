use Rattle.std.proofs.Common.{◌≡◌, ◌*◌, ◌<◌, ◌^◌, Some, ℤ, pos, ◌+ℤ◌, ◌-ℤ◌, ap, sym, subst, ◌∙◌, arith, to_z, of_z, FitsSigned}
use Rattle.std.specs.Int.{w128}
use Rattle.std.proofs.lemmas.Int.{to_z-of_z}
use Rattle.pw_tariff.specs.declared.ids.Direction.TheVariants.{Export}
use Rattle.pw_tariff.specs.Office.{office_of}
use Rattle.pw_model.specs.Counting.{contents_at}
use Rattle.pw_model.specs.declared.records.TotalKey.TheVariants.{TopUps}
use Rattle.pw_model.specs.Energy.{cost}
use Rattle.pw_model.specs.Payments.{balance}
use Rattle.pw_model.specs.Shelf.{ShelfContent}
use Rattle.pw_book.proofs.Capped.{difference-fits}
use Rattle.pw_book.proofs.balances.balance_held.Goals as goal

pub returns-clause-balance : goal.returns-clause-balance
returns-clause-balance g c = λ k.
    let second = c.total_held.ensures.asked.kept.clean k in
    let first = c.cost_held-2.ensures.asked.kept.clean second in
    let before = c.cost_held.ensures.asked.kept.clean first in
    let office = office_of c.args.office.now in
    let was = (g.S.Shelf.state c.args.shelf.now).content in
    let a = c.cost_held.ensures.asked.content first in
    let b = c.cost_held-2.ensures.asked.content second ∙ a in
    let imported = c.in_ok-imported.ensures.cost first in
    let exported = c.in_ok-exported.ensures.cost second ∙ ap (λ (d : ShelfContent). cost office (contents_at d.records) (Some c.args.account) Export) a in
    let cents = c.from-paid.ensures ∙ c.in_ok-cents.ensures.total k ∙ ap (λ (d : ShelfContent). d.total (TopUps c.args.account)) b ∙ (c.requires.truth before).totals (TopUps c.args.account) in
    let e : c.left_over.result ≡ balance office was.records c.args.account.0 =
    c.left_over.ensures ∙ (λ i. (pos (10_000_000 * cents i) -ℤ pos (imported i)) +ℤ pos (exported i)) in
    let paid : 10_000_000 * c.from-paid.result < 2 ^ 120 = omega arith in
    let fits : FitsSigned w128 (balance office was.records c.args.account.0) =
    subst (FitsSigned w128) e (subst (FitsSigned w128) (sym c.left_over.ensures) (difference-fits (10_000_000 * c.from-paid.result) c.in_ok-imported.imported c.in_ok-exported.exported paid c.in_ok-imported.ensures.bound c.in_ok-exported.ensures.bound)) in
    ap (λ (z : ℤ). to_z w128 (of_z w128 z)) e ∙ to_z-of_z w128 (balance office was.records c.args.account.0) fits
