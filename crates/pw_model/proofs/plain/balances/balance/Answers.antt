use Rattle.std.proofs.Common.{◌≡◌, ◌*◌, ℤ, pos, ◌+ℤ◌, ◌-ℤ◌, ap, ◌∙◌, arith, to_z, of_z, FitsSigned}
use Rattle.std.specs.Int.{w128}
use Rattle.std.proofs.lemmas.Int.{to_z-of_z}
use Rattle.pw_tariff.specs.Office.{office_of}
use Rattle.pw_model.specs.Payments.{balance}
use Rattle.pw_model.proofs.PlainEnergy.{topped-fits, balance-fits}
use Rattle.pw_model.proofs.plain.balances.balance.Goals as goal

pub overflow_mul-paid : goal.overflow_mul-paid
overflow_mul-paid c =
    let t = topped-fits (office_of c.args.terms.now) c.args.entries.now c.args.account.0 c.requires.office c.requires.entries c.requires.few in
    omega (arith, t, c.topped_up-paid.ensures)

pub left_over-requires : goal.left_over-requires
left_over-requires c =
    let t = topped-fits (office_of c.args.terms.now) c.args.entries.now c.args.account.0 c.requires.office c.requires.entries c.requires.few in
    record {
      paid = omega (arith, t, c.topped_up-paid.ensures);
      imported = omega (arith, c.in_ok-imported.ensures.bound);
      exported = omega (arith, c.in_ok-exported.ensures.bound);
    }

pub returns : goal.returns
returns c =
    let office = office_of c.args.terms.now in
    let e : c.left_over.result ≡ balance office c.args.entries.now c.args.account.0 =
    c.left_over.ensures ∙ (λ i. (pos (10_000_000 * c.topped_up-paid.ensures i) -ℤ pos (c.in_ok-imported.ensures.cost i)) +ℤ pos (c.in_ok-exported.ensures.cost i)) in
    let f : FitsSigned w128 (balance office c.args.entries.now c.args.account.0) = balance-fits office c.args.entries.now c.args.account.0 c.requires.office c.requires.entries c.requires.few in
    ap (λ (z : ℤ). to_z w128 (of_z w128 z)) e ∙ to_z-of_z w128 (balance office c.args.entries.now c.args.account.0) f
