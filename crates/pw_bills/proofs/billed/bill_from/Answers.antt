use Rattle.std.proofs.Common.{◌≡◌, ◌∙◌, ◌≤◌, ◌≤ℤ◌, ◌^◌, ℕ, ℤ, pos, neg_ℤ, to_z, of_z, ap, subst, sym, arith}
use Rattle.std.specs.Int.{w128}
use Rattle.std.specs.List.{sum_by}
use Rattle.std.proofs.lemmas.Int.{to_z-of_z}
use Rattle.pw_time.specs.declared.instant.TheConstants.{END_SECOND}
use Rattle.pw_tariff.specs.declared.ids.Direction.TheVariants.{Import, Export}
use Rattle.pw_tariff.specs.Office.{office_of}
use Rattle.pw_model.specs.Payments.{balance as balance_of}
use Rattle.pw_model.proofs.SoundOffice.{sound-office}
use Rattle.pw_months.specs.Between.{topped_up_between}
use Rattle.pw_bills.specs.inner.TopUpRows.{cents_within}
use Rattle.pw_bills.proofs.PaidSums.{rows-add_up}
use Rattle.pw_bills.proofs.Settled.{balance-near, begin-told, cost-behind, cost-within, end-told, topped-capped}
use Rattle.pw_bills.proofs.billed.bill_from.Goals as goal

pub returns : goal.returns
returns c = λ s a all few balance rows flows.
    let office = office_of c.args.office.now in
    let from : ℕ = c.args.from in
    let until : ℕ = c.args.until in
    let later = c.requires.later in
    let ended = c.requires.ended in
    let up : from ≤ until = omega (arith, later) in
    let is = sound-office c.args.office.now c.cost_of.ensures.office in
    let bounds = balance-near office s a.0 is all few in
    let told : to_z w128 (of_z w128 c.args.balance) ≡ balance_of office s a.0 = to_z-of_z w128 c.args.balance c.ranges.balance ∙ balance in
    let least : neg_ℤ (pos (2 ^ 120)) ≤ℤ to_z w128 (of_z w128 c.args.balance) = subst (λ (z : ℤ). neg_ℤ (pos (2 ^ 120)) ≤ℤ z) (sym told) bounds.0 in
    let most : to_z w128 (of_z w128 c.args.balance) ≤ℤ pos (2 ^ 120) = subst (λ (z : ℤ). z ≤ℤ pos (2 ^ 120)) (sym told) bounds.1 in
    let near : to_z w128 (of_z w128 c.near.result) ≡ balance_of office s a.0
    = to_z-of_z w128 c.near.result (record { sfits = c.near.type_inv }) ∙ c.near.ensures.same least most ∙ told in
    let behind : c.cents_of.result ≡ topped_up_between s a.0 until END_SECOND
    = c.cents_of.ensures.cents ∙ sym (rows-add_up office s a from END_SECOND until END_SECOND c.args.rows.now all up (omega arith) rows) in
    let within : c.cents_of-cents.result ≡ topped_up_between s a.0 from until
    = c.cents_of-cents.ensures.cents ∙ ap (λ (x : ℕ). sum_by (cents_within x until) c.args.rows.now) c.seconds.ensures.value
    ∙ sym (rows-add_up office s a from END_SECOND from until c.args.rows.now all (omega arith) ended rows) in
    let end = to_z-of_z w128 c.before-end.result (record { sfits = c.before-end.type_inv }) ∙ c.before-end.ensures
    ∙ end-told office s a from until is all ended (to_z w128 (of_z w128 c.near.result)) c.cents_of.result c.cost_behind.result c.cost_behind-2.result near behind
    (cost-behind office s a from until c.args.energies flows Import c.cost_behind.result ended c.cost_behind.ensures.some c.cost_behind.ensures.none)
    (cost-behind office s a from until c.args.energies flows Export c.cost_behind-2.result ended c.cost_behind-2.ensures.some c.cost_behind-2.ensures.none) in
    let begin = to_z-of_z w128 c.before-begin.result (record { sfits = c.before-begin.type_inv }) ∙ c.before-begin.ensures
    ∙ begin-told office s a from until is all ended (to_z w128 (of_z w128 c.before-end.result)) c.cents_of-cents.result c.cost_of.result c.cost_of-2.result up end within
    (c.cost_of.ensures.cost ∙ cost-within office s a from until c.args.energies flows Import)
    (c.cost_of-2.ensures.cost ∙ cost-within office s a from until c.args.energies flows Export) in
    record {
      begin = begin;
      topped_up = c.capped.ensures ∙ topped-capped office s a.0 from until c.cents_of-cents.result is all few up ended within;
      energy = λ p b d. flows.within p b d;
      end = end;
    }
