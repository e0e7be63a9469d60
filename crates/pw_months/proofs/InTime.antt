-- Conservation in time.
use Rattle.std.proofs.Common.{◌≡◌, ℕ, Option, sym, ◌∙◌}
use Rattle.pw_tariff.specs.declared.ids.AccountId.{AccountId}
use Rattle.pw_model.specs.Counting.{contents_at}
use Rattle.pw_model.specs.Energy.{energy, energy_in_period, of_class, over_bands, over_owners, over_periods}
use Rattle.pw_model.proofs.Exchange.{sum-swap}
use Rattle.pw_model.proofs.Periods.{energy-of_periods}
use Rattle.pw_model.proofs.Whole.{nothing-is_lost}
use Rattle.pw_months.specs.Between.{energy_between}
use Rattle.pw_months.specs.Bills.{last_cut, over_cuts}
use Rattle.pw_months.specs.Laws.{NothingIsLostInTime}
use Rattle.pw_months.proofs.Shared.{between-all, pieces-of_time_add_up}

pub nothing-is_lost_in_time : NothingIsLostInTime
nothing-is_lost_in_time office s d cuts j i h c l =
    let one : (o : Option AccountId) (p b : ℕ) → over_cuts (energy_between office s o p b d) 0 cuts ≡ energy_in_period office s o p b d
    = λ o p b. pieces-of_time_add_up office (contents_at s) d (of_class office o p b) 0 cuts c
    ∙ between-all office (contents_at s) d (of_class office o p b) (last_cut 0 cuts) l in
    let all : (o : Option AccountId) →
    over_periods office (λ p. over_bands office (λ b. energy_in_period office s o p b d))
    ≡ over_bands office (λ b. energy office s o b d)
    = λ o. sum-swap (λ p b. energy_in_period office s o p b d) office.periods 0 office.bands
    ∙ (λ k. over_bands office (λ b. sym (energy-of_periods office s o b d j) k)) in
    (λ k. over_owners office (λ o. over_periods office (λ p. over_bands office (λ b. one o p b k))))
    ∙ (λ k. over_owners office (λ o. all o k))
    ∙ nothing-is_lost office s d i h
