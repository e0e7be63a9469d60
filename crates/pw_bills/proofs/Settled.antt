-- A bill, from the balance of all time less what is behind.
use Rattle.std.proofs.Common.{◌≡◌, ℕ, zero, suc, ◌*◌, ◌-◌, ◌<◌, ◌≤◌, ◌^◌, min, Some, List, [], ◌∷◌, get_or, ℤ, pos, neg_ℤ, ◌≤ℤ◌, sym, subst, ◌∙◌, inl, inr, arith, length}
use Rattle.std.proofs.lemmas.Bool.{cases_lt}
use Rattle.std.proofs.lemmas.Int.{ints}
use Rattle.pw_time.specs.declared.instant.TheConstants.{END_SECOND}
use Rattle.pw_tariff.specs.declared.ids.AccountId.{AccountId}
use Rattle.pw_tariff.specs.declared.ids.Direction.{Direction}
use Rattle.pw_tariff.specs.declared.ids.Direction.TheVariants.{Import, Export}
use Rattle.pw_tariff.specs.Office.{OfficeRules}
use Rattle.pw_model.specs.declared.records.Entry.{Entry}
use Rattle.pw_model.specs.Counting.{contents_at}
use Rattle.pw_model.specs.Energy.{account, over_bands, over_periods}
use Rattle.pw_model.specs.Office.{AllOfOffice, IsOffice, most_records}
use Rattle.pw_model.specs.Payments.{balance}
use Rattle.pw_model.proofs.PlainEnergy.{cost-fits, topped-fits}
use Rattle.pw_months.specs.Between.{cost_between, topped_up_between}
use Rattle.pw_months.specs.Bills.{balance_at, settled}
use Rattle.pw_months.proofs.BillSums.{balance-behind, bill-balances, cost-empty}
use Rattle.pw_months.proofs.Cents.{topped-all, topped-shared}
use Rattle.pw_bills.specs.declared.energies.Energies.{Energies}
use Rattle.pw_bills.specs.Energies.{TellsEnergies}
use Rattle.pw_bills.specs.Stretches.{AreStretches, end_of}
use Rattle.pw_bills.specs.inner.Settling.{TellsFlows, band_id, cost_told, period_id, unsettled}

-- ---- one stretch, or two
two-rise : (x y end i : ℕ) → x < y → y < end → i < 2 → get_or (x ∷ y ∷ []) i 0 < end_of (x ∷ y ∷ []) end i
two-rise x y end zero h k l = h
two-rise x y end (suc zero) h k l = k
two-rise x y end (suc (suc i)) h k l = absurd (omega (arith, l))

pub two-stretches : (x y : ℕ) → x < y → y < END_SECOND → AreStretches (x ∷ y ∷ []) END_SECOND
two-stretches x y h k = record { some = omega arith; few = omega arith; rising = λ i l. two-rise x y END_SECOND i h k l; ended = omega arith }

pub two-told : (office : OfficeRules) (s : List Entry) (a : AccountId) (x y : ℕ) (e : Energies) → TellsEnergies office s a (x ∷ y ∷ []) END_SECOND e → TellsFlows office s a x y e
two-told office s a x y e h = record {
  within = λ p b d. h 0 (omega arith) p b d;
  behind = λ l p b d. h 1 (omega arith) p b d;
}

pub one-told : (office : OfficeRules) (s : List Entry) (a : AccountId) (x y : ℕ) (e : Energies) → END_SECOND ≤ y → y ≤ END_SECOND → TellsEnergies office s a (x ∷ []) END_SECOND e → TellsFlows office s a x y e
one-told office s a x y e l r h =
    let same : END_SECOND ≡ y = omega (arith, l, r) in
    let P : ℕ → Type 0 = λ z. TellsFlows office s a x z e in
    subst P same (record {
      within = λ p b d. h 0 (omega arith) p b d;
      behind = λ k p b d. absurd (omega (arith, k));
    })

-- ---- costs
module _ (office : OfficeRules) (s : List Entry) (a : AccountId) (from to : ℕ) (e : Energies) (h : TellsFlows office s a from to e) where
  pub cost-within : (d : Direction) → cost_told office e 0 d ≡ cost_between office (contents_at s) (Some a) d from to
  unfolding cost_between
  cost-within d = λ i. over_periods office (λ p. over_bands office (λ b. office.price p b d * h.within (period_id p) (band_id b) d i))

  some-behind : to < END_SECOND → (d : Direction) → cost_told office e 1 d ≡ cost_between office (contents_at s) (Some a) d to END_SECOND
  unfolding cost_between
  some-behind l d = λ i. over_periods office (λ p. over_bands office (λ b. office.price p b d * h.behind l (period_id p) (band_id b) d i))

  pub cost-behind : (d : Direction) (nano : ℕ) → to ≤ END_SECOND → (to < END_SECOND → nano ≡ cost_told office e 1 d) → (END_SECOND ≤ to → nano ≡ 0) → nano ≡ cost_between office (contents_at s) (Some a) d to END_SECOND
  cost-behind d nano w some none = elim (cases_lt to END_SECOND) [
    | inl l ↦ some l ∙ some-behind l d
    | inr l ↦ (
        let same : END_SECOND ≡ to = omega (arith, l, w) in
        let P : ℕ → Type 0 = λ z. nano ≡ cost_between office (contents_at s) (Some a) d z END_SECOND in
        subst P same (none l ∙ sym (cost-empty office (contents_at s) (Some a) d END_SECOND)))
  ]

-- ---- amounts
unsettled-settled : (nano : ℤ) (x p e : ℕ) → unsettled (settled nano x p e) x p e ≡ nano
unsettled-settled nano x p e = omega (arith, ints)

-- what is settled is unsettled again
pub back : (now before : ℤ) (x p e c i o : ℕ) (is : ℤ) → is ≡ now → now ≡ settled before x p e → c ≡ x → i ≡ p → o ≡ e → unsettled is c i o ≡ before
back now before x p e c i o is h k cs is_in is_out =
    (λ j. unsettled ((h ∙ k) j) (cs j) (is_in j) (is_out j)) ∙ unsettled-settled before x p e

pub balance-near : (office : OfficeRules) (s : List Entry) (a : ℕ) → IsOffice office → AllOfOffice office s → length s ≤ most_records →
    (neg_ℤ (pos (2 ^ 120)) ≤ℤ balance office s a) × (balance office s a ≤ℤ pos (2 ^ 120))
balance-near office s a o h few =
    let t = topped-fits office s a o h few in
    let i = cost-fits office s (Some (account a)) Import o h few in
    let e = cost-fits office s (Some (account a)) Export o h few in
    (omega (arith, ints, t, i, e), omega (arith, ints, t, i, e))

pub topped-capped : (office : OfficeRules) (s : List Entry) (a from to cents : ℕ) → IsOffice office → AllOfOffice office s → length s ≤ most_records → from ≤ to → to ≤ END_SECOND →
    cents ≡ topped_up_between s a from to → min cents (2 ^ 64 - 1) ≡ topped_up_between s a from to
topped-capped office s a from to cents o h few l r e =
    let t = topped-fits office s a o h few in
    let all = topped-all office s a END_SECOND h (omega arith) in
    let first = topped-shared s a 0 from END_SECOND (omega arith) (omega (arith, l, r)) in
    let second = topped-shared s a from to END_SECOND l r in
    omega (arith, t, all, first, second, e)

-- ---- the bill's ends
module _ (office : OfficeRules) (s : List Entry) (a : AccountId) (from to : ℕ) (o : IsOffice office) (h : AllOfOffice office s) (r : to ≤ END_SECOND) where
  pub end-told : (near : ℤ) (cents imported exported : ℕ) → near ≡ balance office s a.0 → cents ≡ topped_up_between s a.0 to END_SECOND → imported ≡ cost_between office (contents_at s) (Some a) Import to END_SECOND →
      exported ≡ cost_between office (contents_at s) (Some a) Export to END_SECOND → unsettled near cents imported exported ≡ balance_at office s a.0 to
  end-told near cents imported exported n c i e =
      let all = balance-behind office s a.0 to END_SECOND o h r (omega (arith, o.end)) in
      back (balance office s a.0) (balance_at office s a.0 to) _ _ _ cents imported exported near n all c i e

  pub begin-told : (end : ℤ) (cents imported exported : ℕ) → from ≤ to → end ≡ balance_at office s a.0 to → cents ≡ topped_up_between s a.0 from to → imported ≡ cost_between office (contents_at s) (Some a) Import from to →
      exported ≡ cost_between office (contents_at s) (Some a) Export from to → unsettled end cents imported exported ≡ balance_at office s a.0 from
  begin-told end cents imported exported l n c i e =
      let all = (bill-balances office s a.0 from to l).end in
      back (balance_at office s a.0 to) (balance_at office s a.0 from) _ _ _ cents imported exported end n all c i e
