-- One more counting assignment.
use Rattle.std.proofs.Common.{◌≡◌, ℕ, ◌+◌, ◌<◌, ◌≤◌, cond, Option, Some, ap, arith}
use Rattle.pw_tariff.specs.declared.ids.AccountId.{AccountId}
use Rattle.pw_obis.specs.declared.reference.Register.{Register}
use Rattle.pw_obis.specs.declared.reference.Register.TheVariants.{I0, I1, I2, E0, E1, E2}
use Rattle.pw_tariff.specs.declared.ids.Direction.{Direction}
use Rattle.pw_tariff.specs.declared.ids.Direction.TheVariants.{Import, Export}
use Rattle.pw_model.specs.declared.records.Key.{Key}
use Rattle.pw_model.specs.declared.records.Key.TheVariants as key
use Rattle.pw_model.specs.declared.records.Contents.{Contents}
use Rattle.pw_model.specs.Counting.{start, wh_of, owner_of, reading_key, assignment_key}
use Rattle.pw_tariff.specs.Office.{OfficeRules}
use Rattle.pw_tariff.specs.Owners.{owner_from}
use Rattle.pw_model.specs.Energy.{Asked, asked_seconds, owner_at, over_registers, share_of, meter_share, energy_where}
use Rattle.pw_model.specs.Changes.{OneMoreAssignment}
use Rattle.pw_model.specs.Changes.{IsOtherStart}
use Rattle.pw_flow.specs.Time.{last}
use Rattle.pw_flow.specs.Energy.{register_energy}
use Rattle.pw_flow.proofs.Sums.{sum-change}
use Rattle.pw_flow.proofs.Points.{last-same, last-same_from}

abbrev meter_in : Key → ℕ
meter_in (key.Assignment m t) = m.0
meter_in _ = 0

abbrev start_in : Key → ℕ
start_in (key.Assignment m t) = t
start_in _ = 0

registers-add : (d : Direction) (f g a b : Register → ℕ) → ((r : Register) → g r + a r ≡ f r + b r) → over_registers d g + over_registers d a ≡ over_registers d f + over_registers d b
registers-add Import f g a b h = omega (arith, h I0, h I1, h I2)
registers-add Export f g a b h = omega (arith, h E0, h E1, h E2)

-- where all agrees at the other keys, another start is all that is told
pub one-start : (old new : Key → Contents) (m z : ℕ) → ((k : Key) → (k ≡ assignment_key m z → ⊥) → old k ≡ new k) → IsOtherStart old new m z
one-start old new m z h = record {
  points = λ i n r t. wh_of (h (reading_key n r t) (λ j. cc) i);
  elsewhere = λ n t d. ap owner_of (h (assignment_key n t) (λ j. d (ap meter_in j) (ap start_in j)));
}

pub before-start : (old new : Key → Contents) (m z : ℕ) → IsOtherStart old new m z → (t : ℕ) → t < z → owner_at old m t ≡ owner_at new m t
unfolding owner_at
before-start old new m z h t l = ap owner_from (last-same (start old m) (start new m) t (λ s k. h.elsewhere m s (λ _ j. omega arith)))

pub behind-next : (old new : Key → Contents) (m z : ℕ) → IsOtherStart old new m z → (y t : ℕ) (o : Option AccountId) → start old m y ≡ Some o → z < y → y ≤ t → owner_at old m t ≡ owner_at new m t
unfolding owner_at
behind-next old new m z h y t o e l g = ap owner_from (last-same_from (start old m) (start new m) y t o e g (λ s k. h.elsewhere m s (λ _ j. omega arith)))

other-meters : (old new : Key → Contents) (m z : ℕ) → IsOtherStart old new m z → (n t : ℕ) → (n ≡ m → ⊥) → owner_at old n t ≡ owner_at new n t
unfolding owner_at
other-meters old new m z h n t d = ap owner_from (last-same (start old n) (start new n) t (λ s k. h.elsewhere n s (λ i _. d i)))

seconds-same : (old new : Key → Contents) (m z : ℕ) → IsOtherStart old new m z → (asked : Asked) (n : ℕ) → (n ≡ m → ⊥) → asked_seconds old asked n ≡ asked_seconds new asked n
unfolding owner_at
seconds-same old new m z h asked n d =
    let s : start old n ≡ start new n = λ i t. h.elsewhere n t (λ j _. d j) i in
    λ i t. asked (owner_from (last (s i) t)) t

meter-same : (office : OfficeRules) (old new : Key → Contents) (m z : ℕ) → IsOtherStart old new m z → (asked : Asked) (d : Direction) (n : ℕ) → (n ≡ m → ⊥) → meter_share office old d asked n ≡ meter_share office new d asked n
meter-same office old new m z h asked d n k =
    λ i. over_registers d (λ r. cond (office.counts n r) (register_energy (seconds-same old new m z h asked n k i) (h.points i n r) office.end) 0)

pub one-more_assignment : OneMoreAssignment
unfolding energy_where
one-more_assignment office old new m z h = record {
  before = before-start old new m z h;
  behind = behind-next old new m z h;
  others = other-meters old new m z h;
  points = λ n r i. h.points i n r;
  energies = λ asked d taken given l e. sum-change (meter_share office old d asked) (meter_share office new d asked) m (over_registers d taken) (over_registers d given) office.meters l
      (λ n k. meter-same office old new m z h asked d n k)
      (registers-add d (share_of office old asked m) (share_of office new asked m) taken given e);
}
