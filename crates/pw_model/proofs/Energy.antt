-- Energies by points and starts, and one more counting reading.
use Rattle.std.proofs.Common.{◌≡◌, ℕ, ◌+◌, Bool, true, cond, Option, Some, None, refl, ap, sym, ◌∙◌, arith}
use Rattle.pw_obis.specs.declared.reference.Register.{Register}
use Rattle.pw_obis.specs.declared.reference.Register.TheVariants.{I0, I1, I2, E0, E1, E2}
use Rattle.pw_tariff.specs.declared.ids.AccountId.{AccountId}
use Rattle.pw_tariff.specs.declared.ids.Direction.{Direction}
use Rattle.pw_tariff.specs.declared.ids.Direction.TheVariants.{Import, Export}
use Rattle.pw_model.specs.declared.records.Key.{Key}
use Rattle.pw_model.specs.declared.records.Key.TheVariants as key
use Rattle.pw_model.specs.declared.records.Contents.{Contents}
use Rattle.pw_model.specs.Counting.{point, start, wh_of, owner_of, reading_key, assignment_key}
use Rattle.pw_tariff.specs.Office.{OfficeRules}
use Rattle.pw_tariff.specs.Owners.{owner_from}
use Rattle.pw_model.specs.Energy.{Asked, asked_seconds, owner_at, over_registers, share_of, meter_share, energy_where}
use Rattle.pw_model.specs.Changes.{OneMoreReading}
use Rattle.pw_model.specs.Changes.{in_direction}
use Rattle.pw_model.specs.Changes.{IsOneMoreReading}
use Rattle.pw_flow.specs.Time.{last, sum_over}
use Rattle.pw_flow.specs.Energy.{register_energy}
use Rattle.pw_flow.specs.Pairs.{StandAround}
use Rattle.pw_flow.specs.Pairs.{IsMore}
use Rattle.pw_flow.specs.Pairs.{cell_between}
use Rattle.pw_flow.proofs.Sums.{sum-change}
use Rattle.pw_flow.proofs.Insert.{energy-more}

-- ---- energies go by points and starts alone
energy-by : OfficeRules → (ℕ → Register → ℕ → Option ℕ) → (ℕ → ℕ → Option (Option AccountId)) → Direction → Asked → ℕ
energy-by office p q d asked =
    sum_over (λ m. over_registers d (λ r. cond (office.counts m r) (register_energy (λ t. asked (owner_from (last (q m) t)) t) (p m r) office.end) 0)) 0 office.meters

energy-is : (office : OfficeRules) (at : Key → Contents) (d : Direction) (asked : Asked) → energy_where office at d asked ≡ energy-by office (point at) (start at) d asked
unfolding energy_where owner_at energy-by
energy-is office at d asked = refl

pub energy-alike : (office : OfficeRules) (at bt : Key → Contents) (d : Direction) (asked : Asked) → point at ≡ point bt → start at ≡ start bt → energy_where office at d asked ≡ energy_where office bt d asked
energy-alike office at bt d asked p q = energy-is office at d asked ∙ (λ i. energy-by office (p i) (q i) d asked) ∙ sym (energy-is office bt d asked)

-- ---- one counting reading more
-- a sum over a direction's registers of which one changes
pub registers-change : (d : Direction) (r : Register) (f g : Register → ℕ) (a b : ℕ) → ((s : Register) → (s ≡ r → ⊥) → f s ≡ g s) → g r + a ≡ f r + b →
    over_registers d g + in_direction d r a ≡ over_registers d f + in_direction d r b
registers-change Import I0 f g a b h e = let x : f I1 ≡ g I1 = h I1 (λ i. cc) in let y : f I2 ≡ g I2 = h I2 (λ i. cc) in omega arith
registers-change Import I1 f g a b h e = let x : f I0 ≡ g I0 = h I0 (λ i. cc) in let y : f I2 ≡ g I2 = h I2 (λ i. cc) in omega arith
registers-change Import I2 f g a b h e = let x : f I0 ≡ g I0 = h I0 (λ i. cc) in let y : f I1 ≡ g I1 = h I1 (λ i. cc) in omega arith
registers-change Export E0 f g a b h e = let x : f E1 ≡ g E1 = h E1 (λ i. cc) in let y : f E2 ≡ g E2 = h E2 (λ i. cc) in omega arith
registers-change Export E1 f g a b h e = let x : f E0 ≡ g E0 = h E0 (λ i. cc) in let y : f E2 ≡ g E2 = h E2 (λ i. cc) in omega arith
registers-change Export E2 f g a b h e = let x : f E0 ≡ g E0 = h E0 (λ i. cc) in let y : f E1 ≡ g E1 = h E1 (λ i. cc) in omega arith
registers-change Import E0 f g a b h e = let x : f I0 ≡ g I0 = h I0 (λ i. cc) in let y : f I1 ≡ g I1 = h I1 (λ i. cc) in let z : f I2 ≡ g I2 = h I2 (λ i. cc) in omega arith
registers-change Import E1 f g a b h e = let x : f I0 ≡ g I0 = h I0 (λ i. cc) in let y : f I1 ≡ g I1 = h I1 (λ i. cc) in let z : f I2 ≡ g I2 = h I2 (λ i. cc) in omega arith
registers-change Import E2 f g a b h e = let x : f I0 ≡ g I0 = h I0 (λ i. cc) in let y : f I1 ≡ g I1 = h I1 (λ i. cc) in let z : f I2 ≡ g I2 = h I2 (λ i. cc) in omega arith
registers-change Export I0 f g a b h e = let x : f E0 ≡ g E0 = h E0 (λ i. cc) in let y : f E1 ≡ g E1 = h E1 (λ i. cc) in let z : f E2 ≡ g E2 = h E2 (λ i. cc) in omega arith
registers-change Export I1 f g a b h e = let x : f E0 ≡ g E0 = h E0 (λ i. cc) in let y : f E1 ≡ g E1 = h E1 (λ i. cc) in let z : f E2 ≡ g E2 = h E2 (λ i. cc) in omega arith
registers-change Export I2 f g a b h e = let x : f E0 ≡ g E0 = h E0 (λ i. cc) in let y : f E1 ≡ g E1 = h E1 (λ i. cc) in let z : f E2 ≡ g E2 = h E2 (λ i. cc) in omega arith

-- where a reading's key is
abbrev meter_in : Key → ℕ
meter_in (key.Reading m r t) = m.0
meter_in _ = 0

abbrev register_in : Key → Register
register_in (key.Reading m r t) = r
register_in _ = I0

abbrev instant_in : Key → ℕ
instant_in (key.Reading m r t) = t
instant_in _ = 0

-- where all agrees at the other keys, one reading more is all that is told
pub one-reading : (old new : Key → Contents) (m : ℕ) (r : Register) (z w : ℕ) → point old m r z ≡ None → point new m r z ≡ Some w → ((k : Key) → (k ≡ reading_key m r z → ⊥) → old k ≡ new k) → IsOneMoreReading old new m r z w
one-reading old new m r z w f g h = record {
  free = f;
  here = g;
  elsewhere = λ n q t d. ap wh_of (h (reading_key n q t) (λ j. d (ap meter_in j) (ap register_in j) (ap instant_in j)));
  starts = λ i n t. owner_of (h (assignment_key n t) (λ j. cc) i);
}

-- the owners don't change
seconds-same : (old new : Key → Contents) (m : ℕ) (r : Register) (z w : ℕ) → IsOneMoreReading old new m r z w → (asked : Asked) (n : ℕ) → asked_seconds old asked n ≡ asked_seconds new asked n
unfolding owner_at
seconds-same old new m r z w h asked n = λ i t. asked (owner_from (last (h.starts i n) t)) t

-- nor do the readings of other meters and registers
point-same : (old new : Key → Contents) (m : ℕ) (r : Register) (z w : ℕ) → IsOneMoreReading old new m r z w → (n : ℕ) (s : Register) → (n ≡ m → s ≡ r → ⊥) → point old n s ≡ point new n s
point-same old new m r z w h n s d = λ i t. h.elsewhere n s t (λ a b _. d a b) i

share-same : (office : OfficeRules) (old new : Key → Contents) (m : ℕ) (r : Register) (z w : ℕ) → IsOneMoreReading old new m r z w → (asked : Asked) (n : ℕ) (s : Register) → (n ≡ m → s ≡ r → ⊥) →
    share_of office old asked n s ≡ share_of office new asked n s
share-same office old new m r z w h asked n s d =
    ap (λ (k : ℕ → Bool). cond (office.counts n s) (register_energy k (point old n s) office.end) 0) (seconds-same old new m r z w h asked n)
    ∙ ap (λ (p : ℕ → Option ℕ). cond (office.counts n s) (register_energy (asked_seconds new asked n) p office.end) 0) (point-same old new m r z w h n s d)

meter-same : (office : OfficeRules) (old new : Key → Contents) (m : ℕ) (r : Register) (z w : ℕ) → IsOneMoreReading old new m r z w → (asked : Asked) (d : Direction) (n : ℕ) → (n ≡ m → ⊥) →
    meter_share office old d asked n ≡ meter_share office new d asked n
meter-same office old new m r z w h asked d n l =
    let s : share_of office old asked n ≡ share_of office new asked n = λ i s. share-same office old new m r z w h asked n s (λ j _. l j) i in
    ap (λ (f : Register → ℕ). over_registers d f) s

share-more : (office : OfficeRules) (old new : Key → Contents) (m : ℕ) (r : Register) (z w : ℕ) (below above : Option (ℕ × ℕ)) →
    IsOneMoreReading old new m r z w → StandAround (point old m r) office.end z below above → office.counts m r ≡ true → (asked : Asked) →
    share_of office new asked m r + cell_between (asked_seconds old asked m) below above
    ≡ share_of office old asked m r + (cell_between (asked_seconds old asked m) below (Some (z, w)) + cell_between (asked_seconds old asked m) (Some (z, w)) above)
share-more office old new m r z w below above h g c asked =
    let more : IsMore (point old m r) (point new m r) z w = record { free = h.free; here = h.here; same = λ s d. h.elsewhere m r s (λ _ _. d) } in
    let e = energy-more (asked_seconds old asked m) (point old m r) (point new m r) office.end z w below above more g in
    rw (c, ← seconds-same old new m r z w h asked m) e

pub one-more_reading : OneMoreReading
unfolding energy_where
one-more_reading office old new m r z w below above h g l c asked d =
    let seconds = asked_seconds old asked m in
    let cells = cell_between seconds below (Some (z, w)) + cell_between seconds (Some (z, w)) above in
    let here : meter_share office new d asked m + in_direction d r (cell_between seconds below above) ≡ meter_share office old d asked m + in_direction d r cells
    = registers-change d r (share_of office old asked m) (share_of office new asked m) (cell_between seconds below above) cells
    (λ s n. share-same office old new m r z w h asked m s (λ _ j. n j))
    (share-more office old new m r z w below above h g c asked) in
    sum-change (meter_share office old d asked) (meter_share office new d asked) m (in_direction d r (cell_between seconds below above)) (in_direction d r cells) office.meters l
    (λ n i. meter-same office old new m r z w h asked d n i) here
