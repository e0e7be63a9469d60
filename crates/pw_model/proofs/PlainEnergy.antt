-- What the plain program adds up.
use Rattle.std.proofs.Common.{◌≡◌, ℕ, zero, suc, ◌+◌, ◌*◌, ◌<◌, ◌≤◌, nat_le, Bool, true, cond, Option, Some, None, List, length, All, ap, sym, subst, ◌∙◌, ⊎_elim, arith, inl, inr}
use Rattle.std.proofs.lemmas.Bool.{cases_lt, le-leb}
use Rattle.std.proofs.lemmas.Nat.{mul-le}
use Rattle.std.proofs.lemmas.Int.{ints}
use Rattle.pw_obis.specs.declared.reference.Register.{Register}
use Rattle.pw_obis.specs.declared.reference.Register.TheVariants.{I0, I1, I2, E0, E1, E2}
use Rattle.pw_tariff.specs.declared.ids.AccountId.{AccountId}
use Rattle.pw_tariff.specs.declared.ids.Direction.{Direction}
use Rattle.pw_tariff.specs.declared.ids.Direction.TheVariants.{Import, Export}
use Rattle.pw_model.specs.Payments.{topped_up}
use Rattle.pw_time.specs.declared.instant.TheConstants.{FIRST_SECOND, LAST_SECOND, END_SECOND}
use Rattle.pw_time.specs.Instants.{IsInstant}
use Rattle.pw_model.specs.inner.Search.{at_instants}
use Rattle.pw_flow.specs.Flow.{flow}
use Rattle.pw_flow.proofs.Sums.{sum-same, kept-nothing}
use Rattle.pw_flow.specs.declared.plain.Point.{Point}
use Rattle.pw_flow.specs.Time.{last, sum_over}
use Rattle.pw_flow.specs.Plain.{value_at}
use Rattle.pw_flow.specs.Energy.{kept, register_energy}
use Rattle.pw_flow.proofs.Points.{option-cases, last-none}
use Rattle.pw_model.specs.declared.records.Content.TheVariants as content
use Rattle.pw_model.specs.declared.records.Entry.{Entry}
use Rattle.pw_model.specs.Same.{direction_of}
use Rattle.pw_model.specs.Counting.{contents_at, point, reading_key}
use Rattle.pw_tariff.specs.Office.{OfficeRules}
use Rattle.pw_model.specs.Office.{IsOffice, AllOfOffice, IsOfOffice, most_records}
use Rattle.pw_model.specs.Energy.{Asked, over_registers, share_of, meter_share, energy_where, asked_seconds, of_class, cost}
use Rattle.pw_model.specs.inner.Tariff.{period_cost}
use Rattle.pw_model.specs.Bounds.{BalancesFit}
use Rattle.pw_model.proofs.Bounded.{totals-bounded}
use Rattle.pw_model.proofs.Counting.{entry}
use Rattle.pw_model.proofs.Found.{point-member}
use Rattle.pw_model.proofs.Pushed.{none-late, no-value}

-- no reading of the office counts behind all instants
none-behind : (office : OfficeRules) (s : List Entry) (m : ℕ) (r : Register) (t : ℕ) → AllOfOffice office s → END_SECOND ≤ t → point (contents_at s) m r t ≡ None
none-behind office s m r t h l =
    elim (option-cases (point (contents_at s) m r t)) [
      | inl n ↦ n
      | inr f ↦ (
          let of_office : IsOfOffice office (entry (reading_key m r t) (content.Reading f.0)) = h (entry (reading_key m r t) (content.Reading f.0)) (point-member s m r t f.0 f.1) in
          absurd (omega (arith, of_office.2.1, l)))
    ]

listed-point : (office : OfficeRules) (s : List Entry) (m : ℕ) (r : Register) (ps : List Point) → AllOfOffice office s → All (λ p. p.at < END_SECOND) ps →
    ((t : ℕ) → t < END_SECOND → value_at ps t ≡ point (contents_at s) m r t) → (t : ℕ) → value_at ps t ≡ point (contents_at s) m r t
listed-point office s m r ps h e v t =
    ⊎_elim (λ (l : t < END_SECOND). v t l) (λ (l : END_SECOND ≤ t). none-late ps END_SECOND t e l ∙ sym (none-behind office s m r t h l)) (cases_lt t END_SECOND)

pub energy-listed : (office : OfficeRules) (s : List Entry) (m : ℕ) (r : Register) (ps : List Point) (keeps : ℕ → Bool) → AllOfOffice office s → All (λ p. p.at < END_SECOND) ps →
    ((t : ℕ) → t < END_SECOND → value_at ps t ≡ point (contents_at s) m r t) → register_energy keeps (value_at ps) office.end ≡ register_energy keeps (point (contents_at s) m r) office.end
energy-listed office s m r ps keeps h e v =
    let same : value_at ps ≡ point (contents_at s) m r = λ i t. listed-point office s m r ps h e v t i in
    ap (λ (p : ℕ → Option ℕ). register_energy keeps p office.end) same

-- ---- a part is at most the whole
sum-part : (f : ℕ → ℕ) (m n : ℕ) → m < n → f m ≤ sum_over f 0 n
unfolding sum_over
sum-part f m zero l = absurd (omega arith)
sum-part f m (suc n) l =
    ⊎_elim (λ (a : m < n). (let r : f m ≤ sum_over f 0 n = sum-part f m n a in omega arith)) (λ (b : n ≤ m). (let e : m ≡ n = omega arith in let k : f m ≡ f (0 + n) = ap f (omega arith) in omega arith)) (cases_lt m n)

pub sum-next : (f : ℕ → ℕ) (n : ℕ) → sum_over f 0 (n + 1) ≡ sum_over f 0 n + f n
unfolding sum_over
sum-next f n = let e : n + 1 ≡ suc n = omega arith in let k : f (0 + n) ≡ f n = ap f (omega arith) in rw e (omega (arith, k))

-- a sum as far as it has come, and one part more
pub sum-more : (f : ℕ → ℕ) (n sum part : ℕ) → sum ≡ sum_over f 0 n → part ≡ f n → sum + part ≡ sum_over f 0 (n + 1)
sum-more f n sum part so_far here = let next = sum-next f n in omega (arith, next, so_far, here)

pub sum-to : (f : ℕ → ℕ) (m n : ℕ) → m ≤ n → sum_over f 0 m ≤ sum_over f 0 n
unfolding sum_over
sum-to f zero n l = omega arith
sum-to f (suc m) zero l = absurd (omega arith)
sum-to f (suc m) (suc n) l =
    ⊎_elim (λ (a : m < n). (let r : sum_over f 0 (suc m) ≤ sum_over f 0 n = sum-to f (suc m) n a in omega arith)) (λ (b : n ≤ m). (let e : m ≡ n = omega arith in let P : ℕ → Type 0 = λ k. sum_over f 0 (suc m) ≤ sum_over f 0 (suc k) in subst P e (omega arith))) (cases_lt m n)

registers-part : (r : Register) (f : Register → ℕ) → f r ≤ over_registers (direction_of r) f
registers-part I0 f = omega arith
registers-part I1 f = omega arith
registers-part I2 f = omega arith
registers-part E0 f = omega arith
registers-part E1 f = omega arith
registers-part E2 f = omega arith

pub share-fits : (office : OfficeRules) (s : List Entry) (asked : Asked) (m : ℕ) (r : Register) → IsOffice office → AllOfOffice office s → length s ≤ most_records → m < office.meters →
    share_of office (contents_at s) asked m r ≤ 999_999_999_990_000_000
unfolding energy_where
share-fits office s asked m r o h few l =
    let a = registers-part r (share_of office (contents_at s) asked m) in
    let b = sum-part (meter_share office (contents_at s) (direction_of r) asked) m office.meters l in
    let c = (totals-bounded office s o h).energies (direction_of r) asked in
    omega (arith, a, b, c, few)

pub energy-fits : (office : OfficeRules) (s : List Entry) (d : Direction) (asked : Asked) → IsOffice office → AllOfOffice office s → length s ≤ most_records →
    energy_where office (contents_at s) d asked ≤ 999_999_999_990_000_000
energy-fits office s d asked o h few = let c = (totals-bounded office s o h).energies d asked in omega (arith, c, few)

-- ---- readings stand at instants, so other seconds carry nothing or aren't looked at
-- before the first point nothing flows
nothing-before : (ps : List Point) (end t : ℕ) → All (λ p. IsInstant p.at) ps → t < FIRST_SECOND → flow (value_at ps) end t ≡ 0
unfolding flow
nothing-before ps end t h l =
    let n : last (value_at ps) t ≡ None = last-none (value_at ps) t (λ s k. no-value ps s h (omega arith)) in
    rw n

asked-alike : (asked : ℕ → Bool) (t : ℕ) → IsInstant t → at_instants asked t ≡ asked t
asked-alike asked t h =
    let a : nat_le FIRST_SECOND t ≡ true = le-leb FIRST_SECOND t h.0 in
    let b : nat_le t LAST_SECOND ≡ true = le-leb t LAST_SECOND h.1 in
    rw (a, b)

at-second : (ps : List Point) (asked : ℕ → Bool) (t : ℕ) → All (λ p. IsInstant p.at) ps → t < END_SECOND →
    kept (at_instants asked) (flow (value_at ps) END_SECOND) t ≡ kept asked (flow (value_at ps) END_SECOND) t
at-second ps asked t h l =
    ⊎_elim
    (λ (a : t < FIRST_SECOND). (
    let z : flow (value_at ps) END_SECOND t ≡ 0 = nothing-before ps END_SECOND t h a in
    kept-nothing (at_instants asked t) (flow (value_at ps) END_SECOND t) z ∙ sym (kept-nothing (asked t) (flow (value_at ps) END_SECOND t) z)))
    (λ (a : FIRST_SECOND ≤ t). ap (λ (b : Bool). cond b (flow (value_at ps) END_SECOND t) 0) (asked-alike asked t (a, omega arith)))
    (cases_lt t FIRST_SECOND)

pub instants-alone : (ps : List Point) (asked : ℕ → Bool) → All (λ p. IsInstant p.at) ps →
    register_energy (at_instants asked) (value_at ps) END_SECOND ≡ register_energy asked (value_at ps) END_SECOND
unfolding register_energy
instants-alone ps asked h =
    sum-same (kept (at_instants asked) (flow (value_at ps) END_SECOND)) (kept asked (flow (value_at ps) END_SECOND)) 0 END_SECOND (λ t a b. at-second ps asked t h (omega arith))

pub all-early : (ps : List Point) → All (λ p. IsInstant p.at) ps → All (λ p. p.at < END_SECOND) ps
all-early ps h k d l = let i = h k d l in omega (arith, i.1)

-- the energy of the points that were found is the register's share
pub plain-share : (office : OfficeRules) (s : List Entry) (asked : Asked) (m : ℕ) (r : Register) (ps : List Point) (result : ℕ) → IsOffice office → AllOfOffice office s → office.counts m r ≡ true →
    All (λ p. IsInstant p.at) ps → ((t : ℕ) → t < END_SECOND → value_at ps t ≡ point (contents_at s) m r t) →
    result ≡ register_energy (asked_seconds (contents_at s) asked m) (value_at ps) END_SECOND →
    result ≡ share_of office (contents_at s) asked m r
plain-share office s asked m r ps result o h c e v f =
    f ∙ ap (register_energy (asked_seconds (contents_at s) asked m) (value_at ps)) (sym o.end)
    ∙ energy-listed office s m r ps (asked_seconds (contents_at s) asked m) h (all-early ps e) v ∙ sym (ap (λ b. cond b (register_energy (asked_seconds (contents_at s) asked m) (point (contents_at s) m r) office.end) 0) c)

-- so it fits
pub plain-share-fits : (office : OfficeRules) (s : List Entry) (asked : Asked) (m : ℕ) (r : Register) (ps : List Point) (result : ℕ) → IsOffice office → AllOfOffice office s → length s ≤ most_records → m < office.meters → office.counts m r ≡ true →
    All (λ p. IsInstant p.at) ps → ((t : ℕ) → t < END_SECOND → value_at ps t ≡ point (contents_at s) m r t) →
    result ≡ register_energy (asked_seconds (contents_at s) asked m) (value_at ps) END_SECOND → result ≤ 999_999_999_990_000_000
plain-share-fits office s asked m r ps result o h few l c e v f =
    let share = plain-share office s asked m r ps result o h c e v f in
    let fits = share-fits office s asked m r o h few l in
    omega (arith, share, fits)

-- ---- prices
pub price-fits : (office : OfficeRules) (p b wh : ℕ) (d : Direction) → IsOffice office → p < office.periods → b < office.bands → wh ≤ 999_999_999_990_000_000 → office.price p b d * wh ≤ 999_999_999_990_000_000_000_000_000
price-fits office p b wh d o k l h = mul-le (office.price p b d) wh 1_000_000_000 999_999_999_990_000_000 (o.price p b d k l) h

bands-cost : (office : OfficeRules) (s : List Entry) (owner : Option AccountId) (p : ℕ) (d : Direction) (n : ℕ) → IsOffice office → AllOfOffice office s → length s ≤ most_records → p < office.periods → n ≤ office.bands →
    sum_over (λ b. office.price p b d * energy_where office (contents_at s) d (of_class office owner p b)) 0 n ≤ n * 999_999_999_990_000_000_000_000_000
unfolding sum_over
bands-cost office s owner p d zero o h few k l = omega arith
bands-cost office s owner p d (suc n) o h few k l =
    let r = bands-cost office s owner p d n o h few k (omega arith) in
    let w = energy-fits office s d (of_class office owner p (0 + n)) o h few in
    let m = price-fits office p (0 + n) (energy_where office (contents_at s) d (of_class office owner p (0 + n))) d o k (omega arith) w in
    omega (arith, r, m)

period-fits : (office : OfficeRules) (s : List Entry) (owner : Option AccountId) (p : ℕ) (d : Direction) → IsOffice office → AllOfOffice office s → length s ≤ most_records → p < office.periods →
    period_cost office (contents_at s) owner p d ≤ 7_999_999_999_920_000_000_000_000_000
period-fits office s owner p d o h few k = let c = bands-cost office s owner p d office.bands o h few k (omega arith) in omega (arith, c, o.bands)

periods-cost : (office : OfficeRules) (s : List Entry) (owner : Option AccountId) (d : Direction) (n : ℕ) → IsOffice office → AllOfOffice office s → length s ≤ most_records → n ≤ office.periods →
    sum_over (λ p. period_cost office (contents_at s) owner p d) 0 n ≤ n * 7_999_999_999_920_000_000_000_000_000
unfolding sum_over
periods-cost office s owner d zero o h few l = omega arith
periods-cost office s owner d (suc n) o h few l =
    let r = periods-cost office s owner d n o h few (omega arith) in
    let m : period_cost office (contents_at s) owner (0 + n) d ≤ 7_999_999_999_920_000_000_000_000_000 = period-fits office s owner (0 + n) d o h few (omega arith) in
    omega (arith, r, m)

pub cost-fits : (office : OfficeRules) (s : List Entry) (owner : Option AccountId) (d : Direction) → IsOffice office → AllOfOffice office s → length s ≤ most_records →
    cost office (contents_at s) owner d ≤ 127_999_999_998_720_000_000_000_000_000
unfolding cost
cost-fits office s owner d o h few = let c = periods-cost office s owner d office.periods o h few (omega arith) in omega (arith, c, o.periods)

pub topped-fits : (office : OfficeRules) (s : List Entry) (a : ℕ) → IsOffice office → AllOfOffice office s → length s ≤ most_records → topped_up s a ≤ 1_000_000_000_000_000
topped-fits office s a o h few = let c = (totals-bounded office s o h).topped a in omega (arith, c, few)

pub balance-fits : BalancesFit
balance-fits office s a o h few =
    let t = topped-fits office s a o h few in
    let i = cost-fits office s (Some (record { 0 = a })) Import o h few in
    let e = cost-fits office s (Some (record { 0 = a })) Export o h few in
    omega (arith, ints, t, i, e)
