-- Energies of periods are the energies, and splitting a period changes nothing.
use Rattle.std.proofs.Common.{◌≡◌, ◌==◌, ◌&&◌, ℕ, ◌+◌, ◌*◌, ◌<◌, ◌≤◌, Bool, true, false, cond, Option, Some, List, refl, ap, sym, ◌∙◌, pos, ◌+ℤ◌, ◌-ℤ◌, arith}
use Rattle.pw_obis.specs.declared.reference.Register.{Register}
use Rattle.pw_obis.specs.declared.reference.Register.TheVariants.{I0, I1, I2, E0, E1, E2}
use Rattle.pw_tariff.specs.declared.ids.AccountId.{AccountId}
use Rattle.pw_tariff.specs.declared.ids.Direction.{Direction}
use Rattle.pw_tariff.specs.declared.ids.Direction.TheVariants.{Import, Export}
use Rattle.pw_tariff.specs.Office.{OfficeRules}
use Rattle.pw_tariff.specs.Owners.{same_owner}
use Rattle.pw_flow.specs.Time.{sum_over}
use Rattle.pw_flow.specs.Energy.{kept, register_energy}
use Rattle.pw_flow.specs.Flow.{flow}
use Rattle.pw_flow.proofs.Sums.{sum-same}
use Rattle.pw_flow.proofs.Shares.{sum-add}
use Rattle.pw_model.specs.declared.records.Key.{Key}
use Rattle.pw_model.specs.declared.records.Contents.{Contents}
use Rattle.pw_model.specs.declared.records.Entry.{Entry}
use Rattle.pw_model.specs.Counting.{contents_at, point}
use Rattle.pw_model.specs.Office.{HasPeriods}
use Rattle.pw_model.specs.Energy.{Asked, owner_at, asked_seconds, over_registers, share_of, meter_share, energy_where, of_band, energy, of_class, cost}
use Rattle.pw_model.specs.Payments.{topped_up, nano_in_cent}
use Rattle.pw_model.specs.Laws.{BalanceIsOfPeriods, EnergyIsOfPeriods, SplitsPeriods, SplitPeriodsChangeNothing}
use Rattle.pw_model.proofs.Exchange.{sum-swap, sum-cond, sum-one, prices-gathered, class-first, wider-first}
use Rattle.pw_model.proofs.Foreign.{none-asked, other-period}

-- ---- seconds that are shared out
-- each second that is asked for is asked for by just one of n others
abbrev ShareOut : (ℕ → Asked) → ℕ → Asked → Type 0
ShareOut asked n whole = (o : Option AccountId) (t v : ℕ) → sum_over (λ p. cond (asked p o t) v 0) 0 n ≡ cond (whole o t) v 0

register-shared : (keeps : ℕ → ℕ → Bool) (whole : ℕ → Bool) (p : ℕ → Option ℕ) (end n : ℕ) → ((t v : ℕ) → sum_over (λ i. cond (keeps i t) v 0) 0 n ≡ cond (whole t) v 0) →
    sum_over (λ i. register_energy (keeps i) p end) 0 n ≡ register_energy whole p end
unfolding register_energy
register-shared keeps whole p end n h =
    sum-swap (λ i. kept (keeps i) (flow p end)) n 0 end
    ∙ sum-same (λ t. sum_over (λ i. kept (keeps i) (flow p end) t) 0 n) (kept whole (flow p end)) 0 end (λ t a b. h t (flow p end t))

share-shared : (office : OfficeRules) (at : Key → Contents) (asked : ℕ → Asked) (n : ℕ) (whole : Asked) → ShareOut asked n whole → (m : ℕ) (r : Register) →
    sum_over (λ i. share_of office at (asked i) m r) 0 n ≡ share_of office at whole m r
share-shared office at asked n whole h m r =
    sum-cond (office.counts m r) (λ i. register_energy (asked_seconds at (asked i) m) (point at m r) office.end) n
    ∙ ap (λ k. cond (office.counts m r) k 0)
    (register-shared (λ i. asked_seconds at (asked i) m) (asked_seconds at whole m) (point at m r) office.end n (λ t v. h (owner_at at m t) t v))

sum-registers : (d : Direction) (f : ℕ → Register → ℕ) (n : ℕ) → sum_over (λ i. over_registers d (f i)) 0 n ≡ over_registers d (λ r. sum_over (λ i. f i r) 0 n)
sum-registers Import f n =
    sum-add (λ i. f i I0 + f i I1) (λ i. f i I2) 0 n ∙ ap (λ s. s + sum_over (λ i. f i I2) 0 n) (sum-add (λ i. f i I0) (λ i. f i I1) 0 n)
sum-registers Export f n =
    sum-add (λ i. f i E0 + f i E1) (λ i. f i E2) 0 n ∙ ap (λ s. s + sum_over (λ i. f i E2) 0 n) (sum-add (λ i. f i E0) (λ i. f i E1) 0 n)

meter-shared : (office : OfficeRules) (at : Key → Contents) (d : Direction) (asked : ℕ → Asked) (n : ℕ) (whole : Asked) → ShareOut asked n whole → (m : ℕ) →
    sum_over (λ i. meter_share office at d (asked i) m) 0 n ≡ meter_share office at d whole m
meter-shared office at d asked n whole h m =
    sum-registers d (λ i. share_of office at (asked i) m) n ∙ (λ j. over_registers d (λ r. share-shared office at asked n whole h m r j))

energies-shared : (office : OfficeRules) (at : Key → Contents) (d : Direction) (asked : ℕ → Asked) (n : ℕ) (whole : Asked) → ShareOut asked n whole →
    sum_over (λ i. energy_where office at d (asked i)) 0 n ≡ energy_where office at d whole
unfolding energy_where
energies-shared office at d asked n whole h =
    sum-swap (λ i. meter_share office at d (asked i)) n 0 office.meters
    ∙ sum-same (λ m. sum_over (λ i. meter_share office at d (asked i) m) 0 n) (meter_share office at d whole) 0 office.meters
    (λ m a b. meter-shared office at d asked n whole h m)

-- ---- an energy is the sum of those of the periods
of-periods : (office : OfficeRules) (o : Option AccountId) (b : ℕ) → HasPeriods office → ShareOut (λ p. of_class office o p b) office.periods (of_band office o b)
of-periods office o b h q t v =
    let own : Bool = same_owner q o in
    let here : Bool = office.band t == b in
    sum-same (λ p. cond (own && ((office.period t == p) && here)) v 0) (λ p. cond (office.period t == p) (cond (own && here) v 0) 0) 0 office.periods
    (λ p x y. class-first own (office.period t == p) here v)
    ∙ sum-one (office.period t) (cond (own && here) v 0) office.periods (h t)

pub energy-of_periods : EnergyIsOfPeriods
energy-of_periods office s o b d h =
    sym (energies-shared office (contents_at s) d (λ p. of_class office o p b) office.periods (of_band office o b) (of-periods office o b h))

-- ---- an office whose periods are split
-- the periods tell nothing of what flows
where-same : (a b : OfficeRules) (at : Key → Contents) (d : Direction) (asked : Asked) → SplitsPeriods a b → energy_where a at d asked ≡ energy_where b at d asked
unfolding energy_where
where-same a b at d asked h =
    λ i. sum_over (λ m. over_registers d (λ r. cond (h.counts i m r) (register_energy (asked_seconds at asked m) (point at m r) (h.end i)) 0)) 0 (h.meters i)

energies-same : (a b : OfficeRules) (s : List Entry) → SplitsPeriods a b → (o : Option AccountId) (n : ℕ) (d : Direction) → energy a s o n d ≡ energy b s o n d
energies-same a b s h o n d =
    where-same a b (contents_at s) d (of_band a o n) h
    ∙ (λ i. energy_where b (contents_at s) d (λ q t. same_owner q o && (h.band i t == n)))

-- seconds are asked for where a test passes, or none is
asked-where : (office : OfficeRules) (at : Key → Contents) (d : Direction) (c : Bool) (asked : Asked) → energy_where office at d (λ o t. c && asked o t) ≡ cond c (energy_where office at d asked) 0
asked-where office at d true asked = refl
asked-where office at d false asked = none-asked office at d (λ o t. false) (λ m t. refl)

-- the seconds of a period are those of the periods in which it is split
split-seconds : (a b : OfficeRules) (o : Option AccountId) (q n : ℕ) → HasPeriods b → (h : SplitsPeriods a b) →
    ShareOut (λ p k t. (h.whole p == q) && of_class b o p n k t) b.periods (of_class a o q n)
split-seconds a b o q n hb h k t v =
    let own : Bool = same_owner k o in
    let here : Bool = b.band t == n in
    let x : ℕ = b.period t in
    let w : ℕ = cond (own && ((h.whole x == q) && here)) v 0 in
    let same : w ≡ cond (own && ((a.period t == q) && (a.band t == n))) v 0 = λ i. cond (own && ((sym (h.within t) i == q) && (sym h.band i t == n))) v 0 in
    sum-same (λ p. cond ((h.whole p == q) && (own && ((x == p) && here))) v 0) (λ p. cond (x == p) w 0) 0 b.periods
    (λ p y z. wider-first h.whole q x p own here v)
    ∙ sum-one x w b.periods (hb t) ∙ same

period-split : (a b : OfficeRules) (at : Key → Contents) (o : Option AccountId) (q n : ℕ) (d : Direction) → HasPeriods b → (h : SplitsPeriods a b) →
    energy_where a at d (of_class a o q n) ≡ sum_over (λ p. cond (h.whole p == q) (energy_where b at d (of_class b o p n)) 0) 0 b.periods
period-split a b at o q n d hb h =
    where-same a b at d (of_class a o q n) h
    ∙ sym (energies-shared b at d (λ p k t. (h.whole p == q) && of_class b o p n k t) b.periods (of_class a o q n) (split-seconds a b o q n hb h))
    ∙ sum-same (λ p. energy_where b at d (λ k t. (h.whole p == q) && of_class b o p n k t)) (λ p. cond (h.whole p == q) (energy_where b at d (of_class b o p n)) 0) 0 b.periods
    (λ p y z. asked-where b at d (h.whole p == q) (of_class b o p n))

-- a period of b that lies in none of a has no second
empty-period : (a b : OfficeRules) (at : Key → Contents) (o : Option AccountId) (p n : ℕ) (d : Direction) → HasPeriods a → (h : SplitsPeriods a b) → a.periods ≤ h.whole p →
    energy_where b at d (of_class b o p n) ≡ 0
empty-period a b at o p n d ha h l = none-asked b at d (of_class b o p n) (λ m t. other-period (same_owner (owner_at at m t) o) (b.period t) p (b.band t == n)
    (λ e.
    let i : h.whole p ≡ a.period t = ap h.whole (sym e) ∙ sym (h.within t) in
    let k : a.period t < a.periods = ha t in
    absurd (omega (arith, i, k, l))))

band-cost : (a b : OfficeRules) (at : Key → Contents) (o : Option AccountId) (n : ℕ) (d : Direction) → HasPeriods a → HasPeriods b → SplitsPeriods a b →
    sum_over (λ q. a.price q n d * energy_where a at d (of_class a o q n)) 0 a.periods ≡ sum_over (λ p. b.price p n d * energy_where b at d (of_class b o p n)) 0 b.periods
band-cost a b at o n d ha hb h =
    let e : ℕ → ℕ = λ p. energy_where b at d (of_class b o p n) in
    sum-same (λ q. a.price q n d * energy_where a at d (of_class a o q n)) (λ q. a.price q n d * sum_over (λ p. cond (h.whole p == q) (e p) 0) 0 b.periods) 0 a.periods
    (λ q x y. ap (λ k. a.price q n d * k) (period-split a b at o q n d hb h))
    ∙ prices-gathered (λ q. a.price q n d) h.whole e b.periods a.periods (λ p x l. empty-period a b at o p n d ha h l)
    ∙ sum-same (λ p. a.price (h.whole p) n d * e p) (λ p. b.price p n d * e p) 0 b.periods (λ p x y. ap (λ k. k * e p) (sym (h.price p n d)))

costs-same : (a b : OfficeRules) (at : Key → Contents) → HasPeriods a → HasPeriods b → SplitsPeriods a b → (o : Option AccountId) (d : Direction) → cost a at o d ≡ cost b at o d
unfolding cost
costs-same a b at ha hb h o d =
    let x : ℕ → ℕ → ℕ = λ q n. a.price q n d * energy_where a at d (of_class a o q n) in
    let y : ℕ → ℕ → ℕ = λ p n. b.price p n d * energy_where b at d (of_class b o p n) in
    sum-swap x a.periods 0 a.bands
    ∙ sum-same (λ n. sum_over (λ q. x q n) 0 a.periods) (λ n. sum_over (λ p. y p n) 0 b.periods) 0 a.bands (λ n u v. band-cost a b at o n d ha hb h)
    ∙ ap (λ (k : ℕ). sum_over (λ n. sum_over (λ p. y p n) 0 b.periods) 0 k) h.bands
    ∙ sym (sum-swap y b.periods 0 b.bands)

pub balance-of_periods : BalanceIsOfPeriods
unfolding cost
balance-of_periods office s a = refl

pub split-periods : SplitPeriodsChangeNothing
split-periods a b s ha hb h = record {
  energies = energies-same a b s h;
  costs = costs-same a b (contents_at s) ha hb h;
  balances = λ x. (
      let o : Option AccountId = Some (record { 0 = x }) in
      let imported = costs-same a b (contents_at s) ha hb h o Import in
      let exported = costs-same a b (contents_at s) ha hb h o Export in
      λ i. (pos (nano_in_cent * topped_up s x) -ℤ pos (imported i)) +ℤ pos (exported i));
}
