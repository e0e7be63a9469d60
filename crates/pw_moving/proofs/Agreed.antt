-- Offices that agree on what the records of a set ask for give it the same figures.
use Rattle.std.proofs.Common.{◌≡◌, ◌==◌, ◌&&◌, ℕ, ◌*◌, ◌<◌, ◌≤◌, Bool, cond, Option, Some, None, List, refl, ap, sym, ◌∙◌, pos, ◌+ℤ◌, ◌-ℤ◌, mul-zero, arith}
use Rattle.pw_obis.specs.declared.reference.Register.{Register}
use Rattle.pw_tariff.specs.declared.ids.AccountId.{AccountId}
use Rattle.pw_tariff.specs.declared.ids.Direction.{Direction}
use Rattle.pw_tariff.specs.declared.ids.Direction.TheVariants.{Import, Export}
use Rattle.pw_tariff.specs.Office.{OfficeRules}
use Rattle.pw_tariff.specs.Owners.{same_owner}
use Rattle.pw_flow.specs.Time.{sum_over}
use Rattle.pw_flow.specs.Energy.{register_energy}
use Rattle.pw_flow.proofs.Sums.{sum-same, sum-none}
use Rattle.pw_model.specs.declared.records.Key.{Key}
use Rattle.pw_model.specs.declared.records.Key.TheVariants as key
use Rattle.pw_model.specs.declared.records.Named.{Named}
use Rattle.pw_model.specs.declared.records.Named.TheVariants as named
use Rattle.pw_model.specs.declared.records.Content.{Content}
use Rattle.pw_model.specs.declared.records.Content.TheVariants as content
use Rattle.pw_model.specs.declared.records.Entry.{Entry}
use Rattle.pw_model.specs.declared.records.TotalKey.{TotalKey}
use Rattle.pw_model.specs.declared.records.TotalKey.TheVariants.{Energy, TopUps}
use Rattle.pw_model.specs.Counting.{contents_at, point}
use Rattle.pw_model.specs.Office.{HasOwner, IsNamedOf, IsOf, AllOfOffice, HasPeriods}
use Rattle.pw_model.specs.Energy.{Asked, owner_at, asked_seconds, over_registers, share_of, meter_share, energy_where, of_band, energy, of_class, energy_in_period, cost}
use Rattle.pw_model.specs.Payments.{topped_up, nano_in_cent}
use Rattle.pw_model.specs.Shelf.{total_among}
use Rattle.pw_model.proofs.Bounded.{registers-zero}
use Rattle.pw_model.proofs.Foreign.{none-asked, other-period}
use Rattle.pw_moving.specs.Adopting.{AreUpTo}
use Rattle.pw_moving.specs.Agreeing.{AgreeOn, IsBefore}
use Rattle.pw_moving.specs.Laws.{AgreeingOfficesAreAlike, AgreeingOfficesKeepTheTruth}
use Rattle.pw_moving.proofs.Sums.{sum-longer}
use Rattle.pw_moving.proofs.Points.{no-point, reading-of, energy-none, energy-before, share-none}

-- ---- the records of the one are of the other
owner-wider : (a b : OfficeRules) (s : List Entry) (o : Option AccountId) → AgreeOn a b s → HasOwner a o → HasOwner b o
owner-wider a b s None h i = tt
owner-wider a b s (Some x) h i = let l = h.accounts in omega (arith, i, l)

named-wider : (a b : OfficeRules) (s : List Entry) (n : Named) → AgreeOn a b s → IsNamedOf a n → IsNamedOf b n
named-wider a b s (named.Reading m r t w) h i = let l = h.meters in let k = i.0 in (omega (arith, k, l), sym (h.counts m.0 r k) ∙ i.1, i.2, i.3)
named-wider a b s (named.Assignment m t o) h i = let l = h.meters in let k = i.0 in (omega (arith, k, l), i.1, owner-wider a b s o h i.2)
named-wider a b s (named.TopUp r x c t) h i = let l = h.accounts in let k = i.1 in (i.0, omega (arith, k, l), i.2, i.3, i.4)

entry-wider : (a b : OfficeRules) (s : List Entry) (k : Key) (c : Content) → AgreeOn a b s → IsOf a k c → IsOf b k c
entry-wider a b s (key.Reading m r t) (content.Reading w) h i = named-wider a b s (named.Reading m r t w) h i
entry-wider a b s (key.Assignment m t) (content.Assignment o) h i = named-wider a b s (named.Assignment m t o) h i
entry-wider a b s (key.TopUp r) (content.TopUp x c t) h i = named-wider a b s (named.TopUp r x c t) h i
entry-wider a b s (key.Withdrawal n) content.Withdrawal h i = named-wider a b s n h i
entry-wider a b s (key.Reading m r t) (content.Assignment o) h i = absurd i
entry-wider a b s (key.Reading m r t) (content.TopUp x c u) h i = absurd i
entry-wider a b s (key.Reading m r t) content.Withdrawal h i = absurd i
entry-wider a b s (key.Assignment m t) (content.Reading w) h i = absurd i
entry-wider a b s (key.Assignment m t) (content.TopUp x c u) h i = absurd i
entry-wider a b s (key.Assignment m t) content.Withdrawal h i = absurd i
entry-wider a b s (key.TopUp r) (content.Reading w) h i = absurd i
entry-wider a b s (key.TopUp r) (content.Assignment o) h i = absurd i
entry-wider a b s (key.TopUp r) content.Withdrawal h i = absurd i
entry-wider a b s (key.Withdrawal n) (content.Reading w) h i = absurd i
entry-wider a b s (key.Withdrawal n) (content.Assignment o) h i = absurd i
entry-wider a b s (key.Withdrawal n) (content.TopUp x c u) h i = absurd i

all-wider : (a b : OfficeRules) (s : List Entry) → AgreeOn a b s → AllOfOffice a s → AllOfOffice b s
all-wider a b s h i e m = entry-wider a b s e.key e.content h (i e m)

-- ---- energies
-- the same seconds are asked for in both, before the last reading
abbrev AskAlike : Option ℕ → Asked → Asked → Type 0
AskAlike last asked other = (o : Option AccountId) (t : ℕ) → IsBefore last t → asked o t ≡ other o t

-- a register's energy, with a last reading and with none
register-alike : (s : List Entry) (last : Option ℕ) (k l : ℕ → Bool) (m : ℕ) (r : Register) (end : ℕ) → AreUpTo last s → ((t : ℕ) → IsBefore last t → k t ≡ l t) →
    register_energy k (point (contents_at s) m r) end ≡ register_energy l (point (contents_at s) m r) end
register-alike s None k l m r end u same =
    let none : (t : ℕ) → point (contents_at s) m r t ≡ None = λ t. no-point s m r t (λ w i. u m r t w i) in
    energy-none k (point (contents_at s) m r) end none ∙ sym (energy-none l (point (contents_at s) m r) end none)
register-alike s (Some z) k l m r end u same =
    energy-before k l (point (contents_at s) m r) end z
    (λ t c. no-point s m r t (λ w i. let n : t ≤ z = u m r t w i in absurd (omega (arith, n, c))))
    (λ t c. same t (z, c, (let n : z ≤ z = omega arith in n)))

share-alike : (a b : OfficeRules) (s : List Entry) (asked other : Asked) (m : ℕ) (r : Register) → (h : AgreeOn a b s) → m < a.meters → AskAlike h.last asked other →
    share_of a (contents_at s) asked m r ≡ share_of b (contents_at s) other m r
share-alike a b s asked other m r h l same =
    ap (λ (n : ℕ). cond (a.counts m r) n 0)
    (register-alike s h.last (asked_seconds (contents_at s) asked m) (asked_seconds (contents_at s) other m) m r a.end h.readings (λ t c. same (owner_at (contents_at s) m t) t c))
    ∙ (λ i. cond (h.counts m r l i) (register_energy (asked_seconds (contents_at s) other m) (point (contents_at s) m r) (h.end i)) 0)

meter-alike : (a b : OfficeRules) (s : List Entry) (d : Direction) (asked other : Asked) (m : ℕ) → (h : AgreeOn a b s) → m < a.meters → AskAlike h.last asked other →
    meter_share a (contents_at s) d asked m ≡ meter_share b (contents_at s) d other m
meter-alike a b s d asked other m h l same = λ i. over_registers d (λ r. share-alike a b s asked other m r h l same i)

-- a meter that b alone has
meter-new : (a b : OfficeRules) (s : List Entry) (d : Direction) (asked : Asked) (m : ℕ) → AllOfOffice a s → a.meters ≤ m → meter_share b (contents_at s) d asked m ≡ 0
meter-new a b s d asked m ours l = registers-zero d (share_of b (contents_at s) asked m) (λ r. share-none b s asked m r (λ t w i.
    let k : m < a.meters = (reading-of a s m r t w ours i).0 in
    absurd (omega (arith, k, l))))

where-alike : (a b : OfficeRules) (s : List Entry) (d : Direction) (asked other : Asked) → AllOfOffice a s → (h : AgreeOn a b s) → AskAlike h.last asked other →
    energy_where a (contents_at s) d asked ≡ energy_where b (contents_at s) d other
unfolding energy_where
where-alike a b s d asked other ours h same =
    sum-same (meter_share a (contents_at s) d asked) (meter_share b (contents_at s) d other) 0 a.meters
    (λ m x y. meter-alike a b s d asked other m h (omega (arith, y)) same)
    ∙ sym (sum-longer (meter_share b (contents_at s) d other) a.meters b.meters h.meters (λ m l. meter-new a b s d other m ours l))

bands-alike : (a b : OfficeRules) (s : List Entry) → AllOfOffice a s → (h : AgreeOn a b s) → (o : Option AccountId) (n : ℕ) (d : Direction) → energy a s o n d ≡ energy b s o n d
bands-alike a b s ours h o n d =
    where-alike a b s d (of_band a o n) (of_band b o n) ours h (λ q t c. ap (λ (k : ℕ). same_owner q o && (k == n)) (h.band t c))

periods-alike : (a b : OfficeRules) (s : List Entry) → AllOfOffice a s → (h : AgreeOn a b s) → (o : Option AccountId) (p n : ℕ) (d : Direction) →
    energy_in_period a s o p n d ≡ energy_in_period b s o p n d
periods-alike a b s ours h o p n d =
    where-alike a b s d (of_class a o p n) (of_class b o p n) ours h
    (λ q t c. λ i. same_owner q o && ((h.period t c i == p) && (h.band t c i == n)))

-- ---- costs
-- what energies in a period cost
abbrev period-cost : OfficeRules → List Entry → Option AccountId → Direction → ℕ → ℕ
period-cost office s o d p = sum_over (λ n. office.price p n d * energy_in_period office s o p n d) 0 office.bands

-- in a period that b alone has
cost-new : (a b : OfficeRules) (s : List Entry) (o : Option AccountId) (d : Direction) (p : ℕ) → HasPeriods a → AllOfOffice a s → AgreeOn a b s → a.periods ≤ p → period-cost b s o d p ≡ 0
cost-new a b s o d p has ours h l =
    sum-none (λ n. b.price p n d * energy_in_period b s o p n d) 0 b.bands (λ n x y.
    let none : energy_in_period a s o p n d ≡ 0
    = none-asked a (contents_at s) d (of_class a o p n) (λ m t. other-period (same_owner (owner_at (contents_at s) m t) o) (a.period t) p (a.band t == n)
    (λ e. let k = has t in absurd (omega (arith, e, k, l)))) in
    ap (λ (k : ℕ). b.price p n d * k) (sym (periods-alike a b s ours h o p n d) ∙ none) ∙ mul-zero (b.price p n d))

cost-alike : (a b : OfficeRules) (s : List Entry) (o : Option AccountId) (d : Direction) (p : ℕ) → AllOfOffice a s → (h : AgreeOn a b s) → p < a.periods → period-cost a s o d p ≡ period-cost b s o d p
cost-alike a b s o d p ours h l =
    sum-same (λ n. a.price p n d * energy_in_period a s o p n d) (λ n. b.price p n d * energy_in_period b s o p n d) 0 a.bands
    (λ n x y. ap (λ (k : ℕ). k * energy_in_period a s o p n d) (h.price p n d l (omega (arith, y))) ∙ ap (λ (k : ℕ). b.price p n d * k) (periods-alike a b s ours h o p n d))
    ∙ ap (λ (k : ℕ). sum_over (λ n. b.price p n d * energy_in_period b s o p n d) 0 k) h.bands

costs-alike : (a b : OfficeRules) (s : List Entry) → HasPeriods a → AllOfOffice a s → (h : AgreeOn a b s) → (o : Option AccountId) (d : Direction) → cost a (contents_at s) o d ≡ cost b (contents_at s) o d
unfolding cost
costs-alike a b s has ours h o d =
    sum-same (period-cost a s o d) (period-cost b s o d) 0 a.periods (λ p x y. cost-alike a b s o d p ours h (omega (arith, y)))
    ∙ sym (sum-longer (period-cost b s o d) a.periods b.periods h.periods (λ p l. cost-new a b s o d p has ours h l))

pub agreeing-alike : AgreeingOfficesAreAlike
agreeing-alike a b s has ours h = record {
  energies = bands-alike a b s ours h;
  costs = costs-alike a b s has ours h;
  balances = λ x. (
      let o : Option AccountId = Some (record { 0 = x }) in
      let imported = costs-alike a b s has ours h o Import in
      let exported = costs-alike a b s has ours h o Export in
      λ i. (pos (nano_in_cent * topped_up s x) -ℤ pos (imported i)) +ℤ pos (exported i));
}

-- ---- a true content
totals-alike : (a b : OfficeRules) (s : List Entry) (k : TotalKey) → AllOfOffice a s → AgreeOn a b s → total_among a s k ≡ total_among b s k
totals-alike a b s (Energy o p n d) ours h = periods-alike a b s ours h o p.0 n.0 d
totals-alike a b s (TopUps x) ours h = refl

pub agreeing-keep : AgreeingOfficesKeepTheTruth
agreeing-keep a b c has ours h true_yet = record {
  of_office = all-wider a b c.records h ours;
  truth = record {
    points = true_yet.points;
    starts = true_yet.starts;
    totals = λ k. true_yet.totals k ∙ totals-alike a b c.records k ours h;
  };
}
