-- Where two offices differ in accounts and meters alone, the records carried have the figures that they had.
use Rattle.std.proofs.Common.{◌≡◌, ◌==◌, ◌&&◌, ◌||◌, nat_le, ℕ, zero, suc, ◌+◌, ◌*◌, ◌<◌, ◌≤◌, Bool, cond, Option, Some, None, option_map, List, [], ◌∷◌, length, map, slice_get, refl, ap, sym, subst, ◌∙◌, pos, ◌+ℤ◌, ◌-ℤ◌, inl, inr, arith}
use Rattle.std.specs.Prelude.{count_by}
use Rattle.pw_obis.specs.declared.reference.Register.{Register}
use Rattle.pw_tariff.specs.declared.ids.AccountId.{AccountId}
use Rattle.pw_tariff.specs.declared.ids.Direction.{Direction}
use Rattle.pw_tariff.specs.declared.ids.Direction.TheVariants.{Import, Export}
use Rattle.pw_tariff.specs.Office.{OfficeFile, OfficeRules, BandText, PeriodText, IsSound, office_of, period_at, band_at, price_at, week_in, week_of_period, band_named, letter, price_of, price_in}
use Rattle.pw_tariff.specs.Owners.{owner_from, same_owner}
use Rattle.pw_time.specs.Summer.{local_weekday, local_hour}
use Rattle.pw_flow.specs.Time.{found, last, sum_over}
use Rattle.pw_flow.specs.Energy.{register_energy}
use Rattle.pw_flow.proofs.Sums.{sum-same}
use Rattle.pw_model.specs.declared.records.Key.{Key}
use Rattle.pw_model.specs.declared.records.Key.TheVariants as key
use Rattle.pw_model.specs.declared.records.Content.TheVariants as content
use Rattle.pw_model.specs.declared.records.Contents.{Contents}
use Rattle.pw_model.specs.declared.records.Contents.TheVariants.{Nothing, One, Several}
use Rattle.pw_model.specs.declared.records.Entry.{Entry}
use Rattle.pw_model.specs.Same.{same_key}
use Rattle.pw_model.specs.Counting.{Member, contents_at, point, start, wh_of, owner_of, reading_key, assignment_key}
use Rattle.pw_model.specs.Lists.{reading_entry}
use Rattle.pw_model.specs.Office.{HasOwner, AllOfOffice, IsOfOffice}
use Rattle.pw_model.specs.Energy.{Asked, owner_at, asked_seconds, over_registers, share_of, meter_share, energy_where, of_band, of_class, cost}
use Rattle.pw_model.specs.Payments.{stands_in, sum_once, keys, cents_for, topped_up, nano_in_cent}
use Rattle.pw_model.proofs.Answers.{key-to}
use Rattle.pw_model.proofs.Bounded.{registers-zero}
use Rattle.pw_model.proofs.Counting.{standing-part}
use Rattle.pw_model.proofs.Whole.{owner-fits}
use Rattle.pw_moving.specs.Renaming.{Offices, Places, by_names, owner_as, account_as, key_as, entry_as, contents_as, AllCanBeCarried, all_carried}
use Rattle.pw_moving.specs.Laws.{HaveSameTariff, SameLinesSameTariff, IsOwnerOfBoth, CarriedFiguresStay}
use Rattle.pw_moving.proofs.Sums.{sum-moved}
use Rattle.pw_moving.proofs.Points.{share-all, share-none}
use Rattle.pw_moving.proofs.Carried.{member-from, OwnerIn, KeyIn, AllIn, ContentsIn, standing-in, contents-in, accounts-same, owners-same, meter-one, keys-same_as, told-as, IsMeterOfBoth, IsAccountOfBoth, all-both, other_way, meters-back, accounts-back}

-- ---- files that are alike in all lines but those of accounts and meters
week-same : (old new : OfficeFile) → old.week ≡ new.week → old.later ≡ new.later → (p : ℕ) → week_of_period old p ≡ week_of_period new p
week-same old new w l zero = w
week-same old new w l (suc p) = ap (λ (later : List PeriodText). week_in (slice_get later p)) l

period-same : (old new : OfficeFile) → old.later ≡ new.later → (t : ℕ) → period_at old t ≡ period_at new t
unfolding period_at
period-same old new l t = ap (λ (later : List PeriodText). count_by (λ p. nat_le p.start t) later) l

band-same : (old new : OfficeFile) → old.bands ≡ new.bands → old.week ≡ new.week → old.later ≡ new.later → (t : ℕ) → band_at old t ≡ band_at new t
unfolding band_at
band-same old new b w l t =
    ap (λ (bands : List BandText). band_named bands (letter (week_of_period old (period_at old t)) (local_weekday t) (local_hour t))) b
    ∙ ap (λ (week : List (List ℕ)). band_named new.bands (letter week (local_weekday t) (local_hour t)))
    (week-same old new w l (period_at old t) ∙ ap (week_of_period new) (period-same old new l t))

price-same : (old new : OfficeFile) → old.bands ≡ new.bands → old.later ≡ new.later → (p n : ℕ) (d : Direction) → price_at old p n d ≡ price_at new p n d
unfolding price_at
price-same old new b l zero n d = ap (λ (bands : List BandText). price_of (slice_get bands n) d) b
price-same old new b l (suc p) n d = ap (λ (later : List PeriodText). price_in (slice_get later p) n d) l

pub same-lines : SameLinesSameTariff
same-lines old new b w l = record {
  bands = ap length b;
  periods = ap (λ (later : List PeriodText). length later + 1) l;
  end = refl;
  band = λ i t. band-same old new b w l t i;
  period = λ i t. period-same old new l t i;
  price = λ i p n d. price-same old new b l p n d i;
}

-- ---- the latest of what stands at seconds, told otherwise
found-as : {A B : Type 0} (g : A → B) (t : ℕ) (o : Option A) (rest : Option (ℕ × A)) →
    found t (option_map g o) (option_map (λ (a : ℕ × A). (a.0, g a.1)) rest) ≡ option_map (λ (a : ℕ × A). (a.0, g a.1)) (found t o rest)
found-as g t None rest = refl
found-as g t (Some a) rest = refl

last-as : {A B : Type 0} (g : A → B) (p : ℕ → Option A) (t : ℕ) → last (λ s. option_map g (p s)) t ≡ option_map (λ (a : ℕ × A). (a.0, g a.1)) (last p t)
unfolding last
last-as g p zero = found-as g 0 (p 0) None
last-as g p (suc t) = ap (λ r. found (suc t) (option_map g (p (suc t))) r) (last-as g p t) ∙ found-as g (suc t) (p (suc t)) (last p t)

owner-from_as : (to : Places) (o : Option (ℕ × Option AccountId)) → owner_from (option_map (λ (a : ℕ × Option AccountId). (a.0, owner_as to a.1)) o) ≡ owner_as to (owner_from o)
owner-from_as to None = refl
owner-from_as to (Some a) = refl

-- what contents tell, by the other places
tells-as : (to : Places) (r : Contents) → (wh_of (contents_as to r) ≡ wh_of r) × (owner_of (contents_as to r) ≡ option_map (owner_as to) (owner_of r))
tells-as to Nothing = (refl, refl)
tells-as to Several = (refl, refl)
tells-as to (One (content.Reading w)) = (refl, refl)
tells-as to (One (content.Assignment o)) = (refl, refl)
tells-as to (One (content.TopUp a c t)) = (refl, refl)
tells-as to (One content.Withdrawal) = (refl, refl)

-- the meter that a reading is of, by the other places
abbrev meter_in : Key → ℕ
meter_in (key.Reading m r t) = m.0
meter_in _ = 0

reading-key_from : (M A : ℕ → Type 0) (to : Places) (k : Key) (q : ℕ) (r : Register) (t : ℕ) → KeyIn M A k → reading_key q r t ≡ key_as to k → (p : ℕ) × M p × (to.meter p ≡ q)
reading-key_from M A to (key.Reading m s u) q r t h e = (m.0, h, sym (ap meter_in e))
reading-key_from M A to (key.Assignment m u) q r t h e = absurd cc
reading-key_from M A to (key.TopUp s) q r t h e = absurd cc
reading-key_from M A to (key.Withdrawal n) q r t h e = absurd cc

-- all records of a list are of the office, by the other places
all-new : (o : Offices) (s : List Entry) → AllCanBeCarried o s → AllOfOffice (office_of o.new) (all_carried o s)
all-new o s can x m =
    let r : (e : Entry) × Member e s × (x ≡ entry_as (by_names o) e) = member-from (by_names o) s x m in
    let P : Entry → Type 0 = IsOfOffice (office_of o.new) in
    subst P (sym r.2) (can r.0 r.1)

module _ (o : Offices) (s : List Entry) (sound : IsSound o.old) (tariff : HaveSameTariff (office_of o.old) (office_of o.new)) (ours : AllOfOffice (office_of o.old) s) (can : AllCanBeCarried o s) where
  abbrev old : OfficeRules
  old = office_of o.old

  abbrev new : OfficeRules
  new = office_of o.new

  abbrev to : Places
  to = by_names o

  abbrev M : ℕ → Type 0
  M = IsMeterOfBoth o

  abbrev A : ℕ → Type 0
  A = IsAccountOfBoth o

  abbrev there : List Entry
  there = all_carried o s

  all-in : AllIn M A s
  all-in = all-both o s ours can

  told : (k : Key) → KeyIn M A k → contents_at there (key_as to k) ≡ contents_as to (contents_at s k)
  told k h = told-as M A to (other_way o) (meters-back o sound) (accounts-back o sound) s k all-in h

  -- ---- points and owners
  points-same : (m : ℕ) (r : Register) (t : ℕ) → M m → point (contents_at there) (to.meter m) r t ≡ point (contents_at s) m r t
  points-same m r t h = ap wh_of (told (reading_key m r t) h) ∙ (tells-as to (contents_at s (reading_key m r t))).0

  starts-same : (m t : ℕ) → M m → start (contents_at there) (to.meter m) t ≡ option_map (owner_as to) (start (contents_at s) m t)
  starts-same m t h = ap owner_of (told (assignment_key m t) h) ∙ (tells-as to (contents_at s (assignment_key m t))).1

  owner-same : (m t : ℕ) → M m → owner_at (contents_at there) (to.meter m) t ≡ owner_as to (owner_at (contents_at s) m t)
  unfolding owner_at
  owner-same m t h =
      ap (λ (p : ℕ → Option (Option AccountId)). owner_from (last p t)) (λ i u. starts-same m u h i)
      ∙ ap owner_from (last-as (owner_as to) (start (contents_at s) m) t)
      ∙ owner-from_as to (last (start (contents_at s) m) t)

  owner-in : (q : Option AccountId) → HasOwner old q → HasOwner new (owner_as to q) → OwnerIn A q
  owner-in None h i = tt
  owner-in (Some a) h i = (h, i)

  owner-at_in : (m t : ℕ) → M m → OwnerIn A (owner_at (contents_at s) m t)
  owner-at_in m t h =
      let P : Option AccountId → Type 0 = HasOwner new in
      owner-in (owner_at (contents_at s) m t) (owner-fits old s m t ours) (subst P (owner-same m t h) (owner-fits new there (to.meter m) t (all-new o s can)))

  -- ---- energies
  -- what is asked for of the one is what is asked for of the other
  abbrev AskAlike : Asked → Asked → Type 0
  AskAlike asked other = (q : Option AccountId) (t : ℕ) → OwnerIn A q → other (owner_as to q) t ≡ asked q t

  seconds-same : (asked other : Asked) (m t : ℕ) → AskAlike asked other → M m → asked_seconds (contents_at there) other (to.meter m) t ≡ asked_seconds (contents_at s) asked m t
  seconds-same asked other m t same h =
      ap (λ (q : Option AccountId). other q t) (owner-same m t h) ∙ same (owner_at (contents_at s) m t) t (owner-at_in m t h)

  share-same : (asked other : Asked) (m : ℕ) (r : Register) → AskAlike asked other → M m → share_of new (contents_at there) other (to.meter m) r ≡ share_of old (contents_at s) asked m r
  share-same asked other m r same h =
      share-all new there other (to.meter m) r (all-new o s can)
      ∙ (λ i. register_energy (λ t. seconds-same asked other m t same h i) (λ t. points-same m r t h i) new.end)
      ∙ sym (share-all old s asked m r ours)

  meter-same : (d : Direction) (asked other : Asked) (m : ℕ) → AskAlike asked other → M m → meter_share new (contents_at there) d other (to.meter m) ≡ meter_share old (contents_at s) d asked m
  meter-same d asked other m same h = λ i. over_registers d (λ r. share-same asked other m r same h i)

  -- a meter of the old office that has no place in the new one has no reading
  meter-gone : (d : Direction) (asked : Asked) (m : ℕ) → new.meters ≤ to.meter m → meter_share old (contents_at s) d asked m ≡ 0
  meter-gone d asked m l = registers-zero d (share_of old (contents_at s) asked m) (λ r. share-none old s asked m r (λ t w i.
      let k : M m = (standing-in M A s all-in (reading_entry m r t w) i).0 in
      let n : to.meter m < new.meters = k.1 in
      absurd (omega (arith, l, n))))

  -- nor has a meter of the new office that the old one hasn't
  meter-new : (d : Direction) (other : Asked) (q : ℕ) → ((p : ℕ) → p < old.meters → to.meter p ≡ q → ⊥) → meter_share new (contents_at there) d other q ≡ 0
  meter-new d other q none = registers-zero d (share_of new (contents_at there) other q) (λ r. share-none new there other q r (λ t w i.
      let f : (e : Entry) × Member e s × (reading_entry q r t w ≡ entry_as to e) = member-from to s (reading_entry q r t w) (standing-part there (reading_entry q r t w) i) in
      let g : (p : ℕ) × M p × (to.meter p ≡ q) = reading-key_from M A to f.0.key q r t (all-in f.0 f.1).0 (ap (λ (x : Entry). x.key) f.2) in
      none g.0 g.1.0 g.2))

  where-same : (d : Direction) (asked other : Asked) → AskAlike asked other → energy_where new (contents_at there) d other ≡ energy_where old (contents_at s) d asked
  unfolding energy_where
  where-same d asked other same =
      sum-moved to.meter (meter_share old (contents_at s) d asked) (meter_share new (contents_at there) d other) old.meters new.meters
      (λ p q k l n e.
      let P : ℕ → Type 0 = λ x. x < new.meters in
      meter-one M A to (other_way o) (meters-back o sound) (accounts-back o sound) p q (k, n) (l, subst P e n) e)
      (λ p k n. meter-same d asked other p same (k, n))
      (λ p k n. meter-gone d asked p n)
      (λ q l none. meter-new d other q none)

  owner-asked : (q k : Option AccountId) → OwnerIn A q → OwnerIn A k → same_owner (owner_as to k) (owner_as to q) ≡ same_owner k q
  owner-asked q k h i = owners-same M A to (other_way o) (meters-back o sound) (accounts-back o sound) k q i h

  owner-of_both : (q : Option AccountId) → IsOwnerOfBoth o q → OwnerIn A q
  owner-of_both None h = tt
  owner-of_both (Some a) h = h

  energies-same : (q : Option AccountId) (n : ℕ) (d : Direction) → IsOwnerOfBoth o q →
      energy_where new (contents_at there) d (of_band new (owner_as to q) n) ≡ energy_where old (contents_at s) d (of_band old q n)
  energies-same q n d h = where-same d (of_band old q n) (of_band new (owner_as to q) n)
      (λ k t i. λ j. owner-asked q k (owner-of_both q h) i j && (sym tariff.band j t == n))

  periods-same : (q : Option AccountId) (p n : ℕ) (d : Direction) → IsOwnerOfBoth o q →
      energy_where new (contents_at there) d (of_class new (owner_as to q) p n) ≡ energy_where old (contents_at s) d (of_class old q p n)
  periods-same q p n d h = where-same d (of_class old q p n) (of_class new (owner_as to q) p n)
      (λ k t i. λ j. owner-asked q k (owner-of_both q h) i j && ((sym tariff.period j t == p) && (sym tariff.band j t == n)))

  -- ---- costs
  costs-same : (q : Option AccountId) (d : Direction) → IsOwnerOfBoth o q → cost new (contents_at there) (owner_as to q) d ≡ cost old (contents_at s) q d
  unfolding cost
  costs-same q d h =
      let e : ℕ → ℕ → ℕ = λ p n. energy_where old (contents_at s) d (of_class old q p n) in
      sum-same (λ p. sum_over (λ n. new.price p n d * energy_where new (contents_at there) d (of_class new (owner_as to q) p n)) 0 new.bands) (λ p. sum_over (λ n. new.price p n d * e p n) 0 new.bands) 0 new.periods
      (λ p x y. sum-same (λ n. new.price p n d * energy_where new (contents_at there) d (of_class new (owner_as to q) p n)) (λ n. new.price p n d * e p n) 0 new.bands
      (λ n u v. ap (λ (k : ℕ). new.price p n d * k) (periods-same q p n d h)))
      ∙ (λ i. sum_over (λ p. sum_over (λ n. sym tariff.price i p n d * e p n) 0 (sym tariff.bands i)) 0 (sym tariff.periods i))

  -- ---- top-ups
  keys-as : (some : List Entry) → keys (map (entry_as to) some) ≡ map (key_as to) (keys some)
  keys-as [] = refl
  keys-as (e ∷ some) = ap (λ (l : List Key). key_as to e.key ∷ l) (keys-as some)

  abbrev KeysIn : List Key → Type 0
  KeysIn ks = (k : Key) → Member k ks → KeyIn M A k

  stands-same : (k : Key) (ks : List Key) → KeyIn M A k → KeysIn ks → stands_in same_key (key_as to k) (map (key_as to) ks) ≡ stands_in same_key k ks
  stands-same k [] h i = refl
  stands-same k (l ∷ ks) h i =
      let a : same_key (key_as to k) (key_as to l) ≡ same_key k l = keys-same_as M A to (other_way o) (meters-back o sound) (accounts-back o sound) k l h (i l (inl refl)) in
      let b : stands_in same_key (key_as to k) (map (key_as to) ks) ≡ stands_in same_key k ks = stands-same k ks h (λ x m. i x (inr m)) in
      λ j. a j || b j

  once-as : (f g : Key → ℕ) (ks : List Key) → KeysIn ks → ((k : Key) → Member k ks → f (key_as to k) ≡ g k) → sum_once same_key f (map (key_as to) ks) ≡ sum_once same_key g ks
  once-as f g [] h same = refl
  once-as f g (k ∷ ks) h same =
      let a : stands_in same_key (key_as to k) (map (key_as to) ks) ≡ stands_in same_key k ks = stands-same k ks (h k (inl refl)) (λ x m. h x (inr m)) in
      let b : f (key_as to k) ≡ g k = same k (inl refl) in
      let c : sum_once same_key f (map (key_as to) ks) ≡ sum_once same_key g ks = once-as f g ks (λ x m. h x (inr m)) (λ x m. same x (inr m)) in
      λ j. cond (a j) 0 (b j) + c j

  cents-same : (a : AccountId) (r : Contents) → A a.0 → ContentsIn A r → cents_for (account_as to a).0 (contents_as to r) ≡ cents_for a.0 r
  cents-same a Nothing h i = refl
  cents-same a Several h i = refl
  cents-same a (One (content.Reading w)) h i = refl
  cents-same a (One (content.Assignment q)) h i = refl
  cents-same a (One content.Withdrawal) h i = refl
  cents-same a (One (content.TopUp b c t)) h i =
      ap (λ (x : Bool). cond x c 0) (accounts-same M A to (other_way o) (meters-back o sound) (accounts-back o sound) b.0 a.0 i h)

  topped-same : (a : AccountId) → A a.0 → topped_up there (account_as to a).0 ≡ topped_up s a.0
  unfolding topped_up
  topped-same a h =
      let f : Key → ℕ = λ k. cents_for (account_as to a).0 (contents_at there k) in
      let g : Key → ℕ = λ k. cents_for a.0 (contents_at s k) in
      let named : KeysIn (keys s) = λ k m. (let r = key-to k s m in let P : Key → Type 0 = KeyIn M A in subst P r.1.1 (all-in r.0 r.1.0).0) in
      ap (sum_once same_key f) (keys-as s)
      ∙ once-as f g (keys s) named (λ k m. ap (cents_for (account_as to a).0) (told k (named k m)) ∙ cents-same a (contents_at s k) h (contents-in M A s k all-in))

pub carried-figures : CarriedFiguresStay
carried-figures o s sound tariff ours can = record {
  energies = λ q n d h. energies-same o s sound tariff ours can q n d h;
  in_periods = λ q p n d h. periods-same o s sound tariff ours can q p n d h;
  costs = λ q d h. costs-same o s sound tariff ours can q d h;
  topped = λ a h. topped-same o s sound tariff ours can a h;
  balances = λ a h. (
      let imported = costs-same o s sound tariff ours can (Some a) Import h in
      let exported = costs-same o s sound tariff ours can (Some a) Export h in
      let paid = topped-same o s sound tariff ours can a h in
      λ i. (pos (nano_in_cent * paid i) -ℤ pos (imported i)) +ℤ pos (exported i));
}
