-- Totals are bounded by the number of records.
use Rattle.std.proofs.Common.{◌≡◌, ℕ, zero, suc, ◌+◌, ◌-◌, ◌*◌, ◌<◌, ◌≤◌, Bool, true, false, cond, ◌==◌, Option, Some, None, List, [], ◌∷◌, length, refl, ap, sym, subst, ◌∙◌, arith, inl, inr}
use Rattle.std.proofs.lemmas.Bool.{cases_Bool, true≢false}
use Rattle.pw_obis.specs.declared.energy.TheConstants.{LARGEST_WATT_HOURS}
use Rattle.pw_obis.specs.declared.reference.Register.{Register}
use Rattle.pw_obis.specs.declared.reference.Register.TheVariants.{I0, I1, I2, E0, E1, E2}
use Rattle.pw_tariff.specs.declared.ids.Direction.{Direction}
use Rattle.pw_tariff.specs.declared.ids.Direction.TheVariants.{Import, Export}
use Rattle.pw_model.specs.declared.records.Key.{Key}
use Rattle.pw_model.specs.declared.records.Key.TheVariants as key
use Rattle.pw_model.specs.declared.records.Content.{Content}
use Rattle.pw_model.specs.declared.records.Content.TheVariants as content
use Rattle.pw_model.specs.declared.records.Contents.{Contents}
use Rattle.pw_model.specs.declared.records.Contents.TheVariants.{Nothing, One, Several}
use Rattle.pw_model.specs.declared.records.Entry.{Entry}
use Rattle.pw_model.specs.Same.{same_key, same_content, same_direction, direction_of}
use Rattle.pw_model.specs.Counting.{is_withdrawn, standing_among, standing, contents_at, contents_among, joined, point, wh_of, reading_key}
use Rattle.pw_tariff.specs.Office.{OfficeRules}
use Rattle.pw_model.specs.Office.{AllOfOffice, IsOf, most_cents}
use Rattle.pw_model.specs.Energy.{Asked, asked_seconds, over_registers, share_of, meter_share, energy_where}
use Rattle.pw_model.specs.Payments.{stands_in, sum_once, keys, topped_up, cents_for}
use Rattle.pw_model.specs.Changes.{in_direction}
use Rattle.pw_model.specs.Changes.{IsOneMoreReading}
use Rattle.pw_model.specs.Bounds.{TotalsAreBounded}
use Rattle.pw_time.specs.declared.instant.TheConstants.{END_SECOND}
use Rattle.pw_model.proofs.Same.{same_key-decides}
use Rattle.pw_model.proofs.Counting.{Tells, entry, tells-among, standing-to, standing-part, one-stands, among-here, among-elsewhere}
use Rattle.pw_model.proofs.Energy.{one-reading, one-more_reading}
use Rattle.pw_flow.specs.Time.{last, next, sum_over}
use Rattle.pw_flow.specs.Flow.{flow}
use Rattle.pw_flow.specs.Energy.{register_energy}
use Rattle.pw_flow.specs.Pairs.{StandAround}
use Rattle.pw_flow.specs.Pairs.{cell_between}
use Rattle.pw_flow.proofs.Level.{kept-le, cell-at_most}
use Rattle.pw_flow.proofs.Points.{LastIs, NextIs, last-none, next-tells}
use Rattle.pw_flow.proofs.Sums.{sum-none}

-- ---- all seconds are asked for
abbrev pub always : Asked
always o t = true

sum-le : (f g : ℕ → ℕ) (x n : ℕ) → ((t : ℕ) → f t ≤ g t) → sum_over f x n ≤ sum_over g x n
unfolding sum_over
sum-le f g x zero h = omega arith
sum-le f g x (suc n) h = omega (arith, sum-le f g x n h, h (x + n))

register-le : (k : ℕ → Bool) (p : ℕ → Option ℕ) (end : ℕ) → register_energy k p end ≤ register_energy (λ t. true) p end
unfolding register_energy
register-le k p end = kept-le k (flow p end) 0 end

cond-le : (b : Bool) (m n : ℕ) → m ≤ n → cond b m 0 ≤ cond b n 0
cond-le true m n h = h
cond-le false m n h = omega arith

share-le : (office : OfficeRules) (at : Key → Contents) (asked : Asked) (m : ℕ) (r : Register) → share_of office at asked m r ≤ share_of office at always m r
share-le office at asked m r = cond-le (office.counts m r) _ _ (register-le (asked_seconds at asked m) (point at m r) office.end)

registers-le : (d : Direction) (f g : Register → ℕ) → ((r : Register) → f r ≤ g r) → over_registers d f ≤ over_registers d g
registers-le Import f g h = omega (arith, h I0, h I1, h I2)
registers-le Export f g h = omega (arith, h E0, h E1, h E2)

pub asked-le : (office : OfficeRules) (at : Key → Contents) (d : Direction) (asked : Asked) → energy_where office at d asked ≤ energy_where office at d always
unfolding energy_where
asked-le office at d asked =
    sum-le (meter_share office at d asked) (meter_share office at d always) 0 office.meters
    (λ m. registers-le d (share_of office at asked m) (share_of office at always m) (λ r. share-le office at asked m r))

-- ---- the readings alone tell it
points-tell : (office : OfficeRules) (old new : Key → Contents) (d : Direction) → ((m : ℕ) (r : Register) (t : ℕ) → point old m r t ≡ point new m r t) →
    energy_where office old d always ≡ energy_where office new d always
unfolding energy_where
points-tell office old new d h = λ i. sum_over (λ m. over_registers d (λ r. cond (office.counts m r) (register_energy (λ t. true) (λ t. h m r t i) office.end) 0)) 0 office.meters

no-flow : (p : ℕ → Option ℕ) (end t : ℕ) → ((s : ℕ) → p s ≡ None) → flow p end t ≡ 0
unfolding flow
no-flow p end t h = rw (last-none p t (λ s l. h s))

no-energy : (p : ℕ → Option ℕ) (end : ℕ) → ((s : ℕ) → p s ≡ None) → register_energy (λ t. true) p end ≡ 0
unfolding register_energy
no-energy p end h = sum-none _ 0 end (λ t x y. no-flow p end t h)

pub cond-zero : (b : Bool) (n : ℕ) → n ≡ 0 → cond b n 0 ≡ 0
cond-zero true n h = h
cond-zero false n h = refl

pub registers-zero : (d : Direction) (f : Register → ℕ) → ((r : Register) → f r ≡ 0) → over_registers d f ≡ 0
registers-zero Import f h = omega (arith, h I0, h I1, h I2)
registers-zero Export f h = omega (arith, h E0, h E1, h E2)

none-among : (office : OfficeRules) (d : Direction) → energy_where office (contents_among []) d always ≡ 0
unfolding energy_where contents_among
none-among office d = sum-none _ 0 office.meters (λ m x y. registers-zero d _ (λ r. cond-zero (office.counts m r) _ (no-energy (point (contents_among []) m r) office.end (λ s. refl))))

pub none-held : (office : OfficeRules) (d : Direction) → energy_where office (contents_at []) d always ≡ 0
unfolding contents_at standing
none-held office d = none-among office d

-- ---- values of counting readings
abbrev WhFits : Option ℕ → Type 0
WhFits None = Unit {0}
WhFits (Some w) = w ≤ LARGEST_WATT_HOURS

abbrev PointFits : Option (ℕ × ℕ) → Type 0
PointFits None = Unit {0}
PointFits (Some a) = a.1 ≤ LARGEST_WATT_HOURS

-- what is told at a key is of the office
abbrev pub ToldOf : OfficeRules → Key → Contents → Type 0
ToldOf office k Nothing = Unit {0}
ToldOf office k (One c) = IsOf office k c
ToldOf office k Several = Unit {0}

told-of : (office : OfficeRules) (s : List Entry) (k : Key) (r : Contents) → AllOfOffice office s → contents_at s k ≡ r → ToldOf office k r
told-of office s k Nothing h e = tt
told-of office s k (One c) h e = h (entry k c) (standing-part s (entry k c) (one-stands s k c e))
told-of office s k Several h e = tt

pub contents-of : (office : OfficeRules) (s : List Entry) (k : Key) → AllOfOffice office s → ToldOf office k (contents_at s k)
contents-of office s k h = told-of office s k (contents_at s k) h refl

wh-fits : (office : OfficeRules) (m : ℕ) (r : Register) (t : ℕ) (c : Contents) → ToldOf office (reading_key m r t) c → WhFits (wh_of c)
wh-fits office m r t Nothing h = tt
wh-fits office m r t (One (content.Reading w)) h = h.3
wh-fits office m r t (One (content.Assignment o)) h = tt
wh-fits office m r t (One (content.TopUp a c i)) h = tt
wh-fits office m r t (One content.Withdrawal) h = tt
wh-fits office m r t Several h = tt

-- and so is what a list says of it
among-told : (office : OfficeRules) (s : List Entry) (k : Key) (r : Contents) → AllOfOffice office s → Tells s k r → ToldOf office k r
among-told office s k Nothing h e = tt
among-told office s k (One c) h e = h (entry k c) e.0
among-told office s k Several h e = tt

among-of : (office : OfficeRules) (s : List Entry) (k : Key) → AllOfOffice office s → ToldOf office k (contents_among s k)
among-of office s k h = among-told office s k (contents_among s k) h (tells-among s k)

point-fits : (office : OfficeRules) (s : List Entry) → AllOfOffice office s → (m : ℕ) (r : Register) (t : ℕ) → WhFits (point (contents_among s) m r t)
point-fits office s h m r t = wh-fits office m r t (contents_among s (reading_key m r t)) (among-of office s (reading_key m r t) h)

below-fits : (p : ℕ → Option ℕ) (z : ℕ) (below : Option (ℕ × ℕ)) → ((s : ℕ) → WhFits (p s)) → LastIs p z below → PointFits below
below-fits p z None h l = tt
below-fits p z (Some a) h l = subst WhFits l.holds (h a.0)

above-fits : (p : ℕ → Option ℕ) (z n : ℕ) (above : Option (ℕ × ℕ)) → ((s : ℕ) → WhFits (p s)) → NextIs p z n above → PointFits above
above-fits p z n None h l = tt
above-fits p z n (Some a) h l = subst WhFits l.holds (h a.0)

-- ---- what pairs give
one-cell : (k : ℕ → Bool) (below above : Option (ℕ × ℕ)) → PointFits above → cell_between k below above ≤ LARGEST_WATT_HOURS
one-cell k None above q = omega arith
one-cell k (Some a) None q = omega arith
one-cell k (Some a) (Some b) q = omega (arith, cell-at_most k a.0 a.1 b.0 b.1)

two-cells : (k : ℕ → Bool) (below above : Option (ℕ × ℕ)) (z w : ℕ) → w ≤ LARGEST_WATT_HOURS → PointFits above →
    cell_between k below (Some (z, w)) + cell_between k (Some (z, w)) above ≤ LARGEST_WATT_HOURS
two-cells k None None z w l q = omega arith
two-cells k None (Some b) z w l q = omega (arith, cell-at_most k z w b.0 b.1)
two-cells k (Some a) None z w l q = omega (arith, cell-at_most k a.0 a.1 z w)
two-cells k (Some a) (Some b) z w l q = omega (arith, cell-at_most k a.0 a.1 z w, cell-at_most k z w b.0 b.1)

in_direction-le : (d : Direction) (r : Register) (n : ℕ) → in_direction d r n ≤ n
in_direction-le d r n = elim (cases_Bool (same_direction (direction_of r) d)) [ inl t ↦ rw t (omega arith) | inr f ↦ rw f (omega arith) ]

-- one counting reading more or less changes an energy by at most the largest value
record AreNear (a b : ℕ) : Type 0 where
  pub up : b ≤ a + LARGEST_WATT_HOURS
  pub down : a ≤ b + LARGEST_WATT_HOURS

reading-near : (office : OfficeRules) (old new : Key → Contents) (m : ℕ) (r : Register) (z w : ℕ) (d : Direction) →
    IsOneMoreReading old new m r z w → z < office.end → m < office.meters → office.counts m r ≡ true → w ≤ LARGEST_WATT_HOURS → ((s : ℕ) → WhFits (point old m r s)) →
    AreNear (energy_where office old d always) (energy_where office new d always)
reading-near office old new m r z w d h l i c f g =
    let p = point old m r in
    let below = last p z in
    let above = next p z (office.end - z) in
    let gap : StandAround p office.end z below above = record { inside = l; last_is = refl; next_is = refl } in
    let k = asked_seconds old always m in
    let fit : PointFits above = above-fits p z (office.end - z) above g (next-tells p z (office.end - z) above refl) in
    let e : energy_where office new d always + in_direction d r (cell_between k below above)
    ≡ energy_where office old d always + in_direction d r (cell_between k below (Some (z, w)) + cell_between k (Some (z, w)) above)
    = one-more_reading office old new m r z w below above h gap i c always d in
    let x : cell_between k below above ≤ LARGEST_WATT_HOURS = one-cell k below above fit in
    let y : cell_between k below (Some (z, w)) + cell_between k (Some (z, w)) above ≤ LARGEST_WATT_HOURS = two-cells k below above z w f fit in
    let u = in_direction-le d r (cell_between k below above) in
    let v = in_direction-le d r (cell_between k below (Some (z, w)) + cell_between k (Some (z, w)) above) in
    record { up = omega (arith, e, y, v); down = omega (arith, e, x, u) }

-- ---- one more record
everywhere : (old new : Key → Contents) (k : Key) → new k ≡ old k → ((l : Key) → (l ≡ k → ⊥) → new l ≡ old l) → (l : Key) → new l ≡ old l
everywhere old new k h o l =
    elim (cases_Bool (same_key l k)) [
      | inl t ↦ (let i : l ≡ k = (same_key-decides l k).0 t in ap new i ∙ h ∙ sym (ap old i))
      | inr f ↦ o l (λ i. true≢false (sym ((same_key-decides l k).1 i) ∙ f))
    ]

same-total : (office : OfficeRules) (old new : Key → Contents) (d : Direction) → ((m : ℕ) (r : Register) (t : ℕ) → point old m r t ≡ point new m r t) →
    energy_where office new d always ≤ energy_where office old d always + LARGEST_WATT_HOURS
same-total office old new d h = let e = points-tell office old new d h in omega (arith, e)

record OneMore (office : OfficeRules) (old new : Key → Contents) (k : Key) (c : Content) (r : Contents) : Type 0 where
  pub fits : IsOf office k c
  pub was_fit : ToldOf office k r
  pub was : old k ≡ r
  pub is : new k ≡ joined c r
  pub elsewhere : (l : Key) → (l ≡ k → ⊥) → new l ≡ old l
  pub old_points : (m : ℕ) (q : Register) (t : ℕ) → WhFits (point old m q t)
  pub new_points : (m : ℕ) (q : Register) (t : ℕ) → WhFits (point new m q t)

step : (office : OfficeRules) (old new : Key → Contents) (k : Key) (c : Content) (r : Contents) (d : Direction) → office.end ≡ END_SECOND → OneMore office old new k c r →
    energy_where office new d always ≤ energy_where office old d always + LARGEST_WATT_HOURS
step office old new (key.Assignment m t) c r d n h = same-total office old new d (λ a q u. ap wh_of (sym (h.elsewhere (reading_key a q u) (λ i. cc))))
step office old new (key.TopUp x) c r d n h = same-total office old new d (λ a q u. ap wh_of (sym (h.elsewhere (reading_key a q u) (λ i. cc))))
step office old new (key.Withdrawal x) c r d n h = same-total office old new d (λ a q u. ap wh_of (sym (h.elsewhere (reading_key a q u) (λ i. cc))))
step office old new (key.Reading m q t) (content.Assignment o) r d n h = absurd h.fits
step office old new (key.Reading m q t) content.Withdrawal r d n h = absurd h.fits
step office old new (key.Reading m q t) (content.TopUp a c i) r d n h = absurd h.fits
step office old new (key.Reading m q t) (content.Reading w) Nothing d n h =
    let more : IsOneMoreReading old new m.0 q t w = one-reading old new m.0 q t w (ap wh_of h.was) (ap wh_of h.is) (λ l x. sym (h.elsewhere l x)) in
    (reading-near office old new m.0 q t w d more (omega (arith, n, h.fits.2.1)) h.fits.0 h.fits.1 h.fits.3 (h.old_points m.0 q)).up
step office old new (key.Reading m q t) (content.Reading w) Several d n h =
    same-total office old new d (λ a p u. ap wh_of (sym (everywhere old new (key.Reading m q t) (h.is ∙ sym h.was) h.elsewhere (reading_key a p u))))
step office old new (key.Reading m q t) (content.Reading w) (One (content.Assignment o)) d n h = absurd h.was_fit
step office old new (key.Reading m q t) (content.Reading w) (One (content.TopUp a c i)) d n h = absurd h.was_fit
step office old new (key.Reading m q t) (content.Reading w) (One content.Withdrawal) d n h = absurd h.was_fit
step office old new (key.Reading m q t) (content.Reading w) (One (content.Reading v)) d n h =
    elim (cases_Bool (same_content (content.Reading w) (content.Reading v))) [
      | inl y ↦ (
          let is : new (key.Reading m q t) ≡ One (content.Reading v) = h.is ∙ ap (λ b. cond b (One (content.Reading v)) Several) y in
          same-total office old new d (λ a p u. ap wh_of (sym (everywhere old new (key.Reading m q t) (is ∙ sym h.was) h.elsewhere (reading_key a p u)))))
      | inr f ↦ (
          let is : new (key.Reading m q t) ≡ Several = h.is ∙ ap (λ b. cond b (One (content.Reading v)) Several) f in
          let less : IsOneMoreReading new old m.0 q t v = one-reading new old m.0 q t v (ap wh_of is) (ap wh_of h.was) h.elsewhere in
          (reading-near office new old m.0 q t v d less (omega (arith, n, h.fits.2.1)) h.fits.0 h.fits.1 h.was_fit.3 (h.new_points m.0 q)).down)
    ]

among-bounded : (office : OfficeRules) (s : List Entry) (d : Direction) → office.end ≡ END_SECOND → AllOfOffice office s →
    energy_where office (contents_among s) d always ≤ length s * LARGEST_WATT_HOURS
among-bounded office [] d n h = omega (arith, none-among office d)
among-bounded office (e ∷ s) d n h =
    let part : AllOfOffice office s = λ f m. h f (inr m) in
    let one : OneMore office (contents_among s) (contents_among (e ∷ s)) e.key e.content (contents_among s e.key) = record {
      fits = h e (inl refl);
      was_fit = among-of office s e.key part;
      was = refl;
      is = among-here s e;
      elsewhere = among-elsewhere s e;
      old_points = point-fits office s part;
      new_points = point-fits office (e ∷ s) h;
    } in
    let up = step office (contents_among s) (contents_among (e ∷ s)) e.key e.content (contents_among s e.key) d n one in
    let rest = among-bounded office s d n part in
    omega (arith, up, rest)

-- those that stand are no more than there are
pub fewer-stand : (s some : List Entry) → length (standing_among s some) ≤ length some
fewer-stand s [] = omega arith
fewer-stand s (e ∷ some) =
    let r = fewer-stand s some in
    elim (cases_Bool (is_withdrawn s e)) [ inl t ↦ rw t (omega (arith, r)) | inr f ↦ rw f (omega (arith, r)) ]

energies-bounded : (office : OfficeRules) (s : List Entry) (d : Direction) → office.end ≡ END_SECOND → AllOfOffice office s →
    energy_where office (contents_at s) d always ≤ length s * LARGEST_WATT_HOURS
unfolding contents_at standing
energies-bounded office s d n h =
    let up = among-bounded office (standing_among s s) d n (λ e m. h e (standing-to s s e m).0) in
    let few : length (standing_among s s) ≤ length s = fewer-stand s s in
    omega (arith, up, few)

cents-fit : (office : OfficeRules) (k : Key) (a : ℕ) (r : Contents) → ToldOf office k r → cents_for a r ≤ most_cents
cents-fit office k a Nothing h = omega arith
cents-fit office k a Several h = omega arith
cents-fit office k a (One (content.Reading w)) h = omega arith
cents-fit office k a (One (content.Assignment o)) h = omega arith
cents-fit office k a (One content.Withdrawal) h = omega arith
cents-fit office (key.TopUp x) a (One (content.TopUp b c t)) h = elim (cases_Bool (b.0 == a)) [ inl y ↦ rw y h.3 | inr n ↦ rw n (omega arith) ]
cents-fit office (key.Reading m q t) a (One (content.TopUp b c i)) h = absurd h
cents-fit office (key.Assignment m t) a (One (content.TopUp b c i)) h = absurd h
cents-fit office (key.Withdrawal n) a (One (content.TopUp b c i)) h = absurd h

once-bounded : (f : Key → ℕ) (most : ℕ) (ks : List Key) → ((k : Key) → f k ≤ most) → sum_once same_key f ks ≤ length ks * most
once-bounded f most [] h = omega arith
once-bounded f most (k ∷ ks) h =
    let rest = once-bounded f most ks h in
    let here = h k in
    elim (cases_Bool (stands_in same_key k ks)) [ inl t ↦ rw t (omega (arith, rest)) | inr n ↦ rw n (omega (arith, rest, here)) ]

as-many-keys : (s : List Entry) → length (keys s) ≡ length s
as-many-keys [] = refl
as-many-keys (e ∷ s) = let r = as-many-keys s in omega (arith, r)

topped-bounded : (office : OfficeRules) (s : List Entry) (a : ℕ) → AllOfOffice office s → topped_up s a ≤ length s * most_cents
unfolding topped_up
topped-bounded office s a h =
    let up = once-bounded (λ k. cents_for a (contents_at s k)) most_cents (keys s) (λ k. cents-fit office k a (contents_at s k) (contents-of office s k h)) in
    let many = as-many-keys s in
    omega (arith, up, many)

pub totals-bounded : TotalsAreBounded
totals-bounded office s o h = record {
  energies = λ d asked. (let a = asked-le office (contents_at s) d asked in let b = energies-bounded office s d o.end h in omega (arith, a, b));
  topped = λ a. topped-bounded office s a h;
}
