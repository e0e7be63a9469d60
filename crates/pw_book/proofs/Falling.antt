-- The falls among the points of a register.
use Rattle.std.proofs.Common.{◌≡◌, ℕ, suc, ◌<◌, ◌≤◌, true, cond, nat_lt, Option, Some, List, [], ◌∷◌, length, refl, ap, sym, ◌∙◌, subst, inl, inr, Less, Equal, arith}
use Rattle.std.specs.Cmp.{nat_cmp_is}
use Rattle.std.specs.Ordering.{nat_cmp}
use Rattle.std.proofs.lemmas.Bool.{cases_lt, cases_Bool, lt-ltb, ltb-true}
use Rattle.std.proofs.lemmas.Option.{none-some, same_Some}
use Rattle.pw_flow.specs.Pairs as flow
use Rattle.pw_obis.specs.declared.reference.Register.{Register}
use Rattle.pw_tariff.specs.declared.ids.MeterId.{MeterId}
use Rattle.pw_tariff.specs.Office.{register_place}
use Rattle.pw_model.specs.declared.records.Fall.{Fall}
use Rattle.pw_model.specs.Counting.{Member}
use Rattle.pw_model.specs.Lists.{IsInOrder, Lists, fall_order, fall_numbers}
use Rattle.pw_model.specs.Seconds.{ListsSeconds}
use Rattle.pw_book.specs.inner.Counted.{IsFallOf}
use Rattle.pw_model.proofs.EntryOrder.{before-all}
use Rattle.pw_parts.proofs.Chart.{listed}

abbrev pub fall : MeterId → Register → ℕ × ℕ → ℕ × ℕ → Fall
fall m r a b = record { meter = m; register = r; from = a.0; high = a.1; to = b.0; low = b.1 }

-- the pairs of a list of which the second shows less
abbrev pub falls_in : MeterId → Register → List (ℕ × ℕ) → List Fall
falls_in m r [] = []
falls_in m r (a ∷ []) = []
falls_in m r (a ∷ b ∷ ps) = cond (nat_lt b.1 a.1) (fall m r a b ∷ falls_in m r (b ∷ ps)) (falls_in m r (b ∷ ps))

-- where no window of two is left, no fall is
pub falls-ended : (m : MeterId) (r : Register) (rest : List (ℕ × ℕ)) → length rest < 2 → falls_in m r rest ≡ []
falls-ended m r [] l = refl
falls-ended m r (a ∷ []) l = refl
falls-ended m r (a ∷ b ∷ ps) l = absurd (omega arith)

module _ (m : MeterId) (r : Register) (told : ℕ → Option ℕ) (end : ℕ) where
  -- a fall among points from a second on begins there or later
  begins : (from : ℕ) (ps : List (ℕ × ℕ)) → flow.ListsPoints told end from ps → (f : Fall) → Member f (falls_in m r ps) → from ≤ f.from
  begins from [] l f n = absurd n
  begins from (a ∷ []) l f n = absurd n
  begins from (a ∷ b ∷ ps) l f n =
      let behind : Member f (falls_in m r (b ∷ ps)) → from ≤ f.from = λ k. (let g = begins (suc a.0) (b ∷ ps) l.4 f k in let h = l.0 in omega (arith, g, h)) in
      elim (cases_Bool (nat_lt b.1 a.1)) [
        | inl t ↦ (
            let k : Member f (fall m r a b ∷ falls_in m r (b ∷ ps)) = rw t at n in
            elim k [
              | inl i ↦ (let P : Fall → Type 0 = λ x. from ≤ x.from in subst P (sym i) l.0)
              | inr j ↦ behind j
            ])
        | inr u ↦ (let k : Member f (falls_in m r (b ∷ ps)) = rw u at n in behind k)
      ]

  -- each is a fall of the register
  is-fall : (from : ℕ) (ps : List (ℕ × ℕ)) → flow.ListsPoints told end from ps → (f : Fall) → Member f (falls_in m r ps) → IsFallOf m r told f
  is-fall from [] l f n = absurd n
  is-fall from (a ∷ []) l f n = absurd n
  is-fall from (a ∷ b ∷ ps) l f n =
      elim (cases_Bool (nat_lt b.1 a.1)) [
        | inl t ↦ (
            let k : Member f (fall m r a b ∷ falls_in m r (b ∷ ps)) = rw t at n in
            elim k [
              | inl i ↦ (
                  let here : IsFallOf m r told (fall m r a b) = record {
                    meter = refl;
                    register = refl;
                    neighbours = record {
                      earlier = (let g = l.4.0 in omega (arith, g));
                      first = l.2;
                      second = l.4.2;
                      between = λ s p q. l.4.3 s p q;
                    };
                    lower = ltb-true b.1 a.1 t;
                  } in
                  let P : Fall → Type 0 = λ x. IsFallOf m r told x in subst P (sym i) here)
              | inr j ↦ is-fall (suc a.0) (b ∷ ps) l.4 f j
            ])
        | inr u ↦ (let k : Member f (falls_in m r (b ∷ ps)) = rw u at n in is-fall (suc a.0) (b ∷ ps) l.4 f k)
      ]

  -- each fall of the register from a second on is among them
  has-fall : (from : ℕ) (ps : List (ℕ × ℕ)) → flow.ListsPoints told end from ps → (f : Fall) → IsFallOf m r told f → from ≤ f.from → Member f (falls_in m r ps)
  has-fall from [] l f h g = absurd (none-some f.high (sym (l f.from g) ∙ h.neighbours.first))
  has-fall from (a ∷ []) l f h g =
      let late : a.0 < f.from → ⊥ = λ q. none-some f.high (sym (l.4 f.from (omega (arith, q))) ∙ h.neighbours.first) in
      elim (cases_lt f.from a.0) [
        | inl q ↦ absurd (none-some f.high (sym (l.3 f.from g q) ∙ h.neighbours.first))
        | inr q ↦ (
            let e = h.neighbours.earlier in
            absurd (none-some f.low (sym (l.4 f.to (omega (arith, q, e))) ∙ h.neighbours.second)))
      ]
  has-fall from (a ∷ b ∷ ps) l f h g =
      elim (cases_lt f.from a.0) [
        | inl q ↦ absurd (none-some f.high (sym (l.3 f.from g q) ∙ h.neighbours.first))
        | inr q ↦ elim (cases_lt a.0 f.from) [
          | inl p ↦ (
              let k = has-fall (suc a.0) (b ∷ ps) l.4 f h (omega (arith, p)) in
              elim (cases_Bool (nat_lt b.1 a.1)) [ inl t ↦ rw t (inr k) | inr u ↦ rw u k ])
          | inr p ↦ (
              let same : a.0 ≡ f.from = omega (arith, p, q) in
              let high : a.1 ≡ f.high = same_Some a.1 f.high (sym l.2 ∙ ap told same ∙ h.neighbours.first) in
              let e = h.neighbours.earlier in
              let to : b.0 ≡ f.to = elim (cases_lt f.to b.0) [
                | inl y ↦ absurd (none-some f.low (sym (l.4.3 f.to (omega (arith, same, e)) y) ∙ h.neighbours.second))
                | inr y ↦ elim (cases_lt b.0 f.to) [
                  | inl z ↦ absurd (let w = l.4.0 in none-some b.1 (sym (h.neighbours.between b.0 (omega (arith, same, w)) z) ∙ l.4.2))
                  | inr z ↦ omega (arith, y, z)
                ]
              ] in
              let low : b.1 ≡ f.low = same_Some b.1 f.low (sym l.4.2 ∙ ap told to ∙ h.neighbours.second) in
              let is : f ≡ fall m r a b = λ i. record { meter = h.meter i; register = h.register i; from = sym same i; high = sym high i; to = sym to i; low = sym low i } in
              let t : nat_lt b.1 a.1 ≡ true = (let w = h.lower in lt-ltb b.1 a.1 (omega (arith, high, low, w))) in
              rw t (inl is))
        ]
      ]

  same-number : (x : ℕ) → nat_cmp x x ≡ Equal
  same-number x = sym (nat_cmp_is x x Equal refl)

  -- the earlier of two falls of a register stands first
  in-order : (f g : Fall) → f.meter ≡ m → f.register ≡ r → g.meter ≡ m → g.register ≡ r → f.from < g.from → fall_order f g ≡ Less
  unfolding fall_numbers
  in-order f g a b c d l =
      rw (a, b, c, d, same-number m.0, same-number (register_place r), sym (nat_cmp_is f.from g.from Less l)) refl

  rise : (from : ℕ) (ps : List (ℕ × ℕ)) → flow.ListsPoints told end from ps → IsInOrder fall_order (falls_in m r ps)
  rise from [] l = tt
  rise from (a ∷ []) l = tt
  rise from (a ∷ b ∷ ps) l =
      let behind = rise (suc a.0) (b ∷ ps) l.4 in
      elim (cases_Bool (nat_lt b.1 a.1)) [
        | inl t ↦ rw t (
          before-all fall_order (fall m r a b) (falls_in m r (b ∷ ps)) (λ f n.
              let h = is-fall (suc a.0) (b ∷ ps) l.4 f n in
              let g = begins (suc a.0) (b ∷ ps) l.4 f n in
              in-order (fall m r a b) f refl refl h.meter h.register (omega (arith, g))),
          behind,
        )
        | inr u ↦ rw u behind
      ]

  pub lists-falls : (ps : List (ℕ × ℕ)) → ListsSeconds told ps → ((t w : ℕ) → told t ≡ Some w → t < end) → Lists fall_order (IsFallOf m r told) (falls_in m r ps)
  lists-falls ps l e =
      let k = listed told end ps l e in
      record { rising = rise 0 ps k; members = λ f. (is-fall 0 ps k f, λ h. has-fall 0 ps k f h (omega arith)) }
