-- The changes of one line: of its name, of what a meter is beside it, and of a period.
use Rattle.std.proofs.Common.{◌≡◌, ◌↔◌, ◌⊎◌, Bool, IsTrue, true, false, not, ℕ, ◌+◌, ◌<◌, ◌≤◌, Option, Some, None, option_map, List, [], ◌∷◌, ◌++◌, drop, length, map, get_or, slice_get, refl, ap, sym, subst, ◌∙◌, inl, inr, arith}
use Rattle.std.specs.Cmp.Lexicographic.{slice_cmp}
use Rattle.std.specs.Ordering.{nat_cmp, ordering_then}
use Rattle.std.specs.declared.cmp.Ordering.{Ordering}
use Rattle.std.specs.declared.cmp.Ordering.TheVariants.{Less, Equal}
use Rattle.std.proofs.Math.Bool.{beq}
use Rattle.std.proofs.lemmas.Bool.{cases_eq, cases_lt, true≢false}
use Rattle.std.proofs.lemmas.List.{get_or-map}
use Rattle.std.proofs.lemmas.List.FromFn.{get_or-range_with_len}
use Rattle.std.proofs.lemmas.Option.{none-some, same_Some, slice_get-get_or, slice_get-map, slice_get_past}
use Rattle.pw_obis.specs.declared.reference.Register.{Register}
use Rattle.pw_obis.specs.declared.reference.Register.TheVariants.{I0, I1, I2, E0, E1, E2}
use Rattle.pw_obis.specs.Registers.{registers}
use Rattle.pw_tariff.specs.declared.ids.BandId.{BandId}
use Rattle.pw_tariff.specs.declared.ids.Direction.{Direction}
use Rattle.pw_tariff.specs.declared.ids.Direction.TheVariants.{Import, Export}
use Rattle.pw_tariff.specs.declared.ids.MeterId.{MeterId}
use Rattle.pw_tariff.specs.declared.ids.PeriodId.{PeriodId}
use Rattle.pw_tariff.specs.Office.{AreDistinct, BandText, IsSound, MeterText, OfficeFile, counts_at, letters, periods_in, register_place}
use Rattle.pw_model.specs.Lists.{Lists}
use Rattle.pw_model.specs.Same.{direction_place}
use Rattle.pw_model.proofs.InKeyOrder.{cmp-less, cmp-equal}
use Rattle.pw_model.proofs.Same.{register-one}
use Rattle.pw_moving.specs.declared.change.Listed.{Listed}
use Rattle.pw_moving.specs.declared.change.Listed.TheVariants.{Accounts, Meters, Bands}
use Rattle.pw_moving.specs.declared.change.Change.{Change}
use Rattle.pw_moving.specs.declared.change.Change.TheVariants as change
use Rattle.pw_moving.specs.Names.{names_in}
use Rattle.pw_moving.specs.Renaming.{Offices}
use Rattle.pw_moving.specs.Changes.{AreUnlike, Differs, change_order, kind_numbers, line_of, list_of, list_place}
use Rattle.pw_moving.specs.inner.Comparing.{AreOfBands, AreOfLine, AreOfMeter, AreOfName, AreOfPlace, AreOfPrice, AreOfRegisters, IsOfBand, IsOfName, IsOfPlace, IsOfRegister, Puts}
use Rattle.pw_moving.proofs.Ordered.{lists-both, lists-none, lists-one, puts-both, puts-none}
use Rattle.pw_moving.proofs.Rising.{earlier-kind, line-within, no-list, one-list}

-- ---- what is put
pub puts-one : (P : Change → Type 0) (x : Change) (a b : List Change) → b ≡ a ++ x ∷ [] → P x → ((y : Change) → P y → y ≡ x) → Puts (Lists change_order P) a b
puts-one P x a b e p only = (x ∷ [], e, lists-one change_order P x p only)

pub puts-nothing : (P : Change → Type 0) (a b : List Change) → b ≡ a → ((y : Change) → P y → ⊥) → Puts (Lists change_order P) a b
puts-nothing P a b e h = subst (λ (l : List Change). Puts (Lists change_order P) a l) (sym e) (puts-none (Lists change_order P) a (lists-none change_order P h))

puts-join : (P Q R : Change → Type 0) (a b c : List Change) → Puts (Lists change_order P) a b → Puts (Lists change_order Q) b c → ((x y : Change) → P x → Q y → change_order x y ≡ Less) →
    ((x : Change) → R x ↔ (P x ⊎ Q x)) → Puts (Lists change_order R) a c
puts-join P Q R a b c p q before either =
    puts-both (Lists change_order P) (Lists change_order Q) (Lists change_order R) a b c (λ xs ys h k. lists-both change_order P Q R xs ys h k before either) p q

puts-same : (P Q : Change → Type 0) (a b : List Change) → Puts (Lists change_order P) a b → ((x : Change) → P x ↔ Q x) → Puts (Lists change_order Q) a b
puts-same P Q a b p same = (
  p.0,
  p.1,
  record {
    rising = p.2.rising;
    members = λ x. (λ m. (same x).0 ((p.2.members x).0 m), λ q. (p.2.members x).1 ((same x).1 q));
  },
)

-- ---- the order of what is told of one line
abbrev pub rank : Change → ℕ
rank c = get_or (kind_numbers c) 0 0

abbrev rest : Change → List ℕ
rest c = drop 1 (kind_numbers c)

ranked : (c : Change) → kind_numbers c ≡ rank c ∷ rest c
ranked (change.Added list place) = refl
ranked (change.Gone list place) = refl
ranked (change.Renamed list place) = refl
ranked (change.Moved list from to) = refl
ranked (change.Clock m) = refl
ranked (change.Register m r) = refl
ranked (change.Start p) = refl
ranked (change.NewPeriod p) = refl
ranked (change.PeriodGone p) = refl
ranked (change.Week p) = refl
ranked (change.Price p b d) = refl

earlier-rank : (c e : Change) → list_of c ≡ list_of e → line_of c ≡ line_of e → rank c < rank e → change_order c e ≡ Less
earlier-rank c e s t l = earlier-kind c e s t (
    ap (λ (k : List ℕ). slice_cmp nat_cmp k (kind_numbers e)) (ranked c)
    ∙ ap (λ (k : List ℕ). slice_cmp nat_cmp (rank c ∷ rest c) k) (ranked e)
    ∙ ap (λ (o : Ordering). ordering_then o (slice_cmp nat_cmp (rest c) (rest e))) (cmp-less (rank c) (rank e) l))

abbrev meter : ℕ → MeterId
meter n = record { 0 = n }

abbrev period : ℕ → PeriodId
period n = record { 0 = n }

-- ---- what was asked
pub refuted : {P : Type 0} (b : Bool) → b ≡ false → IsTrue b ↔ P → P → ⊥
refuted b h same p = true≢false (sym (same.1 p) ∙ h)

pub confirmed : {P : Type 0} (b : Bool) → b ≡ true → IsTrue b ↔ P → P
confirmed b h same = same.0 h

-- ---- registers
pub unlike-bools : (a b : Bool) → not (beq a b) ≡ true → a ≡ b → ⊥
unlike-bools true true h e = true≢false (sym h)
unlike-bools true false h e = true≢false e
unlike-bools false true h e = true≢false (sym e)
unlike-bools false false h e = true≢false (sym h)

pub like-bools : (a b : Bool) → not (beq a b) ≡ false → a ≡ b
like-bools true true h = refl
like-bools true false h = h
like-bools false true h = sym h
like-bools false false h = refl

pub counts-other : (o : Offices) (m : MeterId) (r : Register) (a b : Bool) → m.0 < length o.old.meters → m.0 < length o.new.meters → a ≡ counts_at o.old m.0 r → b ≡ counts_at o.new m.0 r → (a ≡ b → ⊥) →
    Differs o (change.Register m r)
counts-other o m r a b i j old new d = ((i, j), λ e. d (old ∙ e ∙ sym new))

pub counts-same : (o : Offices) (m : MeterId) (r : Register) (a b : Bool) → a ≡ counts_at o.old m.0 r → b ≡ counts_at o.new m.0 r → a ≡ b → Differs o (change.Register m r) → ⊥
counts-same o m r a b old new e h = h.1 (sym old ∙ e ∙ new)

place-few : (r : Register) → register_place r < 6
place-few r = elim r as (λ (q : Register). register_place q < 6) [ I0 ↦ omega arith | I1 ↦ omega arith | I2 ↦ omega arith | E0 ↦ omega arith | E1 ↦ omega arith | E2 ↦ omega arith ]

pub place-at : (i : ℕ) (d : Register) → i < 6 → register_place (get_or registers i d) ≡ i
place-at i d l = sym (get_or-map register_place registers i d 0 l) ∙ get_or-range_with_len 0 6 i 0 l ∙ omega arith

only-register : (n : ℕ) (x : Change) → IsOfRegister n x → (m : MeterId) × (r : Register) × (x ≡ change.Register m r) × (register_place r < n)
only-register n (change.Added list place) h = absurd h
only-register n (change.Gone list place) h = absurd h
only-register n (change.Renamed list place) h = absurd h
only-register n (change.Moved list from to) h = absurd h
only-register n (change.Clock m) h = absurd h
only-register n (change.Register m r) h = (m, r, refl, h)
only-register n (change.Start p) h = absurd h
only-register n (change.NewPeriod p) h = absurd h
only-register n (change.PeriodGone p) h = absurd h
only-register n (change.Week p) h = absurd h
only-register n (change.Price p b d) h = absurd h

register-here : (n : ℕ) (m : MeterId) (r : Register) (x : Change) → x ≡ change.Register m r → register_place r < n → IsOfRegister n x
register-here n m r x e l = subst (λ (y : Change). IsOfRegister n y) (sym e) l

module _ (o : Offices) (m : MeterId) (r : Register) (n : ℕ) (here : register_place r ≡ n) where
  register-before : (x y : Change) → line_of x ≡ m.0 → IsOfRegister n x → y ≡ change.Register m r → change_order x y ≡ Less
  register-before x y l h e =
      let k = only-register n x h in
      let few : register_place k.1 < n = k.3 in
      let line : k.0.0 ≡ m.0 = sym (ap line_of k.2) ∙ l in
      let less : register_place k.1 < register_place r = omega (arith, few, here) in
      let told : change_order (change.Register k.0 k.1) (change.Register m r) ≡ Less = earlier-kind (change.Register k.0 k.1) (change.Register m r) refl line
      (ap (λ (o : Ordering). ordering_then o Equal) (cmp-less (register_place k.1) (register_place r) less)) in
      ap (λ (z : Change). change_order z y) k.2 ∙ ap (λ (z : Change). change_order (change.Register k.0 k.1) z) e ∙ told

  register-either : (x : Change) → Differs o x → line_of x ≡ m.0 → IsOfRegister (n + 1) x →
      (Differs o x × (line_of x ≡ m.0) × IsOfRegister n x) ⊎ (Differs o x × (x ≡ change.Register m r))
  register-either x d l h =
      let k = only-register (n + 1) x h in
      let few : register_place k.1 < n + 1 = k.3 in
      let line : k.0.0 ≡ m.0 = sym (ap line_of k.2) ∙ l in
      elim (cases_eq (register_place k.1) n) [
        | inl e ↦ inr (d, k.2 ∙ ap (λ (q : Register). change.Register k.0 q) (register-one k.1 r (e ∙ sym here)) ∙ ap (λ (i : ℕ). change.Register (meter i) r) line)
        | inr u ↦ inl (d, l, register-here n k.0 k.1 x k.2 (omega (arith, few, u)))
      ]

  register-more : (x : Change) → IsOfRegister n x → IsOfRegister (n + 1) x
  register-more x h =
      let k = only-register n x h in
      let few : register_place k.1 < n = k.3 in
      register-here (n + 1) k.0 k.1 x k.2 (omega (arith, few))

  pub registers-next : (a b c : List Change) → Puts (AreOfRegisters o m.0 n) a b → Puts (Lists change_order (λ x. Differs o x × (x ≡ change.Register m r))) b c →
      Puts (AreOfRegisters o m.0 (n + 1)) a c
  registers-next a b c p q =
      puts-join (λ x. Differs o x × (line_of x ≡ m.0) × IsOfRegister n x) (λ x. Differs o x × (x ≡ change.Register m r)) (λ x. Differs o x × (line_of x ≡ m.0) × IsOfRegister (n + 1) x) a b c p q
      (λ x y h k. register-before x y h.1 h.2 k.1)
      (λ x. (
        λ h. register-either x h.0 h.1 h.2,
        λ h. elim h [
          | inl i ↦ (i.0, i.1, register-more x i.2)
          | inr i ↦ (i.0, ap line_of i.1, register-here (n + 1) m r x i.1 (omega (arith, here)))
        ],
      ))

-- ---- what a meter is beside its name
beside-name : (m : MeterId) (x : Change) → list_of x ≡ 1 → line_of x ≡ m.0 → (IsOfName x → ⊥) → (x ≡ change.Clock m) ⊎ IsOfRegister 6 x
beside-name m (change.Added list place) s l h = absurd (h tt)
beside-name m (change.Gone list place) s l h = absurd (h tt)
beside-name m (change.Renamed list place) s l h = absurd (h tt)
beside-name m (change.Moved list from to) s l h = absurd (h tt)
beside-name m (change.Clock k) s l h = inl (ap (λ (i : ℕ). change.Clock (meter i)) l)
beside-name m (change.Register k r) s l h = inr (place-few r)
beside-name m (change.Start p) s l h = absurd (omega (arith, s))
beside-name m (change.NewPeriod p) s l h = absurd (omega (arith, s))
beside-name m (change.PeriodGone p) s l h = absurd (omega (arith, s))
beside-name m (change.Week p) s l h = absurd (omega (arith, s))
beside-name m (change.Price p b d) s l h = absurd (omega (arith, s))

pub meter-next : (o : Offices) (m : MeterId) (a b c : List Change) → Puts (Lists change_order (λ x. Differs o x × (x ≡ change.Clock m))) a b → Puts (AreOfRegisters o m.0 6) b c →
    Puts (AreOfMeter o m.0) a c
meter-next o m a b c p q =
    puts-join (λ x. Differs o x × (x ≡ change.Clock m)) (λ x. Differs o x × (line_of x ≡ m.0) × IsOfRegister 6 x) (λ x. Differs o x × (list_of x ≡ 1) × (line_of x ≡ m.0) × (IsOfName x → ⊥)) a b c p q
    (λ x y h k.
    let r = only-register 6 y k.2 in
    let i : rank x ≡ 4 = ap rank h.1 in
    let j : rank y ≡ 5 = ap rank r.2 in
    earlier-rank x y (ap list_of h.1 ∙ sym (ap list_of r.2)) (ap line_of h.1 ∙ sym k.1) (omega (arith, i, j)))
    (λ x. (
      λ h. elim (beside-name m x h.1 h.2 h.3) [
        | inl e ↦ inl (h.0, e)
        | inr e ↦ inr (h.0, h.2, e)
      ],
      λ h. elim h [
        | inl i ↦ (i.0, ap list_of i.1, ap line_of i.1, λ e. subst (λ (y : Change). IsOfName y) i.1 e)
        | inr i ↦ (
            let r = only-register 6 x i.2 in
            (i.0, ap list_of r.2, i.1, λ e. subst (λ (y : Change). IsOfName y) r.2 e))
      ],
    ))

-- ---- prices
only-price : (n : ℕ) (x : Change) → IsOfBand n x → (p : PeriodId) × (b : BandId) × (d : Direction) × (x ≡ change.Price p b d) × (b.0 < n)
only-price n (change.Added list place) h = absurd h
only-price n (change.Gone list place) h = absurd h
only-price n (change.Renamed list place) h = absurd h
only-price n (change.Moved list from to) h = absurd h
only-price n (change.Clock m) h = absurd h
only-price n (change.Register m r) h = absurd h
only-price n (change.Start p) h = absurd h
only-price n (change.NewPeriod p) h = absurd h
only-price n (change.PeriodGone p) h = absurd h
only-price n (change.Week p) h = absurd h
only-price n (change.Price p b d) h = (p, b, d, refl, h)

price-here : (n : ℕ) (p : PeriodId) (b : BandId) (d : Direction) (x : Change) → x ≡ change.Price p b d → b.0 < n → IsOfBand n x
price-here n p b d x e l = subst (λ (y : Change). IsOfBand n y) (sym e) l

module _ (o : Offices) (p : PeriodId) (b : BandId) where
  either-way : (x : Change) (d : Direction) → Differs o x → x ≡ change.Price p b d → (Differs o x × (x ≡ change.Price p b Import)) ⊎ (Differs o x × (x ≡ change.Price p b Export))
  either-way x Import h e = inl (h, e)
  either-way x Export h e = inr (h, e)

  price-before : (d : Direction) (x y : Change) → line_of x ≡ p.0 → IsOfBand b.0 x → y ≡ change.Price p b d → change_order x y ≡ Less
  price-before d x y l h e =
      let k = only-price b.0 x h in
      let few : k.1.0 < b.0 = k.4 in
      let line : k.0.0 ≡ p.0 = sym (ap line_of k.3) ∙ l in
      let told : change_order (change.Price k.0 k.1 k.2) (change.Price p b d) ≡ Less = earlier-kind (change.Price k.0 k.1 k.2) (change.Price p b d) refl line
      (ap (λ (o : Ordering). ordering_then o (slice_cmp nat_cmp (direction_place k.2 ∷ []) (direction_place d ∷ []))) (cmp-less k.1.0 b.0 few)) in
      ap (λ (z : Change). change_order z y) k.3 ∙ ap (λ (z : Change). change_order (change.Price k.0 k.1 k.2) z) e ∙ told

  import-before : (x y : Change) → x ≡ change.Price p b Import → y ≡ change.Price p b Export → change_order x y ≡ Less
  import-before x y i j =
      let told : change_order (change.Price p b Import) (change.Price p b Export) ≡ Less = earlier-kind (change.Price p b Import) (change.Price p b Export) refl refl
      (ap (λ (o : Ordering). ordering_then o (slice_cmp nat_cmp (0 ∷ []) (1 ∷ []))) (cmp-equal b.0 b.0 refl)) in
      ap (λ (z : Change). change_order z y) i ∙ ap (λ (z : Change). change_order (change.Price p b Import) z) j ∙ told

  price-either : (x : Change) → Differs o x → line_of x ≡ p.0 → IsOfBand (b.0 + 1) x →
      ((Differs o x × (line_of x ≡ p.0) × IsOfBand b.0 x) ⊎ (Differs o x × (x ≡ change.Price p b Import))) ⊎ (Differs o x × (x ≡ change.Price p b Export))
  price-either x h l i =
      let k = only-price (b.0 + 1) x i in
      let few : k.1.0 < b.0 + 1 = k.4 in
      let line : k.0.0 ≡ p.0 = sym (ap line_of k.3) ∙ l in
      elim (cases_eq k.1.0 b.0) [
        | inl e ↦ (
            let same : x ≡ change.Price p b k.2 = k.3 ∙ ap (λ (n : ℕ). change.Price (period n) k.1 k.2) line ∙ ap (λ (n : ℕ). change.Price p (record { 0 = n }) k.2) e in
            elim (either-way x k.2 h same) [ inl j ↦ inl (inr j) | inr j ↦ inr j ])
        | inr u ↦ inl (inl (h, l, price-here b.0 k.0 k.1 k.2 x k.3 (omega (arith, few, u))))
      ]

  price-more : (x : Change) → IsOfBand b.0 x → IsOfBand (b.0 + 1) x
  price-more x h =
      let k = only-price b.0 x h in
      let few : k.1.0 < b.0 = k.4 in
      price-here (b.0 + 1) k.0 k.1 k.2 x k.3 (omega (arith, few))

  pub prices-next : (r s t u : List Change) → Puts (AreOfBands o p.0 b.0) r s → Puts (AreOfPrice o p b Import) s t → Puts (AreOfPrice o p b Export) t u → Puts (AreOfBands o p.0 (b.0 + 1)) r u
  prices-next r s t u before import export =
      let P : Change → Type 0 = λ x. Differs o x × (line_of x ≡ p.0) × IsOfBand b.0 x in
      let I : Change → Type 0 = λ x. Differs o x × (x ≡ change.Price p b Import) in
      let E : Change → Type 0 = λ x. Differs o x × (x ≡ change.Price p b Export) in
      let R : Change → Type 0 = λ x. Differs o x × (line_of x ≡ p.0) × IsOfBand (b.0 + 1) x in
      let first = puts-join P I (λ x. P x ⊎ I x) r s t before import (λ x y h k. price-before Import x y h.1 h.2 k.1) (λ x. (λ h. h, λ h. h)) in
      puts-join (λ x. P x ⊎ I x) E R r t u first export
      (λ x y h k. elim h [ inl i ↦ price-before Export x y i.1 i.2 k.1 | inr i ↦ import-before x y i.1 k.1 ])
      (λ x. (
        λ h. price-either x h.0 h.1 h.2,
        λ h. elim h [
          | inr i ↦ (i.0, ap line_of i.1, price-here (b.0 + 1) p b Export x i.1 (omega arith))
          | inl j ↦ elim j [
            | inl i ↦ (i.0, i.1, price-more x i.2)
            | inr i ↦ (i.0, ap line_of i.1, price-here (b.0 + 1) p b Import x i.1 (omega arith))
          ]
        ],
      ))

-- of the bands that both have, all
pub prices-all : (o : Offices) (p : PeriodId) (n : ℕ) (a b : List Change) → n ≤ length o.old.bands → ((i : ℕ) → i < length o.old.bands → i < length o.new.bands → i < n) →
    Puts (AreOfBands o p.0 n) a b → Puts (AreOfBands o p.0 (length o.old.bands)) a b
prices-all o p n a b few all h =
    puts-same (λ x. Differs o x × (line_of x ≡ p.0) × IsOfBand n x) (λ x. Differs o x × (line_of x ≡ p.0) × IsOfBand (length o.old.bands) x) a b h
    (λ x. (
      λ i. (
          let k = only-price n x i.2 in
          let l : k.1.0 < n = k.4 in
          (i.0, i.1, price-here (length o.old.bands) k.0 k.1 k.2 x k.3 (omega (arith, few, l)))),
      λ i. (
          let k = only-price (length o.old.bands) x i.2 in
          let d : Differs o (change.Price k.0 k.1 k.2) = subst (λ (y : Change). Differs o y) k.3 i.0 in
          (i.0, i.1, price-here n k.0 k.1 k.2 x k.3 (all k.1.0 d.0.1.0 d.0.1.1))),
    ))

-- ---- a period
period-parts : (o : Offices) (p : PeriodId) → p.0 < periods_in o.old → p.0 < periods_in o.new → (x : Change) → Differs o x → list_of x ≡ 3 → line_of x ≡ p.0 →
    ((x ≡ change.Start p) ⊎ (x ≡ change.Week p)) ⊎ IsOfBand (length o.old.bands) x
period-parts o p i j (change.Added list place) h s l = absurd (no-list list (sym s))
period-parts o p i j (change.Gone list place) h s l = absurd (no-list list (sym s))
period-parts o p i j (change.Renamed list place) h s l = absurd (no-list list (sym s))
period-parts o p i j (change.Moved list from to) h s l = absurd (no-list list (sym s))
period-parts o p i j (change.Clock m) h s l = absurd (omega (arith, s))
period-parts o p i j (change.Register m r) h s l = absurd (omega (arith, s))
period-parts o p i j (change.Start q) h s l = inl (inl (ap (λ (n : ℕ). change.Start (period n)) l))
period-parts o p i j (change.NewPeriod q) h s l = let past : periods_in o.old ≤ q.0 = h.0 in absurd (omega (arith, past, l, i))
period-parts o p i j (change.PeriodGone q) h s l = let past : periods_in o.new ≤ q.0 = h.0 in absurd (omega (arith, past, l, j))
period-parts o p i j (change.Week q) h s l = inl (inr (ap (λ (n : ℕ). change.Week (period n)) l))
period-parts o p i j (change.Price q b d) h s l = inr h.0.1.0

pub period-next : (o : Offices) (p : PeriodId) (a b c d : List Change) → p.0 < periods_in o.old → p.0 < periods_in o.new → Puts (Lists change_order (λ x. Differs o x × (x ≡ change.Start p))) a b →
    Puts (Lists change_order (λ x. Differs o x × (x ≡ change.Week p))) b c → Puts (AreOfBands o p.0 (length o.old.bands)) c d → Puts (AreOfLine o 3 p.0) a d
period-next o p a b c d i j start week prices =
    let S : Change → Type 0 = λ x. Differs o x × (x ≡ change.Start p) in
    let W : Change → Type 0 = λ x. Differs o x × (x ≡ change.Week p) in
    let first = puts-join S W (λ x. S x ⊎ W x) a b c start week
    (λ x y h k.
    let s : rank x ≡ 0 = ap rank h.1 in
    let w : rank y ≡ 3 = ap rank k.1 in
    earlier-rank x y (ap list_of h.1 ∙ sym (ap list_of k.1)) (ap line_of h.1 ∙ sym (ap line_of k.1)) (omega (arith, s, w)))
    (λ x. (λ h. h, λ h. h)) in
    puts-join (λ x. S x ⊎ W x) (λ x. Differs o x × (line_of x ≡ p.0) × IsOfBand (length o.old.bands) x) (λ x. Differs o x × (list_of x ≡ 3) × (line_of x ≡ p.0)) a c d first prices
    (λ x y h k.
    let q = only-price (length o.old.bands) y k.2 in
    let w : rank y ≡ 4 = ap rank q.3 in
    elim h [
      | inl e ↦ (let s : rank x ≡ 0 = ap rank e.1 in earlier-rank x y (ap list_of e.1 ∙ sym (ap list_of q.3)) (ap line_of e.1 ∙ sym k.1) (omega (arith, s, w)))
      | inr e ↦ (let s : rank x ≡ 3 = ap rank e.1 in earlier-rank x y (ap list_of e.1 ∙ sym (ap list_of q.3)) (ap line_of e.1 ∙ sym k.1) (omega (arith, s, w)))
    ])
    (λ x. (
      λ h. elim (period-parts o p i j x h.0 h.1 h.2) [
        | inr e ↦ inr (h.0, h.2, e)
        | inl k ↦ elim k [ inl e ↦ inl (inl (h.0, e)) | inr e ↦ inl (inr (h.0, e)) ]
      ],
      λ h. elim h [
        | inr e ↦ (e.0, ap list_of (only-price (length o.old.bands) x e.2).3, e.1)
        | inl k ↦ elim k [
          | inl e ↦ (e.0, ap list_of e.1, ap line_of e.1)
          | inr e ↦ (e.0, ap list_of e.1, ap line_of e.1)
        ]
      ],
    ))

-- ---- what is read of both
pub unlike-some : {X : Type 0} (a b : Option X) (x y : X) → a ≡ Some x → b ≡ Some y → (x ≡ y → ⊥) → AreUnlike a b
unlike-some {X} a b x y i j d =
    let P : Option X → Type 0 = λ c. AreUnlike c b in
    let Q : Option X → Type 0 = λ c. AreUnlike (Some x) c in
    subst P (sym i) (subst Q (sym j) d)

pub like-some : {X : Type 0} (a b : Option X) (x y : X) → a ≡ Some x → b ≡ Some y → x ≡ y → AreUnlike a b → ⊥
like-some {X} a b x y i j e h =
    let P : Option X → Type 0 = λ c. AreUnlike c b in
    let Q : Option X → Type 0 = λ c. AreUnlike (Some x) c in
    let d : x ≡ y → ⊥ = subst Q j (subst P i h) in
    d e

-- ---- names
both-meters : (a b : Option MeterText) → AreUnlike (option_map (λ (t : MeterText). t.clock) a) (option_map (λ (t : MeterText). t.clock) b) → ((a ≡ None) → ⊥) × ((b ≡ None) → ⊥)
both-meters None b h = absurd h
both-meters (Some x) None h = absurd h
both-meters (Some x) (Some y) h = (λ e. none-some x (sym e), λ e. none-some y (sym e))

there : {X : Type 0} (xs : List X) (i : ℕ) → ((slice_get xs i ≡ None) → ⊥) → i < length xs
there xs i h = elim (cases_lt i (length xs)) [
  | inl l ↦ l
  | inr l ↦ absurd (h (slice_get_past xs i l))
]

name-or-not : (x : Change) → IsOfName x ⊎ (IsOfName x → ⊥)
name-or-not (change.Added list place) = inl tt
name-or-not (change.Gone list place) = inl tt
name-or-not (change.Renamed list place) = inl tt
name-or-not (change.Moved list from to) = inl tt
name-or-not (change.Clock m) = inr (λ h. h)
name-or-not (change.Register m r) = inr (λ h. h)
name-or-not (change.Start p) = inr (λ h. h)
name-or-not (change.NewPeriod p) = inr (λ h. h)
name-or-not (change.PeriodGone p) = inr (λ h. h)
name-or-not (change.Week p) = inr (λ h. h)
name-or-not (change.Price p b d) = inr (λ h. h)

name-rank : (x : Change) → IsOfName x → rank x < 4
name-rank (change.Added list place) h = omega arith
name-rank (change.Gone list place) h = omega arith
name-rank (change.Renamed list place) h = omega arith
name-rank (change.Moved list from to) h = omega arith
name-rank (change.Clock m) h = absurd h
name-rank (change.Register m r) h = absurd h
name-rank (change.Start p) h = absurd h
name-rank (change.NewPeriod p) h = absurd h
name-rank (change.PeriodGone p) h = absurd h
name-rank (change.Week p) h = absurd h
name-rank (change.Price p b d) h = absurd h

beside-rank : (x : Change) → list_of x ≡ 1 → (IsOfName x → ⊥) → 4 ≤ rank x
beside-rank (change.Added list place) s h = absurd (h tt)
beside-rank (change.Gone list place) s h = absurd (h tt)
beside-rank (change.Renamed list place) s h = absurd (h tt)
beside-rank (change.Moved list from to) s h = absurd (h tt)
beside-rank (change.Clock m) s h = omega arith
beside-rank (change.Register m r) s h = omega arith
beside-rank (change.Start p) s h = absurd (omega (arith, s))
beside-rank (change.NewPeriod p) s h = absurd (omega (arith, s))
beside-rank (change.PeriodGone p) s h = absurd (omega (arith, s))
beside-rank (change.Week p) s h = absurd (omega (arith, s))
beside-rank (change.Price p b d) s h = absurd (omega (arith, s))

-- the name, and what a meter of both is beside it
pub line-next : (o : Offices) (n : ℕ) (a b c : List Change) → Puts (AreOfName o 1 n) a b → Puts (AreOfMeter o n) b c → Puts (AreOfLine o 1 n) a c
line-next o n a b c p q =
    puts-join (λ x. Differs o x × (list_of x ≡ 1) × (line_of x ≡ n) × IsOfName x) (λ x. Differs o x × (list_of x ≡ 1) × (line_of x ≡ n) × (IsOfName x → ⊥))
    (λ x. Differs o x × (list_of x ≡ 1) × (line_of x ≡ n)) a b c p q
    (λ x y h k.
    let i = name-rank x h.3 in
    let j = beside-rank y k.1 k.3 in
    earlier-rank x y (h.1 ∙ sym k.1) (h.2 ∙ sym k.2) (omega (arith, i, j)))
    (λ x. (
      λ h. elim (name-or-not x) [ inl i ↦ inl (h.0, h.1, h.2, i) | inr i ↦ inr (h.0, h.1, h.2, i) ],
      λ h. elim h [ inl i ↦ (i.0, i.1, i.2) | inr i ↦ (i.0, i.1, i.2) ],
    ))

-- the name alone, where the line is no meter of both
only-names : (o : Offices) (list : Listed) (n : ℕ) → (list ≡ Meters → n < length o.old.meters → n < length o.new.meters → ⊥) → (x : Change) → Differs o x → list_of x ≡ list_place list → line_of x ≡ n →
    IsOfName x
only-names o list n h (change.Added other m) d s l = tt
only-names o list n h (change.Gone other m) d s l = tt
only-names o list n h (change.Renamed other m) d s l = tt
only-names o list n h (change.Moved other m to) d s l = tt
only-names o list n h (change.Clock m) d s l =
    let both = both-meters (slice_get o.old.meters m.0) (slice_get o.new.meters m.0) d in
    let i = there o.old.meters m.0 both.0 in
    let j = there o.new.meters m.0 both.1 in
    absurd (h (one-list list Meters (sym s)) (omega (arith, i, l)) (omega (arith, j, l)))
only-names o list n h (change.Register m r) d s l =
    let i : m.0 < length o.old.meters = d.0.0 in
    let j : m.0 < length o.new.meters = d.0.1 in
    absurd (h (one-list list Meters (sym s)) (omega (arith, i, l)) (omega (arith, j, l)))
only-names o list n h (change.Start p) d s l = absurd (no-list list s)
only-names o list n h (change.NewPeriod p) d s l = absurd (no-list list s)
only-names o list n h (change.PeriodGone p) d s l = absurd (no-list list s)
only-names o list n h (change.Week p) d s l = absurd (no-list list s)
only-names o list n h (change.Price p b q) d s l = absurd (no-list list s)

pub line-named : (o : Offices) (list : Listed) (n : ℕ) (a b : List Change) → (list ≡ Meters → n < length o.old.meters → n < length o.new.meters → ⊥) → Puts (AreOfName o (list_place list) n) a b →
    Puts (AreOfLine o (list_place list) n) a b
line-named o list n a b h p =
    puts-same (λ x. Differs o x × (list_of x ≡ list_place list) × (line_of x ≡ n) × IsOfName x) (λ x. Differs o x × (list_of x ≡ list_place list) × (line_of x ≡ n)) a b p
    (λ x. (λ i. (i.0, i.1, i.2), λ i. (i.0, i.1, i.2, only-names o list n h x i.0 i.1 i.2)))

-- no name of either
pub nameless : (o : Offices) (list : Listed) (n : ℕ) (a : List Change) → length (names_in list o.old) ≤ n → length (names_in list o.new) ≤ n → Puts (AreOfName o (list_place list) n) a a
nameless o list n a i j = puts-nothing (λ x. Differs o x × (list_of x ≡ list_place list) × (line_of x ≡ n) × IsOfName x) a a refl (λ x h.
    let l = line-within o list n x i j h.0 h.1 in
    let e : line_of x ≡ n = h.2 in
    omega (arith, l, e))

-- a name of the old list: it is gone or another one, and it moved
name-parts : (o : Offices) (list : Listed) (n : ℕ) → n < length (names_in list o.old) → (x : Change) → Differs o x → list_of x ≡ list_place list → line_of x ≡ n → IsOfName x →
    ((x ≡ change.Gone list n) ⊎ (x ≡ change.Renamed list n)) ⊎ ((to : ℕ) × (x ≡ change.Moved list n to))
name-parts o list n within (change.Added other m) d s l h =
    let P : Listed → Type 0 = λ it. length (names_in it o.old) ≤ m in
    let past : length (names_in list o.old) ≤ m = subst P (one-list other list s) d.0 in
    absurd (omega (arith, within, past, l))
name-parts o list n within (change.Gone other m) d s l h = inl (inl (ap (λ (it : Listed). change.Gone it m) (one-list other list s) ∙ ap (λ (i : ℕ). change.Gone list i) l))
name-parts o list n within (change.Renamed other m) d s l h = inl (inr (ap (λ (it : Listed). change.Renamed it m) (one-list other list s) ∙ ap (λ (i : ℕ). change.Renamed list i) l))
name-parts o list n within (change.Moved other m to) d s l h = inr (to, ap (λ (it : Listed). change.Moved it m to) (one-list other list s) ∙ ap (λ (i : ℕ). change.Moved list i to) l)
name-parts o list n within (change.Clock m) d s l h = absurd h
name-parts o list n within (change.Register m r) d s l h = absurd h
name-parts o list n within (change.Start p) d s l h = absurd h
name-parts o list n within (change.NewPeriod p) d s l h = absurd h
name-parts o list n within (change.PeriodGone p) d s l h = absurd h
name-parts o list n within (change.Week p) d s l h = absurd h
name-parts o list n within (change.Price p b q) d s l h = absurd h

abbrev pub IsOfMove : Offices → Listed → ℕ → Change → Type 0
IsOfMove o list n x = Differs o x × ((to : ℕ) × (x ≡ change.Moved list n to))

place-before : (list : Listed) (n to : ℕ) (x y : Change) → (x ≡ change.Gone list n) ⊎ (x ≡ change.Renamed list n) → y ≡ change.Moved list n to → change_order x y ≡ Less
place-before list n to x y (inl e) k =
    let i : rank x ≡ 1 = ap rank e in
    let j : rank y ≡ 3 = ap rank k in
    earlier-rank x y (ap list_of e ∙ sym (ap list_of k)) (ap line_of e ∙ sym (ap line_of k)) (omega (arith, i, j))
place-before list n to x y (inr e) k =
    let i : rank x ≡ 2 = ap rank e in
    let j : rank y ≡ 3 = ap rank k in
    earlier-rank x y (ap list_of e ∙ sym (ap list_of k)) (ap line_of e ∙ sym (ap line_of k)) (omega (arith, i, j))

place-name : (o : Offices) (list : Listed) (n : ℕ) (x : Change) → Differs o x → (x ≡ change.Gone list n) ⊎ (x ≡ change.Renamed list n) →
    Differs o x × (list_of x ≡ list_place list) × (line_of x ≡ n) × IsOfName x
place-name o list n x d (inl e) = (d, ap list_of e, ap line_of e, subst (λ (y : Change). IsOfName y) (sym e) tt)
place-name o list n x d (inr e) = (d, ap list_of e, ap line_of e, subst (λ (y : Change). IsOfName y) (sym e) tt)

pub name-next : (o : Offices) (list : Listed) (n : ℕ) (a b c : List Change) → n < length (names_in list o.old) → Puts (AreOfPlace o list n) a b → Puts (Lists change_order (IsOfMove o list n)) b c →
    Puts (AreOfName o (list_place list) n) a c
name-next o list n a b c within p q =
    puts-join (IsOfPlace o list n) (IsOfMove o list n) (λ x. Differs o x × (list_of x ≡ list_place list) × (line_of x ≡ n) × IsOfName x) a b c p q
    (λ x y h k. place-before list n k.1.0 x y h.1 k.1.1)
    (λ x. (
      λ h. elim (name-parts o list n within x h.0 h.1 h.2 h.3) [ inl i ↦ inl (h.0, i) | inr i ↦ inr (h.0, i) ],
      λ h. elim h [
        | inl i ↦ place-name o list n x i.0 i.1
        | inr i ↦ (i.0, ap list_of i.1.1, ap line_of i.1.1, subst (λ (y : Change). IsOfName y) (sym i.1.1) tt)
      ],
    ))

unlike-none : {X : Type 0} (a : Option X) → AreUnlike a None → ⊥
unlike-none None h = h
unlike-none (Some x) h = h

not-gone : (o : Offices) (list : Listed) (n : ℕ) → n < length (names_in list o.new) → (y : Change) → y ≡ change.Gone list n → Differs o y → ⊥
not-gone o list n j y e h =
    let d : Differs o (change.Gone list n) = subst (λ (z : Change). Differs o z) e h in
    let past : length (names_in list o.new) ≤ n = d.0 in
    omega (arith, j, past)

-- it is gone
pub name-gone : (o : Offices) (list : Listed) (n : ℕ) (a b : List Change) → n < length (names_in list o.old) → length (names_in list o.new) ≤ n → b ≡ a ++ change.Gone list n ∷ [] →
    Puts (AreOfPlace o list n) a b
name-gone o list n a b within past e = puts-one (IsOfPlace o list n) (change.Gone list n) a b e ((past, within), inl refl) (λ y h. elim h.1 [
  | inl i ↦ i
  | inr i ↦ absurd (
      let d : AreUnlike (slice_get (names_in list o.old) n) (slice_get (names_in list o.new) n) = subst (λ (z : Change). Differs o z) i h.0 in
      let Q : Option (List ℕ) → Type 0 = λ z. AreUnlike (slice_get (names_in list o.old) n) z in
      unlike-none (slice_get (names_in list o.old) n) (subst Q (slice_get_past (names_in list o.new) n past) d))
])

-- it is another one, or the same
pub name-other : (o : Offices) (list : Listed) (n : ℕ) (a b : List Change) → n < length (names_in list o.old) → n < length (names_in list o.new) → b ≡ a ++ change.Renamed list n ∷ [] →
    (slice_get (names_in list o.old) n ≡ slice_get (names_in list o.new) n → ⊥) → Puts (AreOfPlace o list n) a b
name-other o list n a b i j e d =
    let old = slice_get-get_or (names_in list o.old) n [] i in
    let new = slice_get-get_or (names_in list o.new) n [] j in
    let other : Differs o (change.Renamed list n) = unlike-some (slice_get (names_in list o.old) n) (slice_get (names_in list o.new) n) (get_or (names_in list o.old) n []) (get_or (names_in list o.new) n []) old new
    (λ k. d (old ∙ ap (λ (z : List ℕ). Some z) k ∙ sym new)) in
    puts-one (IsOfPlace o list n) (change.Renamed list n) a b e (other, inr refl) (λ y h. elim h.1 [
      | inr k ↦ k
      | inl k ↦ absurd (not-gone o list n j y k h.0)
    ])

pub name-same : (o : Offices) (list : Listed) (n : ℕ) (a b : List Change) → n < length (names_in list o.old) → n < length (names_in list o.new) → b ≡ a →
    slice_get (names_in list o.old) n ≡ slice_get (names_in list o.new) n → Puts (AreOfPlace o list n) a b
name-same o list n a b i j e same = puts-nothing (IsOfPlace o list n) a b e (λ y h. elim h.1 [
  | inl k ↦ not-gone o list n j y k h.0
  | inr k ↦ (
      let d : AreUnlike (slice_get (names_in list o.old) n) (slice_get (names_in list o.new) n) = subst (λ (z : Change). Differs o z) k h.0 in
      let new = slice_get-get_or (names_in list o.new) n [] j in
      like-some (slice_get (names_in list o.old) n) (slice_get (names_in list o.new) n) (get_or (names_in list o.new) n []) (get_or (names_in list o.new) n []) (same ∙ new) new refl d)
])

-- ---- a name that moved
letter-of : (b : Option BandText) (x : List ℕ) → option_map (λ (t : BandText). t.name ∷ []) b ≡ Some x → option_map (λ (t : BandText). t.name) b ≡ Some (get_or x 0 0)
letter-of None x h = absurd (none-some x h)
letter-of (Some t) x h = ap (λ (n : List ℕ). Some (get_or n 0 0)) (same_Some (t.name ∷ []) x h)

letter-at : (bands : List BandText) (i : ℕ) (x : List ℕ) → slice_get (map (λ (t : BandText). t.name ∷ []) bands) i ≡ Some x → slice_get (letters bands) i ≡ Some (get_or x 0 0)
letter-at bands i x h =
    slice_get-map (λ (t : BandText). t.name) bands i
    ∙ letter-of (slice_get bands i) x (sym (slice_get-map (λ (t : BandText). t.name ∷ []) bands i) ∙ h)

distinct-names : (file : OfficeFile) (list : Listed) → IsSound file → AreDistinct (names_in list file)
distinct-names file Accounts sound = sound.named.accounts
distinct-names file Meters sound = sound.named.meters
distinct-names file Bands sound = λ i j x h k. sound.named.bands i j (get_or x 0 0) (letter-at file.bands i x h) (letter-at file.bands j x k)

pub name-moved : (o : Offices) (list : Listed) (n to : ℕ) (a b : List Change) → IsSound o.new → Differs o (change.Moved list n to) → b ≡ a ++ change.Moved list n to ∷ [] →
    Puts (Lists change_order (IsOfMove o list n)) a b
name-moved o list n to a b sound d e = puts-one (IsOfMove o list n) (change.Moved list n to) a b e (d, (to, refl)) (λ y h.
    let k : Differs o (change.Moved list n h.1.0) = subst (λ (z : Change). Differs o z) h.1.1 h.0 in
    let same : k.0.0 ≡ d.0.0 = same_Some k.0.0 d.0.0 (sym k.0.1 ∙ d.0.1) in
    let place : h.1.0 ≡ to = distinct-names o.new list sound h.1.0 to k.0.0 k.0.2 (d.0.2 ∙ ap (λ (z : List ℕ). Some z) (sym same)) in
    h.1.1 ∙ ap (λ (i : ℕ). change.Moved list n i) place)

pub name-stays : (o : Offices) (list : Listed) (n : ℕ) (a b : List Change) → ((to : ℕ) → Differs o (change.Moved list n to) → ⊥) → b ≡ a → Puts (Lists change_order (IsOfMove o list n)) a b
name-stays o list n a b d e = puts-nothing (IsOfMove o list n) a b e (λ y h. d h.1.0 (subst (λ (z : Change). Differs o z) h.1.1 h.0))
