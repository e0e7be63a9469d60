-- Cells in order with the same energies are the same.
use Rattle.std.proofs.Common.{◌≡◌, ℕ, ◌<◌, Option, Some, None, List, [], ◌∷◌, false, refl, sym, ◌∙◌, ap, subst, arith, inl, inr}
use Rattle.std.proofs.lemmas.Bool.{cases_lt}
use Rattle.pw_tariff.specs.declared.ids.AccountId.{AccountId}
use Rattle.pw_tariff.specs.declared.cells.Cell.{Cell}
use Rattle.pw_tariff.specs.Cells.{owner_place, IsBeforeCell, AreInOrder, AreAboveZero, is_of, energy_in}
use Rattle.pw_tariff.specs.Laws.{SharesAreUnique}
use Rattle.pw_tariff.proofs.Adding.{whose, here, other, is-of, none-behind, order-rest}

abbrev SameEnergies : List Cell → List Cell → Type 0
SameEnergies a b = (o : Option AccountId) (p k : ℕ) → energy_in a o p k ≡ energy_in b o p k

own-energy : (c : Cell) (cs : List Cell) → energy_in (c ∷ cs) c.owner c.period.0 c.band.0 ≡ c.wh
unfolding energy_in
own-energy c cs = rw (is-of c.owner c.period.0 c.band.0 c refl refl refl) refl

abbrev id-at : ℕ → AccountId
id-at n = record { 0 = n }

abbrev cell-at : Option AccountId → ℕ → ℕ → ℕ → Cell
cell-at o p b w = record { owner = o; period = record { 0 = p }; band = record { 0 = b }; wh = w }

same-place : (a b : Option AccountId) → owner_place a ≡ owner_place b → a ≡ b
same-place None None h = refl
same-place None (Some b) h = absurd (omega arith)
same-place (Some a) None h = absurd (omega arith)
same-place (Some a) (Some b) h = let e : a.0 ≡ b.0 = omega arith in ap Some (ap id-at e)

same-cell : (a b : Cell) → a.owner ≡ b.owner → a.period.0 ≡ b.period.0 → a.band.0 ≡ b.band.0 → a.wh ≡ b.wh → a ≡ b
same-cell a b o p k w =
    ap (λ x. cell-at x a.period.0 a.band.0 a.wh) o ∙ ap (λ x. cell-at b.owner x a.band.0 a.wh) p
    ∙ ap (λ x. cell-at b.owner b.period.0 x a.wh) k ∙ ap (λ x. cell-at b.owner b.period.0 b.band.0 x) w

-- what stands before the first cell has nothing
nothing-before : (x c : Cell) (cs : List Cell) → AreInOrder (c ∷ cs) → IsBeforeCell x c → energy_in (c ∷ cs) x.owner x.period.0 x.band.0 ≡ 0
nothing-before x c cs h b = none-behind x (c ∷ cs) x.owner x.period.0 x.band.0 (b, h) refl refl refl

-- of two cells of which none stands before the other, owner, period and band are the same
alike : (a b : Cell) → (IsBeforeCell a b → ⊥) → (IsBeforeCell b a → ⊥) → (owner_place a.owner ≡ owner_place b.owner) × (a.period.0 ≡ b.period.0) × (a.band.0 ≡ b.band.0)
alike a b first second =
    elim (cases_lt (owner_place a.owner) (owner_place b.owner)) [
      | inl l ↦ absurd (first (inl l))
      | inr g ↦ elim (cases_lt (owner_place b.owner) (owner_place a.owner)) [
        | inl l ↦ absurd (second (inl l))
        | inr f ↦ (
            let e : owner_place a.owner ≡ owner_place b.owner = omega arith in
            elim (cases_lt a.period.0 b.period.0) [
              | inl l ↦ absurd (first (inr (e, inl l)))
              | inr i ↦ elim (cases_lt b.period.0 a.period.0) [
                | inl l ↦ absurd (second (inr (sym e, inl l)))
                | inr j ↦ (
                    let d : a.period.0 ≡ b.period.0 = omega arith in
                    elim (cases_lt a.band.0 b.band.0) [
                      | inl l ↦ absurd (first (inr (e, inr (d, l))))
                      | inr m ↦ elim (cases_lt b.band.0 a.band.0) [
                        | inl l ↦ absurd (second (inr (sym e, inr (sym d, l))))
                        | inr n ↦ (e, d, let r : a.band.0 ≡ b.band.0 = omega arith in r)
                      ]
                    ])
              ]
            ])
      ]
    ]

-- the first cells are of one class
first-class : (a b : Cell) (xs bs : List Cell) → AreInOrder (a ∷ xs) → AreInOrder (b ∷ bs) → 0 < a.wh → 0 < b.wh → SameEnergies (a ∷ xs) (b ∷ bs) →
    (owner_place a.owner ≡ owner_place b.owner) × (a.period.0 ≡ b.period.0) × (a.band.0 ≡ b.band.0)
first-class a b xs bs h k p q s =
    let first : IsBeforeCell a b → ⊥ = λ l.
    (let z = nothing-before a b bs k l in let x = own-energy a xs in let u = s a.owner a.period.0 a.band.0 in absurd (omega (arith, x, u, z, p))) in
    let second : IsBeforeCell b a → ⊥ = λ l.
    (let z = nothing-before b a xs h l in let y = own-energy b bs in let v = s b.owner b.period.0 b.band.0 in absurd (omega (arith, y, v, z, q))) in
    alike a b first second

rest-energy : (a : Cell) (xs : List Cell) (o : Option AccountId) (p k : ℕ) → is_of o p k a ≡ false → energy_in (a ∷ xs) o p k ≡ energy_in xs o p k
unfolding energy_in
rest-energy a xs o p k h = rw h refl

rest-same : (a : Cell) (xs bs : List Cell) → AreInOrder (a ∷ xs) → AreInOrder (a ∷ bs) → SameEnergies (a ∷ xs) (a ∷ bs) → SameEnergies xs bs
rest-same a xs bs h k s o p n =
    elim (whose o p n a) [
      | here t e f g ↦ none-behind a xs o p n h e f g ∙ sym (none-behind a bs o p n k e f g)
      | other t d ↦ sym (rest-energy a xs o p n t) ∙ s o p n ∙ rest-energy a bs o p n t
    ]

pub same-cells : (xs bs : List Cell) → AreInOrder xs → AreInOrder bs → AreAboveZero xs → AreAboveZero bs → SameEnergies xs bs → xs ≡ bs
unfolding energy_in
same-cells [] [] h k p q s = refl
same-cells [] (b ∷ bs) h k p q s = let y = own-energy b bs in let v = s b.owner b.period.0 b.band.0 in let w = q.0 in absurd (omega (arith, y, v, w))
same-cells (a ∷ xs) [] h k p q s = let x = own-energy a xs in let u = s a.owner a.period.0 a.band.0 in let w = p.0 in absurd (omega (arith, x, u, w))
same-cells (a ∷ xs) (b ∷ bs) h k p q s =
    let c = first-class a b xs bs h k p.0 q.0 s in
    let o : a.owner ≡ b.owner = same-place a.owner b.owner c.0 in
    let r : a.wh ≡ b.wh = sym (own-energy a xs) ∙ s a.owner a.period.0 a.band.0 ∙ rw (o, c.1, c.2) (own-energy b bs) in
    let e : a ≡ b = same-cell a b o c.1 c.2 r in
    let k2 : AreInOrder (a ∷ bs) = subst (λ (y : Cell). AreInOrder (y ∷ bs)) (sym e) k in
    let s2 : SameEnergies (a ∷ xs) (a ∷ bs) = subst (λ (y : Cell). SameEnergies (a ∷ xs) (y ∷ bs)) (sym e) s in
    let rest : xs ≡ bs = same-cells xs bs (order-rest a xs h) (order-rest a bs k2) p.1 q.1 (rest-same a xs bs h k2 s2) in
    cc

pub one-way : SharesAreUnique
one-way file owners span a b s t = same-cells a b s.in_order t.in_order s.above_zero t.above_zero (λ o p k. s.shares o p k ∙ sym (t.shares o p k))
