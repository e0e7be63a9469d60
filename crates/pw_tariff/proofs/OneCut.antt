-- A difference is cut into pieces in one way.
use Rattle.std.proofs.Common.{◌≡◌, ℕ, ◌≤◌, Option, List, [], ◌∷◌, refl, sym, ap, ◌∙◌, subst, arith, inl, inr}
use Rattle.std.proofs.lemmas.Bool.{cases_lt}
use Rattle.pw_tariff.specs.declared.ids.AccountId.{AccountId}
use Rattle.pw_tariff.specs.declared.spread.Piece.{Piece}
use Rattle.pw_tariff.specs.declared.spread.Span.{Span}
use Rattle.pw_tariff.specs.Office.{OfficeFile}
use Rattle.pw_tariff.specs.Pieces.{IsPieceOf, ListsPieces, level_of}
use Rattle.pw_tariff.specs.Laws.{PiecesAreUnique}

abbrev piece-at : ℕ → ℕ → Option AccountId → ℕ → ℕ → ℕ → Piece
piece-at x y o k b w =
    record { begin = x; until = y; owner = o; period = record { 0 = k }; band = record { 0 = b }; wh = w }

same-piece : (p q : Piece) → p.begin ≡ q.begin → p.until ≡ q.until → p.owner ≡ q.owner → p.period.0 ≡ q.period.0 → p.band.0 ≡ q.band.0 → p.wh ≡ q.wh → p ≡ q
same-piece p q x y o k b w =
    ap (λ z. piece-at z p.until p.owner p.period.0 p.band.0 p.wh) x ∙ ap (λ z. piece-at q.begin z p.owner p.period.0 p.band.0 p.wh) y
    ∙ ap (λ z. piece-at q.begin q.until z p.period.0 p.band.0 p.wh) o ∙ ap (λ z. piece-at q.begin q.until q.owner z p.band.0 p.wh) k
    ∙ ap (λ z. piece-at q.begin q.until q.owner q.period.0 z p.wh) b ∙ ap (λ z. piece-at q.begin q.until q.owner q.period.0 q.band.0 z) w

module _ (office : OfficeFile) (owners : List (ℕ × Option AccountId)) (span : Span) where
  -- that of the second at which both begin
  class-alike : (p q : Piece) → p.begin ≡ q.begin → IsPieceOf office owners span p → IsPieceOf office owners span q →
      (p.owner ≡ q.owner) × (p.period.0 ≡ q.period.0) × (p.band.0 ≡ q.band.0)
  class-alike p q e h i =
      let a = h.begun in
      let b = i.begun in
      let c = h.same p.begin (omega arith) a in
      let d = i.same p.begin (omega (arith, e)) (omega (arith, e, b)) in
      (sym c.0 ∙ d.0, sym c.1 ∙ d.1, sym c.2 ∙ d.2)

  -- no one ends before the other
  ends-later : (p q : Piece) → p.begin ≡ q.begin → IsPieceOf office owners span p → IsPieceOf office owners span q → p.until ≤ q.until
  ends-later p q e h i =
      elim (cases_lt q.until p.until) [
        | inr g ↦ g
        | inl l ↦ (
            let w = h.within in
            let b = i.begun in
            let c = class-alike p q e h i in
            let s = h.same q.until (omega (arith, e, b)) l in
            absurd (i.over (omega (arith, l, w)) (s.0 ∙ c.0, s.1 ∙ c.1, s.2 ∙ c.2)))
      ]

  pieces-alike : (p q : Piece) → p.begin ≡ q.begin → IsPieceOf office owners span p → IsPieceOf office owners span q → p ≡ q
  pieces-alike p q e h i =
      let c = class-alike p q e h i in
      let f = ends-later p q e h i in
      let g = ends-later q p (sym e) i h in
      let u : p.until ≡ q.until = omega (arith, f, g) in
      let a = h.given in
      let b = i.given in
      let x : level_of span p.until ≡ level_of span q.until = ap (level_of span) u in
      let y : level_of span p.begin ≡ level_of span q.begin = ap (level_of span) e in
      same-piece p q e u c.0 c.1 c.2 (omega (arith, a, b, x, y))

  lists-alike : (at : ℕ) (ps qs : List Piece) → ListsPieces office owners span at ps → ListsPieces office owners span at qs → ps ≡ qs
  lists-alike at [] [] h i = refl
  lists-alike at [] (q ∷ qs) h i = let a = i.0 in let b = i.1.begun in let c = i.1.within in absurd (omega (arith, h, a, b, c))
  lists-alike at (p ∷ ps) [] h i = let a = h.0 in let b = h.1.begun in let c = h.1.within in absurd (omega (arith, i, a, b, c))
  lists-alike at (p ∷ ps) (q ∷ qs) h i =
      let e = pieces-alike p q (h.0 ∙ sym i.0) h.1 i.1 in
      let r = subst (λ z. ListsPieces office owners span z.until qs) (sym e) i.2 in
      ap (λ z. z ∷ ps) e ∙ ap (λ zs. q ∷ zs) (lists-alike p.until ps qs h.2 r)

pub one-cut : PiecesAreUnique
one-cut office owners span ps qs h i = lists-alike office owners span span.from ps qs h i
