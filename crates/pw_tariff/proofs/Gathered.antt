-- What the pieces of a difference give, added up, and the cells that gather it.
use Rattle.std.proofs.Common.{◌≡◌, ◌==◌, ◌&&◌, ℕ, ◌+◌, ◌-◌, ◌<◌, ◌≤◌, Option, List, [], ◌∷◌, ◌++◌, cond, refl, sym, subst, ◌∙◌, arith, inl, inr}
use Rattle.std.proofs.lemmas.Bool.{cases_Bool}
use Rattle.std.proofs.lemmas.List.{append-nil}
use Rattle.pw_flow.specs.Time.{sum_over}
use Rattle.pw_flow.specs.Flow.{pair_flow}
use Rattle.pw_flow.specs.Energy.{kept, cell}
use Rattle.pw_flow.proofs.Level.{level-start, level-end, level-up}
use Rattle.pw_flow.proofs.Sums.{sum-split, kept-nothing}
use Rattle.pw_flow.proofs.Kept.{piece-of_one_kind}
use Rattle.pw_flow.proofs.Turns.{sum-from_start}
use Rattle.pw_tariff.specs.declared.ids.AccountId.{AccountId}
use Rattle.pw_tariff.specs.declared.cells.Cell.{Cell}
use Rattle.pw_tariff.specs.declared.spread.Piece.{Piece}
use Rattle.pw_tariff.specs.declared.spread.Span.{Span}
use Rattle.pw_tariff.specs.Office.{OfficeFile}
use Rattle.pw_tariff.specs.Owners.{same_owner}
use Rattle.pw_tariff.specs.Cells.{is_of, energy_in, energy_of_all, AreInOrder, AreAboveZero}
use Rattle.pw_tariff.specs.Shares.{class_seconds, share, AreShares}
use Rattle.pw_tariff.specs.Pieces.{IsPieceOf, ListsPieces, cell_of, given_to, level_of}
use Rattle.pw_tariff.specs.Laws.{PiecesAreShares}
use Rattle.pw_tariff.specs.inner.Shares.{IsAdded}

-- the level rises from one second to another
pub ruleset rising = (level-up)

sum-join : (f : ℕ → ℕ) (x t u : ℕ) → x ≤ t → t ≤ u → sum_over f x (u - x) ≡ sum_over f x (t - x) + sum_over f t (u - t)
sum-join f x t u a b =
    let e : u - x ≡ t - x + (u - t) = omega arith in
    let d : x + (t - x) ≡ t = omega arith in
    let s : sum_over f x (t - x + (u - t)) ≡ sum_over f x (t - x) + sum_over f (x + (t - x)) (u - t) = sum-split f x (t - x) (u - t) in
    rw e (rw d at s)

-- ---- what a piece gives
-- what flows in the seconds of an owner, a period and a band
abbrev pub flows : OfficeFile → List (ℕ × Option AccountId) → Span → Option AccountId → ℕ → ℕ → ℕ → ℕ
flows office owners span o k b =
    kept (class_seconds office owners o k b) (pair_flow (span.from, span.low) (span.to, span.high))

piece-gives : (office : OfficeFile) (owners : List (ℕ × Option AccountId)) (span : Span) (p : Piece) → span.from < span.to → span.low ≤ span.high →
    IsPieceOf office owners span p → (o : Option AccountId) (k b : ℕ) →
    sum_over (flows office owners span o k b) p.begin (p.until - p.begin) ≡ cond (is_of o k b (cell_of p)) p.wh 0
piece-gives office owners span p l r h o k b =
    let up : p.begin ≤ p.until = let g = h.begun in omega (arith, g) in
    let g = piece-of_one_kind (class_seconds office owners o k b) span.from span.low span.to span.high p.begin p.until l r up in
    let same : (t : ℕ) → p.begin ≤ t → t < p.until → class_seconds office owners o k b t ≡ is_of o k b (cell_of p)
    = λ t x y i. same_owner ((h.same t x y).0 i) o && (((h.same t x y).1 i == k) && ((h.same t x y).2 i == b)) in
    elim (cases_Bool (is_of o k b (cell_of p))) [
      | inl e ↦ rw e (g.all_kept (λ t x y. same t x y ∙ e) ∙ sym h.given)
      | inr e ↦ rw e (g.none_kept (λ t x y. same t x y ∙ e))
    ]

-- so much more the level is behind a piece
piece-rises : (office : OfficeFile) (owners : List (ℕ × Option AccountId)) (span : Span) (p : Piece) → span.from < span.to →
    IsPieceOf office owners span p → level_of span p.begin + p.wh ≡ level_of span p.until
piece-rises office owners span p l h =
    let b = h.begun in
    let g = h.given in
    let up : level_of span p.begin ≤ level_of span p.until
    = level-up span.from span.low span.to span.high p.begin p.until l (omega (arith, b)) in
    omega (arith, g, up)

-- ---- cells that gather pieces
-- the cells as far as the seconds before t
pub record SoFar (office : OfficeFile) (owners : List (ℕ × Option AccountId)) (span : Span) (t : ℕ) (cells : List Cell) : Type 0 where
  pub shares : (owner : Option AccountId) (period band : ℕ) →
      energy_in cells owner period band ≡ sum_over (flows office owners span owner period band) span.from (t - span.from)
  pub above_zero : AreAboveZero cells
  pub in_order : AreInOrder cells
  pub whole : energy_of_all cells + span.low ≡ level_of span t

pub nothing-yet : (office : OfficeFile) (owners : List (ℕ × Option AccountId)) (span : Span) → SoFar office owners span span.from []
unfolding energy_in energy_of_all
nothing-yet office owners span = record {
  shares = λ o k b. sym (sum-from_start _ span.from);
  above_zero = tt;
  in_order = tt;
  whole = let e : level_of span span.from ≡ span.low = level-start span.from span.low span.to span.high in omega (arith, e);
}

-- what the seconds up to a piece's end give is what those up to its begin do, and the piece
up-to_piece : (office : OfficeFile) (owners : List (ℕ × Option AccountId)) (span : Span) (p : Piece) → span.from < span.to → span.low ≤ span.high →
    span.from ≤ p.begin → IsPieceOf office owners span p → (o : Option AccountId) (k b : ℕ) →
    sum_over (flows office owners span o k b) span.from (p.until - span.from)
    ≡ sum_over (flows office owners span o k b) span.from (p.begin - span.from) + cond (is_of o k b (cell_of p)) p.wh 0
up-to_piece office owners span p l r a h o k b =
    let g = h.begun in
    let j = sum-join (flows office owners span o k b) span.from p.begin p.until a (omega (arith, g)) in
    rw (piece-gives office owners span p l r h o k b) at j

-- a piece in which nothing flows
pub nothing-more : (office : OfficeFile) (owners : List (ℕ × Option AccountId)) (span : Span) (t : ℕ) (p : Piece) (cells : List Cell) → span.from < span.to → span.low ≤ span.high →
    span.from ≤ t → p.begin ≡ t → IsPieceOf office owners span p → p.wh ≤ 0 → SoFar office owners span t cells → SoFar office owners span p.until cells
nothing-more office owners span t p cells l r a e h n before =
    let s = subst (λ x. SoFar office owners span x cells) (sym e) before in
    record {
      shares = λ o k b.
          let m = up-to_piece office owners span p l r (omega (arith, a, e)) h o k b in
          let z : p.wh ≡ 0 = omega (arith, n) in
          let q : cond (is_of o k b (cell_of p)) p.wh 0 ≡ 0 = kept-nothing (is_of o k b (cell_of p)) p.wh z in
          let g = s.shares o k b in
          omega (arith, m, q, g);
      above_zero = s.above_zero;
      in_order = s.in_order;
      whole = let g = s.whole in let up = piece-rises office owners span p l h in omega (arith, g, up, n);
    }

-- a piece in which something flows
pub share-more : (office : OfficeFile) (owners : List (ℕ × Option AccountId)) (span : Span) (t : ℕ) (p : Piece) (old new : List Cell) → span.from < span.to → span.low ≤ span.high →
    span.from ≤ t → p.begin ≡ t → IsPieceOf office owners span p → IsAdded old new (cell_of p) → SoFar office owners span t old → SoFar office owners span p.until new
share-more office owners span t p old new l r a e h d before =
    let s = subst (λ x. SoFar office owners span x old) (sym e) before in
    record {
      shares = λ o k b.
          let m = up-to_piece office owners span p l r (omega (arith, a, e)) h o k b in
          let f = d.energy o k b in
          let g = s.shares o k b in
          omega (arith, m, f, g);
      above_zero = d.above_zero;
      in_order = d.in_order;
      whole =
          let f = d.whole in
          let g = s.whole in
          let up = piece-rises office owners span p l h in
          omega (arith, f, g, up);
    }

-- what a piece adds has room
pub piece-fits : (office : OfficeFile) (owners : List (ℕ × Option AccountId)) (span : Span) (t most : ℕ) (p : Piece) (cells : List Cell) → span.from < span.to →
    p.begin ≡ t → IsPieceOf office owners span p → level_of span p.until ≤ most → SoFar office owners span t cells → energy_of_all cells + p.wh ≤ most
piece-fits office owners span t most p cells l e h m before =
    let s = subst (λ x. SoFar office owners span x cells) (sym e) before in
    let g = s.whole in
    let up = piece-rises office owners span p l h in
    omega (arith, g, up, m)

-- all seconds
pub all-shared : (office : OfficeFile) (owners : List (ℕ × Option AccountId)) (span : Span) (t : ℕ) (cells : List Cell) → span.from < span.to → span.low ≤ span.high →
    t ≡ span.to → SoFar office owners span t cells → AreShares office owners span cells
unfolding cell
all-shared office owners span t cells l r e before =
    let s = subst (λ x. SoFar office owners span x cells) e before in
    record {
      shares = s.shares;
      above_zero = s.above_zero;
      in_order = s.in_order;
      whole =
          let g = s.whole in
          let h : level_of span span.to ≡ span.high = level-end span.from span.low span.to span.high l r in
          omega (arith, g, h);
    }

-- ---- the list of pieces
-- what lists the pieces from a second on lists, behind these, all of the span
abbrev pub GoOn : OfficeFile → List (ℕ × Option AccountId) → Span → ℕ → List Piece → Type 0
GoOn office owners span at ps = (rest : List Piece) → ListsPieces office owners span at rest → ListsPieces office owners span span.from (ps ++ rest)

pub all-listed : (office : OfficeFile) (owners : List (ℕ × Option AccountId)) (span : Span) (at : ℕ) (ps : List Piece) →
    at ≡ span.to → GoOn office owners span at ps → ListsPieces office owners span span.from ps
all-listed office owners span at ps e g = subst (ListsPieces office owners span span.from) (append-nil ps) (g [] e)

-- ---- shares are sums of pieces
rest-gives : (office : OfficeFile) (owners : List (ℕ × Option AccountId)) (span : Span) → span.from < span.to → span.low ≤ span.high →
    (o : Option AccountId) (k b : ℕ) (at : ℕ) (ps : List Piece) → ListsPieces office owners span at ps →
    sum_over (flows office owners span o k b) at (span.to - at) ≡ given_to o k b ps
unfolding sum_over
rest-gives office owners span l r o k b at [] h = let z : span.to - at ≡ 0 = omega (arith, h) in rw z refl
rest-gives office owners span l r o k b at (p ∷ ps) h =
    let rest = rest-gives office owners span l r o k b p.until ps h.2 in
    let here = piece-gives office owners span p l r h.1 o k b in
    let c = h.1.begun in
    let join = sum-join (flows office owners span o k b) p.begin p.until span.to (omega (arith, c)) h.1.within in
    let e : sum_over (flows office owners span o k b) p.begin (span.to - p.begin) ≡ given_to o k b (p ∷ ps) = omega (arith, join, here, rest) in
    subst (λ x. sum_over (flows office owners span o k b) x (span.to - x) ≡ given_to o k b (p ∷ ps)) h.0 e

pub pieces-are_shares : PiecesAreShares
unfolding cell
pieces-are_shares office owners span ps l r h =
    let given : (o : Option AccountId) (k b : ℕ) → given_to o k b ps ≡ share office owners span o k b
    = λ o k b. sym (rest-gives office owners span l r o k b span.from ps h) in
    record { shares = given; cells = λ cells s o k b. s.shares o k b ∙ sym (given o k b) }
