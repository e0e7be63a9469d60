-- The pieces of a pair are rows.
use Rattle.std.proofs.Common.{◌≡◌, ◌↔◌, ◌⊎◌, ℕ, ◌+◌, ◌-◌, ◌<◌, ◌≤◌, nat_le, nat_lt, Bool, true, false, cond, Option, Some, None, List, [], ◌∷◌, refl, sym, ap, subst, ◌∙◌, arith, inl, inr}
use Rattle.std.proofs.lemmas.Bool.{and_parts, cases_lt, eq-eqb, le-leb, leb-true, lt-ltb, ltb-true}
use Rattle.pw_obis.specs.declared.reference.Register.{Register}
use Rattle.pw_tariff.specs.declared.ids.AccountId.{AccountId}
use Rattle.pw_tariff.specs.declared.spread.Piece.{Piece}
use Rattle.pw_tariff.specs.declared.spread.Span.{Span}
use Rattle.pw_tariff.specs.Office.{OfficeFile, office_of, register_place}
use Rattle.pw_tariff.specs.Owners.{owner_by_starts}
use Rattle.pw_tariff.specs.Pieces.{IsOfPiece, IsPieceOf, ListsPieces, level_of}
use Rattle.pw_flow.specs.Flow.{pair_flow}
use Rattle.pw_flow.proofs.Level.{level-up, pair_flow-is}
use Rattle.pw_model.specs.declared.records.Key.{Key}
use Rattle.pw_model.specs.declared.records.Contents.{Contents}
use Rattle.pw_model.specs.Counting.{Member}
use Rattle.pw_model.specs.Energy.{account, owner_at}
use Rattle.pw_months.specs.Between.{lies_in}
use Rattle.pw_months.specs.Pieces.{IsCountingPair, PiecesAreRows, row_of}
use Rattle.pw_months.specs.Why.{IsOfClass, IsWhyRow, covers}
use Rattle.pw_months.specs.Window.{AreCut}

no-account : (a : AccountId) → None ≡ Some a → ⊥
no-account a e = cc

lies-within : (x y t : ℕ) → x ≤ t → t < y → lies_in x y t ≡ true
lies-within x y t g l = rw (le-leb x t g, lt-ltb t y l)

owned-if : (l : Bool) (o : Option AccountId) (a : AccountId) → cond l o None ≡ Some a → (l ≡ true) × (o ≡ Some a)
owned-if true o a h = (refl, h)
owned-if false o a h = absurd (no-account a h)

-- a second that is an account's under cut owners is its own, and one of the interval
owned : (x y t : ℕ) (o : Option AccountId) (a : AccountId) → cond (lies_in x y t) o None ≡ Some a →
    (x ≤ t) × (t < y) × (o ≡ Some a)
owned x y t o a h =
    let c = owned-if (lies_in x y t) o a h in
    let p = and_parts (nat_le x t) (nat_lt t y) c.0 in
    (leb-true x t p.0, ltb-true t y p.1, c.1)

-- at each second before an end just the account in the interval has this name
abbrev pub NamesIn : (Key → Contents) → ℕ → ℕ → ℕ → ℕ → AccountId → List (ℕ × Option AccountId) → ℕ → Type 0
NamesIn at m a x y name owners end = (t : ℕ) → t < end →
    (owner_by_starts owners t ≡ Some name) ↔ ((x ≤ t) × (t < y) × (owner_at at m t ≡ Some (account a)))

module _ (file : OfficeFile) (at : Key → Contents) (m : ℕ) (r : Register) (a x y : ℕ) (name : AccountId)
    (owners : List (ℕ × Option AccountId)) (span : Span) (pair : IsCountingPair (office_of file) at m r span)
    (named : NamesIn at m a x y name owners span.to) where
  -- a second of a piece under the name is the account's, and lies in the interval
  in-interval : (p : Piece) (t : ℕ) → p.owner ≡ Some name → t < span.to → IsOfPiece file owners p t →
      (x ≤ t) × (t < y) × (owner_at at m t ≡ Some (account a))
  in-interval p t o l h = (named t l).0 (h.0 ∙ o)

  of-row : (p : Piece) (t : ℕ) → p.owner ≡ Some name → t < span.to → IsOfPiece file owners p t →
      IsOfClass (office_of file) at a (row_of (office_of file) m r span p) t
  of-row p t o l h = ((in-interval p t o l h).2, h.1, h.2)

  of-piece : (p : Piece) (t : ℕ) → p.owner ≡ Some name → t < span.to → x ≤ t → t < y →
      IsOfClass (office_of file) at a (row_of (office_of file) m r span p) t → IsOfPiece file owners p t
  of-piece p t o l g k c = ((named t l).1 (g, k, c.0) ∙ sym o, c.1, c.2)

  -- what stands before a piece: the begin of the pair, or another piece
  abbrev Behind : ℕ → Type 0
  Behind begin = (begin ≡ span.from) ⊎ ((q : Piece) × IsPieceOf file owners span q × (q.until ≡ begin))

  -- behind another piece it begins with the interval, or with the account's time, the period or the band
  begins : (p : Piece) → p.owner ≡ Some name → IsPieceOf file owners span p → Behind p.begin → x ≤ p.begin → p.begin < y →
      (p.begin ≡ span.from) ⊎ ((p.begin ≡ x) ⊎ (IsOfClass (office_of file) at a (row_of (office_of file) m r span p) (p.begin - 1) → ⊥))
  begins p o h (inl e) g l = inl e
  begins p o h (inr b) g l =
      let q = b.0 in
      let u = b.2 in
      let c = b.1.begun in
      let d = h.begun in
      let e = h.within in
      elim (cases_lt (p.begin - 1) x) [
        | inl f ↦ inr (inl (omega (arith, f, g, c, u)))
        | inr f ↦ inr (inr (λ k.
            let s = of-piece p (p.begin - 1) o (omega (arith, d, e)) f (omega (arith, l)) k in
            let t = b.1.same (p.begin - 1) (omega (arith, c, u)) (omega (arith, c, u)) in
            let n = subst (IsOfPiece file owners p) (sym u) (h.same p.begin (omega arith) d) in
            b.1.over (omega (arith, u, d, e)) (n.0 ∙ sym s.0 ∙ t.0, n.1 ∙ sym s.1 ∙ t.1, n.2 ∙ sym s.2 ∙ t.2)))
      ]

  ends : (p : Piece) → p.owner ≡ Some name → IsPieceOf file owners span p → x ≤ p.begin → p.until ≤ y →
      (p.until ≡ span.to) ⊎ ((p.until ≡ y) ⊎ (IsOfClass (office_of file) at a (row_of (office_of file) m r span p) p.until → ⊥))
  ends p o h g l =
      let d = h.begun in
      let e = h.within in
      elim (cases_lt p.until span.to) [
        | inr f ↦ inl (omega (arith, e, f))
        | inl f ↦ elim (cases_lt p.until y) [
          | inr k ↦ inr (inl (omega (arith, k, l)))
          | inl k ↦ inr (inr (λ c. h.over f (of-piece p p.until o f (omega (arith, g, d)) k c)))
        ]
      ]

  row-is : (p : Piece) → p.owner ≡ Some name → 0 < p.wh → IsPieceOf file owners span p → Behind p.begin → span.from ≤ p.begin →
      IsWhyRow (office_of file) at a x y (row_of (office_of file) m r span p)
  row-is p o w h b f =
      let d = h.begun in
      let e = h.within in
      let one = in-interval p p.begin o (omega (arith, d, e)) (h.same p.begin (omega arith) d) in
      let two = in-interval p (p.until - 1) o (omega (arith, d, e)) (h.same (p.until - 1) (omega (arith, d)) (omega (arith, d))) in
      let k = two.1 in
      let in_y : p.until ≤ y = omega (arith, k) in
      record {
        meter = pair.meter;
        counts = pair.counts;
        neighbours = pair.neighbours;
        rising = pair.rising;
        seen = pair.seen;
        piece = (f, d, h.within);
        within = (one.0, in_y);
        of_class = λ t i j. of-row p t o (omega (arith, j, e)) (h.same t i j);
        first = begins p o h b one.0 one.1;
        last = ends p o h one.0 in_y;
        something = w;
        given = h.given;
        cost = refl;
      }

  pub rows-from : (begin : ℕ) (ps : List Piece) → ListsPieces file owners span begin ps → Behind begin → span.from ≤ begin →
      (p : Piece) → Member p ps → p.owner ≡ Some name → 0 < p.wh →
      IsWhyRow (office_of file) at a x y (row_of (office_of file) m r span p)
  rows-from begin [] h b f p i o w = absurd i
  rows-from begin (q ∷ ps) h b f p (inl e) o w =
      let g = subst (IsPieceOf file owners span) (sym e) h.1 in
      let s : p.begin ≡ begin = ap (λ (n : Piece). n.begin) e ∙ h.0 in
      row-is p o w g (subst Behind (sym s) b) (omega (arith, f, s))
  rows-from begin (q ∷ ps) h b f p (inr i) o w =
      let c = h.1.begun in
      let d = h.0 in
      rows-from q.until ps h.2 (inr (q, h.1, refl)) (omega (arith, c, d, f)) p i o w

  -- ---- each second stands in a piece
  found : (begin : ℕ) (ps : List Piece) → ListsPieces file owners span begin ps → (t : ℕ) → begin ≤ t → t < span.to →
      (p : Piece) × Member p ps × IsPieceOf file owners span p × (p.begin ≤ t) × (t < p.until)
  found begin [] h t g l = absurd (omega (arith, h, g, l))
  found begin (q ∷ ps) h t g l =
      elim (cases_lt t q.until) [
        | inl u ↦ (let d = h.0 in (q, inl refl, h.1, omega (arith, d, g), u))
        | inr u ↦ (let f = found q.until ps h.2 t u l in (f.0, inr f.1, f.2, f.3, f.4))
      ]

  -- a piece that gives nothing carries nothing at any of its seconds
  still : (p : Piece) (t : ℕ) → IsPieceOf file owners span p → p.wh ≤ 0 → p.begin ≤ t → t < p.until →
      pair_flow (span.from, span.low) (span.to, span.high) t ≡ 0
  still p t h z g l =
      let e = pair.neighbours.earlier in
      let v = h.given in
      let one : level_of span p.begin ≤ level_of span t = level-up span.from span.low span.to span.high p.begin t e g in
      let two : level_of span t ≤ level_of span (t + 1) = level-up span.from span.low span.to span.high t (t + 1) e (omega arith) in
      let three : level_of span (t + 1) ≤ level_of span p.until = level-up span.from span.low span.to span.high (t + 1) p.until e (omega (arith, l)) in
      let f = pair_flow-is span.from span.low span.to span.high t pair.rising in
      omega (arith, v, z, one, two, three, f)

  pub all-found : (ps : List Piece) → ListsPieces file owners span span.from ps → (t : ℕ) → span.from ≤ t → t < span.to → x ≤ t → t < y → owner_at at m t ≡ Some (account a) →
      (pair_flow (span.from, span.low) (span.to, span.high) t ≡ 0)
      ⊎ ((p : Piece) × Member p ps × (p.owner ≡ Some name) × (0 < p.wh)
      × (covers m r t (row_of (office_of file) m r span p) ≡ true))
  all-found ps h t f l g k o =
      let n = found span.from ps h t f l in
      let p = n.0 in
      elim (cases_lt 0 p.wh) [
        | inr z ↦ inl (still p t n.2 z n.3 n.4)
        | inl w ↦ inr (
          p,
          n.1,
          sym (n.2.same t n.3 n.4).0 ∙ (named t l).1 (g, k, o),
          w,
          rw (eq-eqb m m refl, eq-eqb (register_place r) (register_place r) refl, le-leb p.begin t n.3, lt-ltb t p.until n.4) refl,
        )
      ]

-- cut owners have their own names
cut-names : (at : Key → Contents) (m a x y : ℕ) (starts within : List (ℕ × Option AccountId)) (end : ℕ) →
    ((t : ℕ) → owner_by_starts starts t ≡ owner_at at m t) → AreCut x y starts within → NamesIn at m a x y (account a) within end
cut-names at m a x y starts within end own cut = λ t l. (
  λ e. (let h = owned x y t (owner_by_starts starts t) (account a) (sym (cut t) ∙ e) in (h.0, h.1, sym (own t) ∙ h.2)),
  λ h. cut t ∙ ap (λ (b : Bool). cond b (owner_by_starts starts t) None) (lies-within x y t h.0 h.1) ∙ own t ∙ h.2,
)

pub pieces-are_rows : PiecesAreRows
pieces-are_rows file at m r a x y starts within span ps pair own cut h =
    let named = cut-names at m a x y starts within span.to own cut in
    record {
      each = rows-from file at m r a x y (account a) within span pair named span.from ps h (inl refl) (omega arith);
      all = all-found file at m r a x y (account a) within span pair named ps h;
    }
