-- What the rows of top-ups add up to.
use Rattle.std.proofs.Common.{◌≡◌, ◌==◌, ◌&&◌, ℕ, ◌≤◌, nat_le, nat_lt, Bool, true, false, cond, List, [], ◌∷◌, map, Less, refl, ap, sym, subst, ◌∙◌, inl, inr, arith}
use Rattle.std.specs.Cmp.Lexicographic.{slice_cmp}
use Rattle.std.specs.List.{sum_by}
use Rattle.std.specs.Ordering.{nat_cmp}
use Rattle.std.proofs.lemmas.Bool.{cases_Bool, and_parts, eq-eqb, eqb-true, leb-true, le-leb, ltb-true, lt-ltb}
use Rattle.std.proofs.lemmas.List.Sums.{sum_by-cons}
use Rattle.pw_tariff.specs.declared.ids.AccountId.{AccountId}
use Rattle.pw_tariff.specs.Office.{OfficeRules}
use Rattle.pw_model.specs.declared.records.Key.{Key}
use Rattle.pw_model.specs.declared.records.Key.TheVariants as key
use Rattle.pw_model.specs.declared.records.Content.TheVariants as content
use Rattle.pw_model.specs.declared.records.Contents.{Contents}
use Rattle.pw_model.specs.declared.records.Contents.TheVariants.{Nothing, One, Several}
use Rattle.pw_model.specs.declared.records.Entry.{Entry}
use Rattle.pw_model.specs.Same.{same_key}
use Rattle.pw_model.specs.Counting.{Member, contents_at}
use Rattle.pw_model.specs.Energy.{account}
use Rattle.pw_model.specs.Lists.{IsInOrder}
use Rattle.pw_model.specs.Office.{AllOfOffice}
use Rattle.pw_model.specs.Payments.{keys, sum_once}
use Rattle.pw_model.proofs.Answers.{key-back}
use Rattle.pw_model.proofs.Bounded.{ToldOf, contents-of}
use Rattle.pw_model.proofs.Counting.{one-stands, standing-part}
use Rattle.pw_model.proofs.InOrder.{before-member, by-numbers}
use Rattle.pw_model.proofs.Once.{once-fresh}
use Rattle.pw_model.proofs.Payments.{sum-part}
use Rattle.pw_model.proofs.Same.{same_key-decides}
use Rattle.pw_months.specs.Between.{cents_between, lies_in, topped_up_between}
use Rattle.pw_bills.specs.declared.payments.TopUpRow.{TopUpRow}
use Rattle.pw_bills.specs.Payments.{AreTopUpRows, IsTopUpRow, row_order}
use Rattle.pw_bills.specs.inner.TopUpRows.{cents_within}
use Rattle.pw_bills.proofs.RowsListed.{paid}

-- ---- the keys of rows
abbrev row_key : TopUpRow → Key
row_key row = key.TopUp row.reference

abbrev row_keys : List TopUpRow → List Key
row_keys = map row_key

key-of_row : (k : Key) (rows : List TopUpRow) → Member k (row_keys rows) → (row : TopUpRow) × Member row rows × (row_key row ≡ k)
key-of_row k [] m = absurd m
key-of_row k (row ∷ rows) (inl i) = (row, inl refl, sym i)
key-of_row k (row ∷ rows) (inr m) = let h = key-of_row k rows m in (h.0, inr h.1, h.2)

row-has_key : (row : TopUpRow) (rows : List TopUpRow) → Member row rows → Member (row_key row) (row_keys rows)
row-has_key row [] m = absurd m
row-has_key row (other ∷ rows) (inl i) = inl (ap row_key i)
row-has_key row (other ∷ rows) (inr m) = inr (row-has_key row rows m)

abbrev reference_of : Key → List ℕ
reference_of (key.TopUp r) = r
reference_of _ = []

fresh-row : (row : TopUpRow) (rows : List TopUpRow) → IsInOrder row_order (row ∷ rows) → Member (row_key row) (row_keys rows) → ⊥
fresh-row row rows r m =
    let h = key-of_row (row_key row) rows m in
    let less : row_order row h.0 ≡ Less = before-member row_order row h.0 rows r.0 h.1 in
    let same : h.0.reference ≡ row.reference = ap reference_of h.2 in
    let P : List ℕ → Type 0 = λ q. slice_cmp nat_cmp row.reference q ≡ Less in
    (by-numbers (λ (v : TopUpRow). v.reference)).apart row (subst P same less)

and-true : (b : Bool) → (b && true) ≡ b
and-true true = refl
and-true false = refl

-- ---- their sum
module _ (s : List Entry) (a : AccountId) (x z u v : ℕ) where
  row-cents : (row : TopUpRow) → IsTopUpRow (contents_at s) a x z row → cents_between a.0 u v (contents_at s (row_key row)) ≡ cents_within u v row
  row-cents row h =
      ap (cents_between a.0 u v) h.counts
      ∙ ap (λ (b : Bool). cond b row.cents 0) (ap (λ (b : Bool). lies_in u v row.instant && b) (eq-eqb a.0 a.0 refl) ∙ and-true (lies_in u v row.instant))

  rows-sum : (rows : List TopUpRow) → IsInOrder row_order rows → ((row : TopUpRow) → Member row rows → IsTopUpRow (contents_at s) a x z row) →
      sum_once same_key (λ k. cents_between a.0 u v (contents_at s k)) (row_keys rows) ≡ sum_by (cents_within u v) rows
  rows-sum [] r h = refl
  rows-sum (row ∷ rows) r h =
      let f : Key → ℕ = λ k. cents_between a.0 u v (contents_at s k) in
      let first = row-cents row (h row (inl refl)) in
      let rest = rows-sum rows r.1 (λ q m. h q (inr m)) in
      let left = once-fresh same_key same_key-decides f (row_key row) (row_keys rows) (fresh-row row rows r) in
      let right = sum_by-cons (cents_within u v) row rows in
      omega (arith, left, right, first, rest)

lies-wider : (x z u v t : ℕ) → x ≤ u → v ≤ z → lies_in u v t ≡ true → lies_in x z t ≡ true
lies-wider x z u v t l r h =
    let p = and_parts (nat_le u t) (nat_lt t v) h in
    let b : nat_le x t ≡ true = le-leb x t (let q = leb-true u t p.0 in omega (arith, q, l)) in
    let e : nat_lt t z ≡ true = lt-ltb t z (let q = ltb-true t v p.1 in omega (arith, q, r)) in
    λ i. b i && e i

module _ (office : OfficeRules) (s : List Entry) (a : AccountId) (x z u v : ℕ) (rows : List TopUpRow) (o : AllOfOffice office s) (l : x ≤ u) (r : v ≤ z) (w : AreTopUpRows s a x z rows) where
  -- a key that no row has gives nothing
  unlisted : (k : Key) (c : Contents) → c ≡ contents_at s k → ToldOf office k c → (Member k (row_keys rows) → ⊥) → cents_between a.0 u v c ≡ 0
  unlisted k Nothing h t n = refl
  unlisted k Several h t n = refl
  unlisted k (One (content.Reading wh)) h t n = refl
  unlisted k (One (content.Assignment owner)) h t n = refl
  unlisted k (One content.Withdrawal) h t n = refl
  unlisted (key.Reading m q i) (One (content.TopUp b c d)) h t n = absurd t
  unlisted (key.Assignment m i) (One (content.TopUp b c d)) h t n = absurd t
  unlisted (key.Withdrawal m) (One (content.TopUp b c d)) h t n = absurd t
  unlisted (key.TopUp q) (One (content.TopUp b c d)) h t n =
      elim (cases_Bool (lies_in u v d && (b.0 == a.0))) [
        | inl e ↦ (
            let p = and_parts (lies_in u v d) (b.0 == a.0) e in
            let same : b ≡ a = ap account (eqb-true b.0 a.0 p.1) in
            let row : TopUpRow = record { reference = q; cents = c; instant = d } in
            let is : IsTopUpRow (contents_at s) a x z row = record {
              counts = sym h ∙ (λ i. One (content.TopUp (same i) c d));
              within = lies-wider x z u v d l r p.0;
            } in
            absurd (n (row-has_key row rows ((w.members row).1 is))))
        | inr e ↦ ap (λ (p : Bool). cond p c 0) e
      ]

  -- the rows of an interval give what is topped up in each part of it
  pub rows-add_up : topped_up_between s a.0 u v ≡ sum_by (cents_within u v) rows
  unfolding topped_up_between
  rows-add_up =
      sum-part (λ k. cents_between a.0 u v (contents_at s k)) (keys s) (row_keys rows)
      (λ k m. (
      let g = key-of_row k rows m in
      let P : Key → Type 0 = λ q. Member q (keys s) in
      let is = (w.members g.0).0 g.1 in
      subst P g.2 (key-back (paid a g.0) s (standing-part s (paid a g.0) (one-stands s (row_key g.0) (content.TopUp a g.0.cents g.0.instant) is.counts)))))
      (λ k m n. unlisted k (contents_at s k) refl (contents-of office s k o) n)
      ∙ rows-sum s a x z u v rows w.rising (λ row m. (w.members row).0 m)

-- ---- of the whole interval
all-within : (x y : ℕ) (rows : List TopUpRow) → ((row : TopUpRow) → Member row rows → lies_in x y row.instant ≡ true) → sum_by (cents_within x y) rows ≡ sum_by (λ row. row.cents) rows
all-within x y [] h = refl
all-within x y (row ∷ rows) h =
    let first : cents_within x y row ≡ row.cents = ap (λ (b : Bool). cond b row.cents 0) (h row (inl refl)) in
    let rest = all-within x y rows (λ q m. h q (inr m)) in
    let left = sum_by-cons (cents_within x y) row rows in
    let right = sum_by-cons (λ (v : TopUpRow). v.cents) row rows in
    omega (arith, left, right, first, rest)

pub rows-whole : (office : OfficeRules) (s : List Entry) (a : AccountId) (x y : ℕ) (rows : List TopUpRow) → AllOfOffice office s → AreTopUpRows s a x y rows →
    sum_by (λ row. row.cents) rows ≡ topped_up_between s a.0 x y
rows-whole office s a x y rows o w =
    sym (all-within x y rows (λ row m. ((w.members row).0 m).within))
    ∙ sym (rows-add_up office s a x y x y rows o (omega arith) (omega arith) w)
