-- The rows of top-ups, from the top-ups held, and how much is read for them.
use Rattle.std.proofs.Common.{◌≡◌, ◌==◌, ◌&&◌, ℕ, suc, ◌+◌, ◌*◌, ◌≤◌, Bool, true, false, cond, Option, Some, None, List, [], ◌∷◌, ◌++◌, length, drop, Less, refl, ap, sym, subst, ◌∙◌, inl, inr, arith, append_assoc}
use Rattle.std.specs.Cmp.Lexicographic.{slice_cmp}
use Rattle.std.specs.List.{filter}
use Rattle.std.specs.Option.{is_some}
use Rattle.std.specs.Ordering.{nat_cmp}
use Rattle.std.proofs.lemmas.Bool.{cases_Bool, and_parts, eq-eqb, eqb-true, true≢false}
use Rattle.std.proofs.lemmas.Option.{none-some, same_Some}
use Rattle.pw_tariff.specs.declared.ids.AccountId.{AccountId}
use Rattle.pw_model.specs.declared.records.Key.{Key}
use Rattle.pw_model.specs.declared.records.Key.TheVariants as key
use Rattle.pw_model.specs.declared.records.Content.{Content}
use Rattle.pw_model.specs.declared.records.Content.TheVariants as content
use Rattle.pw_model.specs.declared.records.Contents.{Contents}
use Rattle.pw_model.specs.declared.records.Contents.TheVariants.{Nothing, One, Several}
use Rattle.pw_model.specs.declared.records.Entry.{Entry}
use Rattle.pw_model.specs.Counting.{Member, contents_at}
use Rattle.pw_model.specs.Energy.{account}
use Rattle.pw_model.specs.Kinds.{IsTopUp, ListsHeld}
use Rattle.pw_model.specs.Lists.{IsInOrder, Lists}
use Rattle.pw_model.specs.Same.{entry_order, key_numbers, key_order}
use Rattle.pw_model.specs.inner.Search.{IsAt}
use Rattle.pw_model.proofs.Counting.{entry, one-stands, standing-part}
use Rattle.pw_model.proofs.EntryOrder.{before-all, entry-strict, told-more, told-skip}
use Rattle.pw_model.proofs.Filtered.{filtered-member, member-filtered}
use Rattle.pw_model.proofs.InOrder.{before-member}
use Rattle.pw_model.proofs.Places.{drop-all, drop-at, entry-up_to}
use Rattle.pw_model.proofs.Same.{same_content-decides}
use Rattle.pw_months.specs.Between.{lies_in}
use Rattle.pw_bills.specs.declared.payments.TopUpRow.{TopUpRow}
use Rattle.pw_bills.specs.Payments.{AreEnoughForTopUps, AreTopUpRows, IsTopUpIn, IsTopUpRow, row_order}
use Rattle.pw_bills.specs.inner.TopUpRows.{is_alone, reads_among, row_at, row_listed, row_reads, row_told, rows_among}

-- ---- a top-up and its row
-- the record of a row
abbrev pub paid : AccountId → TopUpRow → Entry
paid a row = entry (key.TopUp row.reference) (content.TopUp a row.cents row.instant)

alone-told : (c : Content) → is_alone c (One c) ≡ true
alone-told c = (same_content-decides c c).1 refl

alone-is : (c : Content) (r : Contents) → is_alone c r ≡ true → r ≡ One c
alone-is c Nothing h = absurd (true≢false (sym h))
alone-is c Several h = absurd (true≢false (sym h))
alone-is c (One d) h = ap (λ (x : Content). One x) (sym ((same_content-decides c d).0 h))

abbrev content_of : Contents → Content
content_of (One c) = c
content_of _ = content.Withdrawal

pub row-parts : (a : AccountId) (x y : ℕ) (k : Key) (c : Content) (row : TopUpRow) → row_at a x y k c ≡ Some row →
    (k ≡ key.TopUp row.reference) × (c ≡ content.TopUp a row.cents row.instant) × (lies_in x y row.instant ≡ true)
row-parts a x y (key.Reading m q i) c row h = absurd (none-some row h)
row-parts a x y (key.Assignment m i) c row h = absurd (none-some row h)
row-parts a x y (key.Withdrawal n) c row h = absurd (none-some row h)
row-parts a x y (key.TopUp r) (content.Reading w) row h = absurd (none-some row h)
row-parts a x y (key.TopUp r) (content.Assignment o) row h = absurd (none-some row h)
row-parts a x y (key.TopUp r) content.Withdrawal row h = absurd (none-some row h)
row-parts a x y (key.TopUp r) (content.TopUp b c t) row h =
    let made : TopUpRow = record { reference = r; cents = c; instant = t } in
    let picked : Bool → Option TopUpRow = λ q. cond q (Some made) None in
    elim (cases_Bool (lies_in x y t && (b.0 == a.0))) [
      | inl q ↦ (
          let g : made ≡ row = same_Some made row (sym (ap picked q) ∙ h) in
          let p = and_parts (lies_in x y t) (b.0 == a.0) q in
          let s : b ≡ a = ap account (eqb-true b.0 a.0 p.1) in
          (ap (λ (v : TopUpRow). key.TopUp v.reference) g, λ i. content.TopUp (s i) (g i).cents (g i).instant, ap (λ (v : TopUpRow). lies_in x y v.instant) (sym g) ∙ p.0))
      | inr q ↦ absurd (none-some row (sym (ap picked q) ∙ h))
    ]

module _ (at : Key → Contents) (a : AccountId) (x y : ℕ) where
  pub row-found : (row : TopUpRow) → IsTopUpRow at a x y row → row_told at a x y (paid a row) ≡ Some row
  row-found row h =
      let c : Content = content.TopUp a row.cents row.instant in
      let one : is_alone c (at (key.TopUp row.reference)) ≡ true = ap (is_alone c) h.counts ∙ alone-told c in
      let here : (lies_in x y row.instant && (a.0 == a.0)) ≡ true = λ i. h.within i && eq-eqb a.0 a.0 refl i in
      ap (λ (b : Bool). cond b (row_at a x y (key.TopUp row.reference) c) None) one
      ∙ ap (λ (b : Bool). cond b (Some row) None) here

  pub row-is : (e : Entry) (row : TopUpRow) → row_told at a x y e ≡ Some row → IsTopUpRow at a x y row × (e ≡ paid a row)
  row-is e row h =
      let picked : Bool → Option TopUpRow = λ b. cond b (row_at a x y e.key e.content) None in
      elim (cases_Bool (is_alone e.content (at e.key))) [
        | inl t ↦ (
            let p = row-parts a x y e.key e.content row (sym (ap picked t) ∙ h) in
            let k = p.0 in
            let c = p.1 in
            let one = alone-is e.content (at e.key) t in
            (record { counts = sym (ap at k) ∙ one ∙ ap (λ (v : Content). One v) c; within = p.2 }, λ i. entry (k i) (c i)))
        | inr f ↦ absurd (none-some row (sym (ap picked f) ∙ h))
      ]

  -- ---- in order
  keys-ordered : (p q : List ℕ) → key_order (key.TopUp p) (key.TopUp q) ≡ slice_cmp nat_cmp p q
  unfolding key_numbers
  keys-ordered p q = refl

  -- no two that count have one key
  before-row : (row other : TopUpRow) → IsTopUpRow at a x y row → IsTopUpRow at a x y other → entry_order (paid a row) (paid a other) ≡ Less → row_order row other ≡ Less
  before-row row other p q h = elim (entry-up_to (paid a row) (paid a other) h) [
    | inl l ↦ sym (keys-ordered row.reference other.reference) ∙ l
    | inr k ↦ (
        let c : content.TopUp a row.cents row.instant ≡ content.TopUp a other.cents other.instant = ap content_of (sym p.counts ∙ ap at k ∙ q.counts) in
        let same : paid a row ≡ paid a other = λ i. entry (k i) (c i) in
        let P : Entry → Type 0 = λ v. entry_order (paid a row) v ≡ Less in
        absurd (entry-strict.apart (paid a row) (subst P (sym same) h)))
  ]

  abbrev AreToldBy : List Entry → List TopUpRow → Type 0
  AreToldBy held = Lists row_order (λ row. IsTopUpRow at a x y row × Member (paid a row) held)

  rows-next : (e : Entry) (held : List Entry) (rows : List TopUpRow) (o : Option TopUpRow) → o ≡ row_told at a x y e → IsInOrder entry_order (e ∷ held) → AreToldBy held rows → AreToldBy (e ∷ held) (row_listed o rows)
  rows-next e held rows None i r l =
      told-skip row_order (IsTopUpRow at a x y) (paid a) e (e ∷ held) held rows refl
      (λ row p q. absurd (none-some row (i ∙ ap (row_told at a x y) (sym q) ∙ row-found row p)))
      l
  rows-next e held rows (Some row) i r l =
      let w = row-is e row (sym i) in
      let B : Entry → Type 0 = λ v. (z : TopUpRow) → Member (paid a z) held → entry_order v (paid a z) ≡ Less in
      let first : B (paid a row) = subst B w.1 (λ z m. before-member entry_order e (paid a z) held r.0 m) in
      told-more row_order (IsTopUpRow at a x y) (paid a) e (e ∷ held) held row rows (row ∷ rows) refl refl w.0 w.1
      (λ z m. (let g = (l.members z).0 m in before-row row z w.0 g.0 (first z g.1)))
      (λ z p q. same_Some z row (sym (row-found z p) ∙ ap (row_told at a x y) q ∙ row-found row w.0))
      l

  rows-told : (held : List Entry) → IsInOrder entry_order held → AreToldBy held (rows_among at a x y held)
  rows-told [] r = record { rising = tt; members = λ row. (λ m. absurd m, λ h. absurd h.1) }
  rows-told (e ∷ held) r = rows-next e held (rows_among at a x y held) (row_told at a x y e) refl r (rows-told held r.1)

  -- ---- one after another
  pub row-more : (held : List Entry) (i : ℕ) (e : Entry) (rows more : List TopUpRow) (row : TopUpRow) → IsAt held i e → rows ++ rows_among at a x y (drop i held) ≡ rows_among at a x y held →
      Some row ≡ row_told at a x y e → more ≡ rows ++ row ∷ [] → more ++ rows_among at a x y (drop (i + 1) held) ≡ rows_among at a x y held
  row-more held i e rows more row p h t m =
      let rest : List TopUpRow = rows_among at a x y (drop (i + 1) held) in
      let P : List Entry → Type 0 = λ es. rows ++ rows_among at a x y es ≡ rows_among at a x y held in
      let Q : Option TopUpRow → Type 0 = λ o. rows ++ row_listed o rest ≡ rows_among at a x y held in
      ap (λ (rs : List TopUpRow). rs ++ rest) m ∙ append_assoc rows (row ∷ []) rest ∙ subst Q (sym t) (subst P (drop-at held i e p) h)

  pub row-passed : (held : List Entry) (i : ℕ) (e : Entry) (rows more : List TopUpRow) → IsAt held i e → rows ++ rows_among at a x y (drop i held) ≡ rows_among at a x y held →
      None ≡ row_told at a x y e → more ≡ rows → more ++ rows_among at a x y (drop (i + 1) held) ≡ rows_among at a x y held
  row-passed held i e rows more p h t m =
      let rest : List TopUpRow = rows_among at a x y (drop (i + 1) held) in
      let P : List Entry → Type 0 = λ es. rows ++ rows_among at a x y es ≡ rows_among at a x y held in
      let Q : Option TopUpRow → Type 0 = λ o. rows ++ row_listed o rest ≡ rows_among at a x y held in
      ap (λ (rs : List TopUpRow). rs ++ rest) m ∙ subst Q (sym t) (subst P (drop-at held i e p) h)

  pub rows-all : (held : List Entry) (i : ℕ) (rows : List TopUpRow) → length held ≤ i → rows ++ rows_among at a x y (drop i held) ≡ rows_among at a x y held → rows ≡ rows_among at a x y held
  rows-all held i rows l h =
      let P : List Entry → Type 0 = λ es. rows ++ rows_among at a x y es ≡ rows_among at a x y held in
      sym (append-none rows) ∙ subst P (drop-all held i l) h
    where
      append-none : (rs : List TopUpRow) → rs ++ [] ≡ rs
      append-none [] = refl
      append-none (r ∷ rs) = ap (λ (ys : List TopUpRow). r ∷ ys) (append-none rs)

-- the top-ups held give all rows
pub rows-are : (s : List Entry) (a : AccountId) (x y : ℕ) (held : List Entry) → ListsHeld IsTopUp s held → AreTopUpRows s a x y (rows_among (contents_at s) a x y held)
rows-are s a x y held h =
    let l = rows-told (contents_at s) a x y held h.rising in
    record {
      rising = l.rising;
      members = λ row. (
        λ m. ((l.members row).0 m).0,
        λ p. (l.members row).1 (p, (h.members (paid a row)).1 (standing-part s (paid a row) (one-stands s (key.TopUp row.reference) (content.TopUp a row.cents row.instant) p.counts), tt)),
      );
    }

-- ---- how much is read
module _ (a : AccountId) (x y : ℕ) where
  abbrev has_row : Entry → Bool
  has_row e = is_some (row_at a x y e.key e.content)

  reads-one : (o : Option TopUpRow) (n m : ℕ) → m ≡ 3 * n → row_reads o + m ≡ 3 * cond (is_some o) (suc n) n
  reads-one None n m h = omega (arith, h)
  reads-one (Some row) n m h = omega (arith, h)

  length-next : (b : Bool) (e : Entry) (es : List Entry) → length (cond b (e ∷ es) es) ≡ cond b (suc (length es)) (length es)
  length-next true e es = refl
  length-next false e es = refl

  reads-few : (held : List Entry) → reads_among a x y held ≡ 3 * length (filter has_row held)
  reads-few [] = refl
  reads-few (e ∷ held) =
      reads-one (row_at a x y e.key e.content) (length (filter has_row held)) (reads_among a x y held) (reads-few held)
      ∙ ap (λ (n : ℕ). 3 * n) (sym (length-next (has_row e) e (filter has_row held)))

  filtered-rises : (held : List Entry) → IsInOrder entry_order held → IsInOrder entry_order (filter has_row held)
  filtered-rises [] r = tt
  filtered-rises (e ∷ held) r = elim (cases_Bool (has_row e)) [
    | inl t ↦ rw t (before-all entry_order e (filter has_row held) (λ z m. before-member entry_order e z held r.0 (filtered-member has_row held z m).0), filtered-rises held r.1)
    | inr f ↦ rw f (filtered-rises held r.1)
  ]

  row-own : (k : Key) (c : Content) (o : Option TopUpRow) → o ≡ row_at a x y k c → is_some o ≡ true → IsTopUpIn a x y c
  row-own k c None i t = absurd (true≢false (sym t))
  row-own k c (Some row) i t =
      let p = row-parts a x y k c row (sym i) in
      subst (IsTopUpIn a x y) (sym p.1) (refl, p.2)

  own-row : (k : Key) (c : Content) → IsTopUp k → IsTopUpIn a x y c → is_some (row_at a x y k c) ≡ true
  own-row (key.Reading m q i) c k h = absurd k
  own-row (key.Assignment m i) c k h = absurd k
  own-row (key.Withdrawal n) c k h = absurd k
  own-row (key.TopUp r) (content.Reading w) k h = absurd h
  own-row (key.TopUp r) (content.Assignment o) k h = absurd h
  own-row (key.TopUp r) content.Withdrawal k h = absurd h
  own-row (key.TopUp r) (content.TopUp b c t) k h =
      let made : TopUpRow = record { reference = r; cents = c; instant = t } in
      let here : (lies_in x y t && (b.0 == a.0)) ≡ true = λ i. h.1 i && eq-eqb b.0 a.0 (ap (λ (v : AccountId). v.0) h.0) i in
      ap (λ (q : Bool). is_some {T = TopUpRow} (cond q (Some made) None)) here

  own-listed : (s held : List Entry) → ListsHeld IsTopUp s held → Lists entry_order (λ e. Member e s × IsTopUp e.key × IsTopUpIn a x y e.content) (filter has_row held)
  own-listed s held h = record {
    rising = filtered-rises held h.rising;
    members = λ e. (
      λ m. (
          let f = filtered-member has_row held e m in
          let g = (h.members e).0 f.0 in
          (g.0, g.1, row-own e.key e.content (row_at a x y e.key e.content) refl f.1)),
      λ p. member-filtered has_row held e ((h.members e).1 (p.0, p.1)) (own-row e.key e.content p.1 p.2),
    );
  }

  pub reads-enough : (s held : List Entry) (most was mid now listed : ℕ) → ListsHeld IsTopUp s held → AreEnoughForTopUps s a x y most → listed ≡ length held → mid ≡ was + 1 + listed →
      now ≤ mid + reads_among a x y held → now ≤ was + most
  reads-enough s held most was mid now listed h w l m n =
      let few = w.few held h in
      let own = w.few_own (filter has_row held) (own-listed s held h) in
      let each = reads-few held in
      let all = w.enough in
      omega (arith, l, m, n, few, own, each, all)

  -- a fault at the one call
  pub reads-failed : (s : List Entry) (most was now : ℕ) → AreEnoughForTopUps s a x y most → now ≡ was + 1 + 0 → now ≤ was + most
  reads-failed s most was now w e = let all = w.enough in omega (arith, all, e)

  pub reads-next : (held : List Entry) (i : ℕ) (e : Entry) (was mid new : ℕ) → IsAt held i e → mid + reads_among a x y (drop i held) ≤ was + reads_among a x y held →
      new ≤ mid + row_reads (row_at a x y e.key e.content) → new + reads_among a x y (drop (i + 1) held) ≤ was + reads_among a x y held
  reads-next held i e was mid new p h n =
      let q = ap (reads_among a x y) (drop-at held i e p) in
      omega (arith, h, n, q)
