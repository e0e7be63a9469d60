-- There is a list of falls, one of disputes, and one of the readings of a register.
use Rattle.std.proofs.Common.{◌≡◌, ◌⊎◌, ◌↔◌, ℕ, suc, ◌+◌, ◌<◌, ◌≤◌, Bool, true, false, IsTrue, Option, Some, None, List, [], ◌∷◌, refl, ap, sym, subst, ◌∙◌, inl, inr, arith}
use Rattle.std.proofs.lemmas.Bool.{cases_Bool, cases_lt, true≢false}
use Rattle.std.specs.declared.cmp.Ordering.{Ordering}
use Rattle.std.specs.declared.cmp.Ordering.TheVariants.{Less, Equal, Greater}
use Rattle.pw_obis.specs.declared.reference.Register.{Register}
use Rattle.pw_tariff.specs.declared.ids.MeterId.{MeterId}
use Rattle.pw_model.specs.declared.records.Key.{Key}
use Rattle.pw_model.specs.declared.records.Key.TheVariants as key
use Rattle.pw_model.specs.declared.records.Content.{Content}
use Rattle.pw_model.specs.declared.records.Content.TheVariants as content
use Rattle.pw_model.specs.declared.records.Contents.{Contents}
use Rattle.pw_model.specs.declared.records.Entry.{Entry}
use Rattle.pw_model.specs.declared.records.Fall.{Fall}
use Rattle.pw_model.specs.declared.records.Dispute.{Dispute}
use Rattle.pw_model.specs.declared.records.ReadingRow.{ReadingRow}
use Rattle.pw_model.specs.Same.{same_key, entry_order}
use Rattle.pw_model.specs.Counting.{is_withdrawn, Counts, contents_at, point, reading_key}
use Rattle.pw_model.specs.Payments.{keys, stands_in}
use Rattle.pw_model.specs.Lists.{IsInOrder, IsFall, records_at, reading_entry, AreFalls, AreDisputes, AreReadings}
use Rattle.pw_model.specs.inner.Search.{IsWith, AreSorted, IsEarliestAmong, IsPointIn, earlier_of, high_reading, FallsFrom, DisputesUnder, IsRowOf, RowsOf}
use Rattle.pw_model.specs.Laws.{ListsExist}
use Rattle.pw_flow.proofs.Points.{option-cases}
use Rattle.pw_model.proofs.Same.{same_key-decides}
use Rattle.pw_model.proofs.Counting.{entry, counts-known}
use Rattle.pw_model.proofs.Found.{second_of, earliest-more}
use Rattle.pw_model.proofs.EntryOrder.{sorted-none, sorted-more, with-none, with-first, with-there, with-later}
use Rattle.pw_model.proofs.PlainFalls.{IsFrom, IsNext, fall, fall-not_counting, fall-found, no-fall, none-behind, falls-more, falls-skip, falls-all}
use Rattle.pw_model.proofs.PlainDisputes.{disputes-more, disputes-again, disputes-few, disputes-all}
use Rattle.pw_model.proofs.PlainReadings.{rows-more, rows-skip, rows-all}

-- ---- the records in order
order-cases : (o : Ordering) → (o ≡ Less) ⊎ ((o ≡ Equal) ⊎ (o ≡ Greater))
order-cases Less = inl refl
order-cases Equal = inr (inl refl)
order-cases Greater = inr (inr refl)

with-there_is : (e : Entry) (xs : List Entry) → (ys : List Entry) × IsWith e xs ys
with-there_is e [] = (e ∷ [], with-none e)
with-there_is e (x ∷ xs) =
    elim (order-cases (entry_order e x)) [
      | inl l ↦ (e ∷ x ∷ xs, with-first e x xs l)
      | inr (inl q) ↦ (x ∷ xs, with-there e x xs q)
      | inr (inr g) ↦ (let r : (ys : List Entry) × IsWith e xs ys = with-there_is e xs in (x ∷ r.0, with-later e x xs r.0 g r.1))
    ]

pub sorted-there_is : (s : List Entry) → (t : List Entry) × AreSorted s t
sorted-there_is [] = ([], sorted-none)
sorted-there_is (e ∷ s) =
    let r : (t : List Entry) × AreSorted s t = sorted-there_is s in
    let w = with-there_is e r.0 in
    (w.0, sorted-more e s r.0 w.0 r.1 w.1)

-- ---- whether a record counts
counts-test : (s : List Entry) (e : Entry) → (b : Bool) × (IsTrue b ↔ Counts s e)
counts-test s e = elim (counts-known s e) [
  | inl c ↦ (true, (λ t. c, λ k. refl))
  | inr n ↦ (false, (λ t. absurd (true≢false (sym t)), λ k. absurd (n k)))
]

-- ---- whether a record is a reading of a register
content-cases : (c : Content) → ((w : ℕ) × (c ≡ content.Reading w)) ⊎ ((w : ℕ) → c ≡ content.Reading w → ⊥)
content-cases (content.Reading w) = inl (w, refl)
content-cases (content.Assignment o) = inr (λ w i. cc)
content-cases (content.TopUp a c t) = inr (λ w i. cc)
content-cases content.Withdrawal = inr (λ w i. cc)

key-cases : (k : Key) (m : ℕ) (r : Register) → (k ≡ reading_key m r (second_of k)) ⊎ ((t : ℕ) → k ≡ reading_key m r t → ⊥)
key-cases k m r =
    elim (cases_Bool (same_key k (reading_key m r (second_of k)))) [
      | inl t ↦ inl ((same_key-decides k (reading_key m r (second_of k))).0 t)
      | inr f ↦ inr (λ t i. (
          let s : second_of k ≡ t = ap second_of i in
          let j : k ≡ reading_key m r (second_of k) = i ∙ ap (reading_key m r) (sym s) in
          true≢false (sym ((same_key-decides k (reading_key m r (second_of k))).1 j) ∙ f)))
    ]

-- ---- the next counting reading
-- later than all of these records
far : List Entry → ℕ
far [] = 0
far (e ∷ s) = suc (second_of e.key) + far s

point-there_is : (at : Key → Contents) (m : ℕ) (r : Register) (x : ℕ) (e : Entry) → (here : Option (ℕ × ℕ)) × ((y : ℕ) → second_of e.key < y → IsPointIn at m r x y e here)
point-there_is at m r x e =
    elim (key-cases e.key m r) [
      | inr n ↦ (None, λ y l s i a b. absurd (n s i))
      | inl k ↦ elim (cases_lt (second_of e.key) x) [
        | inl before ↦ (None, λ y l s i a b. absurd (let q : second_of e.key ≡ s = ap second_of i in omega arith))
        | inr late ↦ elim (option-cases (point at m r (second_of e.key))) [
          | inl n ↦ (None, λ y l s i a b. (let q : second_of e.key ≡ s = ap second_of i in let P : ℕ → Type 0 = λ t. point at m r t ≡ None in subst P q n))
          | inr f ↦ (Some (second_of e.key, f.0), λ y l. (k, late, l, f.1))
        ]
      ]
    ]

next-there_is : (at : Key → Contents) (m : ℕ) (r : Register) (x : ℕ) (some : List Entry) → (found : Option (ℕ × ℕ)) × ((y : ℕ) → far some ≤ y → IsEarliestAmong at m r x y some found)
unfolding far
next-there_is at m r x [] = (None, λ y l e mem. absurd mem)
next-there_is at m r x (e ∷ some) =
    let a : (found : Option (ℕ × ℕ)) × ((y : ℕ) → far some ≤ y → IsEarliestAmong at m r x y some found) = next-there_is at m r x some in
    let h = point-there_is at m r x e in
    (earlier_of a.0 h.0, λ y l. earliest-more at m r x y e some a.0 h.0 (a.1 y (omega arith)) (h.1 y (omega arith)))

-- ---- falls
FallAt : List Entry → Entry → Type 0
FallAt s e = ((f : Fall) × IsFall (contents_at s) f × (e ≡ high_reading f)) ⊎ ((f : Fall) → IsFall (contents_at s) f → e ≡ high_reading f → ⊥)

fall-from : (s : List Entry) (e : Entry) (m : MeterId) (r : Register) (x w : ℕ) → IsFrom e m r x w → Counts s e → (found : Option (ℕ × ℕ)) → IsNext (far s) s m r x found → FallAt s e
unfolding FallAt
fall-from s e m r x w h c None n = inr (none-behind (far s) s e m r x w h n)
fall-from s e m r x w h c (Some a) n =
    elim (cases_lt a.1 w) [
      | inl l ↦ (let f = fall-found (far s) s e m r x w a.0 a.1 h c n l in inl (fall m r x w a.0 a.1, f.0, f.1))
      | inr l ↦ inr (no-fall (far s) s e m r x w a.0 a.1 h c n l)
    ]

fall-known : (s : List Entry) (k : Key) (c : Content) → FallAt s (entry k c)
unfolding FallAt
fall-known s (key.Assignment m t) c = inr (λ f a i. let j : key.Assignment m t ≡ key.Reading f.meter f.register f.from = ap (λ (e : Entry). e.key) i in cc)
fall-known s (key.TopUp q) c = inr (λ f a i. let j : key.TopUp q ≡ key.Reading f.meter f.register f.from = ap (λ (e : Entry). e.key) i in cc)
fall-known s (key.Withdrawal n) c = inr (λ f a i. let j : key.Withdrawal n ≡ key.Reading f.meter f.register f.from = ap (λ (e : Entry). e.key) i in cc)
fall-known s (key.Reading m r x) content.Withdrawal = inr (λ f b i. let j : content.Withdrawal ≡ content.Reading f.high = ap (λ (e : Entry). e.content) i in cc)
fall-known s (key.Reading m r x) (content.Assignment o) = inr (λ f a i. let j : content.Assignment o ≡ content.Reading f.high = ap (λ (e : Entry). e.content) i in cc)
fall-known s (key.Reading m r x) (content.TopUp a c t) = inr (λ f b i. let j : content.TopUp a c t ≡ content.Reading f.high = ap (λ (e : Entry). e.content) i in cc)
fall-known s (key.Reading m r x) (content.Reading w) =
    let e : Entry = entry (key.Reading m r x) (content.Reading w) in
    let b = counts-test s e in
    elim (cases_Bool b.0) [
      | inl t ↦ (let n = next-there_is (contents_at s) m.0 r (x + 1) s in fall-from s e m r x w (record { key = refl; content = refl }) (b.1.0 t) n.0 n.1)
      | inr f ↦ inr (fall-not_counting s e b.0 b.1 f)
    ]

falls-there_are : (s some : List Entry) → IsInOrder entry_order some → (fs : List Fall) × FallsFrom s some fs
unfolding FallAt
falls-there_are s [] up = ([], record { rising = tt; members = λ f. (λ m. absurd m, λ m. m.1) })
falls-there_are s (e ∷ others) up =
    let r : (fs : List Fall) × FallsFrom s others fs = falls-there_are s others up.1 in
    elim (fall-known s e.key e.content) [
      | inl f ↦ (f.0 ∷ r.0, falls-more s e (e ∷ others) others f.0 r.0 (f.0 ∷ r.0) refl up refl (f.1, f.2) r.1)
      | inr n ↦ (r.0, falls-skip s e (e ∷ others) others r.0 refl n r.1)
    ]

-- ---- disputes
disputes-there_are : (s some : List Entry) → IsInOrder entry_order some → (ds : List Dispute) × DisputesUnder s some ds
disputes-there_are s [] up = ([], record { rising = tt; members = λ d. (λ m. absurd m, λ m. m.1) })
disputes-there_are s (e ∷ others) up =
    let r : (ds : List Dispute) × DisputesUnder s others ds = disputes-there_are s others up.1 in
    let n : ℕ = records_at s e.key in
    elim (cases_Bool (stands_in same_key e.key (keys others))) [
      | inl t ↦ (r.0, disputes-again s e (e ∷ others) others r.0 refl (sym t) r.1)
      | inr f ↦ elim (cases_lt n 2) [
        | inl few ↦ (r.0, disputes-few s e (e ∷ others) others r.0 n refl refl few r.1)
        | inr two ↦ (
            let d : Dispute = record { key = e.key; contents = n } in
            (d ∷ r.0, disputes-more s e (e ∷ others) others d r.0 (d ∷ r.0) refl up refl f refl (record { several = two; number = refl }) r.1))
      ]
    ]

-- ---- readings
RowAt : List Entry → ℕ → Register → Entry → Type 0
RowAt s m r e = ((row : ReadingRow) × IsRowOf s s m r e row) ⊎ ((t w : ℕ) → e ≡ reading_entry m r t w → ⊥)

row-known : (s : List Entry) (m : ℕ) (r : Register) (e : Entry) → RowAt s m r e
unfolding RowAt
row-known s m r e =
    elim (key-cases e.key m r) [
      | inr n ↦ inr (λ t w i. n t (ap (λ (f : Entry). f.key) i))
      | inl k ↦ elim (content-cases e.content) [
        | inr n ↦ inr (λ t w i. n w (ap (λ (f : Entry). f.content) i))
        | inl c ↦ (
            let b = counts-test s e in
            let row : ReadingRow = record { instant = second_of e.key; wh = c.0; counted = b.0; withdrawn = is_withdrawn s e } in
            inl (row, record { reading = λ i. entry (k i) (c.1 i); counted = b.1; withdrawn = refl }))
      ]
    ]

rows-there_are : (s : List Entry) (m : ℕ) (r : Register) (some : List Entry) → IsInOrder entry_order some → (rows : List ReadingRow) × RowsOf s s m r some rows
unfolding RowAt
rows-there_are s m r [] up = ([], record { rising = tt; members = λ a. (λ q. absurd q, λ q. absurd q.0) })
rows-there_are s m r (e ∷ others) up =
    let rest : (rows : List ReadingRow) × RowsOf s s m r others rows = rows-there_are s m r others up.1 in
    elim (row-known s m r e) [
      | inl a ↦ (a.0 ∷ rest.0, rows-more s s m r e (e ∷ others) others a.0 rest.0 (a.0 ∷ rest.0) refl up refl a.1 rest.1)
      | inr n ↦ (rest.0, rows-skip s s m r e (e ∷ others) others rest.0 refl n rest.1)
    ]

falls-of : (s : List Entry) → (fs : List Fall) × AreFalls s fs
falls-of s =
    let t = sorted-there_is s in
    let f = falls-there_are s t.0 t.1.rising in
    (f.0, falls-all s t.0 t.0 f.0 refl t.1 f.1)

disputes-of : (s : List Entry) → (ds : List Dispute) × AreDisputes s ds
disputes-of s =
    let t = sorted-there_is s in
    let d = disputes-there_are s t.0 t.1.rising in
    (d.0, disputes-all s t.0 t.0 d.0 refl t.1 d.1)

readings-of : (s : List Entry) (m : ℕ) (r : Register) → (rows : List ReadingRow) × AreReadings s m r rows
readings-of s m r =
    let t = sorted-there_is s in
    let a = rows-there_are s m r t.0 t.1.rising in
    (a.0, rows-all s m r t.0 t.0 a.0 refl t.1 a.1)

pub lists-exist : ListsExist
lists-exist s = record { falls = falls-of s; disputes = disputes-of s; readings = readings-of s }
