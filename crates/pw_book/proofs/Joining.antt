-- The records before, with those that were added so far.
use Rattle.std.proofs.Common.{◌≡◌, ℕ, ◌+◌, ◌<◌, ◌≤◌, List, [], ◌∷◌, ◌++◌, length, take, drop, get_or, refl, sym, subst, arith, inl, inr}
use Rattle.std.specs.BTreeMap.{BTreeMap}
use Rattle.std.proofs.lemmas.List.{take_more, take-append-drop}
use Rattle.std.proofs.Math.Seq.{take-length}
use Rattle.pw_model.specs.declared.records.Entry.{Entry}
use Rattle.pw_model.specs.declared.records.TotalKey.{TotalKey}
use Rattle.pw_model.specs.Counting.{Member, EachOnce, SameMembers}
use Rattle.pw_model.specs.Lists.{record_count}
use Rattle.pw_model.specs.Office.{most_records}
use Rattle.pw_tariff.specs.Office.{OfficeRules}
use Rattle.pw_model.specs.Office.{AllOfOffice, IsOffice, IsOfOffice}
use Rattle.pw_model.specs.Shelf.{IsTrueContent, ShelfContent}
use Rattle.pw_parts.specs.Changes.{gathered}
use Rattle.pw_parts.specs.declared.changes.Change.{Change}
use Rattle.pw_parts.specs.declared.changes.Side.TheVariants.{Loses, Gains}
use Rattle.pw_book.specs.Posting.{IsWithUpload}
use Rattle.pw_book.specs.inner.Added.{IsPut, IsTrueOf}
use Rattle.pw_book.specs.inner.Fresh.{AreFresh}
use Rattle.pw_book.specs.inner.Moves.{MovesTotals, OfOwners}
use Rattle.pw_book.proofs.Truthful.{true-but-nothing, written-true}
use Rattle.pw_model.proofs.Places.{member-left, member-right, member-split}
use Rattle.pw_book.proofs.EachOne.{record-count, count-within, taken-apart}

module _ (office : OfficeRules) where
  pub joined-none : (rows : BTreeMap TotalKey Change) (old new : ShelfContent) → new ≡ old → rows.entries ≡ [] → IsTrueContent office old → IsPut office rows [] old new
  joined-none rows old new same none t =
      let P : ShelfContent → Type 0 = λ c. IsPut office rows [] old c in
      subst P (sym same) (record {
        records = λ x. (λ m. member-left x old.records [] m, λ m. elim (member-split x old.records [] m) [ inl k ↦ k | inr t ↦ absurd t ]);
        truth = true-but-nothing office rows old none t;
      })

  pub joined-more : (rows more : BTreeMap TotalKey Change) (done : List Entry) (e : Entry) (old mid new : ShelfContent) → IsPut office rows done old mid → IsPut office more (e ∷ []) mid new → IsPut office more (done ++ e ∷ []) old new
  joined-more rows more done e old mid new a b = record {
    records = λ x. (
      λ m. elim (member-split x mid.records (e ∷ []) ((b.records x).0 m)) [
        | inl k ↦ elim (member-split x old.records done ((a.records x).0 k)) [
          | inl h ↦ member-left x old.records (done ++ e ∷ []) h
          | inr d ↦ member-right x old.records (done ++ e ∷ []) (member-left x done (e ∷ []) d)
        ]
        | inr t ↦ member-right x old.records (done ++ e ∷ []) (member-right x done (e ∷ []) t)
      ],
      λ m. (b.records x).1 (elim (member-split x old.records (done ++ e ∷ []) m) [
        | inl h ↦ member-left x mid.records (e ∷ []) ((a.records x).1 (member-left x old.records done h))
        | inr d ↦ elim (member-split x done (e ∷ []) d) [
          | inl k ↦ member-left x mid.records (e ∷ []) ((a.records x).1 (member-right x old.records done k))
          | inr t ↦ member-right x mid.records (e ∷ []) t
        ]
      ]),
    );
    truth = b.truth;
  }

  -- the next entry of a list is added
  pub joined-next : (rows more : BTreeMap TotalKey Change) (entries : List Entry) (i : ℕ) (e : Entry) (old mid new : ShelfContent) → i < length entries → e ≡ get_or entries i e → IsPut office rows (take i entries) old mid →
      IsPut office more (e ∷ []) mid new → IsPut office more (take (i + 1) entries) old new
  joined-next rows more entries i e old mid new l g a b =
      let P : List Entry → Type 0 = λ xs. IsPut office more xs old new in
      let Q : Entry → Type 0 = λ x. take (i + 1) entries ≡ take i entries ++ x ∷ [] in
      subst P (sym (subst Q (sym g) (take_more entries i e l))) (joined-more rows more (take i entries) e old mid new a b)

  pub joined-all : (entries : List Entry) (i : ℕ) (old : List Entry) (new : List Entry) → length entries ≤ i → i ≤ length entries → SameMembers new (old ++ take i entries) → SameMembers new (old ++ entries)
  joined-all entries i old new l k a =
      let e : i ≡ length entries = omega arith in
      let P : ℕ → Type 0 = λ n. SameMembers new (old ++ take n entries) in
      let Q : List Entry → Type 0 = λ xs. SameMembers new (old ++ xs) in
      subst Q (take-length entries) (subst P e a)

  taken-member : (entries : List Entry) (i : ℕ) (x : Entry) → Member x (take i entries) → Member x entries
  taken-member entries i x m =
      let P : List Entry → Type 0 = λ xs. Member x xs in
      subst P (take-append-drop i entries) (member-left x (take i entries) (drop i entries) m)

  pub got-member : (entries : List Entry) (i : ℕ) (e : Entry) → i < length entries → e ≡ get_or entries i e → Member e entries
  got-member entries i e l g =
      let Q : Entry → Type 0 = λ x. take (i + 1) entries ≡ take i entries ++ x ∷ [] in
      let s : take (i + 1) entries ≡ take i entries ++ e ∷ [] = subst Q (sym g) (take_more entries i e l) in
      let P : List Entry → Type 0 = λ xs. Member e xs in
      taken-member entries (i + 1) e (subst P (sym s) (member-right e (take i entries) (e ∷ []) (inl refl)))

  -- the next entry isn't held yet
  pub joined-fresh : (entries : List Entry) (i : ℕ) (e : Entry) (old now : ShelfContent) → i < length entries → e ≡ get_or entries i e → AreFresh old.records entries → SameMembers now.records (old.records ++ take i entries) → Member e now.records → ⊥
  joined-fresh entries i e old now l g f a m = elim (member-split e old.records (take i entries) ((a e).0 m)) [
    | inl h ↦ f.apart e (got-member entries i e l g) h
    | inr t ↦ taken-apart entries i e f.once l g t
  ]

  -- it has room, where all fit
  pub joined-room : (entries : List Entry) (i : ℕ) (e : Entry) (old now : ShelfContent) → i < length entries → e ≡ get_or entries i e → SameMembers now.records (old.records ++ take i entries) → EachOnce now.records →
      record_count (old.records ++ entries) ≤ most_records → (Member e now.records → ⊥) → length now.records < most_records
  joined-room entries i e old now l g a o r n =
      let c : record_count (e ∷ now.records) ≡ length (e ∷ now.records) = record-count (e ∷ now.records) (n, o) in
      let w : record_count (e ∷ now.records) ≤ record_count (old.records ++ entries) = count-within (e ∷ now.records) (old.records ++ entries) (λ x m. elim m [
        | inl j ↦ (let P : Entry → Type 0 = λ y. Member y (old.records ++ entries) in subst P (sym j) (member-right e old.records entries (got-member entries i e l g)))
        | inr k ↦ elim (member-split x old.records (take i entries) ((a x).0 k)) [
          | inl h ↦ member-left x old.records entries h
          | inr t ↦ member-right x old.records entries (taken-member entries i x t)
        ]
      ]) in
      omega (arith, c, w, r)

  -- all of the office so far
  pub joined-of_office : (entries : List Entry) (i : ℕ) (old now : ShelfContent) → AllOfOffice office entries → AllOfOffice office old.records → SameMembers now.records (old.records ++ take i entries) → AllOfOffice office now.records
  joined-of_office entries i old now o h a x m = elim (member-split x old.records (take i entries) ((a x).0 m)) [
    | inl k ↦ h x k
    | inr t ↦ o x (taken-member entries i x t)
  ]

  pub got-of_office : (entries : List Entry) (i : ℕ) (e : Entry) → i < length entries → e ≡ get_or entries i e → AllOfOffice office entries → IsOfOffice office e
  got-of_office entries i e l g o = o e (got-member entries i e l g)

  -- all of them have room
  pub joined-few : (entries : List Entry) (i : ℕ) (old now : ShelfContent) → SameMembers now.records (old.records ++ take i entries) → EachOnce now.records → record_count (old.records ++ entries) ≤ most_records → length now.records ≤ most_records
  joined-few entries i old now a o r =
      let c : record_count now.records ≡ length now.records = record-count now.records o in
      let w : record_count now.records ≤ record_count (old.records ++ entries) = count-within now.records (old.records ++ entries) (λ x k. elim (member-split x old.records (take i entries) ((a x).0 k)) [
        | inl h ↦ member-left x old.records entries h
        | inr t ↦ member-right x old.records entries (taken-member entries i x t)
      ]) in
      omega (arith, c, w, r)

  -- written
  pub all-written : IsOffice office → (rows : BTreeMap TotalKey Change) (entries : List Entry) (i : ℕ) (old now new : ShelfContent) → length entries ≤ i → i ≤ length entries → AllOfOffice office entries → AllOfOffice office old.records →
      record_count (old.records ++ entries) ≤ most_records → EachOnce now.records → IsPut office rows (take i entries) old now →
      MovesTotals (OfOwners office.periods office.bands office.accounts) (gathered Gains rows) (gathered Loses rows) now new → IsWithUpload office entries old new
  all-written f rows entries i old now new l k all held r o a m =
      let P : List Entry → Type 0 = λ xs. SameMembers xs (old.records ++ entries) in
      let Q : List Entry → Type 0 = λ xs. EachOnce xs in
      let T : List Entry → Type 0 = λ xs. IsTrueOf office xs new in
      let of_office = joined-of_office entries i old now all held a.records in
      let few = joined-few entries i old now a.records o r in
      let t = subst T (sym m.records) (written-true office rows now.records now new f of_office few a.truth m) in
      record {
        once = subst Q (sym m.records) o;
        records = subst P (sym m.records) (joined-all entries i old.records now.records l k a.records);
        truth = record { points = t.points; starts = t.starts; totals = t.totals };
      }

  -- committed
  pub with-upload : (entries : List Entry) (old now new : ShelfContent) → new ≡ now → IsWithUpload office entries old now → IsWithUpload office entries old new
  with-upload entries old now new q w = let P : ShelfContent → Type 0 = λ c. IsWithUpload office entries old c in subst P (sym q) w
