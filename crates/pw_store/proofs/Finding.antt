-- Whether a record is among the rows, by the test that a query makes.
use Rattle.std.proofs.Common.{add-one, arith, ◌≡◌, inl, inr, ℕ, zero, suc, ◌<◌, List, [], ◌∷◌, map, length, Bool, true, false, ◌&&◌, Vec, Result, Ok, Err, IfOk, refl, sym, ap, ◌∙◌, Ordering, Less, Equal, Greater, nat_cmp, None, Option}
use Rattle.std.specs.List.{AllByRecursion, filter, list_all}
use Rattle.std.specs.Ordering.{is_eq}
use Rattle.std.specs.Cmp.{nat_cmp_is}
use Rattle.std.specs.Cmp.Lexicographic.{slice_cmp, nat_list_cmp_total}
use Rattle.std.proofs.lemmas.Bool.{cases_Bool, true≢false}
use Rattle.std.proofs.lemmas.List.{length-map}
use Rattle.std.proofs.lemmas.List.Sorted.{length_permutation}
use Rattle.std.proofs.lemmas.Cmp.{tied_itself}
use Rattle.sqlite.specs.declared.error.Error.{Error}
use Rattle.sqlite.specs.Order.{Row, column}
use Rattle.sqlite.specs.Term.{holds}
use Rattle.sqlite.specs.Query.{Query, Output, output, page}
use Rattle.sqlite.specs.State.{State, Shown}
use Rattle.pw_obis.specs.declared.reference.Register.{Register}
use Rattle.pw_obis.specs.declared.reference.Register.TheVariants.{I0}
use Rattle.pw_tariff.specs.declared.ids.AccountId.{AccountId}
use Rattle.pw_tariff.specs.declared.ids.MeterId.{MeterId}
use Rattle.pw_tariff.specs.Office.{register_place}
use Rattle.pw_tariff.specs.Cells.{owner_place}
use Rattle.pw_model.specs.declared.records.Key.{Key}
use Rattle.pw_model.specs.declared.records.Key.TheVariants as key
use Rattle.pw_model.specs.declared.records.Content.{Content}
use Rattle.pw_model.specs.declared.records.Content.TheVariants as content
use Rattle.pw_model.specs.declared.records.Entry.{Entry}
use Rattle.pw_model.specs.declared.records.Named.{Named}
use Rattle.pw_model.specs.declared.records.Named.TheVariants as named
use Rattle.pw_model.specs.Counting.{Member, named_entry}
use Rattle.pw_model.proofs.EntryOrder.{numbers-tie}
use Rattle.pw_schema.specs.Rows.{text, number, register_at, owner_at, withdrawal}
use Rattle.pw_store.specs.inner.Records.{topup_row, topup_entry, reading_row, reading_entry, assignment_row, assignment_entry, entry_as, named_row}
use Rattle.pw_store.specs.declared.forms.Form.{Form}
use Rattle.pw_store.specs.inner.Forms.{find}
use Rattle.pw_store.specs.declared.forms.Form.TheVariants.{Record, Withdrawal}
use Rattle.pw_store.specs.Content.{topup_in, reading_in, assignment_in, entry_in, records_of, tree_of, IsTopupRow, IsReadingRow, IsAssignmentRow, IsRowOf}
use Rattle.pw_store.specs.Kept.{IsStore}
use Rattle.pw_schema.specs.declared.kind.RecordKind.{RecordKind}
use Rattle.pw_schema.specs.declared.kind.RecordKind.TheVariants.{Readings, Assignments, TopUps, WithdrawnReadings, WithdrawnAssignments, WithdrawnTopUps}
use Rattle.pw_store.proofs.Texts.{IsQuery, eq, find_is, find_query, find_tests, four_tests, kind_as}
use Rattle.pw_store.proofs.Scans.{equal_ints, equal_texts, tied, scan_of, outputs, passing}
use Rattle.pw_store.proofs.Lists.{seen}
use Rattle.pw_store.specs.inner.Lists.{kind_at}
use Rattle.pw_store.proofs.OfKinds.{from_table, in_table}
use Rattle.pw_store.proofs.Adding.{owner_back, register_back}

-- ---- tests in a row
pub first : (a b : Bool) → (a && b) ≡ true → a ≡ true
first true b e = refl
first false b e = e

pub second : (a b : Bool) → (a && b) ≡ true → b ≡ true
second true b e = e
second false b e = absurd (let bad : true ≡ false = sym e in cc)

pub three_hold : (a b c : Bool) → (a && (b && (c && true))) ≡ true → (a ≡ true) × (b ≡ true) × (c ≡ true)
three_hold a b c e =
    let f = second a _ e in
    (first a _ e, first b _ f, first c true (second b _ f))

pub four_hold : (a b c d : Bool) → (a && (b && (c && (d && true)))) ≡ true → (a ≡ true) × (b ≡ true) × (c ≡ true) × (d ≡ true)
four_hold a b c d e =
    let f = three_hold b c d (second a _ e) in
    (first a _ e, f.0, f.1, f.2)

pub same_number : (n : ℕ) → is_eq (nat_cmp n n) ≡ true
same_number n = ap is_eq (sym (nat_cmp_is n n Equal refl))

pub texts_tied : (s t : List ℕ) → is_eq (slice_cmp nat_cmp s t) ≡ true → s ≡ t
texts_tied s t e = go (slice_cmp nat_cmp s t) refl e
  where
    go : (o : Ordering) → slice_cmp nat_cmp s t ≡ o → is_eq o ≡ true → s ≡ t
    go Less i f = absurd (let bad : true ≡ false = sym f in cc)
    go Equal i f = numbers-tie s t i
    go Greater i f = absurd (let bad : true ≡ false = sym f in cc)

pub same_text : (t : List ℕ) → is_eq (slice_cmp nat_cmp t t) ≡ true
same_text t = ap is_eq (tied_itself nat_list_cmp_total t)

-- ---- a test that finds a record
module _ (f : Row → Entry) (p : Row → Bool) (IsRow : Row → Type 0) (e : Entry) (each : (r : Row) → IsRow r → (p r ≡ true → f r ≡ e) × (f r ≡ e → p r ≡ true)) where
  pub some_member : (rows : List Row) → AllByRecursion IsRow rows → 0 < length (filter p rows) → Member e (map f rows)
  some_member [] all lt = absurd (omega (arith, lt))
  some_member (r ∷ rows) all lt = elim (cases_Bool (p r)) [
    | inl hit ↦ inl (sym ((each r all.0).0 hit))
    | inr miss ↦ inr (some_member rows all.1 (rw miss at lt))
  ]

  pub member_some : (rows : List Row) → AllByRecursion IsRow rows → Member e (map f rows) → 0 < length (filter p rows)
  member_some [] all m = absurd m
  member_some (r ∷ rows) all m = elim (cases_Bool (p r)) [
    | inl hit ↦ rw hit (omega arith)
    | inr miss ↦ rw miss (elim m [
      | inl i ↦ absurd (true≢false (sym ((each r all.0).1 (sym i)) ∙ miss))
      | inr j ↦ member_some rows all.1 j
    ])
  ]

-- ---- parts of a record
abbrev pub reference_of : Key → List ℕ
reference_of (key.TopUp r) = r
reference_of _ = []

abbrev pub number_in : ℕ → Content → ℕ
number_in zero (content.TopUp a c t) = a.0
number_in (suc zero) (content.TopUp a c t) = c
number_in _ (content.TopUp a c t) = t
number_in _ _ = 0

abbrev pub meter_of : Key → ℕ
meter_of (key.Reading m r t) = m.0
meter_of (key.Assignment m t) = m.0
meter_of _ = 0

abbrev pub register_of : Key → Register
register_of (key.Reading m r t) = r
register_of _ = I0

abbrev pub second_of : Key → ℕ
second_of (key.Reading m r t) = t
second_of (key.Assignment m t) = t
second_of _ = 0

abbrev pub wh_in : Content → ℕ
wh_in (content.Reading w) = w
wh_in _ = 0

abbrev pub owner_in : Content → Option AccountId
owner_in (content.Assignment o) = o
owner_in _ = None

-- ---- top-ups
module _ (t : List ℕ) (a c i : ℕ) where
  abbrev passes : Row → Bool
  passes r = list_all (holds (topup_row t a c i ∷ r ∷ [])) four_tests

  tests : (r : Row) → IsTopupRow r → passes r ≡ (is_eq (slice_cmp nat_cmp (text (column r 1)) t) && (is_eq (nat_cmp (number (column r 2)) a) && (is_eq (nat_cmp (number (column r 3)) c) && (is_eq (nat_cmp (number (column r 4)) i) && true))))
  tests r it = rw (it.0, it.1.0, it.1.1.0, it.1.1.1) (rw (equal_texts (text (column r 1)) t, equal_ints (number (column r 2)) a, equal_ints (number (column r 3)) c, equal_ints (number (column r 4)) i) refl)

  pub each_topup : (r : Row) → IsTopupRow r → (passes r ≡ true → topup_in r ≡ topup_entry t (record { 0 = a }) c i) × (topup_in r ≡ topup_entry t (record { 0 = a }) c i → passes r ≡ true)
  each_topup r it = (
    λ hit.
        let h = sym (tests r it) ∙ hit in
        let h1 = second (is_eq (slice_cmp nat_cmp (text (column r 1)) t)) _ h in
        let h2 = second (is_eq (nat_cmp (number (column r 2)) a)) _ h1 in
        let h3 = second (is_eq (nat_cmp (number (column r 3)) c)) _ h2 in
        let et = texts_tied (text (column r 1)) t (first _ _ h) in
        let ea = tied (number (column r 2)) a (first _ _ h1) in
        let ec = tied (number (column r 3)) c (first _ _ h2) in
        let ei = tied (number (column r 4)) i (first _ _ h3) in
        λ j. topup_entry (et j) (record { 0 = ea j }) (ec j) (ei j),
    λ same.
        let et : text (column r 1) ≡ t = ap (λ (x : Entry). reference_of x.key) same in
        let ea : number (column r 2) ≡ a = ap (λ (x : Entry). number_in 0 x.content) same in
        let ec : number (column r 3) ≡ c = ap (λ (x : Entry). number_in 1 x.content) same in
        let ei : number (column r 4) ≡ i = ap (λ (x : Entry). number_in 2 x.content) same in
        tests r it ∙ rw (et, ea, ec, ei) (rw (same_text t, same_number a, same_number c, same_number i) refl),
  )

pub shown_many : (q : _) (tree : ℕ) (params : Row) (table : List Row) → length (map (λ (o : Output). o.1) (outputs (scan_of tree q) params table)) ≡ length (passing params q.filter table)
shown_many q tree params table =
    length-map (outputs (scan_of tree q) params table) (λ (o : Output). o.1)
    ∙ length-map (map (λ r. params ∷ r ∷ []) (passing params q.filter table)) (output (scan_of tree q))
    ∙ length-map (passing params q.filter table) (λ (r : Row). params ∷ r ∷ [])

-- the rows that a query over the table of a kind shows, where those pass whose record is this one
pub finds_kind : (k : RecordKind) (text : List ℕ) (q : Query) (it : IsQuery text (scan_of (tree_of k) q)) (params : Row) (e : Entry) → ((xs : List Row) → page (scan_of (tree_of k) q) params xs ≡ xs) → kind_at e.key ≡ k
    → ((r : Row) → IsRowOf k r → (list_all (holds (params ∷ r ∷ [])) q.filter ≡ true → entry_in k r ≡ e) × (entry_in k r ≡ e → list_all (holds (params ∷ r ∷ [])) q.filter ≡ true))
    → (old new : State) (rows : List Row) → IsStore old.now → Shown text params old new rows
    → (0 < length rows → Member e (records_of old.now.trees)) × (Member e (records_of old.now.trees) → 0 < length rows)
finds_kind k text q it params e whole is each old new rows store h =
    let table = old.now.trees (tree_of k) in
    let p : Row → Bool = λ r. list_all (holds (params ∷ r ∷ [])) q.filter in
    let s = seen text (tree_of k) q it params old new rows store.ours h in
    let many : length rows ≡ length (filter p table) = ap length (s.2 ∙ whole _) ∙ length_permutation _ _ s.1 ∙ shown_many q (tree_of k) params table in (
      λ lt. from_table old.now.trees e k (some_member (entry_in k) p (IsRowOf k) e each table (store.rows k) (omega (arith, lt, many))),
      λ m. (let lt = member_some (entry_in k) p (IsRowOf k) e each table (store.rows k) (in_table old.now.trees e k is m) in omega (arith, lt, many)),
    )

-- ---- readings
module _ (m : MeterId) (g : Register) (i v : ℕ) where
  abbrev passes_reading : Row → Bool
  passes_reading r = list_all (holds (reading_row m.0 (register_place g) i v ∷ r ∷ [])) four_tests

  tests_reading : (r : Row) → IsReadingRow r → passes_reading r ≡ (is_eq (nat_cmp (number (column r 1)) m.0) && (is_eq (nat_cmp (number (column r 2)) (register_place g)) && (is_eq (nat_cmp (number (column r 3)) i) && (is_eq (nat_cmp (number (column r 4)) v) && true))))
  tests_reading r it = rw (it.0, it.1.0, it.1.1.0, it.1.1.1) (rw (equal_ints (number (column r 1)) m.0, equal_ints (register_place (register_at (number (column r 2)))) (register_place g), equal_ints (number (column r 3)) i, equal_ints (number (column r 4)) v) refl)

  pub each_reading : (r : Row) → IsReadingRow r → (passes_reading r ≡ true → reading_in r ≡ reading_entry m g i v) × (reading_in r ≡ reading_entry m g i v → passes_reading r ≡ true)
  each_reading r it = (
    λ hit.
        let h = sym (tests_reading r it) ∙ hit in
        let h1 = second (is_eq (nat_cmp (number (column r 1)) m.0)) _ h in
        let h2 = second (is_eq (nat_cmp (number (column r 2)) (register_place g))) _ h1 in
        let h3 = second (is_eq (nat_cmp (number (column r 3)) i)) _ h2 in
        let em = tied (number (column r 1)) m.0 (first _ _ h) in
        let eg = ap register_at (tied (number (column r 2)) (register_place g) (first _ _ h1)) ∙ register_back g in
        let ei = tied (number (column r 3)) i (first _ _ h2) in
        let ev = tied (number (column r 4)) v (first _ _ h3) in
        λ j. reading_entry (record { 0 = em j }) (eg j) (ei j) (ev j),
    λ same.
        let em : number (column r 1) ≡ m.0 = ap (λ (x : Entry). meter_of x.key) same in
        let eg : number (column r 2) ≡ register_place g = ap number it.1.0 ∙ ap register_place (ap (λ (x : Entry). register_of x.key) same) in
        let ei : number (column r 3) ≡ i = ap (λ (x : Entry). second_of x.key) same in
        let ev : number (column r 4) ≡ v = ap (λ (x : Entry). wh_in x.content) same in
        tests_reading r it ∙ rw (em, eg, ei, ev) (rw (same_number m.0, same_number (register_place g), same_number i, same_number v) refl),
  )

-- ---- assignments
pub owner_one : (n : ℕ) (o : Option AccountId) → n ≡ owner_place o → owner_at n ≡ o
owner_one n o e = ap owner_at e ∙ owner_back o

pub place_one : (n : ℕ) (o : Option AccountId) → owner_at n ≡ o → n ≡ owner_place o
place_one zero o e = ap owner_place e
place_one (suc n) o e = sym (add-one n) ∙ ap owner_place e

module _ (m : MeterId) (i : ℕ) (o : Option AccountId) where
  abbrev passes_assignment : Row → Bool
  passes_assignment r = list_all (holds (assignment_row m.0 i (owner_place o) ∷ r ∷ [])) (eq 1 0 ∷ eq 2 1 ∷ eq 3 2 ∷ [])

  tests_assignment : (r : Row) → IsAssignmentRow r → passes_assignment r ≡ (is_eq (nat_cmp (number (column r 1)) m.0) && (is_eq (nat_cmp (number (column r 2)) i) && (is_eq (nat_cmp (number (column r 3)) (owner_place o)) && true)))
  tests_assignment r it = rw (it.0, it.1.0, it.1.1) (rw (equal_ints (number (column r 1)) m.0, equal_ints (number (column r 2)) i, equal_ints (number (column r 3)) (owner_place o)) refl)

  pub each_assignment : (r : Row) → IsAssignmentRow r → (passes_assignment r ≡ true → assignment_in r ≡ assignment_entry m i o) × (assignment_in r ≡ assignment_entry m i o → passes_assignment r ≡ true)
  each_assignment r it = (
    λ hit.
        let h = sym (tests_assignment r it) ∙ hit in
        let h1 = second (is_eq (nat_cmp (number (column r 1)) m.0)) _ h in
        let h2 = second (is_eq (nat_cmp (number (column r 2)) i)) _ h1 in
        let em = tied (number (column r 1)) m.0 (first _ _ h) in
        let ei = tied (number (column r 2)) i (first _ _ h1) in
        let eo = owner_one (number (column r 3)) o (tied (number (column r 3)) (owner_place o) (first _ _ h2)) in
        λ j. assignment_entry (record { 0 = em j }) (ei j) (eo j),
    λ same.
        let em : number (column r 1) ≡ m.0 = ap (λ (x : Entry). meter_of x.key) same in
        let ei : number (column r 2) ≡ i = ap (λ (x : Entry). second_of x.key) same in
        let eo : number (column r 3) ≡ owner_place o = place_one (number (column r 3)) o (ap (λ (x : Entry). owner_in x.content) same) in
        tests_assignment r it ∙ rw (em, ei, eo) (rw (same_number m.0, same_number i, same_number (owner_place o)) refl),
  )

-- ---- withdrawals: a row tells one where it would tell the record that is named
-- of a record its withdrawal, and of a withdrawal its record
abbrev pub name_of : Key → Content → Named
name_of (key.Reading m r t) c = named.Reading m r t (wh_in c)
name_of (key.Assignment m t) c = named.Assignment m t (owner_in c)
name_of (key.TopUp r) c = named.TopUp r (record { 0 = number_in 0 c }) (number_in 1 c) (number_in 2 c)
name_of (key.Withdrawal n) c = n

abbrev pub withdrawn_as : Entry → Entry
withdrawn_as e = withdrawal (name_of e.key e.content)

abbrev record_of : Entry → Key → Entry
record_of e (key.Withdrawal n) = named_entry n
record_of e k = e

abbrev pub named_by : Entry → Entry
named_by e = record_of e e.key

pub each_named : (k j : RecordKind) (IsRow : Row → Type 0) (p : Row → Bool) (e : Entry) → ((r : Row) → withdrawn_as (entry_in k r) ≡ entry_in j r) → ((r : Row) → named_by (entry_in j r) ≡ entry_in k r) → named_by (withdrawn_as e) ≡ e
    → ((r : Row) → IsRow r → (p r ≡ true → entry_in k r ≡ e) × (entry_in k r ≡ e → p r ≡ true))
    → (r : Row) → IsRow r → (p r ≡ true → entry_in j r ≡ withdrawn_as e) × (entry_in j r ≡ withdrawn_as e → p r ≡ true)
each_named k j IsRow p e named by back each r it = (
  λ hit. sym (named r) ∙ ap withdrawn_as ((each r it).0 hit),
  λ same. (each r it).1 (sym (by r) ∙ ap named_by same ∙ back),
)

-- ---- what is named, by the form in which it is kept
abbrev finds : Form → Named → Row → Type 0
finds form n r = (list_all (holds (named_row n ∷ r ∷ [])) (find_tests n) ≡ true → entry_in (kind_as form n) r ≡ entry_as form n) × (entry_in (kind_as form n) r ≡ entry_as form n → list_all (holds (named_row n ∷ r ∷ [])) (find_tests n) ≡ true)

each : (form : Form) (n : Named) (r : Row) → IsRowOf (kind_as form n) r → finds form n r
each Record (named.Reading m g i v) = each_reading m g i v
each Record (named.Assignment m i o) = each_assignment m i o
each Record (named.TopUp t a c i) = each_topup t a.0 c i
each Withdrawal (named.Reading m g i v) = each_named Readings WithdrawnReadings IsReadingRow _ (reading_entry m g i v) (λ r. refl) (λ r. refl) refl (each_reading m g i v)
each Withdrawal (named.Assignment m i o) = each_named Assignments WithdrawnAssignments IsAssignmentRow _ (assignment_entry m i o) (λ r. refl) (λ r. refl) refl (each_assignment m i o)
each Withdrawal (named.TopUp t a c i) = each_named TopUps WithdrawnTopUps IsTopupRow _ (topup_entry t a c i) (λ r. refl) (λ r. refl) refl (each_topup t a.0 c i)

pub finds_named : {Z : Type 0} (form : Form) (n : Named) (old new : State) (r : Result (Vec Row Z) Error) → IsStore old.now → IfOk r (λ rows. Shown (find form n) (named_row n) old new rows.items)
    → IfOk r (λ rows. (0 < length rows.items → Member (entry_as form n) (records_of old.now.trees)) × (Member (entry_as form n) (records_of old.now.trees) → 0 < length rows.items))
finds_named form n old new (Ok rows) store h = finds_kind (kind_as form n) (find form n) (find_query form n) (find_is form n) (named_row n) (entry_as form n) (λ xs. refl) refl (each form n) old new rows.items store h
finds_named form n old new (Err f) store h = tt
