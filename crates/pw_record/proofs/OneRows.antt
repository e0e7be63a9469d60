-- A body of rows has one outcome.
use Rattle.std.proofs.Common.{◌≡◌, ℕ, List, [], ◌∷◌, ◌++◌, length, refl, sym, ap, subst, ◌∙◌, append_assoc, inl, inr, ◌⊎◌, arith}
use Rattle.std.proofs.lemmas.List.{length-append}
use Rattle.csv.specs.Reading.{default_config, strip_bom}
use Rattle.csv.specs.declared.parser.State.TheVariants as st
use Rattle.pw_tariff.specs.Office.{OfficeFile, AreNamed}
use Rattle.pw_model.specs.declared.records.Entry.{Entry}
use Rattle.pw_record.specs.declared.fault.Cause.{Cause}
use Rattle.pw_record.specs.declared.fault.UploadFault.{UploadFault}
use Rattle.pw_record.specs.declared.row.RowKind.{RowKind}
use Rattle.pw_record.specs.declared.row.RowKind.TheVariants.{Assignment, TopUp, Withdrawal}
use Rattle.pw_record.specs.Causes.{want_of_memory}
use Rattle.pw_record.specs.Listed.{AreListed}
use Rattle.pw_record.specs.Row.{Row, header_of, GivesEntry}
use Rattle.pw_record.specs.Rows.{AreRows, RowsFront, GiveEntries, AreGoodRecords, RowsGive, RefusesRecord, RefusedAt, RowsRefused}
use Rattle.pw_record.specs.Uploads.{Assignments, TopUps, Withdrawals}
use Rattle.pw_record.specs.Laws.{HasNoTwoOutcomes}
use Rattle.pw_record.proofs.OneReading.{IsFront, two_fronts, front_of_all, one_records}
use Rattle.pw_record.proofs.OneListed.{one_listed}
use Rattle.pw_record.proofs.OneEntry.{one_entry, one_cause, given_or_refused}

-- ---- the readings of a body
fronts : (body : List ℕ) (one other : List Row) → RowsFront body one → RowsFront body other → IsFront one other ⊎ IsFront other one
fronts body one other a b = two_fronts default_config st.StartRecord a.state b.state (strip_bom body) a.rest b.rest one other a.reached b.reached

whole : (body : List ℕ) (front rows : List Row) → RowsFront body front → AreRows body rows → IsFront front rows
whole body front rows a b = front_of_all default_config st.StartRecord a.state (strip_bom body) a.rest front rows a.reached b

one_body : (body : List ℕ) (one other : List Row) → AreRows body one → AreRows body other → one ≡ other
one_body body one other a b = one_records default_config st.StartRecord (strip_bom body) one other a b

same_behind : (a b : Row) (xs ys : List Row) → a ∷ xs ≡ b ∷ ys → xs ≡ ys
same_behind a b xs ys e = cc

same_first : (a b : Row) (xs ys : List Row) → a ∷ xs ≡ b ∷ ys → a ≡ b
same_first a b xs ys e = cc

nothing_there : (a : Row) (xs : List Row) → a ∷ xs ≡ [] → ⊥
nothing_there a xs e = cc

nothing_behind : (xs : List Row) (x : Row) (rest : List Row) → (xs ++ x ∷ []) ++ rest ≡ [] → ⊥
nothing_behind [] x rest e = nothing_there x rest e
nothing_behind (v ∷ xs) x rest e = nothing_there v ((xs ++ x ∷ []) ++ rest) e

-- two lists that end in a row, one in front of the other: they are one, or the row of the first stands in the second before its last
abbrev Meets : List Row → Row → List Row → Row → Type 0
Meets xs x ys y = ((xs ≡ ys) × (x ≡ y)) ⊎ ((mid : List Row) × (ys ≡ xs ++ x ∷ mid))

meets_more : (v w : Row) (xs ys : List Row) (x y : Row) → v ≡ w → Meets xs x ys y → Meets (v ∷ xs) x (w ∷ ys) y
meets_more v w xs ys x y same (inl m) = inl (ap (λ (r : Row). r ∷ xs) same ∙ ap (λ (l : List Row). w ∷ l) m.0, m.1)
meets_more v w xs ys x y same (inr m) = inr (m.0, ap (λ (r : Row). r ∷ ys) (sym same) ∙ ap (λ (l : List Row). v ∷ l) m.1)

meets : (xs : List Row) (x : Row) (ys : List Row) (y : Row) (rest : List Row) → (xs ++ x ∷ []) ++ rest ≡ ys ++ y ∷ [] → Meets xs x ys y
meets [] x [] y rest e = inl (refl, same_first x y rest [] e)
meets [] x (w ∷ ys) y rest e = inr (ys, ap (λ (r : Row). r ∷ ys) (sym (same_first x w rest (ys ++ y ∷ []) e)))
meets (v ∷ xs) x [] y rest e = absurd (nothing_behind xs x rest (same_behind v y ((xs ++ x ∷ []) ++ rest) [] e))
meets (v ∷ xs) x (w ∷ ys) y rest e =
    meets_more v w xs ys x y (same_first v w ((xs ++ x ∷ []) ++ rest) (ys ++ y ∷ []) e)
    (meets xs x ys y rest (same_behind v w ((xs ++ x ∷ []) ++ rest) (ys ++ y ∷ []) e))

same_fault : (a b : UploadFault) → a.part ≡ b.part → a.cause ≡ b.cause → a ≡ b
same_fault a b part cause = λ i. record { part = part i; cause = cause i }

module _ (file : OfficeFile) (named : AreNamed file) (kind : RowKind) where
  -- ---- the entries of rows
  one_entries : (rows : List Row) (one other : List Entry) → GiveEntries file kind rows one → GiveEntries file kind rows other → one ≡ other
  one_entries [] one other a b = a ∙ sym b
  one_entries (r ∷ rows) [] other a b = absurd a
  one_entries (r ∷ rows) (x ∷ xs) [] a b = absurd b
  one_entries (r ∷ rows) (x ∷ xs) (y ∷ ys) a b =
      ap (λ (e : Entry). e ∷ xs) (one_entry file named kind r x y a.0 b.0) ∙ ap (λ (l : List Entry). y ∷ l) (one_entries rows xs ys a.1 b.1)

  -- each of the rows gives an entry
  each_gives : (front : List Row) (row : Row) (behind : List Row) (given : List Entry) → GiveEntries file kind (front ++ row ∷ behind) given
      → (entry : Entry) × GivesEntry file kind row entry
  each_gives [] row behind [] g = absurd g
  each_gives [] row behind (e ∷ given) g = (e, g.0)
  each_gives (r ∷ front) row behind [] g = absurd g
  each_gives (r ∷ front) row behind (e ∷ given) g = each_gives front row behind given g.1

  -- ---- no record of good ones is refused
  good_first : (row : Row) (behind : List Row) (given : List Entry) (cause : Cause) → AreGoodRecords file kind (row ∷ behind) given → RefusesRecord file kind 0 row cause → ⊥
  good_first row behind given cause g (inl x) = x.unlike g.0
  good_first row behind given cause g (inr (inl x)) = omega (arith, x.late)
  good_first row behind given cause g (inr (inr x)) = omega (arith, x.behind)

  good_later : (header : Row) (front : List Row) (row : Row) (behind : List Row) (given : List Entry) (cause : Cause)
      → AreGoodRecords file kind (header ∷ front ++ row ∷ behind) given → RefusesRecord file kind (length (header ∷ front)) row cause → ⊥
  good_later header front row behind given cause g (inl x) = omega (arith, x.first)
  good_later header front row behind given cause g (inr (inl x)) = omega (arith, x.late, g.1, length-append front (row ∷ behind))
  good_later header front row behind given cause g (inr (inr x)) =
      let e : (entry : Entry) × GivesEntry file kind row entry = each_gives front row behind given g.2 in
      given_or_refused file named kind row e.0 cause e.1 x.refused

  good_or_refused : (front : List Row) (row : Row) (behind : List Row) (given : List Entry) (cause : Cause)
      → AreGoodRecords file kind (front ++ row ∷ behind) given → RefusesRecord file kind (length front) row cause → ⊥
  good_or_refused [] row behind given cause g x = good_first row behind given cause g x
  good_or_refused (header ∷ front) row behind given cause g x = good_later header front row behind given cause g x

  -- the same, of the records of which it is one
  good_among : (records front : List Row) (row : Row) (behind : List Row) (given : List Entry) (part : ℕ) (cause : Cause) → records ≡ front ++ row ∷ behind → part ≡ length front
      → AreGoodRecords file kind records given → RefusesRecord file kind part row cause → ⊥
  good_among records front row behind given part cause e p g x =
      let P : List Row → Type 0 = λ l. AreGoodRecords file kind l given in
      let Q : ℕ → Type 0 = λ n. RefusesRecord file kind n row cause in
      good_or_refused front row behind given cause (subst P e g) (subst Q p x)

  -- ---- one cause for one record
  one_refusal : (part : ℕ) (row : Row) (c d : Cause) → RefusesRecord file kind part row c → RefusesRecord file kind part row d → c ≡ d
  one_refusal part row c d (inl x) (inl y) = x.cause_is ∙ sym y.cause_is
  one_refusal part row c d (inl x) (inr (inl y)) = absurd (omega (arith, x.first, y.late))
  one_refusal part row c d (inl x) (inr (inr y)) = absurd (omega (arith, x.first, y.behind))
  one_refusal part row c d (inr (inl x)) (inl y) = absurd (omega (arith, x.late, y.first))
  one_refusal part row c d (inr (inl x)) (inr (inl y)) = x.cause_is ∙ sym y.cause_is
  one_refusal part row c d (inr (inl x)) (inr (inr y)) = absurd (omega (arith, x.late, y.early))
  one_refusal part row c d (inr (inr x)) (inl y) = absurd (omega (arith, x.behind, y.first))
  one_refusal part row c d (inr (inr x)) (inr (inl y)) = absurd (omega (arith, x.early, y.late))
  one_refusal part row c d (inr (inr x)) (inr (inr y)) = one_cause file named kind row c d x.refused y.refused

  -- of two records that are refused, the first stands in front of the second, or is the second
  refused_once : (body : List ℕ) (p q : ℕ) (c d : Cause) → (a : RefusedAt file kind body p c) → (b : RefusedAt file kind body q d) → IsFront (a.before ++ a.row ∷ []) (b.before ++ b.row ∷ [])
      → (p ≡ q) × (c ≡ d)
  refused_once body p q c d a b f =
      elim (meets a.before a.row b.before b.row f.0 f.1) [
        | inl m ↦
            let part : p ≡ q = a.part_is ∙ ap length m.0 ∙ sym b.part_is in
            let P : ℕ → Type 0 = λ n. RefusesRecord file kind n b.row d in
            let Q : Row → Type 0 = λ r. RefusesRecord file kind p r d in
            (part, one_refusal p a.row c d a.refused (subst Q (sym m.1) (subst P (sym part) b.refused)))
        | inr m ↦ absurd (good_among b.before a.before a.row m.0 b.given p c m.1 a.part_is b.good a.refused)
      ]

  one_refused : (body : List ℕ) (p q : ℕ) (c d : Cause) → RefusedAt file kind body p c → RefusedAt file kind body q d → (p ≡ q) × (c ≡ d)
  one_refused body p q c d a b =
      elim (fronts body (a.before ++ a.row ∷ []) (b.before ++ b.row ∷ []) a.front b.front) [
        | inl f ↦ refused_once body p q c d a b f
        | inr f ↦ (let x : (q ≡ p) × (d ≡ c) = refused_once body q p d c b a f in (sym x.0, sym x.1))
      ]

  none_refused : (body : List ℕ) (part : ℕ) (cause : Cause) → AreRows body [] → RefusedAt file kind body part cause → ⊥
  none_refused body part cause n a =
      let f : IsFront (a.before ++ a.row ∷ []) [] = whole body (a.before ++ a.row ∷ []) [] a.front n in
      nothing_behind a.before a.row f.0 f.1

  -- ---- the body
  pub one_list : (body : List ℕ) (one other : List Entry) → RowsGive file kind body one → RowsGive file kind body other → one ≡ other
  one_list body one other a b =
      let rows : a.rows ≡ b.rows =
      same_behind (header_of kind) (header_of kind) a.rows b.rows (one_body body (header_of kind ∷ a.rows) (header_of kind ∷ b.rows) a.body_is b.body_is) in
      let P : List Row → Type 0 = λ l. GiveEntries file kind l b.given in
      let given : a.given ≡ b.given = one_entries a.rows a.given b.given a.each (subst P (sym rows) b.each) in
      let Q : List Entry → Type 0 = λ l. AreListed l other in
      one_listed a.given one other a.listed (subst Q (sym given) b.listed)

  gives_or_refused : (body : List ℕ) (entries : List Entry) (part : ℕ) (cause : Cause) → RowsGive file kind body entries → RefusedAt file kind body part cause → ⊥
  gives_or_refused body entries part cause a b =
      let f : IsFront (b.before ++ b.row ∷ []) (header_of kind ∷ a.rows) = whole body (b.before ++ b.row ∷ []) (header_of kind ∷ a.rows) b.front a.body_is in
      good_among (header_of kind ∷ a.rows) b.before b.row f.0 a.given part cause (sym f.1 ∙ append_assoc b.before (b.row ∷ []) f.0) b.part_is (refl, a.few, a.each) b.refused

  pub list_or_fault : (body : List ℕ) (entries : List Entry) (fault : UploadFault) → RowsGive file kind body entries
      → RowsRefused file kind body fault × (fault ≡ want_of_memory → ⊥) → ⊥
  list_or_fault body entries fault a (inl b, content) = content b
  list_or_fault body entries fault a (inr (inl b), content) =
      nothing_there (header_of kind) a.rows (one_body body (header_of kind ∷ a.rows) [] a.body_is b.none)
  list_or_fault body entries fault a (inr (inr b), content) = gives_or_refused body entries fault.part fault.cause a b

  pub one_fault : (body : List ℕ) (one other : UploadFault) → RowsRefused file kind body one × (one ≡ want_of_memory → ⊥)
      → RowsRefused file kind body other × (other ≡ want_of_memory → ⊥) → one ≡ other
  one_fault body one other (inl a, content) b = absurd (content a)
  one_fault body one other (inr a, x) (inl b, content) = absurd (content b)
  one_fault body one other (inr (inl a), x) (inr (inl b), y) = same_fault one other (a.part_is ∙ sym b.part_is) (a.cause_is ∙ sym b.cause_is)
  one_fault body one other (inr (inl a), x) (inr (inr b), y) = absurd (none_refused body other.part other.cause a.none b)
  one_fault body one other (inr (inr a), x) (inr (inl b), y) = absurd (none_refused body one.part one.cause b.none a)
  one_fault body one other (inr (inr a), x) (inr (inr b), y) =
      let same : (one.part ≡ other.part) × (one.cause ≡ other.cause) = one_refused body one.part other.part one.cause other.cause a b in
      same_fault one other same.0 same.1

pub one_assignments : (file : OfficeFile) → AreNamed file → (body : List ℕ) → HasNoTwoOutcomes file (Assignments body)
one_assignments file named body = record {
  entries = one_list file named Assignment body;
  either = list_or_fault file named Assignment body;
  refusal = one_fault file named Assignment body;
}

pub one_withdrawals : (file : OfficeFile) → AreNamed file → (body : List ℕ) → HasNoTwoOutcomes file (Withdrawals body)
one_withdrawals file named body = record {
  entries = one_list file named Withdrawal body;
  either = list_or_fault file named Withdrawal body;
  refusal = one_fault file named Withdrawal body;
}

pub one_top_ups : (file : OfficeFile) → AreNamed file → (body : List ℕ) → HasNoTwoOutcomes file (TopUps body)
one_top_ups file named body = record {
  entries = one_list file named TopUp body;
  either = list_or_fault file named TopUp body;
  refusal = one_fault file named TopUp body;
}
