-- Points, starts and totals that were read are the parts of the records exactly where the content is true.
use Rattle.std.proofs.Common.{◌≡◌, ◌<◌, ◌↔◌, inl, inr, ℕ, List, [], ◌∷◌, ◌++◌, map, filter, Bool, Option, Some, None, unwrap_or, option_map, find, refl, sym, ap, subst, ◌∙◌, Less, arith}
use Rattle.std.proofs.lemmas.Bool.{cases_Bool, ltb-true, lt-ltb}
use Rattle.std.specs.List.Sorted.{IsPermutation}
use Rattle.std.specs.declared.cmp.Ordering.{Ordering}
use Rattle.sqlite.specs.Order.{Row, column}
use Rattle.sqlite.specs.Tree.{Trees}
use Rattle.pw_obis.specs.declared.reference.Register.{Register}
use Rattle.pw_tariff.specs.declared.ids.AccountId.{AccountId}
use Rattle.pw_tariff.specs.declared.ids.BandId.{BandId}
use Rattle.pw_tariff.specs.declared.ids.Direction.{Direction}
use Rattle.pw_tariff.specs.declared.ids.PeriodId.{PeriodId}
use Rattle.pw_tariff.specs.Office.{OfficeRules}
use Rattle.pw_model.specs.declared.records.Key.{Key}
use Rattle.pw_model.specs.declared.records.Key.TheVariants as key
use Rattle.pw_model.specs.declared.records.Content.{Content}
use Rattle.pw_model.specs.declared.records.Content.TheVariants as content
use Rattle.pw_model.specs.declared.records.Entry.{Entry}
use Rattle.pw_model.specs.declared.records.TotalKey.{TotalKey}
use Rattle.pw_model.specs.declared.records.TotalKey.TheVariants as total
use Rattle.pw_model.specs.Counting.{Member, EachOnce, Counts, contents_at, point, start, reading_key, assignment_key}
use Rattle.pw_model.specs.Lists.{IsBeforeAll, IsInOrder, reading_entry}
use Rattle.pw_model.specs.Office.{AllOfOffice, IsOf}
use Rattle.pw_model.specs.Same.{same_key, key_numbers, total_numbers, total_order}
use Rattle.pw_model.specs.Shelf.{IsTrueContent, ShelfContent, total_among}
use Rattle.pw_model.proofs.Answers.{period-same, topped-same}
use Rattle.pw_model.proofs.Counting.{contents-same, standing-part}
use Rattle.pw_model.proofs.InOrder.{by-numbers, rising-one}
use Rattle.pw_model.proofs.Same.{same_key-decides}
use Rattle.pw_parts.specs.declared.parts.Parts.{Parts}
use Rattle.pw_parts.specs.Laws.{IsToldBy, assignment_entry}
use Rattle.pw_parts.specs.Parts.{IsPartsOf, IsReading, IsAssignment, by_key, by_total}
use Rattle.pw_parts.proofs.Truth.{exactly-told}
use Rattle.pw_shelf.specs.Changes.{same_total}
use Rattle.pw_shelf.proofs.AtKey.{kept-member, member-kept}
use Rattle.pw_schema.specs.declared.kind.TotalKind.{TotalKind}
use Rattle.pw_schema.specs.declared.kind.TotalKind.TheVariants.{Energies, Payments}
use Rattle.pw_schema.specs.Judges.{is_above_zero}
use Rattle.pw_schema.specs.Rows.{number, register_at, owner_at}
use Rattle.pw_store.specs.Content.{content_of, records_of, point_in, start_in, total_in, reading_in, assignment_in, energy_in, payment_in, energy_told, payment_told, point_tree, start_tree, energy_tree, payment_tree}
use Rattle.pw_store.specs.Opening.{HoldsSums, key_of_total}
use Rattle.pw_store.specs.inner.Opened.{amount_of_total}
use Rattle.pw_store.specs.inner.Sums.{Listed, TellsSums, total_in_row}
use Rattle.pw_store.specs.inner.Truth.{AreRead, HaveParts, HaveOtherParts}
use Rattle.pw_store.proofs.Finding.{owner_in, wh_in}
use Rattle.pw_store.proofs.KeyedRows.{before_map, image, told_row, row_told}
use Rattle.pw_store.proofs.OfKinds.{member_in, member_behind}
use Rattle.pw_store.proofs.Once.{permuted}
use Rattle.pw_store.proofs.Others.{same_total-decides}

-- ---- records of the office that are readings, assignments
reading_shape : (office : OfficeRules) (k : Key) (c : Content) → IsReading k → IsOf office k c → (m : ℕ) × (r : Register) × (t : ℕ) × (w : ℕ) × (record { key = k; content = c } ≡ reading_entry m r t w)
reading_shape office (key.Reading m r t) (content.Reading w) is of = (m.0, r, t, w, refl)
reading_shape office (key.Reading m r t) (content.Assignment o) is of = absurd of
reading_shape office (key.Reading m r t) (content.TopUp a c i) is of = absurd of
reading_shape office (key.Assignment m t) c is of = absurd is
reading_shape office (key.TopUp r) c is of = absurd is
reading_shape office (key.Reading m r t) content.Withdrawal is of = absurd of
reading_shape office (key.Withdrawal n) c is of = absurd is

assignment_shape : (office : OfficeRules) (k : Key) (c : Content) → IsAssignment k → IsOf office k c → (m : ℕ) × (t : ℕ) × (o : Option AccountId) × (record { key = k; content = c } ≡ assignment_entry m t o)
assignment_shape office (key.Assignment m t) (content.Assignment o) is of = (m.0, t, o, refl)
assignment_shape office (key.Assignment m t) (content.Reading w) is of = absurd of
assignment_shape office (key.Assignment m t) (content.TopUp a c i) is of = absurd of
assignment_shape office (key.Reading m r t) c is of = absurd is
assignment_shape office (key.TopUp r) c is of = absurd is
assignment_shape office (key.Assignment m t) content.Withdrawal is of = absurd of
assignment_shape office (key.Withdrawal n) c is of = absurd is

-- ---- lists in order
module _ {X : Type 0} (order : X → X → Ordering) where
  before_filter : (p : X → Bool) (x : X) (xs : List X) → IsBeforeAll order x xs → IsBeforeAll order x (filter p xs)
  before_filter p x [] h = tt
  before_filter p x (y ∷ xs) h = elim (cases_Bool (p y)) [ inl up ↦ rw up (h.0, before_filter p x xs h.1) | inr down ↦ rw down (before_filter p x xs h.1) ]

  rising_filter : (p : X → Bool) (xs : List X) → IsInOrder order xs → IsInOrder order (filter p xs)
  rising_filter p [] h = tt
  rising_filter p (x ∷ xs) h = elim (cases_Bool (p x)) [ inl up ↦ rw up (before_filter p x xs h.0, rising_filter p xs h.1) | inr down ↦ rw down (rising_filter p xs h.1) ]

  before_both : (x : X) (xs ys : List X) → IsBeforeAll order x xs → ((y : X) → Member y ys → order x y ≡ Less) → IsBeforeAll order x (xs ++ ys)
  before_both x [] [] h l = tt
  before_both x [] (y ∷ ys) h l = (l y (inl refl), before_both x [] ys h (λ z m. l z (inr m)))
  before_both x (z ∷ xs) ys h l = (h.0, before_both x xs ys h.1 l)

  rising_both : (xs ys : List X) → IsInOrder order xs → IsInOrder order ys → ((x y : X) → Member x xs → Member y ys → order x y ≡ Less) → IsInOrder order (xs ++ ys)
  rising_both [] ys h i l = i
  rising_both (x ∷ xs) ys h i l = (before_both x xs ys h.0 (λ y m. l x y (inl refl) m), rising_both xs ys h.1 i (λ a b m n. l a b (inr m) n))

member_front : {X : Type 0} (x : X) (xs ys : List X) → Member x xs → Member x (xs ++ ys)
member_front x [] ys m = absurd m
member_front x (z ∷ xs) ys (inl i) = inl i
member_front x (z ∷ xs) ys (inr m) = inr (member_front x xs ys m)

energy_before : (o : Option AccountId) (p : PeriodId) (b : BandId) (d : Direction) (a : AccountId) → total_order (total.Energy o p b d) (total.TopUps a) ≡ Less
unfolding total_numbers
energy_before o p b d a = refl

no_energy_row : (a : AccountId) (r : Row) → total.TopUps a ≡ energy_in r → ⊥
no_energy_row a r e = cc

no_payment_row : (o : Option AccountId) (p : PeriodId) (b : BandId) (d : Direction) (r : Row) → total.Energy o p b d ≡ payment_in r → ⊥
no_payment_row o p b d r e = cc

-- ---- amounts
some_amount : (q : Option ℕ) (n : ℕ) → 0 < n → unwrap_or q 0 ≡ n → q ≡ Some n
some_amount None n l e = absurd (omega (arith, l, e))
some_amount (Some v) n l e = ap Some e

-- of a table of totals: the value of its row with this key, and no other
module _ (k : TotalKind) (table : List Row) (found : List (TotalKey × ℕ)) (told : IsPermutation (map (total_in_row k) table) found) (once : EachOnce (map (key_of_total k) table)) where
  abbrev pub amount_at : TotalKey → Option ℕ
  amount_at l = option_map (amount_of_total k) (find (λ x. same_total l (key_of_total k x)) table)

  pub amounts_read : (l : TotalKey) (n : ℕ) → amount_at l ≡ Some n ↔ Member (l, n) found
  amounts_read l n =
      let members = permuted (map (total_in_row k) table) found told in (
        λ e.
            let it = told_row same_total same_total-decides (key_of_total k) (amount_of_total k) table l n e in
            let one : total_in_row k it.0 ≡ (l, n) = λ i. (it.1.1.0 i, it.1.1.1 i) in
            (members (l, n)).0 (subst (λ x. Member x (map (total_in_row k) table)) one (image (total_in_row k) it.0 table it.1.0)),
        λ m.
            let it = before_map (total_in_row k) (l, n) table ((members (l, n)).1 m) in
            let key_is : key_of_total k it.0 ≡ l = ap (λ (x : TotalKey × ℕ). x.0) (sym it.1.1) in
            let amount_is : amount_of_total k it.0 ≡ n = ap (λ (x : TotalKey × ℕ). x.1) (sym it.1.1) in
            subst (λ j. amount_at j ≡ Some n) key_is (row_told same_total same_total-decides (key_of_total k) (amount_of_total k) table it.0 once it.1.0 ∙ ap Some amount_is),
      )

  -- each key found is that of a row
  pub key_found : (x : TotalKey × ℕ) → Member x found → (r : Row) × (x.0 ≡ key_of_total k r)
  key_found x m =
      let it = before_map (total_in_row k) x table ((permuted (map (total_in_row k) table) found told x).1 m) in
      (it.0, ap (λ (y : TotalKey × ℕ). y.0) it.1.1)

module _ (office : OfficeRules) (db : Trees) (records : List Entry) (sums : Listed) (holds : HoldsSums office db) (tells : TellsSums db sums) (same : IsPermutation (records_of db) records) (of : AllOfOffice office (records_of db)) where
  abbrev now : ShelfContent
  now = content_of db

  abbrev positive : List (TotalKey × ℕ)
  positive = filter is_above_zero (sums.energies ++ sums.payments)

  -- ---- what the lists that were read tell
  abbrev point_at : Key → Option ℕ
  point_at l = option_map (λ x. number (column x 4)) (find (λ x. same_key l (reading_in x).key) (db point_tree))

  abbrev start_at : Key → Option (Option AccountId)
  start_at l = option_map (λ x. owner_at (number (column x 3))) (find (λ x. same_key l (assignment_in x).key) (db start_tree))

  points_read : (m : ℕ) (r : Register) (t w : ℕ) → point_in (db point_tree) m r t ≡ Some w ↔ Member (reading_entry m r t w) sums.points
  points_read m r t w =
      let members = permuted (map reading_in (db point_tree)) sums.points tells.points_told.told in (
        λ e.
            let it = told_row same_key same_key-decides (λ x. (reading_in x).key) (λ x. number (column x 4)) (db point_tree) (reading_key m r t) w e in
            let one : reading_in it.0 ≡ reading_entry m r t w = λ i. record { key = it.1.1.0 i; content = content.Reading (it.1.1.1 i) } in
            (members (reading_entry m r t w)).0 (subst (λ x. Member x (map reading_in (db point_tree))) one (image reading_in it.0 (db point_tree) it.1.0)),
        λ k.
            let it = before_map reading_in (reading_entry m r t w) (db point_tree) ((members (reading_entry m r t w)).1 k) in
            let key_is : (reading_in it.0).key ≡ reading_key m r t = ap (λ (e : Entry). e.key) (sym it.1.1) in
            let wh_is : number (column it.0 4) ≡ w = ap (λ (e : Entry). wh_in e.content) (sym it.1.1) in
            subst (λ (l : Key). point_at l ≡ Some w) key_is (row_told same_key same_key-decides (λ x. (reading_in x).key) (λ x. number (column x 4)) (db point_tree) it.0 holds.points.once it.1.0 ∙ ap Some wh_is),
      )

  starts_read : (m t : ℕ) (o : Option AccountId) → start_in (db start_tree) m t ≡ Some o ↔ Member (assignment_entry m t o) sums.starts
  starts_read m t o =
      let members = permuted (map assignment_in (db start_tree)) sums.starts tells.starts_told.told in (
        λ e.
            let it = told_row same_key same_key-decides (λ x. (assignment_in x).key) (λ x. owner_at (number (column x 3))) (db start_tree) (assignment_key m t) o e in
            let one : assignment_in it.0 ≡ assignment_entry m t o = λ i. record { key = it.1.1.0 i; content = content.Assignment (it.1.1.1 i) } in
            (members (assignment_entry m t o)).0 (subst (λ x. Member x (map assignment_in (db start_tree))) one (image assignment_in it.0 (db start_tree) it.1.0)),
        λ k.
            let it = before_map assignment_in (assignment_entry m t o) (db start_tree) ((members (assignment_entry m t o)).1 k) in
            let key_is : (assignment_in it.0).key ≡ assignment_key m t = ap (λ (e : Entry). e.key) (sym it.1.1) in
            let owner_is : owner_at (number (column it.0 3)) ≡ o = ap (λ (e : Entry). owner_in e.content) (sym it.1.1) in
            subst (λ (l : Key). start_at l ≡ Some o) key_is (row_told same_key same_key-decides (λ x. (assignment_in x).key) (λ x. owner_at (number (column x 3))) (db start_tree) it.0 holds.starts.once it.1.0 ∙ ap Some owner_is),
      )

  energies_read : (l : TotalKey) (n : ℕ) → energy_told (db energy_tree) l ≡ Some n ↔ Member (l, n) sums.energies
  energies_read = amounts_read Energies (db energy_tree) sums.energies tells.energies_told.told holds.energies.once

  payments_read : (l : TotalKey) (n : ℕ) → payment_told (db payment_tree) l ≡ Some n ↔ Member (l, n) sums.payments
  payments_read = amounts_read Payments (db payment_tree) sums.payments tells.payments_told.told holds.payments.once

  -- no key of a total of top-ups is among the energies, and none of a total of energy among the top-ups
  no_payment : (a : AccountId) (n : ℕ) → Member (total.TopUps a, n) sums.energies → ⊥
  no_payment a n m = let it = key_found Energies (db energy_tree) sums.energies tells.energies_told.told holds.energies.once (total.TopUps a, n) m in no_energy_row a it.0 it.1

  no_energy : (o : Option AccountId) (p : PeriodId) (b : BandId) (d : Direction) (n : ℕ) → Member (total.Energy o p b d, n) sums.payments → ⊥
  no_energy o p b d n m = let it = key_found Payments (db payment_tree) sums.payments tells.payments_told.told holds.payments.once (total.Energy o p b d, n) m in no_payment_row o p b d it.0 it.1

  totals_read : (l : TotalKey) (n : ℕ) → 0 < n → total_in db l ≡ n ↔ Member (l, n) positive
  totals_read (total.Energy o p b d) n lt = (
    λ e. kept-member is_above_zero (sums.energies ++ sums.payments) (total.Energy o p b d, n)
        (member_front (total.Energy o p b d, n) sums.energies sums.payments ((energies_read (total.Energy o p b d) n).0 (some_amount (energy_told (db energy_tree) (total.Energy o p b d)) n lt e))) (lt-ltb 0 n lt),
    λ m. elim (member_in (total.Energy o p b d, n) sums.energies sums.payments (member-kept is_above_zero (sums.energies ++ sums.payments) (total.Energy o p b d, n) m).0) [
      | inl i ↦ ap (λ q. unwrap_or q 0) ((energies_read (total.Energy o p b d) n).1 i)
      | inr j ↦ absurd (no_energy o p b d n j)
    ],
  )
  totals_read (total.TopUps a) n lt = (
    λ e. kept-member is_above_zero (sums.energies ++ sums.payments) (total.TopUps a, n)
        (member_behind (total.TopUps a, n) sums.energies sums.payments ((payments_read (total.TopUps a) n).0 (some_amount (payment_told (db payment_tree) (total.TopUps a)) n lt e))) (lt-ltb 0 n lt),
    λ m. elim (member_in (total.TopUps a, n) sums.energies sums.payments (member-kept is_above_zero (sums.energies ++ sums.payments) (total.TopUps a, n) m).0) [
      | inl i ↦ absurd (no_payment a n i)
      | inr j ↦ ap (λ q. unwrap_or q 0) ((payments_read (total.TopUps a) n).1 j)
    ],
  )

  energies_first : (x y : TotalKey × ℕ) → Member x sums.energies → Member y sums.payments → by_total x y ≡ Less
  energies_first (total.Energy o p b d, n) (total.TopUps a, q) m k = energy_before o p b d a
  energies_first (total.TopUps a, n) y m k = absurd (no_payment a n m)
  energies_first (total.Energy o p b d, n) (total.Energy q r c e, w) m k = absurd (no_energy q r c e w k)

  positive_rises : IsInOrder by_total positive
  positive_rises = rising_filter by_total is_above_zero (sums.energies ++ sums.payments) (rising_both by_total sums.energies sums.payments tells.energies_told.rising tells.payments_told.rising energies_first)

  -- ---- the content is told by the lists that were read, and by no others
  module _ (parts : Parts) (p : IsPartsOf office records parts) where
    told_by : AreRead parts sums → IsToldBy now parts
    told_by are = record {
      points = λ m r t w. subst (λ xs. point_in (db point_tree) m r t ≡ Some w ↔ Member (reading_entry m r t w) xs) (sym are.points) (points_read m r t w);
      starts = λ m t o. subst (λ xs. start_in (db start_tree) m t ≡ Some o ↔ Member (assignment_entry m t o) xs) (sym are.starts) (starts_read m t o);
      totals = λ k n lt. subst (λ xs. total_in db k ≡ n ↔ Member (k, n) xs) (sym are.totals) (totals_read k n lt);
    }

    record_of : (e : Entry) → Counts records e → IsOf office e.key e.content
    record_of e c = of e ((permuted (records_of db) records same e).1 (standing-part records e c.0))

    read_by : IsToldBy now parts → AreRead parts sums
    read_by told = record {
      points = rising-one by_key (by-numbers (λ (e : Entry). key_numbers e.key)) parts.points.items sums.points p.points.rising tells.points_told.rising (λ x. (
        λ m.
            let counts = (p.points.members x).0 m in
            let it = reading_shape office x.key x.content counts.1 (record_of x counts.0) in
            subst (λ e. Member e sums.points) (sym it.4) ((points_read it.0 it.1 it.2 it.3).0 ((told.points it.0 it.1 it.2 it.3).1 (subst (λ e. Member e parts.points.items) it.4 m))),
        λ m.
            let it = before_map reading_in x (db point_tree) ((permuted (map reading_in (db point_tree)) sums.points tells.points_told.told x).1 m) in
            let meter = number (column it.0 1) in
            let register = register_at (number (column it.0 2)) in
            let second = number (column it.0 3) in
            let wh = number (column it.0 4) in
            subst (λ e. Member e parts.points.items) (sym it.1.1) ((told.points meter register second wh).0 ((points_read meter register second wh).1 (subst (λ e. Member e sums.points) it.1.1 m))),
      ));
      starts = rising-one by_key (by-numbers (λ (e : Entry). key_numbers e.key)) parts.starts.items sums.starts p.starts.rising tells.starts_told.rising (λ x. (
        λ m.
            let counts = (p.starts.members x).0 m in
            let it = assignment_shape office x.key x.content counts.1 (record_of x counts.0) in
            subst (λ e. Member e sums.starts) (sym it.3) ((starts_read it.0 it.1 it.2).0 ((told.starts it.0 it.1 it.2).1 (subst (λ e. Member e parts.starts.items) it.3 m))),
        λ m.
            let it = before_map assignment_in x (db start_tree) ((permuted (map assignment_in (db start_tree)) sums.starts tells.starts_told.told x).1 m) in
            let meter = number (column it.0 1) in
            let second = number (column it.0 2) in
            let owner = owner_at (number (column it.0 3)) in
            subst (λ e. Member e parts.starts.items) (sym it.1.1) ((told.starts meter second owner).0 ((starts_read meter second owner).1 (subst (λ e. Member e sums.starts) it.1.1 m))),
      ));
      totals = rising-one by_total (by-numbers (λ (x : TotalKey × ℕ). total_numbers x.0)) parts.totals.items positive p.totals.rising positive_rises (λ x. (
        λ m. (let lt = ((p.totals.members x).0 m).1 in (totals_read x.0 x.1 lt).0 ((told.totals x.0 x.1 lt).1 m)),
        λ m. (let lt = ltb-true 0 x.1 (member-kept is_above_zero (sums.energies ++ sums.payments) x m).1 in (told.totals x.0 x.1 lt).0 ((totals_read x.0 x.1 lt).1 m)),
      ));
    }

    -- the same content, with the records in the order in which they were read
    abbrev listed : ShelfContent
    listed = record { records = records; point = point_in (db point_tree); start = start_in (db start_tree); total = total_in db }

    same_contents : contents_at records ≡ contents_at (records_of db)
    same_contents = sym (contents-same (records_of db) records (permuted (records_of db) records same))

    same_sums : (k : TotalKey) → total_among office records k ≡ total_among office (records_of db) k
    same_sums (total.Energy o q b d) = sym (period-same office (records_of db) records (permuted (records_of db) records same) o q.0 b.0 d)
    same_sums (total.TopUps a) = sym (topped-same (records_of db) records (permuted (records_of db) records same) a.0)

    pub true_if : AreRead parts sums → IsTrueContent office now
    true_if are =
        let told = told_by are in
        let it : IsTrueContent office listed = (exactly-told office listed parts p).1 (record { points = told.points; starts = told.starts; totals = told.totals }) in
        record { points = it.points ∙ ap point same_contents; starts = it.starts ∙ ap start same_contents; totals = λ k. it.totals k ∙ same_sums k }

    pub only_if : IsTrueContent office now → AreRead parts sums
    only_if it =
        let here : IsTrueContent office listed = record { points = it.points ∙ sym (ap point same_contents); starts = it.starts ∙ sym (ap start same_contents); totals = λ k. it.totals k ∙ sym (same_sums k) } in
        let told = (exactly-told office listed parts p).0 here in
        read_by (record { points = told.points; starts = told.starts; totals = told.totals })

  pub have_truth : HaveParts office records sums → IsTrueContent office now
  have_truth h = true_if h.0 h.1 h.2

  pub have_none : HaveOtherParts office records sums → IsTrueContent office now → ⊥
  have_none h it = h.2 (only_if h.0 h.1 it)
