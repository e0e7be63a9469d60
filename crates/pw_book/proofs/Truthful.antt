-- Points, starts and totals stay those of the records.
use Rattle.std.proofs.Common.{◌≡◌, ◌==◌, ℕ, ◌+◌, ◌≤◌, ◌⊎◌, Bool, true, false, cond, Option, Some, None, List, [], length, Result, Ok, Err, OnOk, refl, ap, sym, subst, ◌∙◌, arith, inl, inr}
use Rattle.std.specs.BTreeMap.{BTreeMap}
use Rattle.std.proofs.lemmas.Bool.{cases_Bool, cases_lt, cases_eq, eq-eqb, ne_eqb, true≢false}
use Rattle.std.proofs.lemmas.Option.{none-some, same_Some}
use Rattle.pw_obis.specs.declared.reference.Register.{Register}
use Rattle.pw_tariff.specs.declared.ids.AccountId.{AccountId}
use Rattle.pw_tariff.specs.declared.ids.BandId.{BandId}
use Rattle.pw_tariff.specs.declared.ids.PeriodId.{PeriodId}
use Rattle.pw_tariff.specs.declared.ids.Direction.{Direction}
use Rattle.pw_tariff.specs.Office.{OfficeRules}
use Rattle.pw_model.specs.declared.records.Key.{Key}
use Rattle.pw_model.specs.declared.records.Key.TheVariants as key
use Rattle.pw_model.specs.declared.records.Named.{Named}
use Rattle.pw_model.specs.declared.records.Content.TheVariants as content
use Rattle.pw_model.specs.declared.records.Contents.{Contents}
use Rattle.pw_model.specs.declared.records.Contents.TheVariants.{Nothing, One, Several}
use Rattle.pw_model.specs.declared.records.Entry.{Entry}
use Rattle.pw_model.specs.declared.records.TotalKey.{TotalKey}
use Rattle.pw_model.specs.declared.records.TotalKey.TheVariants.{Energy, TopUps}
use Rattle.pw_model.specs.Changes.{IsOneMoreReading, IsOtherStart}
use Rattle.pw_model.specs.Counting.{contents_at, point, start, wh_of, owner_of, reading_key, assignment_key}
use Rattle.pw_model.specs.Energy.{of_class}
use Rattle.pw_model.specs.Office.{AllOfOffice, HasOwner, IsOffice, most_records}
use Rattle.pw_model.specs.Payments.{cents_for, topped_up}
use Rattle.pw_model.specs.Same.{same_key}
use Rattle.pw_model.specs.Shelf.{IsTrueContent, ShelfContent, total_among}
use Rattle.pw_model.proofs.Bearing.{no-cents-withdrawn}
use Rattle.pw_model.proofs.Bounded.{ToldOf, contents-of}
use Rattle.pw_model.proofs.Energy.{energy-alike}
use Rattle.pw_model.proofs.Foreign.{foreign-totals_are_none}
use Rattle.pw_model.proofs.Same.{same_key-decides}
use Rattle.pw_model.proofs.Truth.{true-bounded}
use Rattle.pw_parts.specs.Changes.{gathered}
use Rattle.pw_parts.specs.declared.changes.Change.{Change}
use Rattle.pw_parts.specs.declared.changes.Side.{Side}
use Rattle.pw_parts.specs.declared.changes.Side.TheVariants.{Loses, Gains}
use Rattle.pw_shelf.specs.Changes.{points_with, starts_with, with_point}
use Rattle.pw_book.specs.inner.Moves.{MovesTotals, OfOwners, most_total}
use Rattle.pw_book.specs.inner.Added.{IsJustChanged, IsPaid, IsTrueAgain, IsTrueOf, paid_of}
use Rattle.pw_book.specs.inner.Gathered.{AreGathered, IsTrueAgainBut, IsTrueBut}
use Rattle.pw_book.specs.inner.Settling.{EndsBefore, IsSettled}
use Rattle.pw_book.proofs.Changing.{in-office, is-energy, of-owners}
use Rattle.pw_book.proofs.Walking.{IsApart, none-gathered}
use Rattle.pw_parts.proofs.Seconds.{owner-one, wh-one}
use Rattle.pw_parts.proofs.Sharing.{points-end}

-- ---- facts of one answer
pub on-ok-two : {T E P Q W : Type 0} (r : Result T E) → (P → Q → W) → OnOk r P → OnOk r Q → OnOk r W
on-ok-two (Ok a) f p q = f p q
on-ok-two (Err a) f p q = tt

-- ---- totals that may be asked of the office
owner-known : (office : OfficeRules) (o : Option AccountId) → HasOwner office o ⊎ (HasOwner office o → ⊥)
owner-known office None = inl tt
owner-known office (Some a) = elim (cases_lt a.0 office.accounts) [ inl l ↦ inl l | inr m ↦ inr (λ l. absurd (omega (arith, l, m))) ]

-- so an energy is one of the office, or it isn't
energy-known : (office : OfficeRules) (o : Option AccountId) (p : PeriodId) (b : BandId) (d : Direction) → OfOwners office.periods office.bands office.accounts (Energy o p b d) ⊎ (OfOwners office.periods office.bands office.accounts (Energy o p b d) → ⊥)
energy-known office o p b d = elim (cases_lt p.0 office.periods) [
  | inl l ↦ elim (cases_lt b.0 office.bands) [
    | inl m ↦ elim (owner-known office o) [
      | inl h ↦ inl (in-office office o p b d h l m)
      | inr n ↦ inr (λ i. n (of-owners office (Energy o p b d) i).3)
    ]
    | inr g ↦ inr (λ i. let m = (of-owners office (Energy o p b d) i).2 in absurd (omega (arith, m, g)))
  ]
  | inr g ↦ inr (λ i. let l = (of-owners office (Energy o p b d) i).1 in absurd (omega (arith, l, g)))
]

-- and the total of top-ups is none
pub no-energy : (office : OfficeRules) (a : AccountId) → OfOwners office.periods office.bands office.accounts (TopUps a) → ⊥
no-energy office a i = let r = of-owners office (TopUps a) i in let z : 0 ≡ 1 = r.0 in absurd (omega (arith, z))

-- ---- truth
-- totals among a list fit
pub total-fits : (office : OfficeRules) (s : List Entry) → IsOffice office → AllOfOffice office s → length s ≤ most_records → (k : TotalKey) → total_among office s k ≤ most_total
total-fits office s o h few k =
    let c : ShelfContent = record { records = s; point = point (contents_at s); start = start (contents_at s); total = total_among office s } in
    true-bounded office c o h few (record { points = refl; starts = refl; totals = λ l. refl }) k

-- ---- the key of one meter
abbrev meter_in : Key → ℕ
meter_in (key.Reading m r t) = m.0
meter_in (key.Assignment m t) = m.0
meter_in (key.TopUp r) = 0
meter_in (key.Withdrawal n) = 0

abbrev second_in : Key → ℕ
second_in (key.Reading m r t) = t
second_in (key.Assignment m t) = t
second_in (key.TopUp r) = 0
second_in (key.Withdrawal n) = 0

abbrev register_in : Register → Key → Register
register_in other (key.Reading m r t) = r
register_in other _ = other

-- ---- truth behind a change at one key
module _ (office : OfficeRules) (o : IsOffice office) (s : List Entry) (k : Key) (before behind : Contents) (held : List Entry) (j : IsJustChanged office s k before behind held) where
  -- what is told at the key is of the office
  fits-before : ToldOf office k before
  fits-before = subst (ToldOf office k) (sym j.was) (contents-of office s k j.small)

  fits-behind : ToldOf office k behind
  fits-behind = subst (ToldOf office k) (sym j.is) (contents-of office held k j.of_office)

  -- an energy that isn't one of the office is none, whatever counts
  energy-other : (owner : Option AccountId) (period : PeriodId) (band : BandId) (d : Direction) → (OfOwners office.periods office.bands office.accounts (Energy owner period band d) → ⊥) →
      total_among office s (Energy owner period band d) ≡ total_among office held (Energy owner period band d)
  energy-other owner period band d n = elim (cases_lt period.0 office.periods) [
    | inl l ↦ elim (cases_lt band.0 office.bands) [
      | inl f ↦ elim (owner-known office owner) [
        | inl h ↦ absurd (n (in-office office owner period band d h l f))
        | inr h ↦ (foreign-totals_are_none office s).owners j.small owner period band d h ∙ sym ((foreign-totals_are_none office held).owners j.of_office owner period band d h)
      ]
      | inr g ↦ (foreign-totals_are_none office s).bands o.band owner period band d g ∙ sym ((foreign-totals_are_none office held).bands o.band owner period band d g)
    ]
    | inr g ↦ (foreign-totals_are_none office s).periods o.period owner period band d g ∙ sym ((foreign-totals_are_none office held).periods o.period owner period band d g)
  ]

  -- other totals stay where the same top-ups count
  other-stays : ((a : ℕ) → topped_up held a ≡ topped_up s a) → (l : TotalKey) → (OfOwners office.periods office.bands office.accounts l → ⊥) → total_among office s l ≡ total_among office held l
  other-stays t (Energy owner period band d) n = energy-other owner period band d n
  other-stays t (TopUps a) n = sym (t a.0)

  -- where the energies followed, and points, starts and top-ups too, all is true
  true-after : (old new : ShelfContent) → IsTrueOf office s old → old.records ≡ held → IsSettled office (contents_at s) (contents_at held) old new → new.point ≡ point (contents_at held) → new.start ≡ start (contents_at held) →
      ((a : ℕ) → topped_up held a ≡ topped_up s a) → IsTrueContent office new
  true-after old new v e m p q t = record {
    points = p ∙ ap (λ (r : List Entry). point (contents_at r)) (sym (m.records ∙ e));
    starts = q ∙ ap (λ (r : List Entry). start (contents_at r)) (sym (m.records ∙ e));
    totals = λ l. total l ∙ ap (λ (r : List Entry). total_among office r l) (sym (m.records ∙ e));
  }
    where
      total : (l : TotalKey) → new.total l ≡ total_among office held l
      total (TopUps a) = m.elsewhere (TopUps a) (no-energy office a) ∙ v.totals (TopUps a) ∙ sym (t a.0)
      total (Energy owner period band d) = elim (energy-known office owner period band d) [
        | inl i ↦ m.energies (Energy owner period band d) i (v.totals (Energy owner period band d)) (total-fits office held o j.of_office j.few (Energy owner period band d))
        | inr n ↦ m.elsewhere (Energy owner period band d) n ∙ v.totals (Energy owner period band d) ∙ energy-other owner period band d n
      ]

  -- where the energies are gathered, and points, starts and top-ups followed, all is true but for what is gathered
  but-after : (rows more : BTreeMap TotalKey Change) (old new : ShelfContent) → IsTrueBut office rows s old → new.total ≡ old.total → new.records ≡ held → AreGathered office (contents_at s) (contents_at held) rows more →
      new.point ≡ point (contents_at held) → new.start ≡ start (contents_at held) → ((a : ℕ) → topped_up held a ≡ topped_up s a) → IsTrueBut office more new.records new
  but-after rows more old new v c e d p q t =
      let P : List Entry → Type 0 = λ r. IsTrueBut office more r new in
      subst P (sym e) (record { points = p; starts = q; energies = energies; others = λ l n. same l ∙ v.others l n ∙ other-stays t l n })
    where
      same : (l : TotalKey) → new.total l ≡ old.total l
      same l = ap (λ (f : TotalKey → ℕ). f l) c

      energies : (l : TotalKey) → OfOwners office.periods office.bands office.accounts l → new.total l + gathered Gains more l ≡ total_among office held l + gathered Loses more l
      energies (TopUps a) i = absurd (no-energy office a i)
      energies (Energy owner period band y) i =
          let was = v.energies (Energy owner period band y) i in
          let differ : total_among office s (Energy owner period band y) + gathered Gains more (Energy owner period band y) + gathered Loses rows (Energy owner period band y)
          ≡ total_among office held (Energy owner period band y) + gathered Loses more (Energy owner period band y) + gathered Gains rows (Energy owner period band y) = d (Energy owner period band y) in
          let here = same (Energy owner period band y) in
          omega (arith, was, differ, here)

  -- where the same counts, the totals are the same
  totals-alike : point (contents_at s) ≡ point (contents_at held) → start (contents_at s) ≡ start (contents_at held) → ((a : ℕ) → topped_up held a ≡ topped_up s a) → (l : TotalKey) → total_among office s l ≡ total_among office held l
  totals-alike p q t (Energy owner period band d) = energy-alike office (contents_at s) (contents_at held) d (of_class office owner period.0 band.0) p q
  totals-alike p q t (TopUps a) = sym (t a.0)

  -- so all is true as it is
  same-true : (old : ShelfContent) → IsTrueOf office s old → old.records ≡ held → point (contents_at s) ≡ point (contents_at held) → start (contents_at s) ≡ start (contents_at held) → ((a : ℕ) → topped_up held a ≡ topped_up s a) → IsTrueContent office old
  same-true old v e p q t = record {
    points = v.points ∙ p ∙ ap (λ (r : List Entry). point (contents_at r)) (sym e);
    starts = v.starts ∙ q ∙ ap (λ (r : List Entry). start (contents_at r)) (sym e);
    totals = λ l. v.totals l ∙ totals-alike p q t l ∙ ap (λ (r : List Entry). total_among office r l) (sym e);
  }

  same-but : (rows : BTreeMap TotalKey Change) (old : ShelfContent) → IsTrueBut office rows s old → point (contents_at s) ≡ point (contents_at held) → start (contents_at s) ≡ start (contents_at held) → ((a : ℕ) → topped_up held a ≡ topped_up s a) → IsTrueBut office rows held old
  same-but rows old v p q t = record {
    points = v.points ∙ p;
    starts = v.starts ∙ q;
    energies = λ l i. (let x = v.energies l i in let y = totals-alike p q t l in omega (arith, x, y));
    others = λ l n. v.others l n ∙ totals-alike p q t l;
  }

-- ---- a reading
-- at the key of a reading no cents are told
no-cents : (office : OfficeRules) (m : ℕ) (r : Register) (t a : ℕ) (b : Contents) → ToldOf office (reading_key m r t) b → cents_for a b ≡ 0
no-cents office m r t a Nothing h = refl
no-cents office m r t a Several h = refl
no-cents office m r t a (One (content.Reading w)) h = refl
no-cents office m r t a (One (content.Assignment o)) h = refl
no-cents office m r t a (One content.Withdrawal) h = refl
no-cents office m r t a (One (content.TopUp b c i)) h = absurd h

module _ (office : OfficeRules) (o : IsOffice office) (s : List Entry) (m : ℕ) (r : Register) (t : ℕ) (before behind : Contents) (old : ShelfContent) (rows : BTreeMap TotalKey Change) (j : IsJustChanged office s (reading_key m r t) before behind old.records) (v : IsTrueBut office rows s old) where
  abbrev here : Key
  here = reading_key m r t

  was-here : point (contents_at s) m r t ≡ wh_of before
  was-here = ap wh_of (sym j.was)

  is-here : point (contents_at old.records) m r t ≡ wh_of behind
  is-here = ap wh_of (sym j.is)

  -- nothing else changes
  elsewhere : (n : ℕ) (q : Register) (u : ℕ) → (n ≡ m → q ≡ r → u ≡ t → ⊥) → point (contents_at s) n q u ≡ point (contents_at old.records) n q u
  elsewhere n q u d = j.points n q u (λ i. d (ap meter_in i) (ap (register_in r) i) (ap second_in i))

  starts-same : start (contents_at s) ≡ start (contents_at old.records)
  starts-same = λ i n u. j.starts n u (λ p. cc) i

  topped : (a : ℕ) → topped_up old.records a ≡ topped_up s a
  topped a =
      let p = j.paid a in
      let was = no-cents office m r t a before (fits-before office o s here before behind old.records j) in
      let is = no-cents office m r t a behind (fits-behind office o s here before behind old.records j) in
      omega (arith, p, was, is)

  reading-ends : EndsBefore office.end (point (contents_at old.records) m r)
  reading-ends u w h = rw o.end (points-end office old.records m r j.of_office u w h)

  reading-ended : EndsBefore office.end (point (contents_at s) m r)
  reading-ended u w h = rw o.end (points-end office s m r j.small u w h)

  reading-begins : (w : ℕ) → wh_of before ≡ None → wh_of behind ≡ Some w → IsOneMoreReading (contents_at s) (contents_at old.records) m r t w
  reading-begins w p q = record { free = was-here ∙ p; here = is-here ∙ q; elsewhere = elsewhere; starts = starts-same }

  reading-ceases : (w : ℕ) → wh_of before ≡ Some w → wh_of behind ≡ None → IsOneMoreReading (contents_at old.records) (contents_at s) m r t w
  reading-ceases w p q = record { free = is-here ∙ q; here = was-here ∙ p; elsewhere = λ n q u d. sym (elsewhere n q u d); starts = sym starts-same }

  point-at : (w : Option ℕ) → wh_of behind ≡ w → (n : ℕ) (q : Register) (u : ℕ) → points_with old.point m r t w n q u ≡ point (contents_at old.records) n q u
  point-at w h n q u = elim (cases_Bool (same_key here (reading_key n q u))) [
    | inl y ↦ (let i : here ≡ reading_key n q u = (same_key-decides here (reading_key n q u)).0 y in
        ap (λ b. cond b w (old.point n q u)) y ∙ sym h ∙ sym is-here ∙ ap (λ k. wh_of (contents_at old.records k)) i)
    | inr f ↦ ap (λ b. cond b w (old.point n q u)) f ∙ ap (λ p. p n q u) v.points
        ∙ j.points n q u (λ i. true≢false (sym ((same_key-decides here (reading_key n q u)).1 (sym i)) ∙ f))
  ]

  reading-true : (w : Option ℕ) → wh_of behind ≡ w → (more : BTreeMap TotalKey Change) (new : ShelfContent) → AreGathered office (contents_at s) (contents_at old.records) rows more → new ≡ with_point old m r t w → IsTrueAgainBut office more old new
  reading-true w h more new d q =
      let P : ShelfContent → Type 0 = λ c. IsTrueAgainBut office more old c in
      subst P (sym q) (record {
        truth = but-after office o s here before behind old.records j rows more old (with_point old m r t w) v refl refl d (λ i n q u. point-at w h n q u i) (v.starts ∙ starts-same) topped;
        records = refl;
      })

  -- the same of an answer, where the reading begins or ceases to count
  pub begun-again : {T E : Type 0} (result : Result T E) (w : ℕ) (more : BTreeMap TotalKey Change) (new : ShelfContent) → wh_of before ≡ None → wh_of behind ≡ Some w →
      ((was is : Key → Contents) → old.point ≡ point was → old.start ≡ start was → IsOneMoreReading was is m r t w → EndsBefore office.end (point is m r) → OnOk result (AreGathered office was is rows more)) →
      OnOk result (new ≡ with_point old m r t (Some w)) → OnOk result (IsTrueAgainBut office more old new)
  begun-again result w more new p q f a =
      on-ok-two result (λ d e. reading-true (Some w) q more new d e) (f (contents_at s) (contents_at old.records) v.points v.starts (reading-begins w p q) reading-ends) a

  pub ceased-again : {T E : Type 0} (result : Result T E) (w : ℕ) (more : BTreeMap TotalKey Change) (new : ShelfContent) → wh_of before ≡ Some w → wh_of behind ≡ None →
      ((was is : Key → Contents) → old.point ≡ point was → old.start ≡ start was → IsOneMoreReading is was m r t w → EndsBefore office.end (point was m r) → OnOk result (AreGathered office was is rows more)) →
      OnOk result (new ≡ with_point old m r t None) → OnOk result (IsTrueAgainBut office more old new)
  ceased-again result w more new p q f a =
      on-ok-two result (λ d e. reading-true None q more new d e) (f (contents_at s) (contents_at old.records) v.points v.starts (reading-ceases w p q) reading-ended) a

  -- where the same counts
  pub reading-same : wh_of before ≡ wh_of behind → IsTrueBut office rows old.records old
  reading-same h = same-but office o s here before behind old.records j rows old v (λ i n q u. all n q u i) starts-same topped
    where
      all : (n : ℕ) (q : Register) (u : ℕ) → point (contents_at s) n q u ≡ point (contents_at old.records) n q u
      all n q u = elim (cases_Bool (same_key here (reading_key n q u))) [
        | inl y ↦ (let i : here ≡ reading_key n q u = (same_key-decides here (reading_key n q u)).0 y in
            let P : Key → Type 0 = λ k. wh_of (contents_at s k) ≡ wh_of (contents_at old.records k) in
            subst P i (was-here ∙ h ∙ sym is-here))
        | inr f ↦ j.points n q u (λ i. true≢false (sym ((same_key-decides here (reading_key n q u)).1 (sym i)) ∙ f))
      ]

  pub reading-alike : (v w : ℕ) → wh_of before ≡ Some v → wh_of behind ≡ Some w → wh_of before ≡ wh_of behind
  reading-alike v w p q =
      let a = wh-one before v p in
      let b = wh-one behind w q in
      let c : content.Reading v ≡ content.Reading w = j.alike (content.Reading v) (content.Reading w) a b in
      ap wh_of (a ∙ ap (λ x. One x) c ∙ sym b)

-- ---- an assignment
-- at the key of an assignment no cents are told
no-cents-given : (office : OfficeRules) (m t a : ℕ) (b : Contents) → ToldOf office (assignment_key m t) b → cents_for a b ≡ 0
no-cents-given office m t a Nothing h = refl
no-cents-given office m t a Several h = refl
no-cents-given office m t a (One (content.Reading w)) h = refl
no-cents-given office m t a (One (content.Assignment p)) h = refl
no-cents-given office m t a (One content.Withdrawal) h = refl
no-cents-given office m t a (One (content.TopUp b c i)) h = absurd h

module _ (office : OfficeRules) (o : IsOffice office) (s : List Entry) (m t : ℕ) (before behind : Contents) (old : ShelfContent) (j : IsJustChanged office s (assignment_key m t) before behind old.records) (v : IsTrueOf office s old) where
  abbrev there : Key
  there = assignment_key m t

  was-there : start (contents_at s) m t ≡ owner_of before
  was-there = ap owner_of (sym j.was)

  is-there : start (contents_at old.records) m t ≡ owner_of behind
  is-there = ap owner_of (sym j.is)

  points-same : point (contents_at s) ≡ point (contents_at old.records)
  points-same = λ i n q u. j.points n q u (λ p. cc) i

  topped-too : (a : ℕ) → topped_up old.records a ≡ topped_up s a
  topped-too a =
      let p = j.paid a in
      let was = no-cents-given office m t a before (fits-before office o s there before behind old.records j) in
      let is = no-cents-given office m t a behind (fits-behind office o s there before behind old.records j) in
      omega (arith, p, was, is)

  other-start : IsOtherStart (contents_at s) (contents_at old.records) m t
  other-start = record { points = points-same; elsewhere = λ n u d. j.starts n u (λ i. d (ap meter_in i) (ap second_in i)) }

  start-is : (w : Option (Option AccountId)) → owner_of behind ≡ w → start (contents_at old.records) m t ≡ w
  start-is w h = is-there ∙ h

  start-ends : (r : Register) → EndsBefore office.end (point (contents_at s) m r)
  start-ends r u w h = rw o.end (points-end office s m r j.small u w h)

  start-at : (w : Option (Option AccountId)) → owner_of behind ≡ w → (n u : ℕ) → starts_with old.start m t w n u ≡ start (contents_at old.records) n u
  start-at w h n u = elim (cases_Bool (same_key there (assignment_key n u))) [
    | inl y ↦ (let i : there ≡ assignment_key n u = (same_key-decides there (assignment_key n u)).0 y in
        ap (λ b. cond b w (old.start n u)) y ∙ sym h ∙ sym is-there ∙ ap (λ k. owner_of (contents_at old.records k)) i)
    | inr f ↦ ap (λ b. cond b w (old.start n u)) f ∙ ap (λ p. p n u) v.starts
        ∙ j.starts n u (λ i. true≢false (sym ((same_key-decides there (assignment_key n u)).1 (sym i)) ∙ f))
  ]

  start-true : (w : Option (Option AccountId)) → owner_of behind ≡ w → (new : ShelfContent) → IsSettled office (contents_at s) (contents_at old.records) old new → new.point ≡ old.point → new.start ≡ starts_with old.start m t w → IsTrueContent office new
  start-true w h new g p q = true-after office o s there before behind old.records j old new v refl g (p ∙ v.points ∙ points-same) (q ∙ (λ i n u. start-at w h n u i)) topped-too

  -- the same of an answer, where the assignment begins or ceases to count
  pub start-again : {T E : Type 0} (result : Result T E) (w : Option (Option AccountId)) (new : ShelfContent) → owner_of behind ≡ w →
      ((was is : Key → Contents) → old.point ≡ point was → old.start ≡ start was → IsOtherStart was is m t → start is m t ≡ w → ((r : Register) → EndsBefore office.end (point was m r)) → OnOk result (IsSettled office was is old new)) →
      OnOk result ((new.point ≡ old.point) × (new.start ≡ starts_with old.start m t w)) → OnOk result (IsTrueAgain office old new)
  start-again result w new h f a =
      on-ok-two result (λ g p. record { truth = start-true w h new g p.0 p.1; records = g.records })
      (f (contents_at s) (contents_at old.records) v.points v.starts other-start (start-is w h) start-ends) a

  -- where the same counts
  pub start-same : owner_of before ≡ owner_of behind → IsTrueContent office old
  start-same h = same-true office o s there before behind old.records j old v refl points-same (λ i n u. all n u i) topped-too
    where
      all : (n u : ℕ) → start (contents_at s) n u ≡ start (contents_at old.records) n u
      all n u = elim (cases_Bool (same_key there (assignment_key n u))) [
        | inl y ↦ (let i : there ≡ assignment_key n u = (same_key-decides there (assignment_key n u)).0 y in
            let P : Key → Type 0 = λ k. owner_of (contents_at s k) ≡ owner_of (contents_at old.records k) in
            subst P i (was-there ∙ h ∙ sym is-there))
        | inr f ↦ j.starts n u (λ i. true≢false (sym ((same_key-decides there (assignment_key n u)).1 (sym i)) ∙ f))
      ]

  pub start-alike : (v w : Option AccountId) → owner_of before ≡ Some v → owner_of behind ≡ Some w → owner_of before ≡ owner_of behind
  start-alike v w p q =
      let a = owner-one before v p in
      let b = owner-one behind w q in
      let c : content.Assignment v ≡ content.Assignment w = j.alike (content.Assignment v) (content.Assignment w) a b in
      ap owner_of (a ∙ ap (λ x. One x) c ∙ sym b)

-- ---- a top-up
none-of : (b : Bool) → let n : ℕ = cond b 0 0 in n ≡ 0
none-of true = refl
none-of false = refl

abbrev account-in : TotalKey → ℕ
account-in (Energy o p b d) = 0
account-in (TopUps a) = a.0

-- what counts for an account, of what is paid
abbrev cents_paid : ℕ → Option (AccountId × ℕ) → ℕ
cents_paid a None = 0
cents_paid a (Some b) = cond (b.0.0 == a) b.1 0

paid-for : (a : ℕ) (c : Contents) → cents_for a c ≡ cents_paid a (paid_of c)
paid-for a Nothing = refl
paid-for a Several = refl
paid-for a (One (content.Reading w)) = refl
paid-for a (One (content.Assignment o)) = refl
paid-for a (One content.Withdrawal) = refl
paid-for a (One (content.TopUp b c t)) = refl

paid-one : (c : Contents) (b : AccountId × ℕ) → paid_of c ≡ Some b → (t : ℕ) × (c ≡ One (content.TopUp b.0 b.1 t))
paid-one Nothing b e = absurd (none-some b e)
paid-one Several b e = absurd (none-some b e)
paid-one (One (content.Reading w)) b e = absurd (none-some b e)
paid-one (One (content.Assignment o)) b e = absurd (none-some b e)
paid-one (One content.Withdrawal) b e = absurd (none-some b e)
paid-one (One (content.TopUp a n t)) b e = let i = same_Some (a, n) b e in (t, λ x. One (content.TopUp (i x).0 (i x).1 t))

module _ (office : OfficeRules) (o : IsOffice office) (s : List Entry) (r : List ℕ) (before behind : Contents) (old : ShelfContent) (rows : BTreeMap TotalKey Change) (j : IsJustChanged office s (key.TopUp r) before behind old.records) (b : IsTrueBut office rows s old) where
  points-stay : point (contents_at s) ≡ point (contents_at old.records)
  points-stay = λ i m q t. j.points m q t (λ p. cc) i

  starts-stay : start (contents_at s) ≡ start (contents_at old.records)
  starts-stay = λ i m t. j.starts m t (λ p. cc) i

  energy-stays : (q : Option AccountId) (p : PeriodId) (b : BandId) (d : Direction) → total_among office s (Energy q p b d) ≡ total_among office old.records (Energy q p b d)
  energy-stays q p b d = energy-alike office (contents_at s) (contents_at old.records) d (of_class office q p.0 b.0) points-stay starts-stay

  -- top-ups change by what counts
  paid-more : (a : ℕ) → topped_up old.records a + cents_paid a (paid_of before) ≡ topped_up s a + cents_paid a (paid_of behind)
  paid-more a = let p = j.paid a in let b = paid-for a before in let c = paid-for a behind in omega (arith, p, b, c)

  -- one total moved
  moved-true : (a : AccountId) (more less : ℕ) (new : ShelfContent) → MovesTotals (λ k. k ≡ TopUps a) (λ k. more) (λ k. less) old new →
      ((x : ℕ) → topped_up s x + cond (a.0 == x) more 0 ≡ topped_up old.records x + cond (a.0 == x) less 0) → IsTrueBut office rows new.records new
  moved-true a more less new m h =
      let P : List Entry → Type 0 = λ held. IsTrueBut office rows held new in
      subst P (sym m.records) (record {
        points = m.point ∙ b.points ∙ points-stay;
        starts = m.start ∙ b.starts ∙ starts-stay;
        energies = energies;
        others = others;
      })
    where
      stays : (q : Option AccountId) (p : PeriodId) (y : BandId) (d : Direction) → new.total (Energy q p y d) ≡ old.total (Energy q p y d)
      stays q p y d = m.elsewhere (Energy q p y d) (λ i. let e = ap is-energy i in absurd (omega (arith, e)))

      energies : (k : TotalKey) → OfOwners office.periods office.bands office.accounts k → new.total k + gathered Gains rows k ≡ total_among office old.records k + gathered Loses rows k
      energies (TopUps x) i = absurd (no-energy office x i)
      energies (Energy q p y d) i =
          let e = stays q p y d in
          let w = b.energies (Energy q p y d) i in
          let u = energy-stays q p y d in
          omega (arith, e, w, u)

      others : (k : TotalKey) → (OfOwners office.periods office.bands office.accounts k → ⊥) → new.total k ≡ total_among office old.records k
      others (Energy q p y d) n = stays q p y d ∙ b.others (Energy q p y d) n ∙ energy-stays q p y d
      others (TopUps x) n = elim (cases_eq a.0 x.0) [
        | inl e ↦ (
            let i : TopUps x ≡ TopUps a = ap (λ n. let y : AccountId = record { 0 = n } in TopUps y) (sym e) in
            let w = b.others (TopUps x) n in
            let q = h x.0 in
            let c : a.0 == x.0 ≡ true = eq-eqb a.0 x.0 e in
            let u : cond (a.0 == x.0) more 0 ≡ more = ap (λ t. cond t more 0) c in
            let v : cond (a.0 == x.0) less 0 ≡ less = ap (λ t. cond t less 0) c in
            m.here (TopUps x) i (topped_up old.records x.0) (omega (arith, w, q, u, v)) (total-fits office old.records o j.of_office j.few (TopUps x)))
        | inr f ↦ (
            let w = b.others (TopUps x) n in
            let q = h x.0 in
            let c : a.0 == x.0 ≡ false = ne_eqb a.0 x.0 f in
            let u : cond (a.0 == x.0) more 0 ≡ 0 = ap (λ t. cond t more 0) c in
            let v : cond (a.0 == x.0) less 0 ≡ 0 = ap (λ t. cond t less 0) c in
            let g = m.elsewhere (TopUps x) (λ i. f (sym (ap account-in i))) in
            omega (arith, w, q, u, v, g))
      ]

  -- where the same counts
  paid-same : paid_of before ≡ paid_of behind → IsTrueBut office rows old.records old
  paid-same h = same-but office o s (key.TopUp r) before behind old.records j rows old b points-stay starts-stay (λ a.
      let p = paid-more a in
      let q : cents_paid a (paid_of before) ≡ cents_paid a (paid_of behind) = ap (cents_paid a) h in
      omega (arith, p, q))

  paid-alike : (c d : AccountId × ℕ) → paid_of before ≡ Some c → paid_of behind ≡ Some d → paid_of before ≡ paid_of behind
  paid-alike c d p q =
      let x = paid-one before c p in
      let y = paid-one behind d q in
      let e = j.alike (content.TopUp c.0 c.1 x.0) (content.TopUp d.0 d.1 y.0) x.1 y.1 in
      ap paid_of (x.1 ∙ ap (λ z. One z) e ∙ sym y.1)

  paid-by : (c d : Option (AccountId × ℕ)) → paid_of before ≡ c → paid_of behind ≡ d → (new : ShelfContent) → IsPaid c d old new → IsTrueBut office rows new.records new
  paid-by None (Some d) p q new m = moved-true d.0 d.1 0 new m (λ x.
      let t = paid-more x in
      let v : cents_paid x (paid_of before) ≡ 0 = ap (cents_paid x) p in
      let w : cents_paid x (paid_of behind) ≡ cond (d.0.0 == x) d.1 0 = ap (cents_paid x) q in
      let z = none-of (d.0.0 == x) in
      omega (arith, t, v, w, z))
  paid-by (Some c) None p q new m = moved-true c.0 0 c.1 new m (λ x.
      let t = paid-more x in
      let v : cents_paid x (paid_of before) ≡ cond (c.0.0 == x) c.1 0 = ap (cents_paid x) p in
      let w : cents_paid x (paid_of behind) ≡ 0 = ap (cents_paid x) q in
      let z = none-of (c.0.0 == x) in
      omega (arith, t, v, w, z))
  paid-by None None p q new m = let P : ShelfContent → Type 0 = λ e. IsTrueBut office rows e.records e in subst P (sym m) (paid-same (p ∙ sym q))
  paid-by (Some c) (Some d) p q new m = let P : ShelfContent → Type 0 = λ e. IsTrueBut office rows e.records e in subst P (sym m) (paid-same (paid-alike c d p q))

  pub paid-true : (new : ShelfContent) → IsPaid (paid_of before) (paid_of behind) old new → IsTrueBut office rows new.records new
  paid-true new m = paid-by (paid_of before) (paid_of behind) refl refl new m

pub paid-records : (b d : Option (AccountId × ℕ)) (old new : ShelfContent) → IsPaid b d old new → new.records ≡ old.records
paid-records None (Some d) old new m = m.records
paid-records (Some b) None old new m = m.records
paid-records None None old new m = ap (λ (c : ShelfContent). c.records) m
paid-records (Some b) (Some d) old new m = ap (λ (c : ShelfContent). c.records) m

-- a top-up changes no point and no start
pub paid-alone : (b d : Option (AccountId × ℕ)) (old new : ShelfContent) → IsPaid b d old new → (new.point ≡ old.point) × (new.start ≡ old.start)
paid-alone None (Some d) old new m = (m.point, m.start)
paid-alone (Some b) None old new m = (m.point, m.start)
paid-alone None None old new m = (ap (λ (c : ShelfContent). c.point) m, ap (λ (c : ShelfContent). c.start) m)
paid-alone (Some b) (Some d) old new m = (ap (λ (c : ShelfContent). c.point) m, ap (λ (c : ShelfContent). c.start) m)

-- ---- a withdrawal
-- what is told there changes no point, no start and no total
pub withdrawal-true : (office : OfficeRules) → IsOffice office → (s : List Entry) (n : Named) (before behind : Contents) (old : ShelfContent) (rows : BTreeMap TotalKey Change) → IsJustChanged office s (key.Withdrawal n) before behind old.records →
    IsTrueBut office rows s old → IsTrueBut office rows old.records old
withdrawal-true office o s n before behind old rows j b =
    same-but office o s (key.Withdrawal n) before behind old.records j rows old b (λ i m r t. j.points m r t (λ p. cc) i) (λ i m t. j.starts m t (λ p. cc) i) (λ a.
    let p = j.paid a in
    let was = no-cents-withdrawn office n a before (fits-before office o s (key.Withdrawal n) before behind old.records j) in
    let is = no-cents-withdrawn office n a behind (fits-behind office o s (key.Withdrawal n) before behind old.records j) in
    omega (arith, p, was, is))

-- ---- what is gathered, and then written
-- nothing is gathered in no rows
pub none-there : (side : Side) (rows : BTreeMap TotalKey Change) (k : TotalKey) → rows.entries ≡ [] → gathered side rows k ≡ 0
none-there side rows k e = none-gathered side rows k (let P : List (TotalKey × Change) → Type 0 = λ es. IsApart k es in subst P (sym e) tt)

-- then what is true but for it is true
pub true-but-nothing : (office : OfficeRules) (rows : BTreeMap TotalKey Change) (c : ShelfContent) → rows.entries ≡ [] → IsTrueContent office c → IsTrueBut office rows c.records c
true-but-nothing office rows c e t = record {
  points = t.points;
  starts = t.starts;
  energies = λ k i. (
      let x = t.totals k in
      let y = none-there Gains rows k e in
      let z = none-there Loses rows k e in
      omega (arith, x, y, z));
  others = λ k n. t.totals k;
}

-- where what is gathered is written, all is true
pub written-true : (office : OfficeRules) (rows : BTreeMap TotalKey Change) (s : List Entry) (old new : ShelfContent) → IsOffice office → AllOfOffice office s → length s ≤ most_records → IsTrueBut office rows s old →
    MovesTotals (OfOwners office.periods office.bands office.accounts) (gathered Gains rows) (gathered Loses rows) old new → IsTrueOf office s new
written-true office rows s old new o a few b m = record { points = m.point ∙ b.points; starts = m.start ∙ b.starts; totals = total }
  where
    total : (k : TotalKey) → new.total k ≡ total_among office s k
    total (TopUps x) = m.elsewhere (TopUps x) (no-energy office x) ∙ b.others (TopUps x) (no-energy office x)
    total (Energy q p y d) = elim (energy-known office q p y d) [
      | inl i ↦ m.here (Energy q p y d) i (total_among office s (Energy q p y d)) (b.energies (Energy q p y d) i) (total-fits office s o a few (Energy q p y d))
      | inr n ↦ m.elsewhere (Energy q p y d) n ∙ b.others (Energy q p y d) n
    ]
