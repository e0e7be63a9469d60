-- A change of an earlier list, or of an earlier line of one list, stands before a later one: so lists of changes that are put
-- line by line are in order.
use Rattle.std.proofs.Common.{◌≡◌, ℕ, ◌+◌, ◌<◌, ◌≤◌, Option, Some, None, option_map, List, [], ◌∷◌, ◌++◌, length, slice_get, refl, ap, sym, subst, ◌∙◌, inl, inr, arith}
use Rattle.std.specs.Cmp.Lexicographic.{slice_cmp}
use Rattle.std.specs.Ordering.{nat_cmp, ordering_then}
use Rattle.std.specs.declared.cmp.Ordering.TheVariants.{Less}
use Rattle.std.proofs.lemmas.Bool.{cases_eq, cases_lt}
use Rattle.std.proofs.lemmas.List.{length-map}
use Rattle.std.proofs.lemmas.Option.{slice_get_past}
use Rattle.pw_tariff.specs.Office.{OfficeFile, MeterText, period_starts, periods_in}
use Rattle.pw_model.specs.Lists.{Lists}
use Rattle.pw_model.proofs.InKeyOrder.{cmp-less, cmp-equal}
use Rattle.pw_moving.specs.declared.change.Listed.{Listed}
use Rattle.pw_moving.specs.declared.change.Listed.TheVariants.{Accounts, Meters, Bands}
use Rattle.pw_moving.specs.declared.change.Change.{Change}
use Rattle.pw_moving.specs.declared.change.Change.TheVariants as change
use Rattle.pw_moving.specs.Names.{names_in}
use Rattle.pw_moving.specs.Renaming.{Offices}
use Rattle.pw_moving.specs.Changes.{AreUnlike, Differs, AreChanges, list_of, line_of, list_place, kind_numbers, change_numbers, change_order}
use Rattle.pw_moving.specs.inner.Comparing.{AreOfLine, AreOfLines, AreOfList, Puts}
use Rattle.pw_moving.proofs.Ordered.{lists-both, lists-none, puts-both, puts-none}
use Rattle.pw_moving.proofs.Placed.{within, ids-many}

-- ---- the order
pub earlier-list : (c e : Change) → list_of c < list_of e → change_order c e ≡ Less
unfolding change_numbers
earlier-list c e l = ap (λ o. ordering_then o (slice_cmp nat_cmp (line_of c ∷ kind_numbers c) (line_of e ∷ kind_numbers e))) (cmp-less (list_of c) (list_of e) l)

pub earlier-line : (c e : Change) → list_of c ≡ list_of e → line_of c < line_of e → change_order c e ≡ Less
unfolding change_numbers
earlier-line c e s l =
    ap (λ o. ordering_then o (slice_cmp nat_cmp (line_of c ∷ kind_numbers c) (line_of e ∷ kind_numbers e))) (cmp-equal (list_of c) (list_of e) s)
    ∙ ap (λ o. ordering_then o (slice_cmp nat_cmp (kind_numbers c) (kind_numbers e))) (cmp-less (line_of c) (line_of e) l)

pub earlier-kind : (c e : Change) → list_of c ≡ list_of e → line_of c ≡ line_of e → slice_cmp nat_cmp (kind_numbers c) (kind_numbers e) ≡ Less → change_order c e ≡ Less
unfolding change_numbers
earlier-kind c e s t l =
    ap (λ o. ordering_then o (slice_cmp nat_cmp (line_of c ∷ kind_numbers c) (line_of e ∷ kind_numbers e))) (cmp-equal (list_of c) (list_of e) s)
    ∙ ap (λ o. ordering_then o (slice_cmp nat_cmp (kind_numbers c) (kind_numbers e))) (cmp-equal (line_of c) (line_of e) t)
    ∙ l

-- ---- line by line
pub lines-none : (o : Offices) (list : ℕ) (a : List Change) → Puts (AreOfLines o list 0) a a
lines-none o list a = puts-none (AreOfLines o list 0) a (lists-none change_order (λ c. Differs o c × (list_of c ≡ list) × (line_of c < 0)) (λ c h. let l = h.2 in absurd (omega (arith, l))))

next-line : (o : Offices) (list n : ℕ) (xs ys : List Change) → AreOfLines o list n xs → AreOfLine o list n ys → AreOfLines o list (n + 1) (xs ++ ys)
next-line o list n xs ys p q =
    lists-both change_order (λ c. Differs o c × (list_of c ≡ list) × (line_of c < n)) (λ c. Differs o c × (list_of c ≡ list) × (line_of c ≡ n)) (λ c. Differs o c × (list_of c ≡ list) × (line_of c < n + 1)) xs ys p q
    (λ c e h i.
    let l : line_of c < n = h.2 in
    let k : line_of e ≡ n = i.2 in
    earlier-line c e (h.1 ∙ sym i.1) (omega (arith, l, k)))
    (λ c. (
      λ h. elim (cases_eq (line_of c) n) [
        | inl e ↦ inr (h.0, h.1, e)
        | inr d ↦ (let l : line_of c < n + 1 = h.2 in inl (h.0, h.1, omega (arith, l, d)))
      ],
      λ h. elim h [
        | inl i ↦ (let l : line_of c < n = i.2 in (i.0, i.1, omega (arith, l)))
        | inr i ↦ (let e : line_of c ≡ n = i.2 in (i.0, i.1, omega (arith, e)))
      ],
    ))

pub lines-next : (o : Offices) (list n : ℕ) (a b c : List Change) → Puts (AreOfLines o list n) a b → Puts (AreOfLine o list n) b c → Puts (AreOfLines o list (n + 1)) a c
lines-next o list n a b c = puts-both (AreOfLines o list n) (AreOfLine o list n) (AreOfLines o list (n + 1)) a b c (next-line o list n)

-- ---- no change is of a line behind all lines
past-either : {X : Type 0} (xs ys : List X) (i n : ℕ) → length xs ≤ n → length ys ≤ n → AreUnlike (slice_get xs i) (slice_get ys i) → i < n
past-either {X} xs ys i n l k h = elim (cases_lt i (length xs)) [
  | inl m ↦ omega (arith, l, m)
  | inr m ↦ absurd (
      let Q : Option X → Type 0 = λ a. AreUnlike a (slice_get ys i) in
      let none : AreUnlike None (slice_get ys i) = subst Q (slice_get_past xs i m) h in
      none)
]

-- the clock of a meter
past-meters : (xs ys : List MeterText) (i n : ℕ) → length xs ≤ n → length ys ≤ n → AreUnlike (option_map (λ (t : MeterText). t.clock) (slice_get xs i)) (option_map (λ (t : MeterText). t.clock) (slice_get ys i)) → i < n
past-meters xs ys i n l k h = elim (cases_lt i (length xs)) [
  | inl m ↦ omega (arith, l, m)
  | inr m ↦ absurd (
      let Q : Option MeterText → Type 0 = λ a. AreUnlike (option_map (λ (t : MeterText). t.clock) a) (option_map (λ (t : MeterText). t.clock) (slice_get ys i)) in
      let none : AreUnlike None (option_map (λ (t : MeterText). t.clock) (slice_get ys i)) = subst Q (slice_get_past xs i m) h in
      none)
]

-- lists with one place are one, and none has the place of periods
pub one-list : (a b : Listed) → list_place a ≡ list_place b → a ≡ b
one-list Accounts Accounts e = refl
one-list Meters Meters e = refl
one-list Bands Bands e = refl
one-list Accounts Meters e = absurd (omega (arith, e))
one-list Accounts Bands e = absurd (omega (arith, e))
one-list Meters Accounts e = absurd (omega (arith, e))
one-list Meters Bands e = absurd (omega (arith, e))
one-list Bands Accounts e = absurd (omega (arith, e))
one-list Bands Meters e = absurd (omega (arith, e))

pub no-list : (list : Listed) → 3 ≡ list_place list → ⊥
no-list Accounts e = absurd (omega (arith, e))
no-list Meters e = absurd (omega (arith, e))
no-list Bands e = absurd (omega (arith, e))

starts-many : (file : OfficeFile) → length (period_starts file) ≡ periods_in file
starts-many file = let n = length-map file.later (λ p. p.start) in omega (arith, n)

-- of a list of names
pub line-within : (o : Offices) (list : Listed) (n : ℕ) (c : Change) → length (names_in list o.old) ≤ n → length (names_in list o.new) ≤ n → Differs o c → list_of c ≡ list_place list → line_of c < n
line-within o list n (change.Added other place) l k h e =
    let P : Listed → Type 0 = λ it. place < length (names_in it o.new) in
    let i : place < length (names_in list o.new) = subst P (one-list other list e) h.1 in
    omega (arith, i, k)
line-within o list n (change.Gone other place) l k h e =
    let P : Listed → Type 0 = λ it. place < length (names_in it o.old) in
    let i : place < length (names_in list o.old) = subst P (one-list other list e) h.1 in
    omega (arith, i, l)
line-within o list n (change.Renamed other place) l k h e =
    let P : Listed → Type 0 = λ it. AreUnlike (slice_get (names_in it o.old) place) (slice_get (names_in it o.new) place) in
    past-either (names_in list o.old) (names_in list o.new) place n l k (subst P (one-list other list e) h)
line-within o list n (change.Moved other from to) l k h e =
    let P : Listed → Type 0 = λ it. slice_get (names_in it o.old) from ≡ Some h.0.0 in
    let i : from < length (names_in list o.old) = within (names_in list o.old) from h.0.0 (subst P (one-list other list e) h.0.1) in
    omega (arith, i, l)
line-within o Meters n (change.Clock m) l k h e =
    let i = ids-many o.old in
    let j = ids-many o.new in
    past-meters o.old.meters o.new.meters m.0 n (omega (arith, i, l)) (omega (arith, j, k)) h
line-within o Meters n (change.Register m r) l k h e =
    let i = ids-many o.old in
    let j : m.0 < length o.old.meters = h.0.0 in
    omega (arith, i, j, l)
line-within o Accounts n (change.Clock m) l k h e = absurd (omega (arith, e))
line-within o Bands n (change.Clock m) l k h e = absurd (omega (arith, e))
line-within o Accounts n (change.Register m r) l k h e = absurd (omega (arith, e))
line-within o Bands n (change.Register m r) l k h e = absurd (omega (arith, e))
line-within o list n (change.Start p) l k h e = absurd (no-list list e)
line-within o list n (change.NewPeriod p) l k h e = absurd (no-list list e)
line-within o list n (change.PeriodGone p) l k h e = absurd (no-list list e)
line-within o list n (change.Week p) l k h e = absurd (no-list list e)
line-within o list n (change.Price p b d) l k h e = absurd (no-list list e)

-- of periods
period-within : (o : Offices) (n : ℕ) (c : Change) → periods_in o.old ≤ n → periods_in o.new ≤ n → Differs o c → list_of c ≡ 3 → line_of c < n
period-within o n (change.Start p) l k h e =
    let i : length (period_starts o.old) ≡ periods_in o.old = starts-many o.old in
    let j : length (period_starts o.new) ≡ periods_in o.new = starts-many o.new in
    past-either (period_starts o.old) (period_starts o.new) p.0 n (omega (arith, i, l)) (omega (arith, j, k)) h
period-within o n (change.NewPeriod p) l k h e = let i : p.0 < periods_in o.new = h.1 in omega (arith, i, k)
period-within o n (change.PeriodGone p) l k h e = let i : p.0 < periods_in o.old = h.1 in omega (arith, i, l)
period-within o n (change.Week p) l k h e = let i : p.0 < periods_in o.old = h.0.0 in omega (arith, i, l)
period-within o n (change.Price p b d) l k h e = let i : p.0 < periods_in o.old = h.0.0.0 in omega (arith, i, l)
period-within o n (change.Added list place) l k h e = absurd (no-list list (sym e))
period-within o n (change.Gone list place) l k h e = absurd (no-list list (sym e))
period-within o n (change.Renamed list place) l k h e = absurd (no-list list (sym e))
period-within o n (change.Moved list from to) l k h e = absurd (no-list list (sym e))
period-within o n (change.Clock m) l k h e = absurd (omega (arith, e))
period-within o n (change.Register m r) l k h e = absurd (omega (arith, e))

-- so those of all lines are those of the list
lines-whole : (o : Offices) (list n : ℕ) (xs : List Change) → ((c : Change) → Differs o c → list_of c ≡ list → line_of c < n) → AreOfLines o list n xs → AreOfList o list xs
lines-whole o list n xs h p = record {
  rising = p.rising;
  members = λ c. (
    λ m. let q = (p.members c).0 m in (q.0, q.1),
    λ q. (p.members c).1 (q.0, q.1, h c q.0 q.1),
  );
}

lines-all : (o : Offices) (list n : ℕ) (a b : List Change) → ((c : Change) → Differs o c → list_of c ≡ list → line_of c < n) → Puts (AreOfLines o list n) a b → Puts (AreOfList o list) a b
lines-all o list n a b h p = (p.0, p.1, lines-whole o list n p.0 h p.2)

pub list-all : (o : Offices) (list : Listed) (n : ℕ) (a b : List Change) → length (names_in list o.old) ≤ n → length (names_in list o.new) ≤ n → Puts (AreOfLines o (list_place list) n) a b → Puts (AreOfList o (list_place list)) a b
list-all o list n a b i j p = lines-all o (list_place list) n a b (λ c h e. line-within o list n c i j h e) p

pub periods-all : (o : Offices) (n : ℕ) (a b : List Change) → periods_in o.old ≤ n → periods_in o.new ≤ n → Puts (AreOfLines o 3 n) a b → Puts (AreOfList o 3) a b
periods-all o n a b i j p = lines-all o 3 n a b (λ c h e. period-within o n c i j h e) p

-- ---- list by list
-- those of the lists before one
abbrev pub AreBefore : Offices → ℕ → List Change → Type 0
AreBefore o list = Lists change_order (λ c. Differs o c × (list_of c < list))

pub before-none : (o : Offices) (a : List Change) → Puts (AreBefore o 0) a a
before-none o a = puts-none (AreBefore o 0) a (lists-none change_order (λ c. Differs o c × (list_of c < 0)) (λ c h. let l = h.1 in absurd (omega (arith, l))))

next-list : (o : Offices) (list : ℕ) (xs ys : List Change) → AreBefore o list xs → AreOfList o list ys → AreBefore o (list + 1) (xs ++ ys)
next-list o list xs ys p q =
    lists-both change_order (λ c. Differs o c × (list_of c < list)) (λ c. Differs o c × (list_of c ≡ list)) (λ c. Differs o c × (list_of c < list + 1)) xs ys p q
    (λ c e h i.
    let l : list_of c < list = h.1 in
    let k : list_of e ≡ list = i.1 in
    earlier-list c e (omega (arith, l, k)))
    (λ c. (
      λ h. elim (cases_eq (list_of c) list) [
        | inl e ↦ inr (h.0, e)
        | inr d ↦ (let l : list_of c < list + 1 = h.1 in inl (h.0, omega (arith, l, d)))
      ],
      λ h. elim h [
        | inl i ↦ (let l : list_of c < list = i.1 in (i.0, omega (arith, l)))
        | inr i ↦ (let e : list_of c ≡ list = i.1 in (i.0, omega (arith, e)))
      ],
    ))

pub list-next : (o : Offices) (list : ℕ) (a b c : List Change) → Puts (AreBefore o list) a b → Puts (AreOfList o list) b c → Puts (AreBefore o (list + 1)) a c
list-next o list a b c = puts-both (AreBefore o list) (AreOfList o list) (AreBefore o (list + 1)) a b c (next-list o list)

-- each change is of one of the four
list-within : (c : Change) → list_of c < 4
list-within (change.Added Accounts place) = omega arith
list-within (change.Added Meters place) = omega arith
list-within (change.Added Bands place) = omega arith
list-within (change.Gone Accounts place) = omega arith
list-within (change.Gone Meters place) = omega arith
list-within (change.Gone Bands place) = omega arith
list-within (change.Renamed Accounts place) = omega arith
list-within (change.Renamed Meters place) = omega arith
list-within (change.Renamed Bands place) = omega arith
list-within (change.Moved Accounts from to) = omega arith
list-within (change.Moved Meters from to) = omega arith
list-within (change.Moved Bands from to) = omega arith
list-within (change.Clock m) = omega arith
list-within (change.Register m r) = omega arith
list-within (change.Start p) = omega arith
list-within (change.NewPeriod p) = omega arith
list-within (change.PeriodGone p) = omega arith
list-within (change.Week p) = omega arith
list-within (change.Price p b d) = omega arith

-- those of all four, put where nothing was, are all changes
pub lists-all : (o : Offices) (all : List Change) → Puts (AreBefore o 4) [] all → AreChanges o all
lists-all o all p =
    let P : List Change → Type 0 = AreChanges o in
    subst P (sym p.1) (record {
      rising = p.2.rising;
      members = λ c. (
        λ m. ((p.2.members c).0 m).0,
        λ h. (p.2.members c).1 (h, list-within c),
      );
    })
