-- How many calls and rows the entries of an upload take together.
use Rattle.std.proofs.Common.{◌≡◌, ◌==◌, ℕ, ◌+◌, ◌-◌, ◌*◌, ◌<◌, ◌≤◌, ◌⊎◌, cond, Option, List, [], ◌∷◌, length, mul-le-mul, mul-le-mul_right, mul-le-mul_left, refl, inl, inr, ap, sym, subst, ◌∙◌, arith}
use Rattle.std.proofs.lemmas.Bool.{cases_eq, eq-eqb, ne_eqb}
use Rattle.pw_obis.specs.declared.reference.Register.{Register}
use Rattle.pw_obis.specs.declared.reference.Register.TheVariants.{I0, I1, I2, E0, E1, E2}
use Rattle.pw_tariff.specs.declared.ids.Direction.TheVariants.{Import, Export}
use Rattle.pw_tariff.specs.Office.{OfficeRules, register_place}
use Rattle.pw_model.specs.Bearing.{bears_on}
use Rattle.pw_model.specs.Energy.{over_registers}
use Rattle.pw_model.specs.Kinds.{IsReading, IsTopUp, IsAssignment}
use Rattle.pw_model.specs.declared.records.Key.{Key}
use Rattle.pw_model.specs.declared.records.Key.TheVariants as key
use Rattle.pw_model.specs.declared.records.Entry.{Entry}
use Rattle.pw_model.specs.Counting.{Member, EachOnce, SameMembers}
use Rattle.pw_model.specs.Lists.{record_count}
use Rattle.pw_model.specs.Shelf.{ShelfContent}
use Rattle.pw_book.specs.Cost.{AreAssignmentsWith, AreBoundsOf, AreReadingsWith, AreTopUps, HasPoints, HasPointsAt, HasStarts, HasStartsOf, IsAssignmentUpToNext, IsAssignmentWith, IsBoundOf, IsCheap, IsUpToNextStart, classes_of}
use Rattle.pw_book.specs.inner.Added.{AreEnoughFor, ChangesOneKey, CostsAtMost, IsEnoughFor, TakesAtMost}
use Rattle.pw_book.specs.inner.Settling.{HavePoints}
use Rattle.pw_book.proofs.NewStarts.{points-more, starts-more}
use Rattle.pw_book.proofs.Putting.{starts-same}
use Rattle.pw_book.proofs.EachOne.{record-count, record-count_same}

-- ---- one entry more
reading-takes : (office : OfficeRules) (k : Key) (was c : ShelfContent) (starts old new : ℕ) → IsReading k → HasStartsOf was starts k → c.start ≡ was.start → TakesAtMost 7 office c k old new → new ≤ old + (13 + starts + 6 * classes_of office)
reading-takes office (key.Reading m r t) was c starts old new i h p x = let y = x starts (starts-same was c m.0 starts p h) in omega (arith, y)
reading-takes office (key.Assignment m t) was c starts old new i h p x = absurd i
reading-takes office (key.TopUp r) was c starts old new i h p x = absurd i
reading-takes office (key.Withdrawal n) was c starts old new i h p x = absurd i

top-up-takes : (office : OfficeRules) (k : Key) (c : ShelfContent) (old new : ℕ) → IsTopUp k → TakesAtMost 7 office c k old new → new ≤ old + 10
top-up-takes office (key.Reading m r t) c old new i x = absurd i
top-up-takes office (key.Assignment m t) c old new i x = absurd i
top-up-takes office (key.TopUp r) c old new i x = omega (arith, x)
top-up-takes office (key.Withdrawal n) c old new i x = absurd i

-- the points from an assignment's start up to the next, or all of them
have-up-to : (c : ShelfContent) (m t points : ℕ) (h : HasPoints (IsUpToNextStart c m t) c m points) → HavePoints c m t h.each
have-up-to c m t points h = λ r ps l. h.few r ps l.rising (λ a k. let x = (l.members a).0 k in ((x.0, x.1), x.2))

have-all : (c d : ShelfContent) (m t points : ℕ) (h : HasPoints (λ t. Unit {0}) c m points) → d.point ≡ c.point → HavePoints d m t h.each
have-all c d m t points h p = λ r ps l. h.few r ps l.rising (λ a k. let x = (l.members a).0 k in (tt, ap (λ (f : ℕ → Register → ℕ → Option ℕ). f m r a.0) (sym p) ∙ x.2))

assignment-takes : (office : OfficeRules) (k : Key) (c : ShelfContent) (starts points old new : ℕ) → IsAssignmentUpToNext c starts points k → TakesAtMost 7 office c k old new → new ≤ old + (39 + starts + points + 6 * classes_of office)
assignment-takes office (key.Reading m r t) c starts points old new i x = absurd i
assignment-takes office (key.Assignment m t) c starts points old new i x =
    let y = x starts i.1.each i.0 (have-up-to c m.0 t points i.1) in
    let z = i.1.all in
    omega (arith, y, z)
assignment-takes office (key.TopUp r) c starts points old new i x = absurd i
assignment-takes office (key.Withdrawal n) c starts points old new i x = absurd i

-- the meter of an assignment has so many starts
abbrev pub HasStartsFor : ShelfContent → ℕ → Key → Type 0
HasStartsFor c most (key.Assignment m t) = HasStarts c m.0 most
HasStartsFor c most _ = Unit {0}

assignment-takes-later : (office : OfficeRules) (k : Key) (was c : ShelfContent) (starts more points old new : ℕ) → IsAssignmentWith was starts points k → c.point ≡ was.point → HasStartsFor c more k → TakesAtMost 7 office c k old new →
    new ≤ old + (39 + more + points + 6 * classes_of office)
assignment-takes-later office (key.Reading m r t) was c starts more points old new i p h x = absurd i
assignment-takes-later office (key.Assignment m t) was c starts more points old new i p h x =
    let y = x more i.1.each h (have-all was c m.0 t points i.1 p) in
    let z = i.1.all in
    omega (arith, y, z)
assignment-takes-later office (key.TopUp r) was c starts more points old new i p h x = absurd i
assignment-takes-later office (key.Withdrawal n) was c starts more points old new i p h x = absurd i

-- as many starts, or one more
starts-kept : (c d : ShelfContent) (n most : ℕ) → d.start ≡ c.start → HasStarts c n most → HasStarts d n (most + 1)
starts-kept c d n most p h = λ starts l. let x = starts-same c d n most p h starts l in omega (arith, x)

starts-next : (k : Key) (c d : ShelfContent) (n most : ℕ) → ChangesOneKey k c d → HasStarts c n most → HasStarts d n (most + 1)
starts-next (key.Reading m r t) c d n most h s = starts-kept c d n most h.0 s
starts-next (key.Assignment m t) c d n most h s = starts-more (c.start n) (d.start n) t most (λ v q. h.1 n v (λ b. q b.1)) s
starts-next (key.TopUp r) c d n most h s = starts-kept c d n most h.1 s
starts-next (key.Withdrawal x) c d n most h s = starts-kept c d n most h.1 s

starts-later : (k l : Key) (c d : ShelfContent) (most : ℕ) → ChangesOneKey k c d → HasStartsFor c most l → HasStartsFor d (most + 1) l
starts-later k (key.Assignment m t) c d most h s = starts-next k c d m.0 most h s
starts-later k (key.Reading m r t) c d most h s = tt
starts-later k (key.TopUp r) c d most h s = tt
starts-later k (key.Withdrawal n) c d most h s = tt

is-assignment : (k : Key) (c : ShelfContent) (starts points : ℕ) → IsAssignmentWith c starts points k → IsAssignment k
is-assignment (key.Reading m r t) c starts points i = absurd i
is-assignment (key.Assignment m t) c starts points i = tt
is-assignment (key.TopUp r) c starts points i = absurd i
is-assignment (key.Withdrawal n) c starts points i = absurd i

starts-at-first : (k : Key) (c : ShelfContent) (starts points : ℕ) → IsAssignmentWith c starts points k → HasStartsFor c starts k
starts-at-first (key.Reading m r t) c starts points i = absurd i
starts-at-first (key.Assignment m t) c starts points i = i.0
starts-at-first (key.TopUp r) c starts points i = absurd i
starts-at-first (key.Withdrawal n) c starts points i = absurd i

-- what holds of the points and starts behind so many assignments of an upload
pub record IsBehind (entries : List Entry) (i : ℕ) (was c : ShelfContent) (starts : ℕ) : Type 0 where
  pub points : c.point ≡ was.point
  pub starts_are : (f : Entry) → Member f entries → HasStartsFor c (starts + i) (bears_on f)

pub behind-none : (entries : List Entry) (was c : ShelfContent) (starts points : ℕ) → c ≡ was → AreAssignmentsWith was starts points entries → IsBehind entries 0 was c starts
behind-none entries was c starts points q a = record {
  points = ap (λ (x : ShelfContent). x.point) q;
  starts_are = λ f m.
      let h = starts-at-first (bears_on f) was starts points (a f m) in
      let z : starts + 0 ≡ starts = omega arith in
      let P : ShelfContent → Type 0 = λ x. HasStartsFor x starts (bears_on f) in
      rw z (subst P (sym q) h);
}

pub behind-next : (entries : List Entry) (e : Entry) (i : ℕ) (was c d : ShelfContent) (starts points : ℕ) → Member e entries → AreAssignmentsWith was starts points entries → IsBehind entries i was c starts → ChangesOneKey (bears_on e) c d →
    IsBehind entries (i + 1) was d starts
behind-next entries e i was c d starts points m a b h =
    let k = is-assignment (bears_on e) was starts points (a e m) in
    record {
      points = points-kept (bears_on e) c d k h ∙ b.points;
      starts_are = λ f n.
          let z : starts + (i + 1) ≡ starts + i + 1 = omega arith in
          let s = starts-later (bears_on e) (bears_on f) c d (starts + i) h (b.starts_are f n) in
          rw z s;
    }
  where
    points-kept : (k : Key) (c d : ShelfContent) → IsAssignment k → ChangesOneKey k c d → d.point ≡ c.point
    points-kept (key.Reading m r t) c d a h = absurd a
    points-kept (key.Assignment m t) c d a h = h.0
    points-kept (key.TopUp r) c d a h = absurd a
    points-kept (key.Withdrawal n) c d a h = absurd a

pub assignments-next : (office : OfficeRules) (entries : List Entry) (e : Entry) (i : ℕ) (was c : ShelfContent) (starts points first old new : ℕ) → i < length entries → Member e entries → AreAssignmentsWith was starts points entries →
    IsBehind entries i was c starts → old ≤ first + i * (39 + (starts + length entries) + points + 6 * classes_of office) → TakesAtMost 7 office c (bears_on e) old new →
    new ≤ first + (i + 1) * (39 + (starts + length entries) + points + 6 * classes_of office)
assignments-next office entries e i was c starts points first old new j m a b l t =
    let x = assignment-takes-later office (bears_on e) was c starts (starts + i) points old new (a e m) b.points (b.starts_are e m) t in
    omega (arith, l, x, j)

pub readings-next : (office : OfficeRules) (entries : List Entry) (e : Entry) (i : ℕ) (was c : ShelfContent) (starts first old new : ℕ) → Member e entries → AreReadingsWith was starts entries → c.start ≡ was.start →
    old ≤ first + i * (13 + starts + 6 * classes_of office) → TakesAtMost 7 office c (bears_on e) old new → new ≤ first + (i + 1) * (13 + starts + 6 * classes_of office)
readings-next office entries e i was c starts first old new m a p l t =
    let r = a e m in
    let x = reading-takes office (bears_on e) was c starts old new r.0 r.1 p t in
    omega (arith, l, x)

pub top-ups-next : (office : OfficeRules) (entries : List Entry) (e : Entry) (i : ℕ) (c : ShelfContent) (first old new : ℕ) → Member e entries → AreTopUps entries →
    old ≤ first + i * 10 → TakesAtMost 7 office c (bears_on e) old new → new ≤ first + (i + 1) * 10
top-ups-next office entries e i c first old new m a l t =
    let x = top-up-takes office (bears_on e) c old new (a e m) t in
    omega (arith, l, x)

-- the one assignment of an upload
pub only-next : (office : OfficeRules) (entries : List Entry) (e f : Entry) (i : ℕ) (was c : ShelfContent) (starts points first old new : ℕ) → entries ≡ f ∷ [] → i < length entries → Member e entries → IsAssignmentUpToNext was starts points (bears_on f) →
    (i ≡ 0 → (c ≡ was) × (old ≡ first)) → TakesAtMost 7 office c (bears_on e) old new → new ≤ first + (39 + starts + points + 6 * classes_of office)
only-next office entries e f i was c starts points first old new q l m a z t =
    let n : length entries ≡ 1 = ap (λ (xs : List Entry). length xs) q in
    let z = z (omega (arith, n, l)) in
    let P : List Entry → Type 0 = λ xs. Member e xs in
    let same : e ≡ f = elim (subst P q m) [ inl k ↦ k | inr k ↦ absurd k ] in
    let Q : Entry → Type 0 = λ x. IsAssignmentUpToNext was starts points (bears_on x) in
    let R : ShelfContent → Type 0 = λ x. TakesAtMost 7 office x (bears_on e) old new in
    let x = assignment-takes office (bears_on e) was starts points old new (subst Q (sym same) a) (subst R z.0 t) in
    let w = z.1 in
    omega (arith, x, w)

-- ---- entries of any kinds
enough-takes : (office : OfficeRules) (k : Key) (c : ShelfContent) (more most old new : ℕ) → IsEnoughFor office c more most k → TakesAtMost 7 office c k old new → new ≤ old + most
enough-takes office (key.Reading m r t) c more most old new h x = let y = x h.0 h.1 in let b = h.2 in omega (arith, y, b)
enough-takes office (key.Assignment m t) c more most old new h x =
    let y = x h.0 h.3.each h.2 (have-all c c m.0 t h.1 h.3 refl) in
    let z = h.3.all in
    let b = h.4 in
    omega (arith, y, z, b)
enough-takes office (key.TopUp r) c more most old new h x = omega (arith, h, x)
enough-takes office (key.Withdrawal n) c more most old new h x = omega (arith, h, x)

-- one for the register itself
abbrev at_register : Register → Register → ℕ
at_register q r = cond (register_place q == register_place r) 1 0

one-register : (q : Register) (f : Register → ℕ) (most : ℕ) → over_registers Import f + over_registers Export f ≤ most →
    over_registers Import (λ r. f r + at_register q r) + over_registers Export (λ r. f r + at_register q r) ≤ most + 1
one-register I0 f most h = omega (arith, h)
one-register I1 f most h = omega (arith, h)
one-register I2 f most h = omega (arith, h)
one-register E0 f most h = omega (arith, h)
one-register E1 f most h = omega (arith, h)
one-register E2 f most h = omega (arith, h)

register-more : (q r : Register) (z most : ℕ) (told other : ℕ → Option ℕ) → ((t : ℕ) → ((r ≡ q) × (t ≡ z) → ⊥) → other t ≡ told t) → HasPointsAt (λ t. Unit {0}) told most → HasPointsAt (λ t. Unit {0}) other (most + at_register q r)
register-more q r z most told other same few = λ points rises held. elim (cases_eq (register_place q) (register_place r)) [
  | inl e ↦ (
      let one : at_register q r ≡ 1 = ap (λ b. cond b 1 0) (eq-eqb (register_place q) (register_place r) e) in
      let l = points-more told other z most (λ t d. same t (λ b. d b.1)) few points rises held in
      omega (arith, l, one))
  | inr d ↦ (
      let none : at_register q r ≡ 0 = ap (λ b. cond b 1 0) (ne_eqb (register_place q) (register_place r) d) in
      let l = few points rises (λ a m. (tt, sym (same a.0 (λ b. d (ap register_place (sym b.0)))) ∙ (held a m).1)) in
      omega (arith, l, none))
]

-- as many points, or one more
points-kept : (c d : ShelfContent) (n most : ℕ) → d.point ≡ c.point → HasPoints (λ t. Unit {0}) c n most → HasPoints (λ t. Unit {0}) d n (most + 1)
points-kept c d n most p h = record {
  each = h.each;
  few = λ r. subst (λ (f : ℕ → Register → ℕ → Option ℕ). HasPointsAt (λ t. Unit {0}) (f n r) (h.each r)) (sym p) (h.few r);
  all = let x = h.all in omega (arith, x);
}

points-next : (k : Key) (c d : ShelfContent) (n most : ℕ) → ChangesOneKey k c d → HasPoints (λ t. Unit {0}) c n most → HasPoints (λ t. Unit {0}) d n (most + 1)
points-next (key.Reading m q z) c d n most h p = record {
  each = λ r. p.each r + at_register q r;
  few = λ r. register-more q r z (p.each r) (c.point n r) (d.point n r) (λ t x. h.1 n r t (λ b. x (b.1, b.2))) (p.few r);
  all = one-register q p.each most p.all;
}
points-next (key.Assignment m t) c d n most h p = points-kept c d n most h.0 p
points-next (key.TopUp r) c d n most h p = points-kept c d n most h.0 p
points-next (key.Withdrawal x) c d n most h p = points-kept c d n most h.0 p

-- behind an entry a meter may get fewer more by one
enough-later : (office : OfficeRules) (k l : Key) (c d : ShelfContent) (more most : ℕ) → ChangesOneKey k c d → IsEnoughFor office c (more + 1) most l → IsEnoughFor office d more most l
enough-later office k (key.Reading m r t) c d more most h s = (s.0 + 1, starts-next k c d m.0 s.0 h s.1, let b = s.2 in omega (arith, b))
enough-later office k (key.Assignment m t) c d more most h s =
    (s.0 + 1, s.1 + 1, starts-next k c d m.0 s.0 h s.2, points-next k c d m.0 s.1 h s.3, let b = s.4 in omega (arith, b))
enough-later office k (key.TopUp r) c d more most h s = s
enough-later office k (key.Withdrawal n) c d more most h s = s

-- what is enough for all entries is so for those that are left
pub enough-none : (office : OfficeRules) (entries : List Entry) (was c : ShelfContent) (most rest : ℕ) → c ≡ was → 0 + rest ≡ length entries → AreEnoughFor office was (length entries) most entries → AreEnoughFor office c rest most entries
enough-none office entries was c most rest q n a =
    let m : rest ≡ length entries = omega (arith, n) in
    let P : ShelfContent → Type 0 = λ d. AreEnoughFor office d (length entries) most entries in
    rw m (subst P (sym q) a)

pub enough-next : (office : OfficeRules) (entries : List Entry) (e : Entry) (i : ℕ) (c d : ShelfContent) (most rest : ℕ) → ((left : ℕ) → i + left ≡ length entries → AreEnoughFor office c left most entries) → ChangesOneKey (bears_on e) c d →
    i + 1 + rest ≡ length entries → AreEnoughFor office d rest most entries
enough-next office entries e i c d most rest a h n = λ f m. enough-later office (bears_on e) (bears_on f) c d rest most h (a (rest + 1) (omega (arith, n)) f m)

pub several-next : (office : OfficeRules) (entries : List Entry) (e : Entry) (i : ℕ) (c : ShelfContent) (most first old new : ℕ) → i < length entries → Member e entries → ((left : ℕ) → i + left ≡ length entries → AreEnoughFor office c left most entries) →
    old ≤ first + i * most → TakesAtMost 7 office c (bears_on e) old new → new ≤ first + (i + 1) * most
several-next office entries e i c most first old new j m a l t =
    let x = enough-takes office (bears_on e) c (length entries - i) most old new (a (length entries - i) (omega (arith, j)) e m) t in
    omega (arith, l, x)

-- ---- as far as an upload came
within : (i n a : ℕ) → i ≤ n → i * a ≤ n * a
within i n a l = mul-le-mul_right a l

pub costs-so-far : (office : OfficeRules) (entries : List Entry) (i : ℕ) (was : ShelfContent) (first now last : ℕ) → i ≤ length entries →
    ((starts : ℕ) → AreReadingsWith was starts entries → now ≤ first + i * (13 + starts + 6 * classes_of office)) →
    ((e : Entry) (starts points : ℕ) → entries ≡ e ∷ [] → IsAssignmentUpToNext was starts points (bears_on e) → now ≤ first + i * (39 + starts + points + 6 * classes_of office)) →
    ((starts points : ℕ) → AreAssignmentsWith was starts points entries → now ≤ first + i * (39 + (starts + length entries) + points + 6 * classes_of office)) →
    ((most : ℕ) → AreEnoughFor office was (length entries) most entries → now ≤ first + i * most) →
    (AreTopUps entries → now ≤ first + i * 10) → last ≤ now + 1 →
    CostsAtMost 1 office entries was first last
costs-so-far office entries i was first now last l r one assigned several t h = record {
  assignment = λ e starts points q a.
      let x = one e starts points q a in
      let n : length entries ≡ 1 = ap (λ (xs : List Entry). length xs) q in
      let y = within i (length entries) (39 + starts + points + 6 * classes_of office) l in
      let z : length entries * (39 + starts + points + 6 * classes_of office) ≡ 39 + starts + points + 6 * classes_of office = rw n (omega arith) in
      omega (arith, x, y, z, h);
  assignments = λ starts points a. let x = assigned starts points a in let y = within i (length entries) (39 + (starts + length entries) + points + 6 * classes_of office) l in omega (arith, x, y, h);
  several = λ most a. let x = several most a in let y = within i (length entries) most l in omega (arith, x, y, h);
  readings = λ starts a. let x = r starts a in let y = within i (length entries) (13 + starts + 6 * classes_of office) l in omega (arith, x, y, h);
  top_ups = λ a. let x = t a in omega (arith, x, l, h);
  nothing = λ e.
      let n : i ≡ 0 = (let z : length entries ≡ 0 = ap (λ (xs : List Entry). length xs) e in omega (arith, l, z)) in
      let x = t (λ f m. absurd (let P : List Entry → Type 0 = λ xs. Member f xs in subst P e m)) in
      omega (arith, x, n, h);
}

-- one that failed on its way
pub costs-next : (office : OfficeRules) (entries : List Entry) (e : Entry) (i : ℕ) (was c : ShelfContent) (first now last : ℕ) → i < length entries → Member e entries →
    ((starts : ℕ) → AreReadingsWith was starts entries → c.start ≡ was.start) →
    ((starts : ℕ) → AreReadingsWith was starts entries → now ≤ first + i * (13 + starts + 6 * classes_of office)) →
    (i ≡ 0 → (c ≡ was) × (now ≡ first)) →
    ((starts points : ℕ) → AreAssignmentsWith was starts points entries → IsBehind entries i was c starts) →
    ((starts points : ℕ) → AreAssignmentsWith was starts points entries → now ≤ first + i * (39 + (starts + length entries) + points + 6 * classes_of office)) →
    ((most : ℕ) → AreEnoughFor office was (length entries) most entries → (left : ℕ) → i + left ≡ length entries → AreEnoughFor office c left most entries) →
    ((most : ℕ) → AreEnoughFor office was (length entries) most entries → now ≤ first + i * most) →
    (AreTopUps entries → now ≤ first + i * 10) → TakesAtMost 7 office c (bears_on e) now last →
    CostsAtMost 1 office entries was first last
costs-next office entries e i was c first now last l m p r z b assigned enough several t h = record {
  assignment = λ f starts points q a.
      let x = only-next office entries e f i was c starts points first now last q l m a z h in
      omega (arith, x);
  assignments = λ starts points a.
      let x = assignments-next office entries e i was c starts points first now last l m a (b starts points a) (assigned starts points a) h in
      let y = within (i + 1) (length entries) (39 + (starts + length entries) + points + 6 * classes_of office) (omega (arith, l)) in
      omega (arith, x, y);
  several = λ most a.
      let x = several-next office entries e i c most first now last l m (enough most a) (several most a) h in
      let y = within (i + 1) (length entries) most (omega (arith, l)) in
      omega (arith, x, y);
  readings = λ starts a.
      let x = readings-next office entries e i was c starts first now last m a (p starts a) (r starts a) h in
      let y = within (i + 1) (length entries) (13 + starts + 6 * classes_of office) (omega (arith, l)) in
      omega (arith, x, y);
  top_ups = λ a. let x = top-ups-next office entries e i c first now last m a (t a) h in omega (arith, x, l);
  nothing = λ q. (let z : length entries ≡ 0 = ap (λ (xs : List Entry). length xs) q in absurd (omega (arith, l, z)));
}

-- fewer cost no more
pub costs-less : (office : OfficeRules) (entries : List Entry) (was : ShelfContent) (first now last : ℕ) → now ≤ last → CostsAtMost 1 office entries was first last → CostsAtMost 1 office entries was first now
costs-less office entries was first now last l t = record {
  readings = λ starts a. let x = t.readings starts a in omega (arith, x, l);
  assignment = λ e starts points q a. let x = t.assignment e starts points q a in omega (arith, x, l);
  assignments = λ starts points a. let x = t.assignments starts points a in omega (arith, x, l);
  several = λ most a. let x = t.several most a in omega (arith, x, l);
  top_ups = λ a. let x = t.top_ups a in omega (arith, x, l);
  nothing = λ e. let x = t.nothing e in omega (arith, x, l);
}

-- begun before, and taken back behind
pub costs-more : (office : OfficeRules) (entries : List Entry) (c d : ShelfContent) (old mid now new : ℕ) → d ≡ c → mid ≡ old + 1 → CostsAtMost 1 office entries d mid now → new ≤ now + 1 → CostsAtMost 3 office entries c old new
costs-more office entries c d old mid now new q b t h = record {
  readings = λ starts a.
      let P : ShelfContent → Type 0 = λ x. AreReadingsWith x starts entries in
      let x = t.readings starts (subst P (sym q) a) in
      omega (arith, x, b, h);
  assignment = λ e starts points k a.
      let P : ShelfContent → Type 0 = λ x. IsAssignmentUpToNext x starts points (bears_on e) in
      let x = t.assignment e starts points k (subst P (sym q) a) in
      omega (arith, x, b, h);
  assignments = λ starts points a.
      let P : ShelfContent → Type 0 = λ x. AreAssignmentsWith x starts points entries in
      let x = t.assignments starts points (subst P (sym q) a) in
      omega (arith, x, b, h);
  several = λ most a.
      let P : ShelfContent → Type 0 = λ x. AreEnoughFor office x (length entries) most entries in
      let x = t.several most (subst P (sym q) a) in
      omega (arith, x, b, h);
  top_ups = λ a. let x = t.top_ups a in omega (arith, x, b, h);
  nothing = λ e. let x = t.nothing e in omega (arith, x, b, h);
}

-- ---- an upload
products : (n f s c : ℕ) → 1 ≤ n → f ≤ n → 1 + n + 3 + f * (13 + s + 6 * c) ≤ n * (24 + 4 * (s + 1) + 6 * c)
products n f s c l k =
    let x : 18 + s + 6 * c ≤ 24 + 4 * (s + 1) + 6 * c = omega arith in
    let y = mul-le-mul_left n x in
    let z = mul-le-mul_right (13 + s + 6 * c) k in
    omega (arith, y, z, l)

products-of-assignments : (n f s p c : ℕ) → 1 ≤ n → f ≤ n → 1 + n + 3 + f * (39 + (s + f) + p + 6 * c) ≤ n * (56 + 4 * (s + n + 1) + 2 * p + 12 * c)
products-of-assignments n f s p c l k =
    let w : 39 + (s + f) + p + 6 * c ≤ 39 + (s + n) + p + 6 * c = omega (arith, k) in
    let x : 44 + (s + n) + p + 6 * c ≤ 56 + 4 * (s + n + 1) + 2 * p + 12 * c = omega arith in
    let y = mul-le-mul_left n x in
    let z = mul-le-mul k w in
    omega (arith, y, z, l)

products-of-several : (n f most : ℕ) → 1 ≤ n → f ≤ n → 24 ≤ most → 1 + n + 3 + f * (most - 5) ≤ n * most
products-of-several n f most l k b =
    let x : most - 5 + 5 ≤ most = omega (arith, b) in
    let y = mul-le-mul_left n x in
    let z = mul-le-mul_right (most - 5) k in
    omega (arith, y, z, l)

-- the distinct entries of an upload of one entry
one-distinct : (e : Entry) (entries distinct : List Entry) → EachOnce distinct → SameMembers distinct entries → SameMembers entries (e ∷ []) → distinct ≡ e ∷ []
one-distinct e entries distinct o m a =
    alone distinct o ((m e).1 ((a e).1 (inl refl))) (λ f k. elim ((a f).0 ((m f).0 k)) [ inl q ↦ q | inr b ↦ absurd b ])
  where
    alone : (xs : List Entry) → EachOnce xs → Member e xs → ((f : Entry) → Member f xs → f ≡ e) → xs ≡ e ∷ []
    alone [] o m a = absurd m
    alone (x ∷ []) o m a = ap (λ y. y ∷ []) (a x (inl refl))
    alone (x ∷ y ∷ ys) o m a = absurd (o.0 (inl (a x (inl refl) ∙ sym (a y (inr (inl refl))))))

none-distinct : (entries distinct : List Entry) → SameMembers distinct entries → entries ≡ [] → length distinct ≡ 0
none-distinct entries [] m e = refl
none-distinct entries (x ∷ xs) m e = absurd (let P : List Entry → Type 0 = λ ys. Member x ys in subst P e ((m x).0 (inl refl)))

-- an upload's distinct entries, and those of them that are fresh
pub record AreFreshOf (entries distinct fresh : List Entry) : Type 0 where
  pub once : EachOnce distinct
  pub members : SameMembers distinct entries
  pub few : length fresh ≤ length distinct
  pub part : (e : Entry) → Member e fresh → Member e distinct

same-count : (entries distinct : List Entry) → EachOnce distinct → SameMembers distinct entries → record_count entries ≡ length distinct
same-count entries distinct o m = sym (record-count_same distinct entries m) ∙ record-count distinct o

-- the bound of a record is enough for an entry, and for its share of what is done beside
bound-enough : (office : OfficeRules) (k : Key) (c : ShelfContent) (count more most : ℕ) → more ≤ count → IsBoundOf office c count most k → IsEnoughFor office c more (most - 5) k
bound-enough office (key.Reading m r t) c count more most l h = (h.0, h.1, let b = h.2 in omega (arith, b, l))
bound-enough office (key.Assignment m t) c count more most l h = (h.0, h.1, h.2, h.3, let b = h.4 in omega (arith, b, l))
bound-enough office (key.TopUp r) c count more most l h = omega (arith, h)
bound-enough office (key.Withdrawal n) c count more most l h = omega (arith, h)

bound-least : (office : OfficeRules) (k : Key) (c : ShelfContent) (count most : ℕ) → IsBoundOf office c count most k → 24 ≤ most
bound-least office (key.Reading m r t) c count most h = let b = h.2 in omega (arith, b)
bound-least office (key.Assignment m t) c count most h = let b = h.4 in omega (arith, b)
bound-least office (key.TopUp r) c count most h = h
bound-least office (key.Withdrawal n) c count most h = h

bounds-least : (office : OfficeRules) (entries distinct : List Entry) (c : ShelfContent) (most : ℕ) → EachOnce distinct → SameMembers distinct entries → 1 ≤ record_count entries → AreBoundsOf office c most entries → 24 ≤ most
bounds-least office entries [] c most o m l a = let n = same-count entries [] o m in absurd (omega (arith, n, l))
bounds-least office entries (x ∷ xs) c most o m l a = bound-least office (bears_on x) c (record_count entries) most (a x ((m x).0 (inl refl)))

-- weighed, and not written
pub cheap-so-far : (office : OfficeRules) (entries distinct : List Entry) (c : ShelfContent) (old new : ℕ) → EachOnce distinct → SameMembers distinct entries → new ≤ old + 1 + length distinct → IsCheap office entries c old new
cheap-so-far office entries distinct c old new o m h =
    let n = same-count entries distinct o m in
    record {
      readings = λ starts l a. let p = products (record_count entries) 0 starts (classes_of office) l (omega arith) in omega (arith, h, n, p);
      assignment = λ e starts points a i.
          let k : length distinct ≡ 1 = ap (λ (xs : List Entry). length xs) (one-distinct e entries distinct o m a) in
          omega (arith, h, k);
      assignments = λ starts points l a. let p = products-of-assignments (record_count entries) 0 starts points (classes_of office) l (omega arith) in omega (arith, h, n, p);
      several = λ most l a.
          let b = bounds-least office entries distinct c most o m l a in
          let p = products-of-several (record_count entries) 0 most l (omega arith) b in
          omega (arith, h, n, p);
      top_ups = λ l a. omega (arith, h, n, l);
      nothing = λ e. let z = none-distinct entries distinct m e in omega (arith, h, z);
    }

-- weighed and written
pub cheap-whole : (office : OfficeRules) (entries distinct fresh : List Entry) (c d : ShelfContent) (old mid new : ℕ) → AreFreshOf entries distinct fresh → d ≡ c → mid ≤ old + 1 + length distinct → CostsAtMost 3 office fresh d mid new →
    IsCheap office entries c old new
cheap-whole office entries distinct fresh c d old mid new f q h t =
    let n = same-count entries distinct f.once f.members in
    let few : length fresh ≤ record_count entries = (let k = f.few in omega (arith, n, k)) in
    let there : (e : Entry) → Member e fresh → Member e entries = λ e k. (f.members e).0 (f.part e k) in
    record {
      readings = λ starts l a.
          let p = products (record_count entries) (length fresh) starts (classes_of office) l few in
          let P : ShelfContent → Type 0 = λ x. AreReadingsWith x starts fresh in
          let x = t.readings starts (subst P (sym q) (λ e k. a e (there e k))) in
          omega (arith, h, n, p, x);
      assignment = λ e starts points a i.
          let k : length distinct ≡ 1 = ap (λ (xs : List Entry). length xs) (one-distinct e entries distinct f.once f.members a) in
          let P : ShelfContent → Type 0 = λ x. IsAssignmentUpToNext x starts points (bears_on e) in
          let x : new ≤ mid + 3 + (39 + starts + points + 6 * classes_of office) = elim (one-fresh e fresh (let l = f.few in omega (arith, k, l)) (λ g m. elim ((a g).0 (there g m)) [ inl i ↦ i | inr b ↦ absurd b ])) [
            | inl none ↦ (let y = t.nothing none in omega (arith, y))
            | inr one ↦ t.assignment e starts points one (subst P (sym q) i)
          ] in
          omega (arith, h, k, x);
      assignments = λ starts points l a.
          let p = products-of-assignments (record_count entries) (length fresh) starts points (classes_of office) l few in
          let P : ShelfContent → Type 0 = λ x. AreAssignmentsWith x starts points fresh in
          let x = t.assignments starts points (subst P (sym q) (λ e k. a e (there e k))) in
          omega (arith, h, n, p, x);
      several = λ most l a.
          let b = bounds-least office entries distinct c most f.once f.members l a in
          let p = products-of-several (record_count entries) (length fresh) most l few b in
          let P : ShelfContent → Type 0 = λ x. AreEnoughFor office x (length fresh) (most - 5) fresh in
          let x = t.several (most - 5) (subst P (sym q) (λ e k. bound-enough office (bears_on e) c (record_count entries) (length fresh) most few (a e (there e k)))) in
          omega (arith, h, n, p, x);
      top_ups = λ l a. let x = t.top_ups (λ e k. a e (there e k)) in omega (arith, h, n, l, x, few);
      nothing = λ e.
          let z = none-distinct entries distinct f.members e in
          let x = t.nothing (none-fresh fresh (let l = f.few in omega (arith, z, l))) in
          omega (arith, h, x, z);
    }
  where
    none-fresh : (fresh : List Entry) → length fresh ≤ 0 → fresh ≡ []
    none-fresh [] l = refl
    none-fresh (x ∷ xs) l = absurd (omega (arith, l))

    one-fresh : (e : Entry) (fresh : List Entry) → length fresh ≤ 1 → ((g : Entry) → Member g fresh → g ≡ e) → (fresh ≡ []) ⊎ (fresh ≡ e ∷ [])
    one-fresh e [] l a = inl refl
    one-fresh e (x ∷ []) l a = inr (ap (λ y. y ∷ []) (a x (inl refl)))
    one-fresh e (x ∷ y ∷ ys) l a = absurd (omega (arith, l))

-- ---- a list as it was lent
pub lent-tally : {xs ys : List Entry} (old new : ℕ) → ys ≡ xs → new ≤ old + 1 + length ys → new ≤ old + 1 + length xs
lent-tally {xs} {ys} old new e h = let n : length ys ≡ length xs = ap (λ (zs : List Entry). length zs) e in omega (arith, n, h)

pub fresh-lent : {entries distinct fresh lent gone : List Entry} → lent ≡ distinct → gone ≡ fresh → EachOnce distinct → SameMembers distinct entries → length fresh ≤ length lent → ((e : Entry) → Member e fresh → Member e lent) → AreFreshOf entries distinct gone
fresh-lent {entries} {distinct} {fresh} {lent} {gone} d g o m f p = record {
  once = o;
  members = m;
  few = (let x : length lent ≡ length distinct = ap (λ (l : List Entry). length l) d in let y : length gone ≡ length fresh = ap (λ (l : List Entry). length l) g in omega (arith, x, y, f));
  part = λ e k. (
      let P : List Entry → Type 0 = λ l. Member e l in
      subst P d (p e (subst P g k)));
}
