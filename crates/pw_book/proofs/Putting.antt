-- An entry that is added to a true content.
use Rattle.std.proofs.Common.{◌≡◌, ℕ, ◌+◌, ◌<◌, ◌≤◌, Option, cond, List, [], ◌∷◌, ◌++◌, length, ap, sym, subst, ◌∙◌, arith, inl, inr}
use Rattle.std.specs.BTreeMap.{BTreeMap}
use Rattle.std.proofs.lemmas.Bool.{cases_Bool}
use Rattle.pw_obis.specs.declared.reference.Register.{Register}
use Rattle.pw_tariff.specs.declared.ids.AccountId.{AccountId}
use Rattle.pw_tariff.specs.declared.ids.MeterId.{MeterId}
use Rattle.pw_tariff.specs.Office.{OfficeRules}
use Rattle.pw_model.specs.declared.records.Key.{Key}
use Rattle.pw_model.specs.declared.records.Key.TheVariants as key
use Rattle.pw_model.specs.declared.records.Named.TheVariants as named
use Rattle.pw_model.specs.declared.records.Content.{Content}
use Rattle.pw_model.specs.declared.records.Content.TheVariants as content
use Rattle.pw_model.specs.declared.records.Contents.{Contents}
use Rattle.pw_model.specs.declared.records.Entry.{Entry}
use Rattle.pw_model.specs.Bearing.{ChangesWhereItBears, bears_on, named_key}
use Rattle.pw_model.specs.Counting.{IsInserted, SameMembers, assignment_key, contents_at, owner_of, reading_key, wh_of}
use Rattle.pw_model.specs.Office.{AllOfOffice, IsOf, IsOfOffice, most_records}
use Rattle.pw_model.specs.Payments.{cents_for}
use Rattle.pw_model.specs.Same.{same_key}
use Rattle.pw_model.specs.Shelf.{ShelfContent}
use Rattle.pw_model.specs.declared.records.TotalKey.{TotalKey}
use Rattle.pw_parts.specs.declared.changes.Change.{Change}
use Rattle.pw_model.proofs.Bearing.{one-more_bearing}
use Rattle.pw_model.proofs.Counting.{inserted-same}
use Rattle.pw_model.proofs.Same.{same_key-decides}
use Rattle.pw_shelf.specs.Changes.{points_with, starts_with}
use Rattle.pw_shelf.specs.State.{IsWithRecord}
use Rattle.pw_book.specs.Cost.{HasStarts}
use Rattle.pw_book.specs.inner.Added.{ChangesOneKey, IsJustChanged, IsKeyOf, IsPut, TakesAtMost}
use Rattle.pw_book.specs.inner.Gathered.{IsTrueBut}
use Rattle.pw_book.specs.inner.Settling.{HavePoints}
use Rattle.pw_model.proofs.Places.{member-left, member-right, member-split}

inserted-length : (s t : List Entry) (e : Entry) → IsInserted e s t → length t ≡ length s + 1
inserted-length s t e h =
    let xs = h.0 in let ys = h.1 in
    ap (λ (l : List Entry). length l) h.3 ∙ more xs ys e ∙ ap (λ (l : List Entry). length l + 1) (sym h.2)
  where
    more : (xs ys : List Entry) (e : Entry) → length (xs ++ e ∷ ys) ≡ length (xs ++ ys) + 1
    more [] ys e = omega arith
    more (x ∷ xs) ys e = let r = more xs ys e in omega (arith, r)

-- the key that an entry of the office bears on
pub key-of : (office : OfficeRules) (k : Key) (c : Content) → IsOf office k c → IsKeyOf office (named_key k)
key-of office (key.Reading m r t) (content.Reading w) h = (h.0, h.1)
key-of office (key.Assignment m t) (content.Assignment o) h = h.0
key-of office (key.TopUp r) (content.TopUp a c t) h = tt
key-of office (key.Withdrawal (named.Reading m r t w)) content.Withdrawal h = (h.0, h.1)
key-of office (key.Withdrawal (named.Assignment m t o)) content.Withdrawal h = h.0
key-of office (key.Withdrawal (named.TopUp r a c t)) content.Withdrawal h = tt
key-of office (key.Reading m r t) (content.Assignment o) h = absurd h
key-of office (key.Reading m r t) (content.TopUp a c u) h = absurd h
key-of office (key.Assignment m t) (content.Reading w) h = absurd h
key-of office (key.Assignment m t) (content.TopUp a c u) h = absurd h
key-of office (key.TopUp r) (content.Reading w) h = absurd h
key-of office (key.TopUp r) (content.Assignment o) h = absurd h
key-of office (key.Reading m r t) content.Withdrawal h = absurd h
key-of office (key.Assignment m t) content.Withdrawal h = absurd h
key-of office (key.TopUp r) content.Withdrawal h = absurd h
key-of office (key.Withdrawal n) (content.Reading w) h = absurd h
key-of office (key.Withdrawal n) (content.Assignment o) h = absurd h
key-of office (key.Withdrawal n) (content.TopUp a c u) h = absurd h

-- an entry more changes what is told at the key that it bears on; at its own key, where that is another, nothing counts
-- towards points, starts and totals
pub just-changed : (office : OfficeRules) (e : Entry) (before behind : Contents) (old two mid new : ShelfContent) → two ≡ old → IsWithRecord two e mid → new ≡ mid → before ≡ contents_at old.records (bears_on e) → behind ≡ contents_at mid.records (bears_on e) →
    IsOfOffice office e → AllOfOffice office old.records → length old.records < most_records → IsJustChanged office old.records (bears_on e) before behind new.records
just-changed office e before behind old two mid new q w z b h o a l =
    let P : ShelfContent → Type 0 = λ c. IsWithRecord c e mid in
    let v : IsWithRecord old e mid = subst P q w in
    let m : SameMembers mid.records (e ∷ old.records) = inserted-same old.records mid.records e v.records in
    let changed : ChangesWhereItBears old.records mid.records e = one-more_bearing old.records mid.records e v.records in
    let J : ShelfContent → Type 0 = λ c. IsJustChanged office old.records (bears_on e) before behind c.records in
    let Q : Entry → Type 0 = λ x. IsOfOffice office x in
    let all : AllOfOffice office mid.records = λ x i. elim ((m x).0 i) [ inl y ↦ subst Q (sym y) o | inr k ↦ a x k ] in
    subst J (sym z) (record {
      was = b;
      is = h;
      alike = λ x y p r. changed.alike (bears_on e) x y (sym b ∙ p) (sym h ∙ r);
      points = λ m r t d. ap wh_of (sym (changed.elsewhere (reading_key m r t) (λ i. d (ap named_key i)) d));
      starts = λ m t d. ap owner_of (sym (changed.elsewhere (assignment_key m t) (λ i. d (ap named_key i)) d));
      paid = λ c.
          let p = changed.paid office all c in
          let x = ap (cents_for c) b in
          let y = ap (cents_for c) h in
          omega (arith, p, x, y);
      small = a;
      fewer = omega (arith, l);
      of_office = all;
      few = let f = inserted-length old.records mid.records e v.records in omega (arith, f, l);
    })

-- points, starts and totals are still those of the records before it
pub still-true : (office : OfficeRules) (rows : BTreeMap TotalKey Change) (e : Entry) (old two mid new : ShelfContent) → two ≡ old → IsWithRecord two e mid → new ≡ mid → IsTrueBut office rows old.records old → IsTrueBut office rows old.records new
still-true office rows e old two mid new q w z t =
    let P : ShelfContent → Type 0 = λ c. IsWithRecord c e mid in
    let v : IsWithRecord old e mid = subst P q w in
    let B : ShelfContent → Type 0 = λ c. IsTrueBut office rows old.records c in
    let same : (k : TotalKey) → mid.total k ≡ old.total k = λ k. ap (λ (f : TotalKey → ℕ). f k) v.total in
    subst B (sym z) (record {
      points = v.point ∙ t.points;
      starts = v.start ∙ t.starts;
      energies = λ k i. (let x = same k in let y = t.energies k i in omega (arith, x, y));
      others = λ k n. same k ∙ t.others k n;
    })

pub put-added : (office : OfficeRules) (rows : BTreeMap TotalKey Change) (e : Entry) (old two mid three new : ShelfContent) → two ≡ old → IsWithRecord two e mid → three ≡ mid → new.records ≡ three.records → IsTrueBut office rows new.records new →
    IsPut office rows (e ∷ []) old new
put-added office rows e old two mid three new q w z r t =
    let W : ShelfContent → Type 0 = λ c. IsWithRecord c e mid in
    let v : IsWithRecord old e mid = subst W q w in
    let m : SameMembers mid.records (e ∷ old.records) = inserted-same old.records mid.records e v.records in
    let P : List Entry → Type 0 = λ l. SameMembers l (e ∷ old.records) in
    let n : SameMembers new.records (e ∷ old.records) = subst P (sym (r ∙ ap (λ (c : ShelfContent). c.records) z)) m in
    record {
      records = λ x. (
        λ i. elim ((n x).0 i) [ inl y ↦ member-right x old.records (e ∷ []) (inl y) | inr k ↦ member-left x old.records (e ∷ []) k ],
        λ i. (n x).1 (elim (member-split x old.records (e ∷ []) i) [ inl k ↦ inr k | inr v ↦ elim v [ inl y ↦ inl y | inr b ↦ absurd b ] ]),
      );
      truth = t;
    }

-- ---- how much it takes
pub starts-same : (old new : ShelfContent) (m most : ℕ) → new.start ≡ old.start → HasStarts old m most → HasStarts new m most
starts-same old new m most p h = subst (λ f. HasStarts (record old { start = f }) m most) (sym p) h

points-same : (old new : ShelfContent) (m t : ℕ) (most : Register → ℕ) → new.start ≡ old.start → new.point ≡ old.point → HavePoints old m t most → HavePoints new m t most
points-same old new m t most p q h =
    let one : HavePoints (record old { start = new.start }) m t most = subst (λ f. HavePoints (record old { start = f }) m t most) (sym p) h in
    subst (λ f. HavePoints (record old { start = new.start; point = f }) m t most) (sym q) one

-- an entry that is added first takes 7 more
pub takes-on : (office : OfficeRules) (k : Key) (old new : ShelfContent) (a b d : ℕ) → new.start ≡ old.start → new.point ≡ old.point → b ≤ a + 7 → TakesAtMost 0 office new k b d → TakesAtMost 7 office old k a d
takes-on office (key.Reading m r t) old new a b d p q l h = λ starts s. let x = h starts (starts-same old new m.0 starts p s) in omega (arith, x, l)
takes-on office (key.Assignment m t) old new a b d p q l h = λ starts points s v.
    let x = h starts points (starts-same old new m.0 starts p s) (points-same old new m.0 t points p q v) in omega (arith, x, l)
takes-on office (key.TopUp r) old new a b d p q l h = omega (arith, h, l)
takes-on office (key.Withdrawal n) old new a b d p q l h = omega (arith, h, l)

-- a record that was added changes no start and no point
pub with-record : (e : Entry) (old two mid three : ShelfContent) → two ≡ old → IsWithRecord two e mid → three ≡ mid → (three.start ≡ old.start) × (three.point ≡ old.point)
with-record e old two mid three q w z =
    let P : ShelfContent → Type 0 = λ c. IsWithRecord c e mid in
    let v : IsWithRecord old e mid = subst P q w in
    (ap (λ (c : ShelfContent). c.start) z ∙ v.start, ap (λ (c : ShelfContent). c.point) z ∙ v.point)

-- ---- the point or the start of one key alone
abbrev meter_in : Key → ℕ
meter_in (key.Reading m r t) = m.0
meter_in (key.Assignment m t) = m.0
meter_in _ = 0

abbrev second_in : Key → ℕ
second_in (key.Reading m r t) = t
second_in (key.Assignment m t) = t
second_in _ = 0

abbrev register_in : Register → Key → Register
register_in other (key.Reading m r t) = r
register_in other _ = other

pub one-point : (m : MeterId) (r : Register) (t : ℕ) (wh : Option ℕ) (old new : ShelfContent) → new.start ≡ old.start → new.point ≡ points_with old.point m.0 r t wh → ChangesOneKey (key.Reading m r t) old new
one-point m r t wh old new s p = (
  s,
  λ n q u h. ap (λ (f : ℕ → Register → ℕ → Option ℕ). f n q u) p ∙ elim (cases_Bool (same_key (reading_key m.0 r t) (reading_key n q u))) [
    | inl y ↦ (let i : reading_key m.0 r t ≡ reading_key n q u = (same_key-decides (reading_key m.0 r t) (reading_key n q u)).0 y in
        absurd (h (sym (ap meter_in i), sym (ap (register_in r) i), sym (ap second_in i))))
    | inr f ↦ ap (λ b. cond b wh (old.point n q u)) f
  ],
)

pub one-start : (m : MeterId) (t : ℕ) (owner : Option (Option AccountId)) (old new : ShelfContent) → new.point ≡ old.point → new.start ≡ starts_with old.start m.0 t owner → ChangesOneKey (key.Assignment m t) old new
one-start m t owner old new p s = (
  p,
  λ n u h. ap (λ (f : ℕ → ℕ → Option (Option AccountId)). f n u) s ∙ elim (cases_Bool (same_key (assignment_key m.0 t) (assignment_key n u))) [
    | inl y ↦ (let i : assignment_key m.0 t ≡ assignment_key n u = (same_key-decides (assignment_key m.0 t) (assignment_key n u)).0 y in
        absurd (h (sym (ap meter_in i), sym (ap second_in i))))
    | inr f ↦ ap (λ b. cond b owner (old.start n u)) f
  ],
)

-- behind a record that was added first
pub added-then : (k : Key) (e : Entry) (old two mid three new : ShelfContent) → two ≡ old → IsWithRecord two e mid → three ≡ mid → ChangesOneKey k three new → ChangesOneKey k old new
added-then (key.Reading m r t) e old two mid three new q w z h =
    let v = with-record e old two mid three q w z in
    (h.0 ∙ v.0, λ n p u d. h.1 n p u d ∙ ap (λ (f : ℕ → Register → ℕ → Option ℕ). f n p u) v.1)
added-then (key.Assignment m t) e old two mid three new q w z h =
    let v = with-record e old two mid three q w z in
    (h.0 ∙ v.1, λ n u d. h.1 n u d ∙ ap (λ (f : ℕ → ℕ → Option (Option AccountId)). f n u) v.0)
added-then (key.TopUp r) e old two mid three new q w z h = let v = with-record e old two mid three q w z in (h.0 ∙ v.1, h.1 ∙ v.0)
added-then (key.Withdrawal n) e old two mid three new q w z h = let v = with-record e old two mid three q w z in (h.0 ∙ v.1, h.1 ∙ v.0)

-- behind some that change no point and no start
pub takes-then : (office : OfficeRules) (k : Key) (old new : ShelfContent) (a b d e : ℕ) → new.start ≡ old.start → new.point ≡ old.point → b ≤ a → e ≤ d → TakesAtMost 0 office new k b d → TakesAtMost 0 office old k a e
takes-then office (key.Reading m r t) old new a b d e p q l f h = λ starts s. let x = h starts (starts-same old new m.0 starts p s) in omega (arith, x, l, f)
takes-then office (key.Assignment m t) old new a b d e p q l f h = λ starts points s v.
    let x = h starts points (starts-same old new m.0 starts p s) (points-same old new m.0 t points p q v) in omega (arith, x, l, f)
takes-then office (key.TopUp r) old new a b d e p q l f h = omega (arith, h, l, f)
takes-then office (key.Withdrawal n) old new a b d e p q l f h = omega (arith, h, l, f)
