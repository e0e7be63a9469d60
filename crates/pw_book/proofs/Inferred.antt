-- What was told at a record's key before it was added, from what is told there behind.
use Rattle.std.proofs.Common.{◌≡◌, ◌+◌, ◌≤◌, ℕ, Option, Some, None, false, List, [], ◌∷◌, length, refl, ap, sym, subst, ◌∙◌, inl, inr, arith}
use Rattle.std.proofs.lemmas.Bool.{cases_Bool, true≢false}
use Rattle.std.proofs.lemmas.Option.{none-some, same_Some}
use Rattle.std.specs.List.{slice_get}
use Rattle.pw_obis.specs.declared.reference.Register.{Register}
use Rattle.pw_tariff.specs.Office.{OfficeRules}
use Rattle.pw_model.specs.declared.records.Content.{Content}
use Rattle.pw_model.specs.declared.records.Content.TheVariants as content
use Rattle.pw_model.specs.declared.records.Contents.{Contents}
use Rattle.pw_model.specs.declared.records.Contents.TheVariants.{Nothing, One, Several}
use Rattle.pw_model.specs.declared.records.Entry.{Entry}
use Rattle.pw_model.specs.Counting.{IsInserted, Member, contents_at, point, reading_key, standing, wh_of, withdraws}
use Rattle.pw_model.specs.Office.{AllOfOffice}
use Rattle.pw_model.specs.Same.{same_content}
use Rattle.pw_model.proofs.Bearing.{stands-still, stood}
use Rattle.pw_model.proofs.Bounded.{ToldOf, contents-of}
use Rattle.pw_model.proofs.Counting.{Tells, entry, standing-told, tells, tells-agree}
use Rattle.pw_model.proofs.Same.{same_content-decides}
use Rattle.pw_parts.proofs.Chart.{less-is}
use Rattle.pw_parts.proofs.Seconds.{wh-one}
use Rattle.pw_shelf.specs.Seconds.{ListsSecondsWithin}
use Rattle.pw_book.specs.inner.Inferred.{told_by_point}

-- ---- a record that withdraws none
module _ (s t : List Entry) (e : Entry) (h : IsInserted e s t) (n : Member e s → ⊥) (w : (x : Entry) → withdraws x e.key ≡ false) where
  -- what stood stands behind
  stays : (x : Entry) → Member x (standing s) → Member x (standing t)
  stays x m = stands-still s t e h x (λ y. true≢false (sym y ∙ w x)) m

  -- and what stands behind with another content stood
  other : (c : Content) → (c ≡ e.content → ⊥) → Member (entry e.key c) (standing t) → Member (entry e.key c) (standing s)
  other c d m = stood s t e h (entry e.key c) (λ i. d (ap (λ (f : Entry). f.content) i)) m

  -- where the record stands alone, none stood
  alone-by : (a : Contents) → Tells (standing s) e.key a → Tells (standing t) e.key (One e.content) → a ≡ Nothing
  alone-by Nothing p q = refl
  alone-by (One c) p q = absurd (
      let i : c ≡ e.content = q.1 c (stays (entry e.key c) p.0) in
      let P : Content → Type 0 = λ x. Member (entry e.key x) (standing s) in
      n (standing-told s e (subst P i p.0)).0)
  alone-by Several p q = absurd (p.4 (q.1 p.0 (stays (entry e.key p.0) p.2) ∙ sym (q.1 p.1 (stays (entry e.key p.1) p.3))))

  pub before-alone : (c : Content) → contents_at t e.key ≡ One c → c ≡ e.content → contents_at s e.key ≡ Nothing
  before-alone c q i =
      let P : Contents → Type 0 = Tells (standing t) e.key in
      alone-by (contents_at s e.key) (tells s e.key) (subst P (q ∙ ap (λ x. One x) i) (tells t e.key))

  -- where it doesn't stand, the same was told
  pub before-none : contents_at t e.key ≡ Nothing → contents_at s e.key ≡ Nothing
  before-none q =
      let P : Contents → Type 0 = Tells (standing t) e.key in
      let none : Tells (standing t) e.key Nothing = subst P q (tells t e.key) in
      tells-agree (standing s) (standing t) e.key (contents_at s e.key) Nothing (λ c. (stays (entry e.key c), λ m. absurd (none c m))) (tells s e.key) none

  pub before-other : (d : Content) → contents_at t e.key ≡ One d → (d ≡ e.content → ⊥) → contents_at s e.key ≡ One d
  before-other d q x =
      let P : Contents → Type 0 = Tells (standing t) e.key in
      let one : Tells (standing t) e.key (One d) = subst P q (tells t e.key) in
      tells-agree (standing s) (standing t) e.key (contents_at s e.key) (One d) (λ c. (stays (entry e.key c), λ m. other c (λ i. x (sym (one.1 c m) ∙ i)) m)) (tells s e.key) one

  -- where several stand, some stood
  some-stood : Tells (standing t) e.key Several → Tells (standing s) e.key Nothing → ⊥
  some-stood q p = elim (cases_Bool (same_content q.0 e.content)) [
    | inl y ↦ p q.1 (other q.1 (λ j. q.4 ((same_content-decides q.0 e.content).0 y ∙ sym j)) q.3)
    | inr f ↦ p q.0 (other q.0 (λ i. true≢false (sym ((same_content-decides q.0 e.content).1 i) ∙ f)) q.2)
  ]

  before-several : contents_at t e.key ≡ Several → contents_at s e.key ≡ Nothing → ⊥
  before-several q p =
      let P : Contents → Type 0 = Tells (standing t) e.key in
      let Q : Contents → Type 0 = Tells (standing s) e.key in
      some-stood (subst P q (tells t e.key)) (subst Q p (tells s e.key))

  -- what it was is told by the point
  told-several : (office : OfficeRules) (m : ℕ) (r : Register) (z : ℕ) (a : Contents) → ToldOf office (reading_key m r z) a → (a ≡ Nothing → ⊥) → (told : Option ℕ) → wh_of a ≡ told → told_by_point told ≡ a
  told-several office m r z a o d (Some v) q = sym (wh-one a v q)
  told-several office m r z Nothing o d None q = absurd (d refl)
  told-several office m r z Several o d None q = refl
  told-several office m r z (One (content.Reading v)) o d None q = absurd (none-some v (sym q))
  told-several office m r z (One (content.Assignment p)) o d None q = absurd o
  told-several office m r z (One (content.TopUp a c i)) o d None q = absurd o
  told-several office m r z (One content.Withdrawal) o d None q = absurd o

  pub before-by-point : (office : OfficeRules) (m : ℕ) (r : Register) (z : ℕ) (told : Option ℕ) → AllOfOffice office s → e.key ≡ reading_key m r z → told ≡ point (contents_at s) m r z → contents_at t e.key ≡ Several →
      told_by_point told ≡ contents_at s e.key
  before-by-point office m r z told o k p q =
      let here : contents_at s e.key ≡ contents_at s (reading_key m r z) = ap (contents_at s) k in
      told-several office m r z (contents_at s (reading_key m r z)) (contents-of office s (reading_key m r z) o) (λ i. before-several q (here ∙ i)) told (sym p) ∙ sym here

-- ---- the point at a second
-- a list of what is told at one second
one-second : (z : ℕ) (told : ℕ → Option ℕ) (found : List (ℕ × ℕ)) → ListsSecondsWithin z z told found → length found ≤ 1
one-second z told [] l = omega arith
one-second z told (a ∷ []) l = omega arith
one-second z told (a ∷ b ∷ xs) l =
    let x = (l.members a).0 (inl refl) in
    let y = (l.members b).0 (inr (inl refl)) in
    let w = less-is a.0 b.0 l.rising.0.0 in
    let p = x.1 in
    let q = y.0 in
    absurd (omega (arith, w, p, q))

pub none-at : (z : ℕ) (told : ℕ → Option ℕ) (found lent : List (ℕ × ℕ)) → ListsSecondsWithin z z told found → lent ≡ found → slice_get lent 0 ≡ None → told z ≡ None
none-at z told found lent l e n = by-option (told z) refl
  where
    no-member : (xs : List (ℕ × ℕ)) (a : ℕ × ℕ) → slice_get xs 0 ≡ None → Member a xs → ⊥
    no-member [] a q m = m
    no-member (x ∷ xs) a q m = none-some x (sym q)

    by-option : (o : Option ℕ) → told z ≡ o → o ≡ None
    by-option None q = refl
    by-option (Some v) q = absurd (
        let P : List (ℕ × ℕ) → Type 0 = λ xs. Member (z, v) xs in
        no-member lent (z, v) n (subst P (sym e) ((l.members (z, v)).1 (omega arith, omega arith, q))))

pub some-at : (z : ℕ) (told : ℕ → Option ℕ) (found lent : List (ℕ × ℕ)) (a : ℕ × ℕ) → ListsSecondsWithin z z told found → lent ≡ found → slice_get lent 0 ≡ Some a → told z ≡ Some a.1
some-at z told found lent a l e n =
    let P : List (ℕ × ℕ) → Type 0 = λ xs. Member a xs in
    let x = (l.members a).0 (subst P e (first-member lent n)) in
    let p = x.0 in
    let q = x.1 in
    let same : z ≡ a.0 = omega (arith, p, q) in
    ap told same ∙ x.2
  where
    first-member : (xs : List (ℕ × ℕ)) → slice_get xs 0 ≡ Some a → Member a xs
    first-member [] m = absurd (none-some a m)
    first-member (x ∷ xs) m = inl (sym (same_Some x a m))

pub taken-two : (old new rows : ℕ) (z : ℕ) (told : ℕ → Option ℕ) (found : List (ℕ × ℕ)) → ListsSecondsWithin z z told found → new ≡ old + 1 + rows → rows ≡ length found → new ≤ old + 2
taken-two old new rows z told found l t e = let x = one-second z told found l in omega (arith, x, t, e)
