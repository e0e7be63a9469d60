-- The starts of stretches rise, and name somebody only where the account owns the meter.
use Rattle.std.proofs.Common.{◌≡◌, ◌&&◌, ℕ, suc, ◌+◌, ◌<◌, ◌≤◌, nat_lt, Bool, true, false, Option, Some, None, List, [], ◌∷◌, length, get_or, map, Less, refl, ap, sym, subst, ◌∙◌, inl, inr, arith}
use Rattle.std.specs.Cmp.{nat_cmp_is}
use Rattle.std.specs.List.{filter, list_any}
use Rattle.std.proofs.lemmas.Bool.{cases_Bool, cases_eq, cases_lt, eq-eqb, le-leb, lt-ltb, le-ltb, ltb-true, eqb-true, and_parts, or_parts, true≢false, false≢true}
use Rattle.std.proofs.lemmas.Option.{none-some, same_Some}
use Rattle.pw_time.specs.declared.instant.TheConstants.{END_SECOND}
use Rattle.pw_tariff.specs.declared.ids.AccountId.{AccountId}
use Rattle.pw_tariff.specs.Owners.{StartsIncrease, owner_by_starts, owner_from, same_owner, start_at}
use Rattle.pw_flow.specs.Time.{last}
use Rattle.pw_flow.proofs.Points.{last-cases, last-is, last-none}
use Rattle.pw_model.specs.declared.records.Key.{Key}
use Rattle.pw_model.specs.declared.records.Contents.{Contents}
use Rattle.pw_model.specs.Counting.{Member, start}
use Rattle.pw_model.specs.Energy.{account, owner_at}
use Rattle.pw_model.specs.Lists.{IsBeforeAll, IsInOrder}
use Rattle.pw_model.specs.Seconds.{ListsSeconds, by_second}
use Rattle.pw_model.proofs.EntryOrder.{before-all}
use Rattle.pw_model.proofs.Filtered.{filtered-member}
use Rattle.pw_model.proofs.Places.{member-split}
use Rattle.pw_parts.proofs.Owning.{owners-told, starts-rise}
use Rattle.pw_book.proofs.NewStarts.{joined-rises, part-rises}
use Rattle.pw_months.specs.Between.{lies_in}
use Rattle.pw_bills.specs.Stretches.{end_of, first_of}
use Rattle.pw_bills.specs.ReadUpTo.{IsAccountsIn}
use Rattle.pw_bills.specs.Reads.{IsBetween}
use Rattle.pw_bills.specs.inner.Naming.{NamesStretches, OwnerStart, ended, is_behind, name_in, named_from, names_somebody, owner_begun, renamed, stretch}
use Rattle.pw_bills.proofs.Begins.{begins-here, begins-nowhere, begins-other, begun-owner}
use Rattle.pw_bills.proofs.Named.{Rises, end-most, names-told}

-- ---- under other names
before-renamed : (f : Option AccountId → Option AccountId) (x : OwnerStart) (xs : List OwnerStart) → IsBeforeAll by_second x xs → IsBeforeAll by_second (renamed f x) (map (renamed f) xs)
before-renamed f x [] b = tt
before-renamed f x (y ∷ ys) b = (b.0, before-renamed f x ys b.1)

renamed-rises : (f : Option AccountId → Option AccountId) (xs : List OwnerStart) → IsInOrder by_second xs → IsInOrder by_second (map (renamed f) xs)
renamed-rises f [] r = tt
renamed-rises f (x ∷ xs) r = (before-renamed f x xs r.0, renamed-rises f xs r.1)

renamed-member : (f : Option AccountId → Option AccountId) (xs : List OwnerStart) (x : OwnerStart) → Member x (map (renamed f) xs) → (y : OwnerStart) × Member y xs × (x ≡ renamed f y)
renamed-member f [] x m = absurd m
renamed-member f (y ∷ ys) x (inl i) = (y, inl refl, i)
renamed-member f (y ∷ ys) x (inr m) = let r = renamed-member f ys x m in (r.0, inr r.1, r.2)

-- ---- a stretch
-- a start of it is its own or one of the meter's behind it and before the end
pub record IsLaterStart (starts : List OwnerStart) (a : AccountId) (n from until : ℕ) (x y : OwnerStart) : Type 0 where
  pub member : Member y starts
  pub is : x ≡ renamed (name_in a n) y
  pub from_on : from < y.0
  pub within : y.0 < until

later-of : (starts : List OwnerStart) (a : AccountId) (n from until : ℕ) (x : OwnerStart) → Member x (map (renamed (name_in a n)) (filter (is_behind from until) starts)) →
    (y : OwnerStart) × IsLaterStart starts a n from until x y
later-of starts a n from until x m =
    let r = renamed-member (name_in a n) (filter (is_behind from until) starts) x m in
    let y : OwnerStart = r.0 in
    let k = filtered-member (is_behind from until) starts y r.1 in
    let p = and_parts (nat_lt from y.0) (nat_lt y.0 until) k.1 in
    (y, record { member = k.0; is = r.2; from_on = ltb-true from y.0 p.0; within = ltb-true y.0 until p.1 })

later-second : (starts : List OwnerStart) (a : AccountId) (n from until : ℕ) (x y : OwnerStart) → IsLaterStart starts a n from until x y → (from < x.0) × (x.0 < until)
later-second starts a n from until x y h =
    let e : x.0 ≡ y.0 = ap (λ (s : OwnerStart). s.0) h.is in
    let l = h.from_on in
    let m = h.within in
    (omega (arith, e, l), omega (arith, e, m))

stretch-member : (starts : List OwnerStart) (a : AccountId) (n from until : ℕ) (x : OwnerStart) → from < until → Member x (stretch starts a n from until) → IsBetween from until x.0
stretch-member starts a n from until x l m = elim m [
  | inl i ↦ (let e : x.0 ≡ from = ap (λ (s : OwnerStart). s.0) i in (omega (arith, e), omega (arith, e, l)))
  | inr k ↦ (
      let y = later-of starts a n from until x k in
      let s = later-second starts a n from until x y.0 y.1 in
      let b = s.0 in
      (omega (arith, b), s.1))
]

stretch-rises : (starts : List OwnerStart) (a : AccountId) (n from until : ℕ) → IsInOrder by_second starts → IsInOrder by_second (stretch starts a n from until)
stretch-rises starts a n from until r = (
  before-all by_second (from, name_in a n (owner_begun None starts from)) (map (renamed (name_in a n)) (filter (is_behind from until) starts)) (λ x m. (
      let y = later-of starts a n from until x m in
      let s = later-second starts a n from until x y.0 y.1 in
      sym (nat_cmp_is from x.0 Less s.0))),
  renamed-rises (name_in a n) (filter (is_behind from until) starts) (part-rises (is_behind from until) starts r),
)

-- ---- stretches one behind another
ended-member : (end : ℕ) (x : OwnerStart) → Member x (ended end) → x ≡ (end, None)
ended-member end x m = elim (cases_lt end END_SECOND) [
  | inl e ↦ (let k : Member x ((end, None) ∷ []) = rw (lt-ltb end END_SECOND e) at m in elim k [ inl i ↦ i | inr f ↦ absurd f ])
  | inr e ↦ (let k : Member x [] = rw (le-ltb end END_SECOND e) at m in absurd k)
]

ended-rises : (end : ℕ) → IsInOrder by_second (ended end)
ended-rises end = elim (cases_lt end END_SECOND) [
  | inl e ↦ rw (lt-ltb end END_SECOND e) (tt, tt)
  | inr e ↦ rw (le-ltb end END_SECOND e) tt
]

module _ (starts : List OwnerStart) (a : AccountId) where
  named-member : (n : ℕ) (begins : List ℕ) (end : ℕ) (x : OwnerStart) → Rises begins end → Member x (named_from starts a n begins end) → first_of begins end ≤ x.0
  named-member n [] end x w m = let e : x.0 ≡ end = ap (λ (s : OwnerStart). s.0) (ended-member end x m) in omega (arith, e)
  named-member n (b ∷ begins) end x w m = elim (member-split x (stretch starts a n b (first_of begins end)) (named_from starts a (n + 1) begins end) m) [
    | inl k ↦ (stretch-member starts a n b (first_of begins end) x w.0 k).0
    | inr k ↦ (let l = named-member (n + 1) begins end x w.1 k in let q = w.0 in omega (arith, l, q))
  ]

  named-rises : (n : ℕ) (begins : List ℕ) (end : ℕ) → IsInOrder by_second starts → Rises begins end → IsInOrder by_second (named_from starts a n begins end)
  named-rises n [] end r w = ended-rises end
  named-rises n (b ∷ begins) end r w =
      joined-rises (stretch starts a n b (first_of begins end)) (named_from starts a (n + 1) begins end) (stretch-rises starts a n b (first_of begins end) r) (named-rises (n + 1) begins end r w.1)
      (λ x y m k. (
      let l = (stretch-member starts a n b (first_of begins end) x w.0 m).1 in
      let g = named-member (n + 1) begins end y w.1 k in
      omega (arith, l, g)))

  pub named-increase : (begins : List ℕ) (end : ℕ) → IsInOrder by_second starts → Rises begins end → StartsIncrease (named_from starts a 0 begins end)
  named-increase begins end r w = starts-rise (named_from starts a 0 begins end) (named-rises 0 begins end r w)

-- ---- whose they are
pub account-is : (o : Option AccountId) (a : AccountId) → same_owner o (Some a) ≡ true → o ≡ Some a
account-is None a e = absurd (false≢true e)
account-is (Some b) a e = let q : b.0 ≡ a.0 = eqb-true b.0 a.0 e in ap (λ (n : ℕ). Some (account n)) q

somebody-own : (a : AccountId) (n t : ℕ) (o : Option AccountId) → names_somebody (t, name_in a n o) ≡ true → o ≡ Some a
somebody-own a n t o h = elim (cases_Bool (same_owner o (Some a))) [
  | inl e ↦ account-is o a e
  | inr e ↦ (let f : false ≡ true = rw e at h in absurd (false≢true f))
]

module _ (at : Key → Contents) (m : ℕ) (starts : List OwnerStart) (listed : ListsSeconds (start at m) starts) (a : AccountId) where
  start-owner : (x : OwnerStart) → Member x starts → owner_at at m x.0 ≡ x.1
  unfolding owner_at
  start-owner x k =
      let h : start at m x.0 ≡ Some x.1 = (listed.members x).0 k in
      ap owner_from (last-is (start at m) x.0 x.0 x.1 (record { holds = h; early = omega arith; none = λ s b c. absurd (omega (arith, b, c)) }))

  stretch-owned : (n from until : ℕ) (x : OwnerStart) → from < until → Member x (stretch starts a n from until) → names_somebody x ≡ true →
      (t : ℕ) × IsBetween from until t × (owner_at at m t ≡ Some a)
  stretch-owned n from until x l k h = elim k [
    | inl i ↦ (
        let g : names_somebody (from, name_in a n (owner_begun None starts from)) ≡ true = ap names_somebody (sym i) ∙ h in
        let o : owner_begun None starts from ≡ Some a = somebody-own a n from (owner_begun None starts from) g in
        (from, (omega arith, l), sym (owners-told at m starts listed from) ∙ sym (begun-owner starts from listed.rising) ∙ o))
    | inr j ↦ (
        let y = later-of starts a n from until x j in
        let s : OwnerStart = y.0 in
        let g : names_somebody (s.0, name_in a n s.1) ≡ true = ap names_somebody (sym y.1.is) ∙ h in
        let b = y.1.from_on in
        (s.0, (omega (arith, b), y.1.within), start-owner s y.1.member ∙ somebody-own a n s.0 s.1 g))
  ]

  named-owned : (n : ℕ) (begins : List ℕ) (end : ℕ) (x : OwnerStart) → Rises begins end → Member x (named_from starts a n begins end) → names_somebody x ≡ true →
      (t : ℕ) × IsBetween (first_of begins end) end t × (owner_at at m t ≡ Some a)
  named-owned n [] end x w k h = let f : false ≡ true = sym (ap names_somebody (ended-member end x k)) ∙ h in absurd (false≢true f)
  named-owned n (b ∷ begins) end x w k h =
      let q = w.0 in
      let g = end-most begins end w.1 in
      elim (member-split x (stretch starts a n b (first_of begins end)) (named_from starts a (n + 1) begins end) k) [
        | inl j ↦ (
            let r = stretch-owned n b (first_of begins end) x w.0 j h in
            let u = r.1.1 in
            (r.0, (r.1.0, omega (arith, u, g)), r.2))
        | inr j ↦ (
            let r = named-owned (n + 1) begins end x w.1 j h in
            let u = r.1.0 in
            (r.0, (omega (arith, u, q), r.1.1), r.2))
      ]

any-found : (p : OwnerStart → Bool) (xs : List OwnerStart) → list_any p xs ≡ true → (x : OwnerStart) × Member x xs × (p x ≡ true)
any-found p [] e = absurd (false≢true e)
any-found p (x ∷ xs) e = elim (cases_Bool (p x)) [
  | inl y ↦ (x, inl refl, y)
  | inr n ↦ (
      let k : list_any p xs ≡ true = rw n at e in
      let r = any-found p xs k in
      (r.0, inr r.1, r.2))
]

-- where stretches name somebody, the account owns the meter there
pub owned-there : (at : Key → Contents) (m : ℕ) (starts : List OwnerStart) (a : AccountId) (begins : List ℕ) (end : ℕ) → ListsSeconds (start at m) starts → Rises begins end →
    list_any names_somebody (named_from starts a 0 begins end) ≡ true → IsAccountsIn at a (first_of begins end) end m
owned-there at m starts a begins end l w h =
    let x = any-found names_somebody (named_from starts a 0 begins end) h in
    named-owned at m starts l a 0 begins end x.0 w x.1 x.2

-- ---- where they name nobody
none-any : (p : OwnerStart → Bool) (xs : List OwnerStart) (x : OwnerStart) → list_any p xs ≡ false → Member x xs → p x ≡ false
none-any p [] x e m = absurd m
none-any p (y ∷ ys) x e (inl i) = ap p i ∙ (or_parts (p y) (list_any p ys) e).0
none-any p (y ∷ ys) x e (inr m) = none-any p ys x (or_parts (p y) (list_any p ys) e).1 m

begun-member : (xs : List OwnerStart) (s : ℕ) (o : Option AccountId) → start_at xs s ≡ Some o → Member (s, o) xs
begun-member [] s o e = absurd (none-some o (sym (begins-nowhere s) ∙ e))
begun-member (x ∷ xs) s o e = elim (cases_eq x.0 s) [
  | inl i ↦ (
      let v : x.1 ≡ o = same_Some x.1 o (sym (begins-here x xs s i) ∙ e) in
      inl (λ k. (sym i k, sym v k)))
  | inr d ↦ inr (begun-member xs s o (sym (begins-other x xs s d) ∙ e))
]

nobody : (t : ℕ) (o : Option AccountId) (b : AccountId) → names_somebody (t, o) ≡ false → same_owner o (Some b) ≡ false
nobody t None b e = refl
nobody t (Some c) b e = absurd (true≢false e)

nobody-named : (named : List OwnerStart) (t : ℕ) (b : AccountId) → list_any names_somebody named ≡ false → same_owner (owner_by_starts named t) (Some b) ≡ false
unfolding owner_by_starts
nobody-named named t b h = elim (last-cases (start_at named) t) [
  | inl n ↦ ap (λ (s : Option OwnerStart). same_owner (owner_from s) (Some b)) (last-none (start_at named) t n)
  | inr w ↦ (
      let q : last (start_at named) t ≡ Some (w.0, w.1) = last-is (start_at named) t w.0 w.1 w.2 in
      let k : names_somebody (w.0, w.1) ≡ false = none-any names_somebody named (w.0, w.1) h (begun-member named w.0 w.1 w.2.holds) in
      ap (λ (s : Option OwnerStart). same_owner (owner_from s) (Some b)) q ∙ nobody w.0 w.1 b k)
]

-- ---- the stretches that a book asks for
pub names-stretches : (at : Key → Contents) (m : ℕ) (a : AccountId) (begins : List ℕ) (end : ℕ) (starts named : List OwnerStart) → named ≡ named_from starts a 0 begins end →
    ListsSeconds (start at m) starts → Rises begins end → NamesStretches at m a begins end named
names-stretches at m a begins end starts named q l w = λ i j t e.
    let N : List OwnerStart → Type 0 = λ xs. same_owner (owner_by_starts xs t) (Some (account i)) ≡ (lies_in (get_or begins i 0) (end_of begins end i) t && same_owner (owner_at at m t) (Some a)) in
    subst N (sym q) (names-told starts a begins end i t l.rising w j e
    ∙ ap (λ (o : Option AccountId). lies_in (get_or begins i 0) (end_of begins end i) t && same_owner o (Some a)) (owners-told at m starts l t))

-- each second of the time lies in one of them
lies-somewhere : (begins : List ℕ) (end t : ℕ) → first_of begins end ≤ t → t < end → (i : ℕ) × (i < length begins) × (get_or begins i 0 ≤ t) × (t < end_of begins end i)
lies-somewhere [] end t l m = absurd (omega (arith, l, m))
lies-somewhere (b ∷ begins) end t l m = elim (cases_lt t (first_of begins end)) [
  | inl k ↦ (0, omega arith, l, k)
  | inr k ↦ (
      let r = lies-somewhere begins end t k m in
      let i : ℕ = r.0 in
      let e : suc i + 1 ≡ suc (i + 1) = omega arith in
      let j = r.1 in
      let P : ℕ → Type 0 = λ n. t < get_or (b ∷ begins) n end in
      (suc i, omega (arith, j), r.2, subst P (sym e) r.3))
]

-- where they name nobody, the account never does
pub nobody-owns : (at : Key → Contents) (m : ℕ) (a : AccountId) (begins : List ℕ) (end : ℕ) (named : List OwnerStart) → end ≤ END_SECOND → NamesStretches at m a begins end named →
    list_any names_somebody named ≡ false → ¬ (IsAccountsIn at a (first_of begins end) end m)
nobody-owns at m a begins end named ended h n = λ o.
    let t : ℕ = o.0 in
    let e = o.1.1 in
    let r = lies-somewhere begins end t o.1.0 o.1.1 in
    let i : ℕ = r.0 in
    let told = h i r.1 t (omega (arith, e, ended)) in
    let within : lies_in (get_or begins i 0) (end_of begins end i) t ≡ true = λ j. le-leb (get_or begins i 0) t r.2 j && lt-ltb t (end_of begins end i) r.3 j in
    let own : same_owner (owner_at at m t) (Some a) ≡ true = ap (λ (x : Option AccountId). same_owner x (Some a)) o.2 ∙ eq-eqb a.0 a.0 refl in
    let both : (lies_in (get_or begins i 0) (end_of begins end i) t && same_owner (owner_at at m t) (Some a)) ≡ true = λ j. within j && own j in
    true≢false (sym both ∙ sym told ∙ nobody-named named t (account i) n)
