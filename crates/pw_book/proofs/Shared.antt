-- The records whose key another has, and the disputes among those of them that stand.
use Rattle.std.proofs.Common.{◌≡◌, ◌↔◌, ℕ, suc, ◌-◌, ◌^◌, ◌<◌, ◌≤◌, Bool, true, false, leb, List, [], ◌∷◌, ◌++◌, length, take, drop, refl, ap, sym, ◌∙◌, subst, inl, inr, arith}
use Rattle.std.proofs.lemmas.Bool.{cases_Bool, le-leb, leb-true, lt-leb, true≢false}
use Rattle.std.proofs.lemmas.List.{take_rest, append-nil, append_assoc}
use Rattle.std.proofs.lemmas.List.Elements.{filter-append}
use Rattle.std.specs.List.{filter}
use Rattle.pw_model.specs.declared.records.Key.{Key}
use Rattle.pw_model.specs.declared.records.Dispute.{Dispute}
use Rattle.pw_model.specs.declared.records.Entry.{Entry}
use Rattle.pw_model.specs.Counting.{Member, SameMembers, standing_among}
use Rattle.pw_model.specs.Lists.{IsInOrder, Lists, dispute_order}
use Rattle.pw_model.specs.Same.{same_entry, entry_order}
use Rattle.pw_model.proofs.Counting.{standing-back, standing-to}
use Rattle.pw_model.proofs.EntryOrder.{before-all}
use Rattle.pw_model.proofs.InOrder.{before-member}
use Rattle.pw_model.proofs.Once.{once-same}
use Rattle.pw_model.proofs.Places.{member-left, member-right, member-split}
use Rattle.pw_model.proofs.Same.{same_entry-decides}
use Rattle.pw_model.proofs.Standing.{rising-some}
use Rattle.pw_parts.specs.Groups.{HasSameKey}
use Rattle.pw_parts.proofs.Groups.{AreApart, apart-more, joined-up}
use Rattle.pw_book.specs.inner.Groups.{AreOfSharedKeys, IsDisputeAmong, one_at, records_with}
use Rattle.pw_book.proofs.Disputed.{count-front, count-part, group-number, one-elsewhere}

-- lists with the same records of a key have as many
count-agree : (k : Key) (xs ys : List Entry) → ((e : Entry) → e.key ≡ k → Member e xs ↔ Member e ys) → records_with k xs ≡ records_with k ys
unfolding records_with
count-agree k xs ys h =
    let left = count-front k xs ys (λ x m n. one-elsewhere k x (λ i. n ((h x i).0 m))) in
    let right = count-front k ys xs (λ x m n. one-elsewhere k x (λ i. n ((h x i).1 m))) in
    let both : SameMembers (xs ++ ys) (ys ++ xs) = λ x. (
      λ m. elim (member-split x xs ys m) [ inl i ↦ member-right x ys xs i | inr j ↦ member-left x ys xs j ],
      λ m. elim (member-split x ys xs m) [ inl i ↦ member-right x xs ys i | inr j ↦ member-left x xs ys j ],
    ) in
    sym right ∙ once-same same_entry same_entry-decides (one_at k) (ys ++ xs) (xs ++ ys) (λ x. ((both x).1, (both x).0)) ∙ left

module _ (s held shared : List Entry) (h : AreOfSharedKeys held shared) where
  shared-part : (e : Entry) → Member e (standing_among s shared) → Member e (standing_among s held)
  shared-part e m = let k = standing-to s shared e m in standing-back s held e ((h.members e).0 k.0).0 k.1

  shared-whole : (k : Key) → 2 ≤ records_with k held → (e : Entry) → e.key ≡ k → Member e (standing_among s held) → Member e (standing_among s shared)
  shared-whole k l e q m =
      let t = standing-to s held e m in
      let P : Key → Type 0 = λ v. 2 ≤ records_with v held in
      standing-back s shared e ((h.members e).1 (t.0, subst P (sym q) l)) t.1

  shared-number : (k : Key) → 2 ≤ records_with k held → records_with k (standing_among s shared) ≡ records_with k (standing_among s held)
  shared-number k l = count-agree k (standing_among s shared) (standing_among s held) (λ e q. (shared-part e, shared-whole k l e q))

  pub shared-few : (k : Key) → records_with k (standing_among s shared) ≤ records_with k held
  shared-few k = count-part k (standing_among s shared) held (λ x m. (standing-to s held x (shared-part x m)).0)

  standing-less : (k : Key) → records_with k (standing_among s held) ≤ records_with k held
  standing-less k = count-part k (standing_among s held) held (λ x m. (standing-to s held x m).0)

  -- so the disputes among those of them that stand are those among all that stand
  pub shared-disputes : (ds : List Dispute) → Lists dispute_order (IsDisputeAmong (standing_among s shared)) ds → Lists dispute_order (IsDisputeAmong (standing_among s held)) ds
  shared-disputes ds l = record {
    rising = l.rising;
    members = λ d. (
      λ m. (
          let k = (l.members d).0 m in
          let several = k.several in
          let number = k.number in
          let few = shared-few d.key in
          record { several = several; number = number ∙ shared-number d.key (omega (arith, several, number, few)) }),
      λ k. (
          let several = k.several in
          let number = k.number in
          let few = standing-less d.key in
          (l.members d).1 (record { several = several; number = number ∙ sym (shared-number d.key (omega (arith, several, number, few))) })),
    );
  }

-- as a list of those of them that stand is handed on
pub shared-sorted : (s held shared standing : List Entry) (ds : List Dispute) → AreOfSharedKeys held shared → standing ≡ standing_among s shared → ((k : Key) → records_with k held < 2 ^ 32) →
    (IsInOrder entry_order standing → ((k : Key) → records_with k standing < 2 ^ 32) → Lists dispute_order (IsDisputeAmong standing) ds) → Lists dispute_order (IsDisputeAmong (standing_among s shared)) ds
shared-sorted s held shared standing ds h e few d =
    let P : List Entry → Type 0 = λ l. IsInOrder entry_order l → ((k : Key) → records_with k l < 2 ^ 32) → Lists dispute_order (IsDisputeAmong l) ds in
    subst P e d (rising-some s shared h.rising) (λ k. let most = shared-few s held shared h k in let all = few k in omega (arith, most, all))

-- ---- which they are, one key after another
abbrev is_shared : List Entry → Entry → Bool
is_shared all e = leb 2 (records_with e.key all)

-- those met so far
abbrev pub SharedSoFar : List Entry → List Entry → List Entry → Type 0
SharedSoFar all rest shared = (done : List Entry) × (all ≡ done ++ rest) × AreApart done rest × (shared ≡ filter (is_shared all) done)

pub none-shared : (all : List Entry) → SharedSoFar all all []
none-shared all = ([], refl, (λ x y m n k. absurd m), refl)

all-pass : (p : Entry → Bool) (xs : List Entry) → ((x : Entry) → Member x xs → p x ≡ true) → filter p xs ≡ xs
all-pass p [] h = refl
all-pass p (x ∷ xs) h = rw (h x (inl refl)) (ap (λ l. x ∷ l) (all-pass p xs (λ y m. h y (inr m))))

none-passes : (p : Entry → Bool) (xs : List Entry) → ((x : Entry) → Member x xs → p x ≡ false) → filter p xs ≡ []
none-passes p [] h = refl
none-passes p (x ∷ xs) h = rw (h x (inl refl)) (none-passes p xs (λ y m. h y (inr m)))

-- where the rest is cut off at a place
module _ (all rest others : List Entry) (first : Entry) (n : ℕ) (shared new : List Entry) (r : IsInOrder entry_order all) (q : rest ≡ first ∷ others) (s : SharedSoFar all rest shared) (h : HasSameKey first others n) where
  group : List Entry
  group = first ∷ take n others

  whole : all ≡ s.0 ++ first ∷ others
  whole = s.1 ∙ ap (λ xs. s.0 ++ xs) q

  apart : AreApart s.0 (first ∷ others)
  apart = let P : List Entry → Type 0 = λ xs. AreApart s.0 xs in subst P q s.2

  number : (x : Entry) → Member x (first ∷ take n others) → records_with x.key all ≡ suc n
  number x m =
      let key : x.key ≡ first.key = elim m [ inl i ↦ ap (λ (e : Entry). e.key) i | inr t ↦ h.same x t ] in
      ap (λ k. records_with k all) key ∙ group-number all s.0 others first n r whole apart h

  behind : (more : List Entry) → filter (is_shared all) (first ∷ take n others) ≡ more → new ≡ shared ++ more → SharedSoFar all (drop n others) new
  behind more f e = (
    s.0 ++ first ∷ take n others,
    joined-up s.0 others first n all whole,
    apart-more s.0 others first n apart h,
    e ∙ (λ i. s.3 i ++ sym f i) ∙ sym (filter-append (is_shared all) s.0 (first ∷ take n others)),
  )

  pub shared-alone : (0 < n → ⊥) → new ≡ shared → SharedSoFar all (take (length others - n) (drop n others)) new
  shared-alone z e = rw (take_rest others n) (behind []
      (none-passes (is_shared all) (first ∷ take n others) (λ x m. let k = number x m in lt-leb 2 (records_with x.key all) (omega (arith, z, k))))
      (e ∙ sym (append-nil shared)))

  pub shared-many : 0 < n → new ≡ (shared ++ first ∷ []) ++ take n others → SharedSoFar all (take (length others - n) (drop n others)) new
  shared-many z e = rw (take_rest others n) (behind (first ∷ take n others)
      (all-pass (is_shared all) (first ∷ take n others) (λ x m. let k = number x m in le-leb 2 (records_with x.key all) (omega (arith, z, k))))
      (e ∙ append_assoc shared (first ∷ []) (take n others)))

passes : (p : Entry → Bool) (xs : List Entry) (x : Entry) → Member x (filter p xs) → Member x xs × (p x ≡ true)
passes p [] x m = absurd m
passes p (y ∷ xs) x m = elim (cases_Bool (p y)) [
  | inl t ↦ (
      let k : Member x (y ∷ filter p xs) = rw t at m in
      elim k [ inl i ↦ (inl i, ap p i ∙ t) | inr j ↦ (let r = passes p xs x j in (inr r.0, r.1)) ])
  | inr f ↦ (let k : Member x (filter p xs) = rw f at m in let r = passes p xs x k in (inr r.0, r.1))
]

passing : (p : Entry → Bool) (xs : List Entry) (x : Entry) → Member x xs → p x ≡ true → Member x (filter p xs)
passing p [] x m h = m
passing p (y ∷ xs) x m h = elim (cases_Bool (p y)) [
  | inl t ↦ rw t (elim m [ inl i ↦ inl i | inr j ↦ inr (passing p xs x j h) ])
  | inr f ↦ rw f (elim m [ inl i ↦ absurd (true≢false (sym h ∙ ap p i ∙ f)) | inr j ↦ passing p xs x j h ])
]

rising-filter : (p : Entry → Bool) (xs : List Entry) → IsInOrder entry_order xs → IsInOrder entry_order (filter p xs)
rising-filter p [] r = tt
rising-filter p (x ∷ xs) r =
    let rest = rising-filter p xs r.1 in
    elim (cases_Bool (p x)) [
      | inl t ↦ rw t (before-all entry_order x (filter p xs) (λ y m. before-member entry_order x y xs r.0 (passes p xs y m).0), rest)
      | inr f ↦ rw f rest
    ]

pub all-shared : (all rest shared : List Entry) → IsInOrder entry_order all → length rest ≡ 0 → SharedSoFar all rest shared → AreOfSharedKeys all shared
all-shared all [] shared r e s =
    let done : s.0 ≡ all = sym (s.1 ∙ append-nil s.0) in
    let P : List Entry → Type 0 = AreOfSharedKeys all in
    subst P (sym (s.3 ∙ ap (filter (is_shared all)) done)) (record {
      rising = rising-filter (is_shared all) all r;
      members = λ x. (
        λ m. (let k = passes (is_shared all) all x m in (k.0, leb-true 2 (records_with x.key all) k.1)),
        λ k. passing (is_shared all) all x k.0 (le-leb 2 (records_with x.key all) k.1),
      );
    })
all-shared all (x ∷ rest) shared r e s = absurd (omega arith)
