-- Records of a list, each counted once.
use Rattle.std.proofs.Common.{◌≡◌, ℕ, zero, suc, ◌+◌, ◌<◌, ◌≤◌, Bool, true, cond, ◌||◌, List, [], ◌∷◌, ◌++◌, length, take, get_or, refl, sym, subst, arith, inl, inr}
use Rattle.std.specs.List.{Contains}
use Rattle.std.specs.Cmp.{both_ways}
use Rattle.std.proofs.lemmas.Bool.{cases_Bool}
use Rattle.pw_model.specs.declared.records.Entry.{Entry}
use Rattle.pw_model.specs.Counting.{Member, EachOnce, SameMembers}
use Rattle.pw_model.specs.Lists.{record_count}
use Rattle.pw_model.specs.Payments.{stands_in, sum_once}
use Rattle.pw_model.specs.Same.{same_entry}
use Rattle.pw_model.proofs.Once.{stands-decides, once-same}
use Rattle.pw_model.proofs.Same.{same_entry-decides}
use Rattle.pw_book.specs.Posting.{fresh_in, repeated_in}
use Rattle.pw_model.proofs.Places.{member-left, member-right, member-split}

-- ---- sums over entries, each counted once
-- one that doesn't stand behind is counted
pub once-step : (f : Entry → ℕ) (x : Entry) (xs : List Entry) → (Member x xs → ⊥) → sum_once same_entry f (x ∷ xs) ≡ f x + sum_once same_entry f xs
once-step f x xs d =
    elim (cases_Bool (stands_in same_entry x xs)) [
      | inl t ↦ absurd (d ((stands-decides same_entry same_entry-decides f x xs).0 t))
      | inr n ↦ rw n
    ]

pub count-once : (xs : List Entry) → EachOnce xs → sum_once same_entry (λ e. 1) xs ≡ length xs
count-once [] h = refl
count-once (x ∷ xs) h =
    let s = once-step (λ e. 1) x xs h.0 in
    let r = count-once xs h.1 in
    omega (arith, s, r)

pub record-count : (s : List Entry) → EachOnce s → record_count s ≡ length s
unfolding record_count
record-count s h = count-once s h

pub record-count_same : (s t : List Entry) → SameMembers s t → record_count s ≡ record_count t
unfolding record_count
record-count_same s t h = once-same same_entry same_entry-decides (λ e. 1) s t h

-- ---- of two lists together
pub append-same : {X : Type 0} (xs ys : List X) → SameMembers (xs ++ ys) (ys ++ xs)
append-same xs ys x = (
  λ m. elim (member-split x xs ys m) [ inl a ↦ member-right x ys xs a | inr b ↦ member-left x ys xs b ],
  λ m. elim (member-split x ys xs m) [ inl a ↦ member-right x xs ys a | inr b ↦ member-left x xs ys b ],
)

stands-append : (e : Entry) (xs ys : List Entry) → stands_in same_entry e (xs ++ ys) ≡ (stands_in same_entry e xs || stands_in same_entry e ys)
stands-append e [] ys = refl
stands-append e (x ∷ xs) ys =
    let r = stands-append e xs ys in
    elim (cases_Bool (same_entry e x)) [ inl t ↦ rw t refl | inr n ↦ rw n r ]

count-append : (entries held : List Entry) → sum_once same_entry (λ e. 1) (entries ++ held) ≡ fresh_in held entries + sum_once same_entry (λ e. 1) held
count-append [] held = omega arith
count-append (e ∷ entries) held =
    let r = count-append entries held in
    let s = stands-append e entries held in
    elim (cases_Bool (stands_in same_entry e entries)) [
      | inl t ↦ rw (s, t) (omega (arith, r))
      | inr n ↦ elim (cases_Bool (stands_in same_entry e held)) [
        | inl u ↦ rw (s, n, u) (omega (arith, r))
        | inr v ↦ rw (s, n, v) (omega (arith, r))
      ]
    ]

-- the records held with an upload's
pub count-joined : (held entries : List Entry) → record_count (held ++ entries) ≡ record_count held + fresh_in held entries
unfolding record_count
count-joined held entries =
    let a = once-same same_entry same_entry-decides (λ e. 1) (held ++ entries) (entries ++ held) (append-same held entries) in
    let b = count-append entries held in
    omega (arith, a, b)

-- an upload's entries are fresh or repeated
pub count-parts : (held entries : List Entry) → record_count entries ≡ fresh_in held entries + repeated_in held entries
unfolding record_count
count-parts held [] = refl
count-parts held (e ∷ entries) =
    let r = count-parts held entries in
    elim (cases_Bool (stands_in same_entry e entries)) [
      | inl t ↦ rw t (omega (arith, r))
      | inr n ↦ elim (cases_Bool (stands_in same_entry e held)) [
        | inl u ↦ rw (n, u) (omega (arith, r))
        | inr v ↦ rw (n, v) (omega (arith, r))
      ]
    ]

count-right : (xs ys : List Entry) → sum_once same_entry (λ e. 1) ys ≤ sum_once same_entry (λ e. 1) (xs ++ ys)
count-right [] ys = omega arith
count-right (x ∷ xs) ys = let r = count-right xs ys in omega (arith, r)

-- fewer members, fewer records
pub count-within : (xs ys : List Entry) → ((x : Entry) → Member x xs → Member x ys) → record_count xs ≤ record_count ys
unfolding record_count
count-within xs ys h =
    let a : sum_once same_entry (λ e. 1) (ys ++ xs) ≡ sum_once same_entry (λ e. 1) ys = once-same same_entry same_entry-decides (λ e. 1) (ys ++ xs) ys (λ x. (
      λ m. elim (member-split x ys xs m) [ inl a ↦ a | inr b ↦ h x b ],
      λ m. member-left x ys xs m,
    )) in
    let b = count-right ys xs in
    omega (arith, a, b)

-- not more are repeated than are held
pub repeated-held : (held entries : List Entry) → repeated_in held entries ≤ record_count held
repeated-held held entries =
    let a = count-joined held entries in
    let b = count-parts held entries in
    let c = count-within entries (held ++ entries) (λ x m. member-right x held entries m) in
    omega (arith, a, b, c)

-- one more behind, which doesn't stand there yet
pub once-push : (f : Entry → ℕ) (xs : List Entry) (e : Entry) → (Member e xs → ⊥) → sum_once same_entry f (xs ++ e ∷ []) ≡ sum_once same_entry f xs + f e
once-push f xs e d =
    let a = once-same same_entry same_entry-decides f (xs ++ e ∷ []) (e ∷ xs) (append-same xs (e ∷ [])) in
    let b = once-step f e xs d in
    omega (arith, a, b)

pub fresh-same : (held xs ys : List Entry) → SameMembers xs ys → fresh_in held xs ≡ fresh_in held ys
fresh-same held xs ys h = once-same same_entry same_entry-decides (λ e. cond (stands_in same_entry e held) 0 1) xs ys h

-- ---- members
contains-member : {X : Type 0} (xs : List X) (x : X) → Contains xs x → Member x xs
contains-member [] x c = absurd (let l = c.1 in omega (arith, l))
contains-member (y ∷ ys) x (zero, l, e) = inl (sym e)
contains-member (y ∷ ys) x (suc k, l, e) = inr (contains-member ys x (k, omega (arith, l), e))

-- ---- entries counted one after the other
pub taken-apart : (xs : List Entry) (i : ℕ) (e : Entry) → EachOnce xs → i < length xs → e ≡ get_or xs i e → Member e (take i xs) → ⊥
taken-apart [] i e o l g m = absurd (omega arith)
taken-apart (x ∷ xs) zero e o l g m = m
taken-apart (x ∷ xs) (suc i) e o l g (inl j) =
    let P : Entry → Type 0 = λ y. Member y xs in
    o.0 (subst P j (contains-member xs e (i, omega (arith, l), sym g)))
taken-apart (x ∷ xs) (suc i) e o l g (inr k) = taken-apart xs i e o.1 (omega (arith, l)) g k

pub held-is : (e : Entry) (held : List Entry) (b : Bool) → (b ≡ true → Member e held) × (Member e held → b ≡ true) → b ≡ stands_in same_entry e held
held-is e held b h =
    let d = stands-decides same_entry same_entry-decides (λ x. 0) e held in
    both_ways b (stands_in same_entry e held) (λ t. d.1 (h.0 t)) (λ t. h.1 (d.0 t))
