-- A meter's starts with another one, and the time up to the next.
use Rattle.std.proofs.Common.{◌≡◌, ◌==◌, ℕ, suc, ◌+◌, ◌-◌, ◌<◌, ◌≤◌, ◌⊎◌, Bool, cond, nat_lt, Option, Some, None, List, [], ◌∷◌, ◌++◌, length, take, drop, get_or, refl, ap, sym, subst, ◌∙◌, inl, inr, arith, Less}
use Rattle.std.specs.Cmp.{nat_cmp_is}
use Rattle.std.specs.List.{filter}
use Rattle.std.proofs.lemmas.Bool.{cases_Bool, cases_eq, cases_lt, eq-eqb, le-ltb, ne_eqb, lt-ltb, ltb-true}
use Rattle.std.proofs.Math.Seq.{drop-cons}
use Rattle.std.proofs.lemmas.List.{append_assoc, length-append, take-append-drop, take_all, take_more}
use Rattle.std.proofs.lemmas.Option.{none-some, same_Some}
use Rattle.pw_flow.proofs.Points.{option-cases}
use Rattle.pw_time.specs.declared.instant.TheConstants.{LAST_SECOND}
use Rattle.pw_tariff.specs.declared.ids.AccountId.{AccountId}
use Rattle.pw_model.specs.Counting.{Member}
use Rattle.pw_model.specs.Lists.{IsInOrder}
use Rattle.pw_model.specs.Seconds.{ListsSeconds, by_second}
use Rattle.pw_book.specs.Cost.{HasPointsAt}
use Rattle.pw_book.specs.inner.Settling.{EndsBeforeNext}
use Rattle.pw_parts.proofs.Chart.{less-is}
use Rattle.pw_model.proofs.Places.{member-left, member-right, member-split}
use Rattle.pw_model.proofs.InOrder.{before-member}
use Rattle.pw_model.proofs.EntryOrder.{before-all}
use Rattle.pw_parts.proofs.Groups.{rising-right}
use Rattle.pw_model.proofs.Filtered.{filtered-member, member-filtered}

abbrev pub Start : Type 0
Start = ℕ × Option AccountId

-- ---- the starts that pass a test
pub part-rises : {X : Type 0} (p : ℕ × X → Bool) (xs : List (ℕ × X)) → IsInOrder by_second xs → IsInOrder by_second (filter p xs)
part-rises p [] r = tt
part-rises p (y ∷ ys) r = elim (cases_Bool (p y)) [
  | inl e ↦ rw e (before-all by_second y (filter p ys) (λ z m. before-member by_second y z ys r.0 (filtered-member p ys z m).0), part-rises p ys r.1)
  | inr f ↦ rw f (part-rises p ys r.1)
]

-- ---- a start at one second, in place of what is told there
-- a start that is there or not, before a list
abbrev pub start_listed : ℕ → Option (Option AccountId) → List Start → List Start
start_listed z None xs = xs
start_listed z (Some o) xs = (z, o) ∷ xs

abbrev pub early : {X : Type 0} → ℕ → ℕ × X → Bool
early z s = nat_lt s.0 z

abbrev pub late : {X : Type 0} → ℕ → ℕ × X → Bool
late z s = nat_lt z s.0

pub joined-rises : {X : Type 0} (xs ys : List (ℕ × X)) → IsInOrder by_second xs → IsInOrder by_second ys → ((x y : ℕ × X) → Member x xs → Member y ys → x.0 < y.0) → IsInOrder by_second (xs ++ ys)
joined-rises [] ys r s h = s
joined-rises (x ∷ xs) ys r s h = (
  before-all by_second x (xs ++ ys) (λ z m. elim (member-split z xs ys m) [
    | inl a ↦ before-member by_second x z xs r.0 a
    | inr b ↦ (let c = nat_cmp_is x.0 z.0 Less (h x z (inl refl) b) in sym c)
  ]),
  joined-rises xs ys r.1 s (λ a b m n. h a b (inr m) n),
)

-- what stands from the second on
late-member : (z : ℕ) (owner : Option (Option AccountId)) (xs : List Start) (x : Start) → Member x (start_listed z owner (filter (late z) xs)) →
    ((x.0 ≡ z) × (owner ≡ Some x.1)) ⊎ (Member x xs × (z < x.0))
late-member z None xs x m = let h = filtered-member (late z) xs x m in inr (h.0, ltb-true z x.0 h.1)
late-member z (Some o) xs x (inl i) = inl (ap (λ (s : Start). s.0) i, ap (λ (s : Start). Some s.1) (sym i))
late-member z (Some o) xs x (inr m) = let h = filtered-member (late z) xs x m in inr (h.0, ltb-true z x.0 h.1)

late-rises : (z : ℕ) (owner : Option (Option AccountId)) (xs : List Start) → IsInOrder by_second xs → IsInOrder by_second (start_listed z owner (filter (late z) xs))
late-rises z None xs r = part-rises (late z) xs r
late-rises z (Some o) xs r = (
  before-all by_second (z, o) (filter (late z) xs) (λ x m. (let h = filtered-member (late z) xs x m in sym (nat_cmp_is z x.0 Less (ltb-true z x.0 h.1)))),
  part-rises (late z) xs r,
)

member-late : (z : ℕ) (owner : Option (Option AccountId)) (ys : List Start) (x : Start) → Member x ys → Member x (start_listed z owner ys)
member-late z None ys x m = m
member-late z (Some o) ys x m = inr m

member-there : (z : ℕ) (owner : Option (Option AccountId)) (ys : List Start) (x : Start) → x.0 ≡ z → owner ≡ Some x.1 → Member x (start_listed z owner ys)
member-there z None ys x e h = absurd (none-some x.1 h)
member-there z (Some o) ys x e h = let f : x.1 ≡ o = sym (same_Some o x.1 h) in inl (λ i. (e i, f i))

-- the starts before the second, the one at it, and those behind it
pub started : (told : ℕ → Option (Option AccountId)) (z : ℕ) (owner : Option (Option AccountId)) (xs : List Start) → ListsSeconds told xs →
    ListsSeconds (λ t. cond (t == z) owner (told t)) (filter (early z) xs ++ start_listed z owner (filter (late z) xs))
started told z owner xs l = record {
  rising = joined-rises (filter (early z) xs) (start_listed z owner (filter (late z) xs)) (part-rises (early z) xs l.rising) (late-rises z owner xs l.rising)
      (λ x y m n. (
      let a = ltb-true x.0 z (filtered-member (early z) xs x m).1 in
      elim (late-member z owner xs y n) [
        | inl b ↦ (let e = b.0 in omega (arith, a, e))
        | inr b ↦ (let e = b.1 in omega (arith, a, e))
      ]));
  members = λ x. (
    λ m. elim (member-split x (filter (early z) xs) (start_listed z owner (filter (late z) xs)) m) [
      | inl a ↦ (
          let h = filtered-member (early z) xs x a in
          let b = ltb-true x.0 z h.1 in
          rw (ne_eqb x.0 z (λ e. absurd (omega (arith, b, e)))) ((l.members x).0 h.0))
      | inr a ↦ elim (late-member z owner xs x a) [
        | inl b ↦ rw (eq-eqb x.0 z b.0) b.1
        | inr b ↦ (let c = b.1 in rw (ne_eqb x.0 z (λ e. absurd (omega (arith, c, e)))) ((l.members x).0 b.0))
      ]
    ],
    λ p. elim (cases_eq x.0 z) [
      | inl e ↦ (
          let h : owner ≡ Some x.1 = rw (eq-eqb x.0 z e) at p in
          member-right x (filter (early z) xs) (start_listed z owner (filter (late z) xs)) (member-there z owner (filter (late z) xs) x e h))
      | inr n ↦ (
          let h : told x.0 ≡ Some x.1 = rw (ne_eqb x.0 z n) at p in
          let m = (l.members x).1 h in
          elim (cases_lt x.0 z) [
            | inl a ↦ member-left x (filter (early z) xs) (start_listed z owner (filter (late z) xs)) (member-filtered (early z) xs x m (lt-ltb x.0 z a))
            | inr a ↦ (
                let b : z < x.0 = omega (arith, a, n) in
                member-right x (filter (early z) xs) (start_listed z owner (filter (late z) xs))
                (member-late z owner (filter (late z) xs) x (member-filtered (late z) xs x m (lt-ltb z x.0 b))))
          ])
    ],
  );
}

-- ---- up to the next
-- the list up to a place, the member there, and what stands behind it
parted : (xs : List Start) (i : ℕ) (x : Start) → i < length xs → x ≡ get_or xs i x → xs ≡ take i xs ++ x ∷ drop (i + 1) xs
parted xs i x l e =
    let next : suc i ≡ i + 1 = omega arith in
    sym (take-append-drop i xs)
    ∙ ap (λ (ys : List Start). take i xs ++ ys) (drop-cons xs i x l ∙ ap (λ (y : Start). y ∷ drop (suc i) xs) (sym e) ∙ ap (λ (n : ℕ). x ∷ drop n xs) next)

pub behind-more : (xs : List Start) (i from : ℕ) (x : Start) → i < length xs → x ≡ get_or xs i x → x.0 ≤ from → ((y : Start) → Member y (take i xs) → y.0 ≤ from) → (y : Start) → Member y (take (i + 1) xs) → y.0 ≤ from
behind-more xs i from x l e g h y m =
    let k : Member y (take i xs ++ get_or xs i x ∷ []) = rw (take_more xs i x l) at m in
    elim (member-split y (take i xs) (get_or xs i x ∷ []) k) [
      | inl a ↦ h y a
      | inr b ↦ elim b [ inl c ↦ (let d : y.0 ≡ x.0 = ap (λ (s : Start). s.0) (c ∙ sym e) in omega (arith, d, g)) | inr c ↦ absurd c ]
    ]

pub until-found : (told : ℕ → Option (Option AccountId)) (xs : List Start) (i from until : ℕ) (x : Start) → ListsSeconds told xs → i < length xs → x ≡ get_or xs i x → from < x.0 →
    ((y : Start) → Member y (take i xs) → y.0 ≤ from) → until ≡ x.0 - 1 → EndsBeforeNext told from until
until-found told xs i from until x l k e g h u = record {
  rises = omega (arith, g, u);
  none = λ s a b. elim (option-cases (told s)) [
    | inl n ↦ n
    | inr w ↦ (
        let m = (l.members (s, w.0)).1 w.1 in
        let n : Member (s, w.0) (take i xs ++ x ∷ drop (i + 1) xs) = rw (parted xs i x k e) at m in
        absurd (elim (member-split (s, w.0) (take i xs) (x ∷ drop (i + 1) xs) n) [
          | inl c ↦ (let d = h (s, w.0) c in omega (arith, a, d))
          | inr c ↦ elim c [
            | inl d ↦ (let q : s ≡ x.0 = ap (λ (p : Start). p.0) d in omega (arith, q, b, u, g))
            | inr d ↦ (
                let r = rising-right by_second (take i xs) (x ∷ drop (i + 1) xs) (rw (parted xs i x k e) at l.rising) in
                let q = less-is x.0 s (before-member by_second x (s, w.0) (drop (i + 1) xs) r.0 d) in
                omega (arith, q, b, u, g))
          ]
        ]))
  ];
  next = (
      let m : Member x xs = let n : Member x (take i xs ++ x ∷ drop (i + 1) xs) = member-right x (take i xs) (x ∷ drop (i + 1) xs) (inl refl) in rw (sym (parted xs i x k e)) at n in
      let q : until + 1 ≡ x.0 = omega (arith, u, g) in
      inl (x.1, ap told q ∙ (l.members x).0 m));
}

pub until-last : (told : ℕ → Option (Option AccountId)) (xs : List Start) (i from until : ℕ) → ListsSeconds told xs → length xs ≤ i → ((y : Start) → Member y (take i xs) → y.0 ≤ from) →
    from ≤ LAST_SECOND → until ≡ LAST_SECOND → EndsBeforeNext told from until
until-last told xs i from until l k h f u = record {
  rises = omega (arith, f, u);
  none = λ s a b. elim (option-cases (told s)) [
    | inl n ↦ n
    | inr w ↦ (
        let m = (l.members (s, w.0)).1 w.1 in
        let n : Member (s, w.0) (take i xs) = rw (take_all i xs k) m in
        absurd (let d = h (s, w.0) n in omega (arith, a, d)))
  ];
  next = inr u;
}

-- ---- the list put together
pub started-some : (told : ℕ → Option (Option AccountId)) (z : ℕ) (owner : Option (Option AccountId)) (o : Option AccountId) (xs first mid all : List Start) → ListsSeconds told xs →
    first ≡ filter (early z) xs → owner ≡ Some o → mid ≡ first ++ (z, o) ∷ [] → all ≡ mid ++ filter (late z) xs → ListsSeconds (λ t. cond (t == z) owner (told t)) all
started-some told z owner o xs first mid all l f w m a =
    let q : all ≡ filter (early z) xs ++ start_listed z owner (filter (late z) xs) = rw (a, m, f, w, append_assoc (filter (early z) xs) ((z, o) ∷ []) (filter (late z) xs)) refl in
    let P : List Start → Type 0 = λ ys. ListsSeconds (λ t. cond (t == z) owner (told t)) ys in
    subst P (sym q) (started told z owner xs l)

pub started-none : (told : ℕ → Option (Option AccountId)) (z : ℕ) (owner : Option (Option AccountId)) (xs first mid all : List Start) → ListsSeconds told xs →
    first ≡ filter (early z) xs → owner ≡ None → mid ≡ first → all ≡ mid ++ filter (late z) xs → ListsSeconds (λ t. cond (t == z) owner (told t)) all
started-none told z owner xs first mid all l f w m a =
    let q : all ≡ filter (early z) xs ++ start_listed z owner (filter (late z) xs) = rw (a, m, f, w) refl in
    let P : List Start → Type 0 = λ ys. ListsSeconds (λ t. cond (t == z) owner (told t)) ys in
    subst P (sym q) (started told z owner xs l)

-- ---- how many
-- all that stands behind the first of a list, where that isn't before the second
late-all : {X : Type 0} (z : ℕ) (x : ℕ × X) (xs : List (ℕ × X)) → z ≤ x.0 → IsInOrder by_second (x ∷ xs) → length (filter (late z) xs) ≡ length xs
late-all z x [] l r = refl
late-all z x (y ∷ ys) l r =
    let a = less-is x.0 y.0 (before-member by_second x y (y ∷ ys) r.0 (inl refl)) in
    let b : z < y.0 = omega (arith, a, l) in
    rw (lt-ltb z y.0 b) (ap suc (late-all z y ys (omega (arith, b)) r.1))

-- all but one stand before a second or behind it
parts-few : {X : Type 0} (z : ℕ) (xs : List (ℕ × X)) → IsInOrder by_second xs → length xs ≤ length (filter (early z) xs) + length (filter (late z) xs) + 1
parts-few z [] r = omega arith
parts-few z (x ∷ xs) r =
    let rest = parts-few z xs r.1 in
    elim (cases_lt x.0 z) [
      | inl a ↦ rw (lt-ltb x.0 z a, le-ltb z x.0 (omega (arith, a))) (omega (arith, rest))
      | inr a ↦ elim (cases_lt z x.0) [
        | inl b ↦ rw (lt-ltb z x.0 b, le-ltb x.0 z a) (omega (arith, rest))
        | inr b ↦ (let c = late-all z x xs a r in rw (le-ltb z x.0 b, le-ltb x.0 z a) (omega (arith, c)))
      ]
    ]

listed-more : (o : Option (Option AccountId)) (z : ℕ) (xs : List Start) → length xs ≤ length (start_listed z o xs)
listed-more None z xs = omega arith
listed-more (Some a) z xs = omega arith

told-alike : (told other : ℕ → Option (Option AccountId)) (xs : List Start) → ((t : ℕ) → told t ≡ other t) → ListsSeconds told xs → ListsSeconds other xs
told-alike told other xs e l = record {
  rising = l.rising;
  members = λ x. (λ m. sym (e x.0) ∙ (l.members x).0 m, λ p. (l.members x).1 (e x.0 ∙ p));
}

-- where other starts are told at one second alone, there is one more at most
pub starts-more : (told other : ℕ → Option (Option AccountId)) (z most : ℕ) → ((t : ℕ) → (t ≡ z → ⊥) → other t ≡ told t) →
    ((xs : List Start) → ListsSeconds told xs → length xs ≤ most) → (xs : List Start) → ListsSeconds other xs → length xs ≤ most + 1
starts-more told other z most same few xs l =
    let first = filter (early z) xs in
    let second = filter (late z) xs in
    let ys = first ++ start_listed z (told z) second in
    let e : (t : ℕ) → cond (t == z) (told z) (other t) ≡ told t = λ t. elim (cases_eq t z) [
      | inl q ↦ rw (eq-eqb t z q) (ap told (sym q))
      | inr n ↦ rw (ne_eqb t z n) (same t n)
    ] in
    let f = few ys (told-alike (λ t. cond (t == z) (told z) (other t)) told ys e (started other z (told z) xs l)) in
    let a = parts-few z xs l.rising in
    let b = listed-more (told z) z second in
    let c = length-append first (start_listed z (told z) second) in
    omega (arith, a, b, c, f)

-- where other points are told at one second alone, there is one more at most
pub points-more : (told other : ℕ → Option ℕ) (z most : ℕ) → ((t : ℕ) → (t ≡ z → ⊥) → other t ≡ told t) → HasPointsAt (λ t. Unit {0}) told most → HasPointsAt (λ t. Unit {0}) other (most + 1)
points-more told other z most same few xs rises held =
    let first = filter (early z) xs in
    let second = filter (late z) xs in
    let rising = joined-rises first second (part-rises (early z) xs rises) (part-rises (late z) xs rises) (λ x y m n.
    let a = ltb-true x.0 z (filtered-member (early z) xs x m).1 in
    let b = ltb-true z y.0 (filtered-member (late z) xs y n).1 in
    omega (arith, a, b)) in
    let f = few (first ++ second) rising (λ x m. (
      tt,
      elim (member-split x first second m) [
        | inl i ↦ (
            let h = filtered-member (early z) xs x i in
            let a = ltb-true x.0 z h.1 in
            sym (same x.0 (λ e. absurd (omega (arith, a, e)))) ∙ (held x h.0).1)
        | inr i ↦ (
            let h = filtered-member (late z) xs x i in
            let a = ltb-true z x.0 h.1 in
            sym (same x.0 (λ e. absurd (omega (arith, a, e)))) ∙ (held x h.0).1)
      ],
    )) in
    let a = parts-few z xs rises in
    let b = length-append first second in
    omega (arith, a, b, f)
