-- Records of one key stand together, and which of them count.
use Rattle.std.proofs.Common.{◌≡◌, ℕ, zero, suc, ◌+◌, ◌-◌, ◌<◌, ◌≤◌, List, [], ◌∷◌, ◌++◌, length, take, drop, get_or, length-take, length-drop, length-append, refl, ap, sym, subst, ◌∙◌, arith, inl, inr, Ordering, Less, true, false}
use Rattle.std.proofs.lemmas.List.{take_more, drop_more, take_all, take-append-drop, take_rest, append-nil, append_assoc}
use Rattle.std.proofs.Math.Seq.{take-length}
use Rattle.std.proofs.Math.ListN.{drop_of_length-le}
use Rattle.std.proofs.lemmas.Bool.{true≢false}
use Rattle.pw_model.specs.declared.records.Entry.{Entry}
use Rattle.pw_model.specs.Counting.{Member, SameMembers, IsNoWithdrawal, standing, Counts}
use Rattle.pw_model.specs.Lists.{IsInOrder, Lists}
use Rattle.pw_model.specs.Same.{same_key, entry_order}
use Rattle.pw_model.proofs.Counting.{standing-part, all-stand}
use Rattle.pw_model.proofs.Standing.{are-standing, counts-again}
use Rattle.pw_model.specs.inner.Search.{AreStanding}
use Rattle.pw_model.proofs.Same.{same_key-decides}
use Rattle.pw_model.proofs.Places.{member-left, member-right, member-split}
use Rattle.pw_model.proofs.InOrder.{before-member}
use Rattle.pw_model.proofs.EntryOrder.{before-all}
use Rattle.pw_parts.specs.Groups.{HasSameKey}
use Rattle.pw_parts.proofs.Keys.{between, entry-apart}

-- ---- the order of two lists together
pub rising-right : {X : Type 0} (order : X → X → Ordering) (xs ys : List X) → IsInOrder order (xs ++ ys) → IsInOrder order ys
rising-right order [] ys h = h
rising-right order (x ∷ xs) ys h = rising-right order xs ys h.1

-- each of the first list stands before each of the second
pub rising-across : {X : Type 0} (order : X → X → Ordering) (xs ys : List X) → IsInOrder order (xs ++ ys) → (x y : X) → Member x xs → Member y ys → order x y ≡ Less
rising-across order [] ys h x y m n = absurd m
rising-across {X} order (z ∷ xs) ys h x y (inl i) n = let P : X → Type 0 = λ v. order v y ≡ Less in subst P (sym i) (before-member order z y (xs ++ ys) h.0 (member-right y xs ys n))
rising-across order (z ∷ xs) ys h x y (inr m) n = rising-across order xs ys h.1 x y m n

pub rising-push : {X : Type 0} (order : X → X → Ordering) (xs : List X) (y : X) → IsInOrder order xs → ((x : X) → Member x xs → order x y ≡ Less) → IsInOrder order (xs ++ y ∷ [])
rising-push order [] y h b = (tt, tt)
rising-push {X} order (x ∷ xs) y h b = (
  before-all order x (xs ++ y ∷ []) (λ z m. elim (member-split z xs (y ∷ []) m) [
    | inl k ↦ before-member order x z xs h.0 k
    | inr k ↦ elim k [ inl i ↦ (let P : X → Type 0 = λ v. order x v ≡ Less in subst P (sym i) (b x (inl refl))) | inr e ↦ absurd e ]
  ]),
  rising-push order xs y h.1 (λ z m. b z (inr m)),
)

not-before-itself : (a b : Entry) → entry_order a b ≡ Less → a ≡ b → ⊥
not-before-itself a b h e =
    let P : Entry → Type 0 = λ x. entry_order a x ≡ Less in
    entry-apart a (subst P (sym e) h)

-- ---- how many behind a record have its key
pub alike-more : (others : List Entry) (i : ℕ) (other first : Entry) → i < length others → other ≡ get_or others i other → same_key first.key other.key ≡ true →
    ((e : Entry) → Member e (take i others) → e.key ≡ first.key) → (e : Entry) → Member e (take (i + 1) others) → e.key ≡ first.key
alike-more others i other first l g s h e m =
    let n : Member e (take i others ++ get_or others i other ∷ []) = rw (take_more others i other l) at m in
    elim (member-split e (take i others) (get_or others i other ∷ []) n) [
      | inl a ↦ h e a
      | inr b ↦ elim b [ inl j ↦ ap (λ (x : Entry). x.key) (j ∙ sym g) ∙ sym ((same_key-decides first.key other.key).0 s) | inr k ↦ absurd k ]
    ]

pub apart-here : (others : List Entry) (i : ℕ) (other first : Entry) → IsInOrder entry_order (first ∷ others) → i < length others → other ≡ get_or others i other → same_key first.key other.key ≡ false →
    (e : Entry) → Member e (drop i others) → e.key ≡ first.key → ⊥
apart-here others i other first r l g s e m k =
    let split : drop i others ≡ other ∷ drop (i + 1) others = drop_more others i other l ∙ ap (λ (x : Entry). x ∷ drop (i + 1) others) (sym g) in
    let whole : take i others ++ (other ∷ drop (i + 1) others) ≡ others = ap (λ xs. take i others ++ xs) (sym split) ∙ take-append-drop i others in
    let rest : IsInOrder entry_order (take i others ++ (other ∷ drop (i + 1) others)) = rw whole r.1 in
    let here : Member other others = let P : List Entry → Type 0 = λ xs. Member other xs in subst P whole (member-right other (take i others) (other ∷ drop (i + 1) others) (inl refl)) in
    let unlike : first.key ≡ other.key → ⊥ = λ q. true≢false (sym ((same_key-decides first.key other.key).1 q) ∙ s) in
    let n : Member e (other ∷ drop (i + 1) others) = rw split at m in
    elim n [
      | inl j ↦ unlike (sym k ∙ ap (λ (x : Entry). x.key) j)
      | inr b ↦ (
          let low : entry_order first other ≡ Less = before-member entry_order first other others r.0 here in
          let high : entry_order other e ≡ Less = before-member entry_order other e (drop (i + 1) others) (rising-right entry_order (take i others) (other ∷ drop (i + 1) others) rest).0 b in
          unlike (sym (between first other e low high k)))
    ]

pub none-behind : (others : List Entry) (i : ℕ) → length others ≤ i → (e : Entry) → Member e (drop i others) → ⊥
none-behind others i l e m = let n : drop i others ≡ [] = drop_of_length-le others l in (rw n at m)

pub all-alike : (others : List Entry) (i : ℕ) → length others ≤ i → (first : Entry) → ((e : Entry) → Member e (take i others) → e.key ≡ first.key) → (e : Entry) → Member e (take (length others) others) → e.key ≡ first.key
all-alike others i l first h e m =
    let P : List Entry → Type 0 = λ xs. Member e xs in
    h e (subst P (take-length others ∙ sym (take_all i others l)) m)

-- ---- which of the records so far count
-- no key stands in both lists
abbrev pub AreApart : List Entry → List Entry → Type 0
AreApart done rest = (x y : Entry) → Member x done → Member y rest → y.key ≡ x.key → ⊥

-- of these records, those that count among all
abbrev pub CountsSoFar : List Entry → List Entry → Entry → Type 0
CountsSoFar all done e = Member e done × Counts all e

-- done and the records of one key behind it are done, where the rest begins behind them
pub apart-more : (done others : List Entry) (first : Entry) (count : ℕ) → AreApart done (first ∷ others) → HasSameKey first others count → AreApart (done ++ first ∷ take count others) (drop count others)
apart-more done others first count a h x y m n k =
    let whole : take count others ++ drop count others ≡ others = take-append-drop count others in
    let inside : Member y others = let P : List Entry → Type 0 = λ xs. Member y xs in subst P whole (member-right y (take count others) (drop count others) n) in
    elim (member-split x done (first ∷ take count others) m) [
      | inl d ↦ a x y d (inr inside) k
      | inr (inl i) ↦ h.apart y n (k ∙ ap (λ (e : Entry). e.key) i)
      | inr (inr t) ↦ h.apart y n (k ∙ h.same x t)
    ]

pub joined-up : (done others : List Entry) (first : Entry) (count : ℕ) (all : List Entry) → all ≡ done ++ first ∷ others → all ≡ (done ++ first ∷ take count others) ++ drop count others
joined-up done others first count all e =
    let whole : take count others ++ drop count others ≡ others = take-append-drop count others in
    e ∙ ap (λ xs. done ++ first ∷ xs) (sym whole) ∙ sym (append_assoc done (first ∷ take count others) (drop count others))

-- a record that is no withdrawal, with a key of its own, counts
pub alone-counts : (done others : List Entry) (first : Entry) (all : List Entry) → standing all ≡ all → all ≡ done ++ first ∷ others → AreApart done (first ∷ others) → HasSameKey first others 0 → IsNoWithdrawal first.content → Counts all first
alone-counts done others first all w e a h n = (
  (let P : List Entry → Type 0 = λ xs. Member first xs in all-stand all first w (subst P (sym e) (member-right first done (first ∷ others) (inl refl)))),
  λ f m k. (
      let P : List Entry → Type 0 = λ xs. Member f xs in
      let n : Member f (done ++ first ∷ others) = subst P e (standing-part all f m) in
      elim (member-split f done (first ∷ others) n) [
        | inl d ↦ absurd (a f first d (inl refl) (sym k))
        | inr (inl i) ↦ i
        | inr (inr t) ↦ absurd (h.apart f t k)
      ]),
  n,
)

-- records of one key don't count
pub together-don't : (done others : List Entry) (first : Entry) (count : ℕ) (all : List Entry) → standing all ≡ all → IsInOrder entry_order all → all ≡ done ++ first ∷ others → HasSameKey first others (suc count) →
    (x : Entry) → Member x (first ∷ take (suc count) others) → Counts all x → ⊥
together-don't done [] first count all w r e h x m c = absurd (let l = h.within in omega (arith, l))
together-don't done (second ∷ others) first count all w r e h x m c =
    let rest : IsInOrder entry_order (first ∷ second ∷ others) = rising-right entry_order done (first ∷ second ∷ others) (rw e at r) in
    let P : List Entry → Type 0 = λ xs. Member first xs in
    let Q : List Entry → Type 0 = λ xs. Member second xs in
    let one : Member first all = subst P (sym e) (member-right first done (first ∷ second ∷ others) (inl refl)) in
    let two : Member second all = subst Q (sym e) (member-right second done (first ∷ second ∷ others) (inr (inl refl))) in
    let alike : second.key ≡ first.key = h.same second (inl refl) in
    let key : x.key ≡ first.key = elim m [ inl i ↦ ap (λ (f : Entry). f.key) i | inr t ↦ h.same x t ] in
    let a : first ≡ x = c.1 first (all-stand all first w one) (sym key) in
    let b : second ≡ x = c.1 second (all-stand all second w two) (alike ∙ sym key) in
    not-before-itself first second rest.0.0 (a ∙ sym b)

-- and a withdrawal doesn't
withdrawal-doesn't : (others : List Entry) (first : Entry) (all : List Entry) → (IsNoWithdrawal first.content → ⊥) → (x : Entry) → Member x (first ∷ take 0 others) → Counts all x → ⊥
withdrawal-doesn't others first all n x m c = elim m [
  | inl i ↦ (let P : Entry → Type 0 = λ v. IsNoWithdrawal v.content in n (subst P i c.2))
  | inr k ↦ absurd k
]

none-counts : (done others : List Entry) (first : Entry) (count : ℕ) (all : List Entry) → standing all ≡ all → IsInOrder entry_order all → all ≡ done ++ first ∷ others → HasSameKey first others count →
    ((count ≡ 0) × IsNoWithdrawal first.content → ⊥) → (x : Entry) → Member x (first ∷ take count others) → Counts all x → ⊥
none-counts done others first zero all w r e h n = withdrawal-doesn't others first all (λ i. n (refl, i))
none-counts done others first (suc count) all w r e h n = together-don't done others first count all w r e h

-- a step over records of one key
pub step-alone : (done others : List Entry) (first : Entry) (all counted : List Entry) → standing all ≡ all → IsInOrder entry_order all → all ≡ done ++ first ∷ others → AreApart done (first ∷ others) → HasSameKey first others 0 → IsNoWithdrawal first.content →
    Lists entry_order (CountsSoFar all done) counted → Lists entry_order (CountsSoFar all (done ++ first ∷ [])) (counted ++ first ∷ [])
step-alone done others first all counted w r e a h n l = record {
  rising = rising-push entry_order counted first l.rising (λ x m.
      let d : Member x done = ((l.members x).0 m).0 in
      rising-across entry_order done (first ∷ others) (rw e at r) x first d (inl refl));
  members = λ x. (
    λ m. elim (member-split x counted (first ∷ []) m) [
      | inl k ↦ (let p = (l.members x).0 k in (member-left x done (first ∷ []) p.0, p.1))
      | inr k ↦ elim k [
        | inl i ↦ (
            let P : Entry → Type 0 = λ v. CountsSoFar all (done ++ first ∷ []) v in
            subst P (sym i) (member-right first done (first ∷ []) (inl refl), alone-counts done others first all w e a h n))
        | inr k ↦ absurd k
      ]
    ],
    λ p. elim (member-split x done (first ∷ []) p.0) [
      | inl d ↦ member-left x counted (first ∷ []) ((l.members x).1 (d, p.1))
      | inr k ↦ member-right x counted (first ∷ []) k
    ],
  );
}

pub step-past : (done others : List Entry) (first : Entry) (count : ℕ) (all counted : List Entry) → ((x : Entry) → Member x (first ∷ take count others) → Counts all x → ⊥) →
    Lists entry_order (CountsSoFar all done) counted → Lists entry_order (CountsSoFar all (done ++ first ∷ take count others)) counted
step-past done others first count all counted n l = record {
  rising = l.rising;
  members = λ x. (
    λ m. (let p = (l.members x).0 m in (member-left x done (first ∷ take count others) p.0, p.1)),
    λ p. elim (member-split x done (first ∷ take count others) p.0) [
      | inl d ↦ (l.members x).1 (d, p.1)
      | inr k ↦ absurd (n x k p.1)
    ],
  );
}

pub all-done : (all done counted : List Entry) → all ≡ done ++ [] → Lists entry_order (CountsSoFar all done) counted → Lists entry_order (Counts all) counted
all-done all done counted e l = record {
  rising = l.rising;
  members = λ x. (
    λ m. ((l.members x).0 m).1,
    λ c. (l.members x).1 ((let P : List Entry → Type 0 = λ xs. Member x xs in subst P (e ∙ append-nil done) (standing-part all x c.0)), c),
  );
}

-- all is what is done and the rest, with no key in both, and the records that count are known of what is done
abbrev pub SoFar : List Entry → List Entry → List Entry → Type 0
SoFar all rest counted = (done : List Entry) × (all ≡ done ++ rest) × AreApart done rest × Lists entry_order (CountsSoFar all done) counted

pub rest-rises : (all rest counted : List Entry) → IsInOrder entry_order all → SoFar all rest counted → IsInOrder entry_order rest
rest-rises all rest counted r s = rising-right entry_order s.0 rest (rw s.1 at r)

pub alone-so-far : (all others counted : List Entry) (first : Entry) → standing all ≡ all → IsInOrder entry_order all → SoFar all (first ∷ others) counted → HasSameKey first others 0 → IsNoWithdrawal first.content → SoFar all (drop 0 others) (counted ++ first ∷ [])
alone-so-far all others counted first w r s h n = (
  s.0 ++ first ∷ [],
  joined-up s.0 others first 0 all s.1,
  apart-more s.0 others first 0 s.2 h,
  step-alone s.0 others first all counted w r s.1 s.2 h n s.3,
)

pub past-so-far : (all others counted : List Entry) (first : Entry) (count : ℕ) → standing all ≡ all → IsInOrder entry_order all → SoFar all (first ∷ others) counted → HasSameKey first others count → ((count ≡ 0) × IsNoWithdrawal first.content → ⊥) → SoFar all (drop count others) counted
past-so-far all others counted first count w r s h n = (
  s.0 ++ first ∷ take count others,
  joined-up s.0 others first count all s.1,
  apart-more s.0 others first count s.2 h,
  step-past s.0 others first count all counted (none-counts s.0 others first count all w r s.1 h n) s.3,
)

pub none-left : (all counted : List Entry) → SoFar all [] counted → Lists entry_order (Counts all) counted
none-left all counted s = all-done all s.0 counted s.1 s.3

-- where the records behind the first are cut off at a place
pub step-one : (all rest others counted new : List Entry) (first : Entry) (count : ℕ) → standing all ≡ all → IsInOrder entry_order all → rest ≡ first ∷ others → SoFar all rest counted → HasSameKey first others count →
    (count ≡ 0) × IsNoWithdrawal first.content → new ≡ counted ++ first ∷ [] → SoFar all (take (length others - count) (drop count others)) new
step-one all rest others counted new first zero w r e s h z n = rw (take_rest others 0, n) (alone-so-far all others counted first w r (rw e at s) h z.1)
step-one all rest others counted new first (suc count) w r e s h z n = absurd (let i = z.0 in omega (arith, i))

pub step-many : (all rest others counted new : List Entry) (first : Entry) (count : ℕ) → standing all ≡ all → IsInOrder entry_order all → rest ≡ first ∷ others → SoFar all rest counted → HasSameKey first others count →
    ((count ≡ 0) × IsNoWithdrawal first.content → ⊥) → new ≡ counted → SoFar all (take (length others - count) (drop count others)) new
step-many all rest others counted new first count w r e s h z n = rw (take_rest others count, n) (past-so-far all others counted first count w r (rw e at s) h z)

pub no-rest : (all rest counted : List Entry) → length rest ≡ 0 → SoFar all rest counted → Lists entry_order (Counts all) counted
no-rest all [] counted l s = none-left all counted s
no-rest all (e ∷ rest) counted l s = absurd (omega arith)

-- ---- how many there are
few-rest : (others : List Entry) (n : ℕ) → n ≤ length others → length (take (length others - n) (drop n others)) ≤ length others
few-rest others n l = let a = length-take (length others - n) (drop n others) in let b = length-drop n others in omega (arith, a, b)

pub few-push : (records rest others counted new : List Entry) (first : Entry) (n : ℕ) → rest ≡ first ∷ others → n ≤ length others → length counted + length rest ≤ length records → new ≡ counted ++ first ∷ [] →
    length new + length (take (length others - n) (drop n others)) ≤ length records
few-push records rest others counted new first n e l h i =
    let a : length rest ≡ suc (length others) = ap length e in
    let b : length new ≡ length (counted ++ first ∷ []) = ap length i in
    let d = length-append counted (first ∷ []) in
    let f = few-rest others n l in
    omega (arith, a, b, d, f, h)

pub few-skip : (records rest others counted new : List Entry) (first : Entry) (n : ℕ) → rest ≡ first ∷ others → n ≤ length others → length counted + length rest ≤ length records → new ≡ counted →
    length new + length (take (length others - n) (drop n others)) ≤ length records
few-skip records rest others counted new first n e l h i =
    let a : length rest ≡ suc (length others) = ap length e in
    let b : length new ≡ length counted = ap length i in
    let f = few-rest others n l in
    omega (arith, a, b, f, h)

-- ---- of those that stand
pub some-standing : (records view items : List Entry) → view ≡ items → IsInOrder entry_order records → items ≡ standing records → AreStanding records view
some-standing records view items v r h = are-standing records records records view refl (record { rising = r; members = λ e. ((λ m. m), (λ m. m)) }) (v ∙ h)

pub counts-standing : (s t : List Entry) (counted : List Entry) → SameMembers t (standing s) → Lists entry_order (Counts t) counted → Lists entry_order (Counts s) counted
counts-standing s t counted h l = record {
  rising = l.rising;
  members = λ e. (λ m. (counts-again s t h e).0 ((l.members e).0 m), λ c. (l.members e).1 ((counts-again s t h e).1 c));
}
