-- How many records have a key, and which keys two or more have.
use Rattle.std.proofs.Common.{◌≡◌, ℕ, zero, suc, ◌+◌, ◌-◌, ◌^◌, ◌<◌, ◌≤◌, List, [], ◌∷◌, ◌++◌, length, take, drop, refl, ap, sym, ◌∙◌, subst, inl, inr, Less, arith}
use Rattle.std.proofs.lemmas.Bool.{cases_Bool, true≢false}
use Rattle.std.proofs.lemmas.List.{take-append-drop, take_rest, append-nil, length-take-le}
use Rattle.pw_model.specs.declared.records.Key.{Key}
use Rattle.pw_model.specs.declared.records.Dispute.{Dispute}
use Rattle.pw_model.specs.declared.records.Entry.{Entry}
use Rattle.pw_model.specs.Counting.{Member, SameMembers, standing, standing_among}
use Rattle.pw_model.specs.Lists.{IsInOrder, Lists, IsDispute, records_at, dispute_order}
use Rattle.pw_model.specs.Payments.{stands_in}
use Rattle.pw_model.specs.Same.{same_key, same_entry, key_order, entry_order}
use Rattle.pw_model.proofs.Same.{same_key-decides, same_entry-decides}
use Rattle.pw_model.proofs.Counting.{standing-back, standing-member, standing-to, standing-told}
use Rattle.pw_model.proofs.Standing.{rising-some}
use Rattle.pw_model.proofs.Once.{once-front, once-same, stands-decides}
use Rattle.pw_model.specs.Kinds.{ListsHeld}
use Rattle.pw_parts.specs.Groups.{HasSameKey}
use Rattle.pw_book.specs.inner.Groups.{IsDisputeAmong, IsDisputeOf, one_at, records_with}
use Rattle.pw_parts.proofs.Keys.{entry-apart, key-apart}
use Rattle.pw_model.proofs.Places.{member-left, member-right, member-split}
use Rattle.pw_model.proofs.InOrder.{before-member}
use Rattle.pw_parts.proofs.Groups.{AreApart, apart-more, joined-up, rising-right, rising-across, rising-push}

one-here : (k : Key) (e : Entry) → e.key ≡ k → one_at k e ≡ 1
one-here k e h = rw ((same_key-decides e.key k).1 h) refl

pub one-elsewhere : (k : Key) (e : Entry) → (e.key ≡ k → ⊥) → one_at k e ≡ 0
one-elsewhere k e h = elim (cases_Bool (same_key e.key k)) [
  | inl t ↦ absurd (h ((same_key-decides e.key k).0 t))
  | inr u ↦ rw u refl
]

-- those that stand are counted
pub standing-count : (s : List Entry) (k : Key) → records_at s k ≡ records_with k (standing s)
unfolding records_at records_with
standing-count s k = refl

-- what stands in front and is told again, or has another key, adds nothing
pub count-front : (k : Key) (xs ys : List Entry) → ((x : Entry) → Member x xs → (Member x ys → ⊥) → one_at k x ≡ 0) → records_with k (xs ++ ys) ≡ records_with k ys
unfolding records_with
count-front k xs ys h = once-front same_entry same_entry-decides (one_at k) xs ys h

-- of records in order each counts by itself
count-rising : (k : Key) (e : Entry) (es : List Entry) → IsInOrder entry_order (e ∷ es) → records_with k (e ∷ es) ≡ one_at k e + records_with k es
unfolding records_with
count-rising k e es r = elim (cases_Bool (stands_in same_entry e es)) [
  | inl t ↦ absurd (entry-apart e (before-member entry_order e e es r.0 ((stands-decides same_entry same_entry-decides (one_at k) e es).0 t)))
  | inr u ↦ rw u refl
]

count-none : (k : Key) (es : List Entry) → ((e : Entry) → Member e es → e.key ≡ k → ⊥) → records_with k es ≡ 0
unfolding records_with
count-none k [] h = refl
count-none k (e ∷ es) h =
    let behind = count-none k es (λ x m. h x (inr m)) in
    let zero : one_at k e ≡ 0 = one-elsewhere k e (h e (inl refl)) in
    elim (cases_Bool (stands_in same_entry e es)) [
      | inl t ↦ rw t (omega (arith, behind))
      | inr u ↦ rw (u, zero) (omega (arith, behind))
    ]

-- one at most, where those of a key are all the same
pub count-one : (k : Key) (es : List Entry) → ((e f : Entry) → Member e es → Member f es → e.key ≡ k → f.key ≡ k → e ≡ f) → records_with k es ≤ 1
unfolding records_with
count-one k [] h = omega arith
count-one k (e ∷ es) h =
    let behind = count-one k es (λ x y m n. h x y (inr m) (inr n)) in
    elim (cases_Bool (stands_in same_entry e es)) [
      | inl t ↦ rw t (omega (arith, behind))
      | inr u ↦ elim (cases_Bool (same_key e.key k)) [
        | inl i ↦ (
            let here : e.key ≡ k = (same_key-decides e.key k).0 i in
            let one : one_at k e ≡ 1 = one-here k e here in
            let others : records_with k es ≡ 0 = count-none k es (λ f m q.
            let same : f ≡ e = h f e (inr m) (inl refl) q here in
            let P : Entry → Type 0 = λ x. Member x es in
            true≢false (sym ((stands-decides same_entry same_entry-decides (one_at k) e es).1 (subst P same m)) ∙ u)) in
            rw (u, one) (omega (arith, others)))
        | inr f ↦ (
            let zero : one_at k e ≡ 0 = rw f refl in
            rw (u, zero) (omega (arith, behind)))
      ]
    ]

-- behind records of other keys
count-behind : (k : Key) (done rest : List Entry) → IsInOrder entry_order (done ++ rest) → ((e : Entry) → Member e done → e.key ≡ k → ⊥) → records_with k (done ++ rest) ≡ records_with k rest
count-behind k [] rest r h = refl
count-behind k (e ∷ done) rest r h =
    let behind = count-behind k done rest r.1 (λ x m. h x (inr m)) in
    let one = count-rising k e (done ++ rest) r in
    let zero : one_at k e ≡ 0 = one-elsewhere k e (h e (inl refl)) in
    omega (arith, behind, one, zero)

-- all of a key in front of others
count-group : (k : Key) (es rest : List Entry) → IsInOrder entry_order (es ++ rest) → ((e : Entry) → Member e es → e.key ≡ k) → ((e : Entry) → Member e rest → e.key ≡ k → ⊥) → records_with k (es ++ rest) ≡ length es
count-group k [] rest r h n = count-none k rest n
count-group k (e ∷ es) rest r h n =
    let behind = count-group k es rest r.1 (λ x m. h x (inr m)) n in
    let one = count-rising k e (es ++ rest) r in
    let here : one_at k e ≡ 1 = one-here k e (h e (inl refl)) in
    omega (arith, behind, one, here)

-- at most all
count-most : (k : Key) (es : List Entry) → records_with k es ≤ length es
unfolding records_with
count-most k [] = omega arith
count-most k (e ∷ es) =
    let behind = count-most k es in
    let one : one_at k e ≤ 1 = elim (cases_Bool (same_key e.key k)) [ inl t ↦ rw t (omega arith) | inr u ↦ rw u (omega arith) ] in
    elim (cases_Bool (stands_in same_entry e es)) [
      | inl t ↦ rw t (omega (arith, behind))
      | inr u ↦ rw u (omega (arith, behind, one))
    ]

-- at most those with others in front
count-least : (k : Key) (xs ys : List Entry) → records_with k ys ≤ records_with k (xs ++ ys)
unfolding records_with
count-least k [] ys = omega arith
count-least k (x ∷ xs) ys = let behind = count-least k xs ys in omega (arith, behind)

-- those of a part are at most those of the whole
pub count-part : (k : Key) (es s : List Entry) → ((x : Entry) → Member x es → Member x s) → records_with k es ≤ records_with k s
unfolding records_with
count-part k es s h =
    let both : SameMembers s (s ++ es) = λ x. (
      λ m. member-left x s es m,
      λ m. elim (member-split x s es m) [ inl i ↦ i | inr j ↦ h x j ],
    ) in
    let same = once-same same_entry same_entry-decides (one_at k) s (s ++ es) both in
    let least = count-least k s es in
    omega (arith, same, least)

-- where some have a key, one does
pub count-some : (k : Key) (es : List Entry) → 1 ≤ records_with k es → (e : Entry) × Member e es × (e.key ≡ k)
unfolding records_with
count-some k [] h = absurd (omega arith)
count-some k (e ∷ es) h = elim (cases_Bool (same_key e.key k)) [
  | inl t ↦ (e, inl refl, (same_key-decides e.key k).0 t)
  | inr u ↦ (
      let zero : one_at k e ≡ 0 = rw u refl in
      let behind : 1 ≤ records_with k es = elim (cases_Bool (stands_in same_entry e es)) [
        | inl t ↦ (let g = rw t at h in omega (arith, g))
        | inr f ↦ (let g = rw (f, zero) at h in omega (arith, g))
      ] in
      let r = count-some k es behind in
      (r.0, inr r.1, r.2))
]

-- ---- the records of one key
-- how many have the key of a group
pub group-number : (all done others : List Entry) (first : Entry) (n : ℕ) → IsInOrder entry_order all → all ≡ done ++ first ∷ others → AreApart done (first ∷ others) → HasSameKey first others n → records_with first.key all ≡ suc n
group-number all done others first n r e a h =
    let split : first ∷ others ≡ (first ∷ take n others) ++ drop n others = ap (λ xs. first ∷ xs) (sym (take-append-drop n others)) in
    let whole : all ≡ done ++ ((first ∷ take n others) ++ drop n others) = e ∙ ap (λ xs. done ++ xs) split in
    let P : List Entry → Type 0 = IsInOrder entry_order in
    let up : IsInOrder entry_order (done ++ ((first ∷ take n others) ++ drop n others)) = subst P whole r in
    let one : records_with first.key (done ++ ((first ∷ take n others) ++ drop n others)) ≡ records_with first.key ((first ∷ take n others) ++ drop n others) =
    count-behind first.key done ((first ∷ take n others) ++ drop n others) up (λ x m k. a x first m (inl refl) (sym k)) in
    let two : records_with first.key ((first ∷ take n others) ++ drop n others) ≡ length (first ∷ take n others) =
    count-group first.key (first ∷ take n others) (drop n others) (rising-right entry_order done _ up)
    (λ x m. elim m [ inl i ↦ ap (λ (y : Entry). y.key) i | inr t ↦ h.same x t ]) h.apart in
    let three : length (take n others) ≡ n = (let w = h.within in length-take-le n others w) in
    ap (λ xs. records_with first.key xs) whole ∙ one ∙ two ∙ ap suc three

-- a dispute over a key that is met so far
abbrev IsMet : List Entry → List Entry → Dispute → Type 0
IsMet all done d = IsDisputeAmong all d × ((e : Entry) × Member e done × (e.key ≡ d.key))

abbrev pub DisputesSoFar : List Entry → List Entry → List Dispute → Type 0
DisputesSoFar all rest ds = (done : List Entry) × (all ≡ done ++ rest) × AreApart done rest × Lists dispute_order (IsMet all done) ds

pub none-met : (all : List Entry) → DisputesSoFar all all []
none-met all = ([], refl, (λ x y m n k. absurd m), record { rising = tt; members = λ d. ((λ m. absurd m), (λ h. absurd h.1.1)) })

met-more : (all done more : List Entry) (d : Dispute) → IsMet all done d → IsMet all (done ++ more) d
met-more all done more d h = (h.0, (h.1.0, member-left h.1.0 done more h.1.1, h.1.2))

-- behind a record with a key of its own
met-alone : (all rest others : List Entry) (first : Entry) (ds : List Dispute) → IsInOrder entry_order all → rest ≡ first ∷ others → DisputesSoFar all rest ds → HasSameKey first others 0 → DisputesSoFar all (drop 0 others) ds
met-alone all rest others first ds r q s h =
    let w : all ≡ s.0 ++ first ∷ others = s.1 ∙ ap (λ xs. s.0 ++ xs) q in
    let a : AreApart s.0 (first ∷ others) = (let P : List Entry → Type 0 = λ xs. AreApart s.0 xs in subst P q s.2) in
    let n = group-number all s.0 others first 0 r w a h in (
      s.0 ++ first ∷ [],
      joined-up s.0 others first 0 all w,
      apart-more s.0 others first 0 a h,
      record {
        rising = s.3.rising;
        members = λ d. (
          λ m. met-more all s.0 (first ∷ []) d ((s.3.members d).0 m),
          λ k. elim (member-split k.1.0 s.0 (first ∷ []) k.1.1) [
            | inl i ↦ (s.3.members d).1 (k.0, (k.1.0, i, k.1.2))
            | inr (inl i) ↦ absurd (
                let same : first.key ≡ d.key = ap (λ (y : Entry). y.key) (sym i) ∙ k.1.2 in
                let number : d.contents ≡ 1 = k.0.number ∙ ap (λ l. records_with l all) (sym same) ∙ n in
                let several = k.0.several in
                omega (arith, number, several))
            | inr (inr z) ↦ absurd z
          ],
        );
      },
    )

-- behind records of one key
met-many : (all rest others : List Entry) (first : Entry) (n : ℕ) (ds : List Dispute) (d : Dispute) → IsInOrder entry_order all → rest ≡ first ∷ others → DisputesSoFar all rest ds → HasSameKey first others (suc n) →
    ((k : Key) → records_with k all < 2 ^ 32) → IsDisputeOf first (suc n) d → DisputesSoFar all (drop (suc n) others) (ds ++ d ∷ [])
met-many all rest others first n ds d r q s h few g =
    let w : all ≡ s.0 ++ first ∷ others = s.1 ∙ ap (λ xs. s.0 ++ xs) q in
    let a : AreApart s.0 (first ∷ others) = (let P : List Entry → Type 0 = λ xs. AreApart s.0 xs in subst P q s.2) in
    let up : IsInOrder entry_order (s.0 ++ first ∷ others) = (let P : List Entry → Type 0 = IsInOrder entry_order in subst P w r) in
    let number : records_with first.key all ≡ suc (suc n) = group-number all s.0 others first (suc n) r w a h in
    let fits = few first.key in
    let contents : d.contents ≡ suc n + 1 = g.number (omega (arith, number, fits)) in
    let here : IsDisputeAmong all d = record { several = omega (arith, contents); number = (let k : records_with d.key all ≡ suc (suc n) = ap (λ l. records_with l all) g.key ∙ number in omega (arith, contents, k)) } in
    let group = first ∷ take (suc n) others in (
      s.0 ++ group,
      joined-up s.0 others first (suc n) all w,
      apart-more s.0 others first (suc n) a h,
      record {
        rising = rising-push dispute_order ds d s.3.rising (λ x m.
            let k = ((s.3.members x).0 m).1 in
            let o : key_order k.0.key first.key ≡ Less = key-apart k.0 first (rising-across entry_order s.0 (first ∷ others) up k.0 first k.1 (inl refl)) (λ i. a k.0 first k.1 (inl refl) i) in
            (rw (sym k.2, g.key) o));
        members = λ x. (
          λ m. elim (member-split x ds (d ∷ []) m) [
            | inl i ↦ met-more all s.0 group x ((s.3.members x).0 i)
            | inr (inl i) ↦ (let P : Dispute → Type 0 = λ y. IsMet all (s.0 ++ group) y in subst P (sym i) (here, (first, member-right first s.0 group (inl refl), sym g.key)))
            | inr (inr z) ↦ absurd z
          ],
          λ k. elim (member-split k.1.0 s.0 group k.1.1) [
            | inl i ↦ member-left x ds (d ∷ []) ((s.3.members x).1 (k.0, (k.1.0, i, k.1.2)))
            | inr t ↦ (
                let same : k.1.0.key ≡ first.key = elim t [ inl i ↦ ap (λ (y : Entry). y.key) i | inr j ↦ h.same k.1.0 j ] in
                let key : x.key ≡ d.key = sym k.1.2 ∙ same ∙ sym g.key in
                let both : x.contents ≡ d.contents = k.0.number ∙ ap (λ l. records_with l all) key ∙ sym here.number in
                let is : x ≡ d = λ i. record { key = key i; contents = both i } in
                member-right x ds (d ∷ []) (inl is))
          ],
        );
      },
    )

pub all-met : (all rest : List Entry) (ds : List Dispute) → length rest ≡ 0 → DisputesSoFar all rest ds → Lists dispute_order (IsDisputeAmong all) ds
all-met all [] ds e s = record {
  rising = s.3.rising;
  members = λ d. (
    λ m. ((s.3.members d).0 m).0,
    λ h.
        let several = h.several in
        let number = h.number in
        let some = count-some d.key all (omega (arith, several, number)) in
        let P : List Entry → Type 0 = λ xs. Member some.0 xs in
        (s.3.members d).1 (h, (some.0, subst P (s.1 ∙ append-nil s.0) some.1, some.2)),
  );
}
all-met all (x ∷ rest) ds e s = absurd (omega arith)

-- where the rest is cut off at a place
pub step-alone : (all rest others : List Entry) (first : Entry) (n : ℕ) (ds new : List Dispute) → IsInOrder entry_order all → rest ≡ first ∷ others → DisputesSoFar all rest ds → HasSameKey first others n →
    (0 < n → ⊥) → new ≡ ds → DisputesSoFar all (take (length others - n) (drop n others)) new
step-alone all rest others first zero ds new r q s h z e = rw (take_rest others 0, e) (met-alone all rest others first ds r q s h)
step-alone all rest others first (suc n) ds new r q s h z e = absurd (z (omega arith))

pub step-many : (all rest others : List Entry) (first : Entry) (n : ℕ) (ds new : List Dispute) (d : Dispute) → IsInOrder entry_order all → rest ≡ first ∷ others → DisputesSoFar all rest ds → HasSameKey first others n →
    0 < n → ((k : Key) → records_with k all < 2 ^ 32) → IsDisputeOf first n d → new ≡ ds ++ d ∷ [] → DisputesSoFar all (take (length others - n) (drop n others)) new
step-many all rest others first zero ds new d r q s h z few g e = absurd (omega arith)
step-many all rest others first (suc n) ds new d r q s h z few g e = rw (take_rest others (suc n), e) (met-many all rest others first n ds d r q s h few g)

-- ---- the records that stand with some keys
-- of those held, a list has those that stand with such a key, sorted by key and content
abbrev pub ListsStanding : (Key → Type 0) → List Entry → List Entry → Type 0
ListsStanding Of s = Lists entry_order (λ e. Member e (standing s) × Of e.key)

-- those that stand of those held with such a key
pub held-stand : (Of : Key → Type 0) (s held : List Entry) → ListsHeld Of s held → ListsStanding Of s (standing_among s held)
held-stand Of s held h = record {
  rising = rising-some s held h.rising;
  members = λ e. (
    λ m. (let k = standing-to s held e m in let g = (h.members e).0 k.0 in (standing-member s e g.0 k.1, g.1)),
    λ k. (let t = standing-told s e k.0 in standing-back s held e ((h.members e).1 (t.0, k.1)) t.1),
  );
}

standing-number : (Of : Key → Type 0) (s records : List Entry) → ListsStanding Of s records → (k : Key) → Of k → records_at s k ≡ records_with k records
unfolding records_with
standing-number Of s records h k o =
    let both : SameMembers (standing s) (standing s ++ records) = λ x. (
      λ m. member-left x (standing s) records m,
      λ m. elim (member-split x (standing s) records m) [ inl i ↦ i | inr j ↦ ((h.members x).0 j).0 ],
    ) in
    standing-count s k
    ∙ once-same same_entry same_entry-decides (one_at k) (standing s) (standing s ++ records) both
    ∙ count-front k (standing s) records (λ x m n. one-elsewhere k x (λ i. n ((h.members x).1 (m, subst Of (sym i) o))))

-- fewer than the largest u32 where fewer are held
pub held-few : (Of : Key → Type 0) (s held : List Entry) → ListsHeld Of s held → length s < 2 ^ 32 → (k : Key) → records_with k held < 2 ^ 32
held-few Of s held h l k =
    let part = count-part k held s (λ x m. ((h.members x).0 m).0) in
    let most = count-most k s in
    omega (arith, part, most, l)

-- the disputes among records that stand with some keys are those of the whole set over such keys
pub standing-disputes : (Of : Key → Type 0) (s records : List Entry) (ds : List Dispute) → ListsStanding Of s records → Lists dispute_order (IsDisputeAmong records) ds → Lists dispute_order (λ d. IsDispute s d × Of d.key) ds
standing-disputes Of s records ds h l = record {
  rising = l.rising;
  members = λ d. (
    λ m.
        let k = (l.members d).0 m in
        let several = k.several in
        let number = k.number in
        let some = count-some d.key records (omega (arith, several, number)) in
        let o : Of d.key = subst Of some.2 ((h.members some.0).0 some.1).1 in
        (record { several = several; number = k.number ∙ sym (standing-number Of s records h d.key o) }, o),
    λ k. (l.members d).1 (record { several = k.0.several; number = k.0.number ∙ standing-number Of s records h d.key k.1 }),
  );
}

-- ---- the rest of a list
abbrev pub IsTail : List Entry → List Entry → Type 0
IsTail all rest = (done : List Entry) × (all ≡ done ++ rest)

pub tail-rises : (all rest : List Entry) → IsInOrder entry_order all → IsTail all rest → IsInOrder entry_order rest
tail-rises all rest r t = rising-right entry_order t.0 rest (let P : List Entry → Type 0 = IsInOrder entry_order in subst P t.1 r)

pub tail-more : (all rest others : List Entry) (first : Entry) (n : ℕ) → rest ≡ first ∷ others → IsTail all rest → IsTail all (take (length others - n) (drop n others))
tail-more all rest others first n q t = (t.0 ++ first ∷ take n others, joined-up t.0 others first n all (t.1 ∙ ap (λ xs. t.0 ++ xs) q) ∙ ap (λ xs. (t.0 ++ first ∷ take n others) ++ xs) (sym (take_rest others n)))
