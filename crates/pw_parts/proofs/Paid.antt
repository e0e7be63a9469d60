-- What the top-ups that count give together.
use Rattle.std.proofs.Common.{◌≡◌, ℕ, ◌+◌, List, [], ◌∷◌, ◌++◌, refl, ap, sym, ◌∙◌, subst, inl, inr, ◌⊎◌}
use Rattle.std.specs.List.{sum_by}
use Rattle.std.proofs.lemmas.Bool.{cases_Bool}
use Rattle.std.proofs.lemmas.List.Sums.{sum_by-cons}
use Rattle.pw_tariff.specs.Office.{OfficeRules}
use Rattle.pw_model.specs.declared.records.Key.{Key}
use Rattle.pw_model.specs.declared.records.Key.TheVariants as key
use Rattle.pw_model.specs.declared.records.Content.{Content}
use Rattle.pw_model.specs.declared.records.Content.TheVariants as content
use Rattle.pw_model.specs.declared.records.Entry.{Entry}
use Rattle.pw_model.specs.declared.records.Contents.{Contents}
use Rattle.pw_model.specs.declared.records.Contents.TheVariants.{Nothing, One, Several}
use Rattle.pw_model.specs.Counting.{Member, SameMembers, contents_at, IsNoWithdrawal}
use Rattle.pw_model.specs.Lists.{IsInOrder}
use Rattle.pw_model.specs.Office.{AllOfOffice, IsOf}
use Rattle.pw_model.specs.Payments.{stands_in, sum_once, keys, cents_for, topped_up}
use Rattle.pw_model.specs.Same.{same_key, entry_order}
use Rattle.pw_model.proofs.Same.{same_key-decides}
use Rattle.pw_model.proofs.Counting.{entry, standing-part, one-stands, counts-one, one-is_counting}
use Rattle.pw_model.proofs.Once.{once-front, once-same, stands-decides}
use Rattle.pw_model.proofs.Answers.{key-back}
use Rattle.pw_model.specs.Kinds.{IsTopUp}
use Rattle.pw_parts.specs.inner.Counted.{ListsCounting}
use Rattle.pw_parts.proofs.Keys.{entry-apart}
use Rattle.pw_model.proofs.Places.{member-left, member-split}
use Rattle.pw_model.proofs.InOrder.{before-member}

key-of : (k : Key) (es : List Entry) → Member k (keys es) → (e : Entry) × Member e es × (e.key ≡ k)
key-of k [] m = absurd m
key-of k (e ∷ es) m = elim m [
  | inl i ↦ (e, inl refl, sym i)
  | inr n ↦ (let r = key-of k es n in (r.0, inr r.1, r.2))
]

-- of records whose keys differ, each adds its own
once-each : (f : Key → ℕ) (es : List Entry) → IsInOrder entry_order es → ((a b : Entry) → Member a es → Member b es → a.key ≡ b.key → a ≡ b) → sum_once same_key f (keys es) ≡ sum_by (λ e. f e.key) es
once-each f [] r h = refl
once-each f (e ∷ es) r h =
    let behind = once-each f es r.1 (λ a b m n. h a b (inr m) (inr n)) in
    let sum : sum_by (λ (x : Entry). f x.key) (e ∷ es) ≡ f e.key + sum_by (λ (x : Entry). f x.key) es = sum_by-cons (λ (x : Entry). f x.key) e es in
    elim (cases_Bool (stands_in same_key e.key (keys es))) [
      | inl t ↦ absurd (
          let k = key-of e.key es ((stands-decides same_key same_key-decides f e.key (keys es)).0 t) in
          let same : k.0 ≡ e = h k.0 e (inr k.1) (inl refl) k.2 in
          let P : Entry → Type 0 = λ x. Member x es in
          entry-apart e (before-member entry_order e e es r.0 (subst P same k.1)))
      | inr u ↦ rw (u, behind, sum) refl
    ]

sums-agree : (f g : Entry → ℕ) (es : List Entry) → ((e : Entry) → Member e es → f e ≡ g e) → sum_by f es ≡ sum_by g es
sums-agree f g [] h = refl
sums-agree f g (e ∷ es) h = rw (sum_by-cons f e es, sum_by-cons g e es, h e (inl refl), sums-agree f g es (λ x m. h x (inr m))) refl

-- where the records are of the office, a key that gives an account cents names a top-up
gives-nothing : (a : ℕ) (k : Key) (c : Contents) → (((d : Content) → c ≡ One d → IsTopUp k ⊎ (cents_for a (One d) ≡ 0))) → (IsTopUp k → (d : Content) → c ≡ One d → ⊥) → cents_for a c ≡ 0
gives-nothing a k Nothing h n = refl
gives-nothing a k Several h n = refl
gives-nothing a k (One d) h n = elim (h d refl) [
  | inl t ↦ absurd (n t d refl)
  | inr z ↦ z
]

kind-of : (office : OfficeRules) (a : ℕ) (k : Key) (d : Content) → IsOf office k d → IsTopUp k ⊎ (cents_for a (One d) ≡ 0)
kind-of office a (key.Reading m r t) (content.Reading w) h = inr refl
kind-of office a (key.Reading m r t) (content.Assignment o) h = inr refl
kind-of office a (key.Reading m r t) (content.TopUp b c u) h = absurd h
kind-of office a (key.Assignment m t) (content.Reading w) h = inr refl
kind-of office a (key.Assignment m t) (content.Assignment o) h = inr refl
kind-of office a (key.Assignment m t) (content.TopUp b c u) h = absurd h
kind-of office a (key.TopUp r) d h = inl tt
kind-of office a (key.Reading m r t) content.Withdrawal h = inr refl
kind-of office a (key.Assignment m t) content.Withdrawal h = inr refl
kind-of office a (key.Withdrawal x) (content.Reading w) h = inr refl
kind-of office a (key.Withdrawal x) (content.Assignment o) h = inr refl
kind-of office a (key.Withdrawal x) (content.TopUp b c u) h = absurd h
kind-of office a (key.Withdrawal x) content.Withdrawal h = inr refl

-- the content at the key of a top-up is no withdrawal
paid-in : (office : OfficeRules) (k : Key) (d : Content) → IsTopUp k → IsOf office k d → IsNoWithdrawal d
paid-in office (key.TopUp r) (content.TopUp a c u) t h = tt
paid-in office (key.TopUp r) (content.Reading w) t h = absurd h
paid-in office (key.TopUp r) (content.Assignment o) t h = absurd h
paid-in office (key.TopUp r) content.Withdrawal t h = absurd h
paid-in office (key.Reading m r i) d t h = absurd t
paid-in office (key.Assignment m i) d t h = absurd t
paid-in office (key.Withdrawal x) d t h = absurd t

pub topped-up-is : (office : OfficeRules) (s counted : List Entry) (a : ℕ) → AllOfOffice office s → ListsCounting IsTopUp s counted → sum_by (λ e. cents_for a (One e.content)) counted ≡ topped_up s a
unfolding topped_up
topped-up-is office s counted a o l =
    let f : Key → ℕ = λ k. cents_for a (contents_at s k) in
    let inside : (k : Key) → Member k (keys counted) → Member k (keys s) = λ k m. (
    let r = key-of k counted m in
    let P : Key → Type 0 = λ x. Member x (keys s) in
    subst P r.2 (key-back r.0 s (standing-part s r.0 ((l.members r.0).0 r.1).0.0))) in
    let both : SameMembers (keys s) (keys s ++ keys counted) = λ k. (
      λ m. member-left k (keys s) (keys counted) m,
      λ m. elim (member-split k (keys s) (keys counted) m) [ inl i ↦ i | inr j ↦ inside k j ],
    ) in
    let zero : (k : Key) → Member k (keys s) → (Member k (keys counted) → ⊥) → f k ≡ 0 = λ k m n.
    gives-nothing a k (contents_at s k)
    (λ d i. kind-of office a k d (o (entry k d) (standing-part s (entry k d) (one-stands s k d i))))
    (λ t d i. n (key-back (entry k d) counted ((l.members (entry k d)).1 ((one-is_counting s (entry k d) (paid-in office k d t (o (entry k d) (standing-part s (entry k d) (one-stands s k d i))))).0 i, t)))) in
    let each = once-each f counted l.rising (λ x y m n i. ((l.members y).0 n).0.1 x ((l.members x).0 m).0.0 i) in
    let same : sum_by (λ (e : Entry). cents_for a (One e.content)) counted ≡ sum_by (λ (e : Entry). f e.key) counted =
    sums-agree (λ (e : Entry). cents_for a (One e.content)) (λ (e : Entry). f e.key) counted (λ e m. sym (ap (cents_for a) (counts-one s e ((l.members e).0 m).0))) in
    same ∙ sym each ∙ sym (once-front same_key same_key-decides f (keys s) (keys counted) zero) ∙ sym (once-same same_key same_key-decides f (keys s) (keys s ++ keys counted) both)
