-- Top-ups of an interval, from a list of those that count, and by what is told at keys.
use Rattle.std.proofs.Common.{◌≡◌, ℕ, false, ◌==◌, List, [], ◌∷◌, ◌++◌, refl, sym, ap, subst, ◌∙◌, arith, inl, inr}
use Rattle.std.proofs.lemmas.Bool.{and_right, cases_Bool, eqb-true}
use Rattle.std.proofs.lemmas.List.Sums.{sum_by-cons}
use Rattle.std.specs.List.{sum_by}
use Rattle.pw_model.specs.declared.records.Key.{Key}
use Rattle.pw_model.specs.declared.records.Content.{Content}
use Rattle.pw_model.specs.declared.records.Content.TheVariants as content
use Rattle.pw_model.specs.declared.records.Contents.{Contents}
use Rattle.pw_model.specs.declared.records.Contents.TheVariants.{Nothing, One, Several}
use Rattle.pw_model.specs.declared.records.Entry.{Entry}
use Rattle.pw_model.specs.Same.{same_key}
use Rattle.pw_model.specs.Counting.{Counts, EachOnce, Member, SameMembers, contents_at}
use Rattle.pw_model.specs.Payments.{IsTopUpFor, keys, sum_once}
use Rattle.pw_model.proofs.Answers.{key-back, key-to}
use Rattle.pw_model.proofs.Counting.{counts-one, entry, one-is_counting, one-stands, standing-part}
use Rattle.pw_model.proofs.Once.{once-fresh, once-same}
use Rattle.pw_model.proofs.Payments.{sum-part}
use Rattle.pw_model.proofs.Places.{member-left, member-right, member-split}
use Rattle.pw_model.proofs.Same.{same_key-decides}
use Rattle.pw_months.specs.Between.{cents_between, lies_in, topped_up_between}
use Rattle.pw_months.specs.Laws.{TopUpsBetweenAddUp}
use Rattle.pw_months.specs.Reaching.{TopUpsGoByWhatIsTold}

-- ---- from a list of those that count
-- no other of them has the key of one
fresh-key : (s : List Entry) (e : Entry) (es : List Entry) → (Member e es → ⊥) →
    ((g : Entry) → Member g (e ∷ es) → Counts s g) → Member e.key (keys es) → ⊥
fresh-key s e es out h m =
    let g = key-to e.key es m in
    let P : Entry → Type 0 = λ v. Member v es in
    out (subst P ((h e (inl refl)).1 g.0 (h g.0 (inr g.1.0)).0 g.1.1) g.1.0)

listed-sum : (s : List Entry) (a x y : ℕ) (es : List Entry) → EachOnce es → ((e : Entry) → Member e es → Counts s e) →
    sum_once same_key (λ k. cents_between a x y (contents_at s k)) (keys es)
    ≡ sum_by (λ e. cents_between a x y (One e.content)) es
listed-sum s a x y [] o h = refl
listed-sum s a x y (e ∷ es) o h =
    let f : Key → ℕ = λ k. cents_between a x y (contents_at s k) in
    let first : f e.key ≡ cents_between a x y (One e.content) = ap (cents_between a x y) (counts-one s e (h e (inl refl))) in
    let rest = listed-sum s a x y es o.1 (λ g m. h g (inr m)) in
    let left = once-fresh same_key same_key-decides f e.key (keys es) (fresh-key s e es o.0 h) in
    let right = sum_by-cons (λ (g : Entry). cents_between a x y (One g.content)) e es in
    omega (arith, left, right, first, rest)

-- a key under which no counting top-up of the account stands gives nothing
unlisted : (s : List Entry) (a x y : ℕ) (k : Key) (r : Contents) → r ≡ contents_at s k →
    ((c : Content) → Counts s (entry k c) → IsTopUpFor a c → ⊥) → cents_between a x y r ≡ 0
unlisted s a x y k Nothing h n = refl
unlisted s a x y k Several h n = refl
unlisted s a x y k (One (content.Reading w)) h n = refl
unlisted s a x y k (One (content.Assignment o)) h n = refl
unlisted s a x y k (One content.Withdrawal) h n = refl
unlisted s a x y k (One (content.TopUp b c t)) h n =
    elim (cases_Bool (b.0 == a)) [
      | inl q ↦ absurd (n (content.TopUp b c t) ((one-is_counting s (entry k (content.TopUp b c t)) tt).0 (sym h)) (eqb-true b.0 a q))
      | inr q ↦ rw (q, and_right (lies_in x y t) false refl) refl
    ]

pub top-ups_between : TopUpsBetweenAddUp
unfolding topped_up_between
top-ups_between s a x y es h =
    sum-part (λ k. cents_between a x y (contents_at s k)) (keys s) (keys es)
    (λ k m.
    let g = key-to k es m in
    let P : Key → Type 0 = λ v. Member v (keys s) in
    subst P g.1.1 (key-back g.0 s (standing-part s g.0 ((h.members g.0).0 g.1.0).0.0)))
    (λ k m n. unlisted s a x y k (contents_at s k) refl (λ c i t. n (key-back (entry k c) es ((h.members (entry k c)).1 (i, t)))))
    ∙ listed-sum s a x y es h.once (λ e m. ((h.members e).0 m).0)

-- ---- by what is told at keys
unheld : (s : List Entry) (a x y : ℕ) (k : Key) (r : Contents) → r ≡ contents_at s k → (Member k (keys s) → ⊥) →
    cents_between a x y r ≡ 0
unheld s a x y k Nothing h n = refl
unheld s a x y k Several h n = refl
unheld s a x y k (One c) h n =
    absurd (n (key-back (entry k c) s (standing-part s (entry k c) (one-stands s k c (sym h)))))

-- a sum over the keys of a set is one over more keys
more-keys : (s : List Entry) (a x y : ℕ) (ks : List Key) →
    sum_once same_key (λ k. cents_between a x y (contents_at s k)) (keys s ++ ks)
    ≡ sum_once same_key (λ k. cents_between a x y (contents_at s k)) (keys s)
more-keys s a x y ks =
    sum-part (λ k. cents_between a x y (contents_at s k)) (keys s ++ ks) (keys s) (λ k m. member-left k (keys s) ks m)
    (λ k m n. unheld s a x y k (contents_at s k) refl n)

turned-half : (xs ys : List Key) (k : Key) → Member k (xs ++ ys) → Member k (ys ++ xs)
turned-half xs ys k m =
    elim (member-split k xs ys m) [ inl a ↦ member-right k ys xs a | inr b ↦ member-left k ys xs b ]

pub top-ups_told : TopUpsGoByWhatIsTold
unfolding topped_up_between
top-ups_told s t a x y h =
    let g : Key → ℕ = λ k. cents_between a x y (contents_at t k) in
    let turned : SameMembers (keys s ++ keys t) (keys t ++ keys s)
    = λ k. (turned-half (keys s) (keys t) k, turned-half (keys t) (keys s) k) in
    sym (more-keys s a x y (keys t))
    ∙ (λ i. sum_once same_key (λ k. h k i) (keys s ++ keys t))
    ∙ once-same same_key same_key-decides g (keys s ++ keys t) (keys t ++ keys s) turned
    ∙ more-keys t a x y (keys s)
