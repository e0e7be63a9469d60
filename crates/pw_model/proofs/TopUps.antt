-- What is topped up is the sum over the counting top-ups.
use Rattle.std.proofs.Common.{◌≡◌, ◌⊎◌, ◌↔◌, ℕ, ◌==◌, List, [], ◌∷◌, refl, ap, sym, subst, ◌∙◌, inl, inr, arith}
use Rattle.std.proofs.lemmas.Bool.{cases_Bool, eqb-true, eqb-false, eq-eqb}
use Rattle.std.proofs.lemmas.List.Sums.{sum_by-cons}
use Rattle.std.specs.List.{sum_by}
use Rattle.pw_model.specs.declared.records.Key.{Key}
use Rattle.pw_model.specs.declared.records.Content.{Content}
use Rattle.pw_model.specs.declared.records.Content.TheVariants as content
use Rattle.pw_model.specs.declared.records.Contents.{Contents}
use Rattle.pw_model.specs.declared.records.Contents.TheVariants.{Nothing, One, Several}
use Rattle.pw_model.specs.declared.records.Entry.{Entry}
use Rattle.pw_model.specs.Same.{same_key, entry_order}
use Rattle.pw_model.specs.Counting.{Member, EachOnce, Counts, contents_at}
use Rattle.pw_model.specs.Lists.{IsInOrder}
use Rattle.pw_model.specs.Payments.{sum_once, keys, cents_for, cents_in, IsTopUpFor, topped_up}
use Rattle.pw_model.specs.Laws.{AreTopUps, TopUpsAddUp}
use Rattle.pw_model.proofs.Same.{same_key-decides}
use Rattle.pw_model.proofs.Counting.{entry, standing-part, one-is_counting, counts-one, counts-known}
use Rattle.pw_model.proofs.Once.{once-fresh}
use Rattle.pw_model.proofs.Answers.{key-to, key-back}
use Rattle.pw_model.proofs.Payments.{sum-part}
use Rattle.pw_model.proofs.InOrder.{before-member}
use Rattle.pw_model.proofs.EntryOrder.{entry-strict}
use Rattle.pw_model.proofs.Existence.{sorted-there_is}

-- ---- the sum over a list of them
top-up-cents : (a : ℕ) (c : Content) → IsTopUpFor a c → cents_for a (One c) ≡ cents_in c
top-up-cents a (content.TopUp b c t) h = rw (eq-eqb b.0 a h)
top-up-cents a (content.Reading w) h = absurd h
top-up-cents a (content.Assignment o) h = absurd h
top-up-cents a content.Withdrawal h = absurd h

sum-keys : (s : List Entry) (a : ℕ) (es : List Entry) → EachOnce es → ((e : Entry) → Member e es → Counts s e × IsTopUpFor a e.content) →
    sum_once same_key (λ k. cents_for a (contents_at s k)) (keys es) ≡ sum_by (λ e. cents_in e.content) es
sum-keys s a [] o h = refl
sum-keys s a (e ∷ es) o h =
    let f : Key → ℕ = λ k. cents_for a (contents_at s k) in
    let here = h e (inl refl) in
    let fresh : Member e.key (keys es) → ⊥ = λ m. (
    let g = key-to e.key es m in
    let same : g.0 ≡ e = here.0.1 g.0 (h g.0 (inr g.1.0)).0.0 g.1.1 in
    let P : Entry → Type 0 = λ v. Member v es in
    o.0 (subst P same g.1.0)) in
    let first : f e.key ≡ cents_in e.content = ap (cents_for a) (counts-one s e here.0) ∙ top-up-cents a e.content here.1 in
    let rest = sum-keys s a es o.1 (λ g m. h g (inr m)) in
    let left = once-fresh same_key same_key-decides f e.key (keys es) fresh in
    let right = sum_by-cons (λ (g : Entry). cents_in g.content) e es in
    omega (arith, left, right, first, rest)

-- a key of the records under which no counting top-up of the account stands gives nothing
other-key : (s : List Entry) (a : ℕ) (k : Key) (r : Contents) → r ≡ contents_at s k → ((c : Content) → Counts s (entry k c) → IsTopUpFor a c → ⊥) → cents_for a r ≡ 0
other-key s a k Nothing h n = refl
other-key s a k Several h n = refl
other-key s a k (One (content.Reading w)) h n = refl
other-key s a k (One (content.Assignment o)) h n = refl
other-key s a k (One content.Withdrawal) h n = refl
other-key s a k (One (content.TopUp b c t)) h n =
    elim (cases_Bool (b.0 == a)) [
      | inl q ↦ absurd (n (content.TopUp b c t) ((one-is_counting s (entry k (content.TopUp b c t)) tt).0 (sym h)) (eqb-true b.0 a q))
      | inr q ↦ rw q
    ]

sum-told : (s : List Entry) (a : ℕ) (es : List Entry) → AreTopUps s a es → topped_up s a ≡ sum_by (λ e. cents_in e.content) es
unfolding topped_up
sum-told s a es h =
    sum-part (λ k. cents_for a (contents_at s k)) (keys s) (keys es)
    (λ k m. let g = key-to k es m in let P : Key → Type 0 = λ v. Member v (keys s) in subst P g.1.1 (key-back g.0 s (standing-part s g.0 ((h.members g.0).0 g.1.0).0.0)))
    (λ k m n. other-key s a k (contents_at s k) refl (λ c i t. n (key-back (entry k c) es ((h.members (entry k c)).1 (i, t)))))
    ∙ sum-keys s a es h.once (λ e m. (h.members e).0 m)

-- ---- there is such a list
top-up-known : (a : ℕ) (c : Content) → IsTopUpFor a c ⊎ (IsTopUpFor a c → ⊥)
top-up-known a (content.Reading w) = inr (λ h. h)
top-up-known a (content.Assignment o) = inr (λ h. h)
top-up-known a content.Withdrawal = inr (λ h. h)
top-up-known a (content.TopUp b c t) = elim (cases_Bool (b.0 == a)) [ inl q ↦ inl (eqb-true b.0 a q) | inr q ↦ inr (λ e. eqb-false b.0 a q e) ]

-- those among some records
pub record ArePicked (s : List Entry) (a : ℕ) (some es : List Entry) : Type 0 where
  pub once : EachOnce es
  pub members : (e : Entry) → Member e es ↔ (Member e some × Counts s e × IsTopUpFor a e.content)

picked-skip : (s : List Entry) (a : ℕ) (x : Entry) (some es : List Entry) → (Counts s x → IsTopUpFor a x.content → ⊥) → ArePicked s a some es → ArePicked s a (x ∷ some) es
picked-skip s a x some es n h = record {
  once = h.once;
  members = λ e. (
    λ m. let r = (h.members e).0 m in (inr r.0, r.1, r.2),
    λ q. elim q.0 [
      | inl i ↦ absurd (let P : Entry → Type 0 = λ v. Counts s v in let Q : Entry → Type 0 = λ v. IsTopUpFor a v.content in n (subst P i q.1) (subst Q i q.2))
      | inr m ↦ (h.members e).1 (m, q.1, q.2)
    ],
  );
}

picked-more : (s : List Entry) (a : ℕ) (x : Entry) (some es : List Entry) → (Member x some → ⊥) → Counts s x → IsTopUpFor a x.content → ArePicked s a some es → ArePicked s a (x ∷ some) (x ∷ es)
picked-more s a x some es o c t h = record {
  once = (λ m. o ((h.members x).0 m).0, h.once);
  members = λ e. (
    λ m. elim m [
      | inl i ↦ (let P : Entry → Type 0 = λ v. Counts s v in let Q : Entry → Type 0 = λ v. IsTopUpFor a v.content in (inl i, subst P (sym i) c, subst Q (sym i) t))
      | inr k ↦ (let r = (h.members e).0 k in (inr r.0, r.1, r.2))
    ],
    λ q. elim q.0 [ inl i ↦ inl i | inr m ↦ inr ((h.members e).1 (m, q.1, q.2)) ],
  );
}

picked-there_are : (s : List Entry) (a : ℕ) (some : List Entry) → EachOnce some → (es : List Entry) × ArePicked s a some es
picked-there_are s a [] o = ([], record { once = tt; members = λ e. (λ m. absurd m, λ q. q.0) })
picked-there_are s a (x ∷ some) o =
    let r : (es : List Entry) × ArePicked s a some es = picked-there_are s a some o.1 in
    elim (counts-known s x) [
      | inr n ↦ (r.0, picked-skip s a x some r.0 (λ c t. n c) r.1)
      | inl c ↦ elim (top-up-known a x.content) [
        | inr n ↦ (r.0, picked-skip s a x some r.0 (λ d t. n t) r.1)
        | inl t ↦ (x ∷ r.0, picked-more s a x some r.0 o.0 c t r.1)
      ]
    ]

pub rising-once : (xs : List Entry) → IsInOrder entry_order xs → EachOnce xs
rising-once [] r = tt
rising-once (x ∷ xs) r = (λ m. entry-strict.apart x (before-member entry_order x x xs r.0 m), rising-once xs r.1)

top-ups-there_are : (s : List Entry) (a : ℕ) → (es : List Entry) × AreTopUps s a es
top-ups-there_are s a =
    let t = sorted-there_is s in
    let p : (es : List Entry) × ArePicked s a t.0 es = picked-there_are s a t.0 (rising-once t.0 t.1.rising) in (
      p.0,
      record {
        once = p.1.once;
        members = λ e. (
          λ m. let r = (p.1.members e).0 m in (r.1, r.2),
          λ q. (p.1.members e).1 ((t.1.members e).1 (standing-part s e q.0.0), q.0, q.1),
        );
      },
    )

pub top-ups_add_up : TopUpsAddUp
top-ups_add_up s a = record { exists = top-ups-there_are s a; sum = sum-told s a }
