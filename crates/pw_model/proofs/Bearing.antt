-- Where one more record changes what counts.
use Rattle.std.proofs.Common.{◌≡◌, ◌⊎◌, ℕ, true, false, List, ◌∷◌, refl, ap, sym, subst, ◌∙◌, inl, inr}
use Rattle.std.proofs.lemmas.Bool.{cases_Bool, true≢false}
use Rattle.pw_tariff.specs.Office.{OfficeRules}
use Rattle.pw_model.specs.declared.records.Key.{Key}
use Rattle.pw_model.specs.declared.records.Key.TheVariants as key
use Rattle.pw_model.specs.declared.records.Named.{Named}
use Rattle.pw_model.specs.declared.records.Named.TheVariants as named
use Rattle.pw_model.specs.declared.records.Content.{Content}
use Rattle.pw_model.specs.declared.records.Content.TheVariants as content
use Rattle.pw_model.specs.declared.records.Contents.{Contents}
use Rattle.pw_model.specs.declared.records.Contents.TheVariants.{Nothing, One, Several}
use Rattle.pw_model.specs.declared.records.Entry.{Entry}
use Rattle.pw_model.specs.Bearing.{named_key, bears_on, OneMoreBearing}
use Rattle.pw_model.specs.Changes.{OneMorePayment}
use Rattle.pw_model.specs.Counting.{IsInserted, Member, SameMembers, named_entry, withdraws, is_withdrawn, standing, contents_at}
use Rattle.pw_model.specs.Office.{AllOfOffice}
use Rattle.pw_model.specs.Payments.{cents_for}
use Rattle.pw_model.specs.Same.{same_key}
use Rattle.pw_model.proofs.Bounded.{ToldOf, contents-of}
use Rattle.pw_model.proofs.Counting.{Tells, entry, tells, tells-agree, inserted-same, standing-told, standing-member, withdrawn-to, withdrawn-back}
use Rattle.pw_model.proofs.Payments.{paid-at}
use Rattle.pw_model.proofs.Same.{same_entry-decides, same_key-decides}

-- at the key of a withdrawal no cents are told
pub no-cents-withdrawn : (office : OfficeRules) (n : Named) (a : ℕ) (b : Contents) → ToldOf office (key.Withdrawal n) b → cents_for a b ≡ 0
no-cents-withdrawn office n a Nothing h = refl
no-cents-withdrawn office n a Several h = refl
no-cents-withdrawn office n a (One (content.Reading w)) h = refl
no-cents-withdrawn office n a (One (content.Assignment o)) h = refl
no-cents-withdrawn office n a (One content.Withdrawal) h = refl
no-cents-withdrawn office n a (One (content.TopUp b c t)) h = absurd h

-- a key is that of a withdrawal, or names itself
key-cases : (k : Key) → (named_key k ≡ k) ⊎ ((n : Named) × (k ≡ key.Withdrawal n))
key-cases (key.Reading m r t) = inl refl
key-cases (key.Assignment m t) = inl refl
key-cases (key.TopUp r) = inl refl
key-cases (key.Withdrawal n) = inr (n, refl)

no-cents-at : (office : OfficeRules) (s : List Entry) (n : Named) (k : Key) (a : ℕ) → AllOfOffice office s → k ≡ key.Withdrawal n → cents_for a (contents_at s k) ≡ 0
no-cents-at office s n k a h q = ap (λ (l : Key). cents_for a (contents_at s l)) q ∙ no-cents-withdrawn office n a (contents_at s (key.Withdrawal n)) (contents-of office s (key.Withdrawal n) h)

-- what withdraws a record bears on its key, and no record withdraws one of its own key
withdraws-bears : (x : Entry) (k : Key) → withdraws x k ≡ true → x.key ≡ named_key k
withdraws-bears x (key.Withdrawal n) h = sym (ap (λ (e : Entry). e.key) ((same_entry-decides (named_entry n) x).0 h))
withdraws-bears x (key.Reading m r t) h = absurd (true≢false (sym h))
withdraws-bears x (key.Assignment m t) h = absurd (true≢false (sym h))
withdraws-bears x (key.TopUp r) h = absurd (true≢false (sym h))

never-own : (n : Named) → (named_entry n).key ≡ key.Withdrawal n → ⊥
never-own (named.Reading m r t w) i = cc
never-own (named.Assignment m t o) i = cc
never-own (named.TopUp r a c t) i = cc

other-key : (x : Entry) (k : Key) → withdraws x k ≡ true → x.key ≡ k → ⊥
other-key x (key.Withdrawal n) h i = never-own n (ap (λ (e : Entry). e.key) ((same_entry-decides (named_entry n) x).0 h) ∙ i)
other-key x (key.Reading m r t) h i = true≢false (sym h)
other-key x (key.Assignment m t) h i = true≢false (sym h)
other-key x (key.TopUp r) h i = true≢false (sym h)

module _ (s t : List Entry) (e : Entry) (h : IsInserted e s t) where
  same : SameMembers t (e ∷ s)
  same = inserted-same s t e h

  -- what stands behind stood before, but for the record
  pub stood : (x : Entry) → (x ≡ e → ⊥) → Member x (standing t) → Member x (standing s)
  stood x n m =
      let r = standing-told t x m in
      elim ((same x).0 r.0) [
        | inl i ↦ absurd (n i)
        | inr k ↦ standing-member s x k (elim (cases_Bool (is_withdrawn s x)) [
          | inl w ↦ absurd (
              let v = withdrawn-to s x w in
              let u : is_withdrawn t x ≡ true = withdrawn-back t x v.0 ((same v.0).1 (inr v.1.0)) v.1.1 in
              true≢false (sym u ∙ r.1))
          | inr f ↦ f
        ])
      ]

  -- what stood stands behind, unless the record withdraws it
  pub stands-still : (x : Entry) → (withdraws x e.key ≡ true → ⊥) → Member x (standing s) → Member x (standing t)
  stands-still x n m =
      let r = standing-told s x m in
      standing-member t x ((same x).1 (inr r.0)) (elim (cases_Bool (is_withdrawn t x)) [
        | inl w ↦ absurd (
            let v = withdrawn-to t x w in
            elim ((same v.0).0 v.1.0) [
              | inl i ↦ n (ap (λ (f : Entry). withdraws x f.key) (sym i) ∙ v.1.1)
              | inr k ↦ true≢false (sym (withdrawn-back s x v.0 k v.1.1) ∙ r.1)
            ])
        | inr f ↦ f
      ])

  elsewhere : (k : Key) → (k ≡ e.key → ⊥) → (k ≡ bears_on e → ⊥) → contents_at t k ≡ contents_at s k
  elsewhere k n b = tells-agree (standing t) (standing s) k (contents_at t k) (contents_at s k) (λ c. (
    stood (entry k c) (λ i. n (ap (λ (f : Entry). f.key) i)),
    stands-still (entry k c) (λ w. b (withdraws-bears (entry k c) e.key w)),
  )) (tells t k) (tells s k)

  alike : (k : Key) (c d : Content) → contents_at s k ≡ One c → contents_at t k ≡ One d → c ≡ d
  alike k c d p q =
      let P : Contents → Type 0 = Tells (standing s) k in
      let Q : Contents → Type 0 = Tells (standing t) k in
      let was : Tells (standing s) k (One c) = subst P p (tells s k) in
      let is : Tells (standing t) k (One d) = subst Q q (tells t k) in
      elim (cases_Bool (withdraws (entry k c) e.key)) [
        | inl w ↦ sym (was.1 d (stood (entry k d) (λ i. other-key (entry k c) e.key w (ap (λ (f : Entry). f.key) i)) is.0))
        | inr f ↦ is.1 c (stands-still (entry k c) (λ w. true≢false (sym w ∙ f)) was.0)
      ]

  -- elsewhere the same cents count
  same-cents : (office : OfficeRules) → AllOfOffice office t → (a : ℕ) (k : Key) → (k ≡ bears_on e → ⊥) → cents_for a (contents_at s k) ≡ cents_for a (contents_at t k)
  same-cents office o a k n = elim (cases_Bool (same_key k e.key)) [
    | inl y ↦ (
        let i : k ≡ e.key = (same_key-decides k e.key).0 y in
        elim (key-cases e.key) [
          | inl own ↦ absurd (n (i ∙ sym own))
          | inr w ↦ (
              let part : AllOfOffice office s = λ f m. o f ((same f).1 (inr m)) in
              no-cents-at office s w.0 k a part (i ∙ w.1) ∙ sym (no-cents-at office t w.0 k a o (i ∙ w.1)))
        ])
    | inr f ↦ ap (cents_for a) (sym (elsewhere k (λ i. true≢false (sym ((same_key-decides k e.key).1 i) ∙ f)) n))
  ]

-- a record that withdraws none bears on its own key
bears-itself : (k : Key) → ((x : Entry) → withdraws x k ≡ false) → named_key k ≡ k
bears-itself k w = elim (key-cases k) [
  | inl i ↦ i
  | inr r ↦ absurd (
      let P : Key → Type 0 = λ l. withdraws (named_entry r.0) l ≡ false in
      true≢false (sym ((same_entry-decides (named_entry r.0) (named_entry r.0)).1 refl) ∙ subst P r.1 (w (named_entry r.0))))
]

pub one-more_payment : OneMorePayment
one-more_payment s t e w h a = paid-at s t e e.key a h (λ l n. sym (ap (cents_for a) (elsewhere s t e h l n (λ i. n (i ∙ bears-itself e.key w)))))

pub one-more_bearing : OneMoreBearing
one-more_bearing s t e h = record {
  elsewhere = elsewhere s t e h;
  alike = alike s t e h;
  paid = λ office o a. paid-at s t e (bears_on e) a h (same-cents s t e h office o a);
}
