-- Top-ups of an interval.
use Rattle.std.proofs.Common.{◌≡◌, ℕ, ◌+◌, ◌<◌, ◌≤◌, Bool, cond, ◌==◌, List, [], ◌∷◌, refl, ap, ◌∙◌, arith, inl, inr}
use Rattle.std.proofs.lemmas.Bool.{cases_Bool}
use Rattle.pw_time.specs.declared.instant.TheConstants.{END_SECOND, LAST_SECOND}
use Rattle.pw_tariff.specs.Office.{OfficeRules}
use Rattle.pw_model.specs.declared.records.Key.{Key}
use Rattle.pw_model.specs.declared.records.Key.TheVariants as key
use Rattle.pw_model.specs.declared.records.Content.TheVariants as content
use Rattle.pw_model.specs.declared.records.Contents.{Contents}
use Rattle.pw_model.specs.declared.records.Contents.TheVariants.{Nothing, One, Several}
use Rattle.pw_model.specs.declared.records.Entry.{Entry}
use Rattle.pw_model.specs.Same.{same_key}
use Rattle.pw_model.specs.Counting.{SameMembers, contents_at}
use Rattle.pw_model.specs.Office.{AllOfOffice}
use Rattle.pw_model.specs.Payments.{cents_for, keys, stands_in, sum_once, topped_up}
use Rattle.pw_model.proofs.Answers.{keys-same}
use Rattle.pw_model.proofs.Bounded.{ToldOf, contents-of}
use Rattle.pw_model.proofs.Counting.{contents-same}
use Rattle.pw_model.proofs.Once.{once-same, once-zero}
use Rattle.pw_model.proofs.Same.{same_key-decides}
use Rattle.pw_months.specs.Between.{cents_between, topped_up_between}
use Rattle.pw_months.proofs.Shared.{lies-shared, lies-nowhere, lies-everywhere}

-- sums of what is shared out among two
once-shared : {X : Type 0} (same : X → X → Bool) (f g h : X → ℕ) (xs : List X) → ((x : X) → f x ≡ g x + h x) →
    sum_once same f xs ≡ sum_once same g xs + sum_once same h xs
once-shared same f g h [] e = refl
once-shared same f g h (x ∷ xs) e =
    let rest = once-shared same f g h xs e in
    let here = e x in
    elim (cases_Bool (stands_in same x xs)) [
      | inl t ↦ rw t (omega arith)
      | inr n ↦ rw n (omega arith)
    ]

cents-shared : (a from cut to : ℕ) (r : Contents) → from ≤ cut → cut ≤ to →
    cents_between a from to r ≡ cents_between a from cut r + cents_between a cut to r
cents-shared a from cut to Nothing l r = refl
cents-shared a from cut to Several l r = refl
cents-shared a from cut to (One (content.Reading w)) l r = refl
cents-shared a from cut to (One (content.Assignment o)) l r = refl
cents-shared a from cut to (One content.Withdrawal) l r = refl
cents-shared a from cut to (One (content.TopUp b c t)) l r = lies-shared from cut to t (b.0 == a) l r c

pub topped-shared : (s : List Entry) (a from cut to : ℕ) → from ≤ cut → cut ≤ to →
    topped_up_between s a from to ≡ topped_up_between s a from cut + topped_up_between s a cut to
unfolding topped_up_between
topped-shared s a from cut to l r =
    once-shared same_key (λ k. cents_between a from to (contents_at s k)) (λ k. cents_between a from cut (contents_at s k))
    (λ k. cents_between a cut to (contents_at s k)) (keys s) (λ k. cents-shared a from cut to (contents_at s k) l r)

cents-nowhere : (a from : ℕ) (r : Contents) → cents_between a from from r ≡ 0
cents-nowhere a from Nothing = refl
cents-nowhere a from Several = refl
cents-nowhere a from (One (content.Reading w)) = refl
cents-nowhere a from (One (content.Assignment o)) = refl
cents-nowhere a from (One content.Withdrawal) = refl
cents-nowhere a from (One (content.TopUp b c t)) = ap (λ k. cond k c 0) (lies-nowhere from t (b.0 == a))

pub topped-empty : (s : List Entry) (a from : ℕ) → topped_up_between s a from from ≡ 0
unfolding topped_up_between
topped-empty s a from =
    once-zero same_key (λ k. cents_between a from from (contents_at s k)) (keys s) (λ k m. cents-nowhere a from (contents_at s k))

-- each top-up of an office has an instant
cents-everywhere : (office : OfficeRules) (k : Key) (a to : ℕ) (r : Contents) → ToldOf office k r → END_SECOND ≤ to →
    cents_between a 0 to r ≡ cents_for a r
cents-everywhere office k a to Nothing h l = refl
cents-everywhere office k a to Several h l = refl
cents-everywhere office k a to (One (content.Reading w)) h l = refl
cents-everywhere office k a to (One (content.Assignment o)) h l = refl
cents-everywhere office k a to (One content.Withdrawal) h l = refl
cents-everywhere office (key.TopUp x) a to (One (content.TopUp b c t)) h l =
    let late : t ≤ LAST_SECOND = h.4.1 in
    let e : t < to = omega arith in
    ap (λ k. cond k c 0) (lies-everywhere to t (b.0 == a) e)
cents-everywhere office (key.Reading m q i) a to (One (content.TopUp b c t)) h l = absurd h
cents-everywhere office (key.Assignment m i) a to (One (content.TopUp b c t)) h l = absurd h
cents-everywhere office (key.Withdrawal n) a to (One (content.TopUp b c t)) h l = absurd h

pub topped-all : (office : OfficeRules) (s : List Entry) (a to : ℕ) → AllOfOffice office s → END_SECOND ≤ to →
    topped_up_between s a 0 to ≡ topped_up s a
unfolding topped_up_between topped_up
topped-all office s a to h l =
    λ i. sum_once same_key (λ k. cents-everywhere office k a to (contents_at s k) (contents-of office s k h) l i) (keys s)

pub topped-same : (s t : List Entry) (a from to : ℕ) → SameMembers s t →
    topped_up_between s a from to ≡ topped_up_between t a from to
unfolding topped_up_between
topped-same s t a from to h =
    ap (λ (at : Key → Contents). sum_once same_key (λ k. cents_between a from to (at k)) (keys s)) (contents-same s t h)
    ∙ once-same same_key same_key-decides (λ k. cents_between a from to (contents_at t k)) (keys s) (keys t) (keys-same s t h)
