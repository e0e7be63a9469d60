-- The first slash of a text.
use Rattle.std.proofs.Common.{◌≡◌, ◌∙◌, ◌+◌, ◌<◌, ◌≤◌, ℕ, suc, arith, List, [], ◌∷◌, ◌++◌, Bool, true, false, true≢false, cond, length, get_or, take, drop, ap, refl, sym}
use Rattle.std.specs.Prelude.{◌==◌, not}
use Rattle.std.specs.List.{position_or_len}
use Rattle.std.proofs.lemmas.Bool.{eq-eqb}
use Rattle.std.proofs.lemmas.List.{get_or_default}
use Rattle.std.proofs.lemmas.List.Sums.{position_or_len_is}
use Rattle.matchit.specs.Seek.{has_slash}
use Rattle.pw_http.specs.Routes.{behind_slash, up_to_slash}

-- ---- where it stands
pub slash-here : (text : List ℕ) (i e d : ℕ) → i < length text → get_or text i e ≡ 47 → (get_or text i d == 47) ≡ true
slash-here text i e d l h = let s : get_or text i d ≡ get_or text i e = get_or_default text i d e l in rw s (eq-eqb _ _ h)

pub first-slash : (text : List ℕ) (i : ℕ) → i ≤ length text → ((k d : ℕ) → k < i → (get_or text k d == 47) ≡ false) →
    ((d : ℕ) → i < length text → (get_or text i d == 47) ≡ true) → i ≡ position_or_len (λ b. b == 47) text
first-slash text i l f t = sym (position_or_len_is (λ b. b == 47) text i 0 l (λ k h. f k 0 h) (λ h. t 0 h))

-- ---- what stands before it, and behind it
pub before-slash : (text : List ℕ) → up_to_slash text ≡ take (position_or_len (λ b. b == 47) text) text
before-slash [] = refl
before-slash (b ∷ rest) = by (b == 47) (before-slash rest)
  where
    by : (v : Bool) → up_to_slash rest ≡ take (position_or_len (λ c. c == 47) rest) rest →
        cond v [] (b ∷ up_to_slash rest) ≡ take (cond (not v) (1 + position_or_len (λ c. c == 47) rest) 0) (b ∷ rest)
    by true e = refl
    by false e =
        let n : ℕ = position_or_len (λ c. c == 47) rest in
        let one : suc n ≡ 1 + n = omega arith in
        ap (λ (t : List ℕ). b ∷ t) e ∙ ap (λ (k : ℕ). take k (b ∷ rest)) one

pub after-slash : (text : List ℕ) → behind_slash text ≡ drop (position_or_len (λ b. b == 47) text + 1) text
after-slash [] = refl
after-slash (b ∷ rest) = by (b == 47) (after-slash rest)
  where
    by : (v : Bool) → behind_slash rest ≡ drop (position_or_len (λ c. c == 47) rest + 1) rest →
        cond v rest (behind_slash rest) ≡ drop (cond (not v) (1 + position_or_len (λ c. c == 47) rest) 0 + 1) (b ∷ rest)
    by true e = refl
    by false e =
        let n : ℕ = position_or_len (λ c. c == 47) rest in
        let one : suc (n + 1) ≡ 1 + n + 1 = omega arith in
        e ∙ ap (λ (k : ℕ). drop k (b ∷ rest)) one

-- ---- the words of a path
-- a text without a slash is its own first word
pub whole-word : (w : List ℕ) → has_slash w ≡ false → up_to_slash w ≡ w
whole-word [] h = refl
whole-word (b ∷ w) h = by (b == 47) h (whole-word w)
  where
    by : (v : Bool) → cond v true (has_slash w) ≡ false → (has_slash w ≡ false → up_to_slash w ≡ w) → cond v [] (b ∷ up_to_slash w) ≡ b ∷ w
    by true k f = absurd (true≢false k)
    by false k f = ap (λ (t : List ℕ). b ∷ t) (f k)

-- before a slash it is the first word, and what stands behind that slash is the rest
pub first-word : (w p : List ℕ) → has_slash w ≡ false → up_to_slash (w ++ 47 ∷ p) ≡ w
first-word [] p h = refl
first-word (b ∷ w) p h = by (b == 47) h (first-word w p)
  where
    by : (v : Bool) → cond v true (has_slash w) ≡ false → (has_slash w ≡ false → up_to_slash (w ++ 47 ∷ p) ≡ w) → cond v [] (b ∷ up_to_slash (w ++ 47 ∷ p)) ≡ b ∷ w
    by true k f = absurd (true≢false k)
    by false k f = ap (λ (t : List ℕ). b ∷ t) (f k)

pub rest-behind : (w p : List ℕ) → has_slash w ≡ false → behind_slash (w ++ 47 ∷ p) ≡ p
rest-behind [] p h = refl
rest-behind (b ∷ w) p h = by (b == 47) h (rest-behind w p)
  where
    by : (v : Bool) → cond v true (has_slash w) ≡ false → (has_slash w ≡ false → behind_slash (w ++ 47 ∷ p) ≡ p) → cond v (w ++ 47 ∷ p) (behind_slash (w ++ 47 ∷ p)) ≡ p
    by true k f = absurd (true≢false k)
    by false k f = f k
