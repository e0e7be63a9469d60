-- Two texts are the same where they are as long and each pair is.
use Rattle.std.proofs.Common.{◌≡◌, ℕ, zero, suc, ◌+◌, ◌<◌, ◌≤◌, List, [], ◌∷◌, length, get_or, take, refl, sym, ap, ◌∙◌, arith, inl, inr}
use Rattle.std.proofs.Math.ListN.{set}
use Rattle.std.proofs.lemmas.Bool.{cases_eq}
use Rattle.std.proofs.lemmas.List.{get_or-set_same, get_or-set_other, get_or-take, length-take}
use Rattle.pw_record.specs.Told.{capital, capitals}

pub capitals-length : (xs : List ℕ) → length (capitals xs) ≡ length xs
capitals-length [] = refl
capitals-length (x ∷ xs) = omega (arith, capitals-length xs)

pub capitals-at : (xs : List ℕ) (i : ℕ) → i < length xs → get_or (capitals xs) i 0 ≡ capital (get_or xs i 0)
capitals-at [] i l = absurd (omega (arith, l))
capitals-at (x ∷ xs) zero l = refl
capitals-at (x ∷ xs) (suc i) l = capitals-at xs i (omega arith)

each-same : (xs ys : List ℕ) → length xs ≡ length ys → ((i : ℕ) → i < length xs → get_or xs i 0 ≡ get_or ys i 0) → xs ≡ ys
each-same [] [] n e = refl
each-same [] (y ∷ ys) n e = absurd (omega (arith, n))
each-same (x ∷ xs) [] n e = absurd (omega (arith, n))
each-same (x ∷ xs) (y ∷ ys) n e =
    let first : x ≡ y = e 0 (omega arith) in
    let rest : xs ≡ ys = each-same xs ys (omega (arith, n)) (λ i l. e (suc i) (omega (arith, l))) in
    ap (λ (z : ℕ). z ∷ xs) first ∙ ap (λ (zs : List ℕ). y ∷ zs) rest

pub are-capitals : (xs ys : List ℕ) → length xs ≡ length ys → ((i : ℕ) → i < length xs → capital (get_or xs i 0) ≡ get_or ys i 0) → capitals xs ≡ ys
are-capitals xs ys n e =
    each-same (capitals xs) ys (capitals-length xs ∙ n) (λ i l. (let k : i < length xs = omega (arith, l, capitals-length xs) in capitals-at xs i k ∙ e i k))

pub alike-capitals : (xs ys : List ℕ) → length xs ≡ length ys → ((i : ℕ) → i < length xs → capital (get_or xs i 0) ≡ capital (get_or ys i 0)) → capitals xs ≡ capitals ys
alike-capitals xs ys n e =
    are-capitals xs (capitals ys) (n ∙ sym (capitals-length ys)) (λ i l. e i l ∙ sym (capitals-at ys i (omega (arith, l, n))))

-- and then each pair is the same
pub same-length : (xs ys : List ℕ) → capitals xs ≡ ys → length xs ≡ length ys
same-length xs ys e = sym (capitals-length xs) ∙ ap length e

pub same-at : (xs ys : List ℕ) (i : ℕ) → i < length xs → capitals xs ≡ ys → capital (get_or xs i 0) ≡ get_or ys i 0
same-at xs ys i l e = sym (capitals-at xs i l) ∙ ap (λ t. get_or t i 0) e

pub alike-length : (xs ys : List ℕ) → capitals xs ≡ capitals ys → length xs ≡ length ys
alike-length xs ys e = same-length xs (capitals ys) e ∙ capitals-length ys

pub alike-at : (xs ys : List ℕ) (i : ℕ) → i < length xs → capitals xs ≡ capitals ys → capital (get_or xs i 0) ≡ capital (get_or ys i 0)
alike-at xs ys i l e =
    let n : length xs ≡ length ys = alike-length xs ys e in
    same-at xs (capitals ys) i l e ∙ capitals-at ys i (omega (arith, l, n))

-- a text in capitals, one byte after another in a room
pub capital-more : (text room : List ℕ) (i byte : ℕ) → i < length room → byte ≡ capital (get_or text i 0) → ((k : ℕ) → k < i → capital (get_or text k 0) ≡ get_or room k 0)
    → (k : ℕ) → k < i + 1 → capital (get_or text k 0) ≡ get_or (set room i byte) k 0
capital-more text room i byte l e h k m =
    elim (cases_eq k i) [
      | inl same ↦ rw same (sym e ∙ sym (get_or-set_same room i byte 0 l))
      | inr apart ↦ h k (omega (arith, m, apart)) ∙ sym (get_or-set_other room i k byte 0 apart)
    ]

pub capitals-in : (text room : List ℕ) → length text ≤ length room → ((k : ℕ) → k < length text → capital (get_or text k 0) ≡ get_or room k 0) → capitals text ≡ take (length text) room
capitals-in text room l h =
    let n : length text ≡ length (take (length text) room) = omega (arith, l, length-take (length text) room) in
    are-capitals text (take (length text) room) n (λ i m. h i m ∙ sym (get_or-take (length text) room i 0 m))
