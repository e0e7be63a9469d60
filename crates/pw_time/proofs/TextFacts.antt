-- A text is put together again from its parts.
use Rattle.std.proofs.Common.{◌≡◌, ◌+◌, ◌<◌, ◌++◌, ◌∷◌, ◌∙◌, ℕ, List, [], length, take, drop, get_or, refl, ap, sym, arith, append_assoc, length-drop}
use Rattle.std.proofs.lemmas.List.{take-append-drop, get_or-drop, drop-drop, drop_more}

one_left : (xs : List ℕ) → length xs ≡ 1 → xs ≡ get_or xs 0 0 ∷ []
one_left [] e = absurd (omega (arith, e))
one_left (x ∷ []) e = refl
one_left (x ∷ y ∷ ys) e = absurd (omega (arith, e))

-- the n elements from a place on, and what is behind them
part : (text : List ℕ) (i n : ℕ) → take n (drop i text) ++ drop n (drop i text) ≡ drop i text
part text i n = take-append-drop n (drop i text)

-- the last element
last : (text : List ℕ) (i n : ℕ) → length text ≡ i + n + 1 → drop n (drop i text) ≡ get_or text (i + n) 0 ∷ []
last text i n len =
    let one : length (drop n (drop i text)) ≡ 1 = simp length-drop (omega (arith, len)) in
    let at : get_or (drop n (drop i text)) 0 0 ≡ get_or text (i + n) 0 =
    get_or-drop n (drop i text) 0 0 ∙ (get_or-drop i text (n + 0) 0 ∙ ap (λ k. get_or text k 0) (omega arith)) in
    one_left _ one ∙ ap (λ x. x ∷ []) at

-- the same at another place: an element, and what is behind it
seam : (text : List ℕ) (i n : ℕ) → i + n < length text → drop n (drop i text) ≡ get_or text (i + n) 0 ∷ drop (i + n + 1) text
seam text i n h = drop-drop n i text ∙ drop_more text (i + n) 0 h

pub stamp_bytes : (text a b : List ℕ) → length text ≡ 13 → take 6 text ≡ a → take 6 (drop 6 text) ≡ b
    → text ≡ a ++ b ++ (get_or text 12 0 ∷ [])
stamp_bytes text a b len first second =
    rw (← first, ← second, append_assoc)
    (sym (ap (λ xs. take 6 text ++ xs) (ap (λ ys. take 6 (drop 6 text) ++ ys) (sym (last text 6 6 len)) ∙ part text 6 6) ∙ take-append-drop 6 text))

pub utc_bytes : (text a b : List ℕ) → length text ≡ 20 → get_or text 10 0 ≡ 84 → get_or text 19 0 ≡ 90
    → take 8 (drop 2 text) ≡ a → take 8 (drop 11 text) ≡ b
    → text ≡ (get_or text 0 0 ∷ get_or text 1 0 ∷ []) ++ a ++ (84 ∷ b) ++ (90 ∷ [])
utc_bytes text a b len t z first second =
    let head : text ≡ get_or text 0 0 ∷ get_or text 1 0 ∷ drop 2 text =
    drop_more text 0 0 (omega (arith, len)) ∙ ap (λ xs. get_or text 0 0 ∷ xs) (drop_more text 1 0 (omega (arith, len))) in
    let behind_date = seam text 2 8 (omega (arith, len)) ∙ ap (λ x. x ∷ drop 11 text) t in
    let date : a ++ (84 ∷ drop 11 text) ≡ drop 2 text =
    rw (← first) (ap (λ ys. take 8 (drop 2 text) ++ ys) (sym behind_date) ∙ part text 2 8) in
    let behind_time = last text 11 8 len ∙ ap (λ x. x ∷ []) z in
    let time : b ++ (90 ∷ []) ≡ drop 11 text =
    rw (← second) (ap (λ ys. take 8 (drop 11 text) ++ ys) (sym behind_time) ∙ part text 11 8) in
    let whole : (a ++ (84 ∷ b)) ++ (90 ∷ []) ≡ drop 2 text =
    append_assoc a (84 ∷ b) (90 ∷ []) ∙ (ap (λ ys. a ++ (84 ∷ ys)) time ∙ date) in
    head ∙ ap (λ xs. get_or text 0 0 ∷ get_or text 1 0 ∷ xs) (sym whole)
