-- A place has one text, one value, one run of values, one set; and how far each goes. `Found` and the proofs name them.
-- These are lemmas on the relations of Line, not definitions. They stand here because Found names them.
use Rattle.std.proofs.Common.{zero, suc, ◌≡◌, ℕ, ◌+◌, ◌<◌, ◌≤◌, ⊎_elim, List, [], ◌∷◌, length, get_or, refl, sym, ◌∙◌, subst, arith}
use Rattle.std.specs.Prelude.{slice_index, slice_range}
use Rattle.std.proofs.lemmas.List.{get_or_past}
use Rattle.std.proofs.lemmas.Bool.{cases_lt}
use Rattle.pw_obis.specs.Line.{SetText, TextAt, ValueAt, ValuesAt, SetAt, SetsAt}

pub same_place : (a b : ℕ) → (a < b → ⊥) → (b < a → ⊥) → a ≡ b
same_place a b f g = ⊎_elim (λ (l : a < b). absurd (f l)) (λ (l : b ≤ a). ⊎_elim (λ (m : b < a). absurd (g m)) (λ (m : a ≤ b). omega arith) (cases_lt b a)) (cases_lt a b)

pub one_text : (b : List ℕ) (p x y : ℕ) → TextAt b p x → TextAt b p y → x ≡ y
one_text b p x y s t = same_place x y (λ l. s.more (t.each x s.rises l)) (λ l. t.more (s.each y t.rises l))

pub one_value : (b : List ℕ) (p x y : ℕ) → ValueAt b p x → ValueAt b p y → x ≡ y
one_value b p x y s t =
    let e : s.close ≡ t.close = one_text b (p + 1) s.close t.close s.text t.text in
    omega (arith, e, s.next, t.next)

-- what is known of the values from the first place, at a later one
pub record Along (b : List ℕ) (from at : ℕ) : Type 0 where
  pub build : (n t : ℕ) → ValuesAt b n at t → (m : ℕ) × ValuesAt b (suc m) from t
  pub reach : (n t : ℕ) → ValuesAt b (suc n) from t → (m : ℕ) × ValuesAt b m at t

pub along_first : (b : List ℕ) (from at : ℕ) → ValueAt b from at → Along b from at
along_first b from at v = record {
  build = λ n t w. (n, (at, v, w));
  reach = λ n t w. (n, subst (λ (x : ℕ). ValuesAt b n x t) (one_value b from w.0 at w.1 v) w.2);
}

reach_more : (b : List ℕ) (x y m t : ℕ) → ValueAt b x y → ValuesAt b m x t → (k : ℕ) × ValuesAt b k y t
reach_more b x y zero t v w = absurd (w.1 (subst (λ (k : ℕ). slice_index b k ≡ 40) w.0 v.left))
reach_more b x y (suc m) t v w = (m, subst (λ (k : ℕ). ValuesAt b m k t) (one_value b x w.0 y w.1 v) w.2)

pub along_more : (b : List ℕ) (from x y : ℕ) → ValueAt b x y → Along b from x → Along b from y
along_more b from x y v a = record {
  build = λ n t w. a.build (suc n) t (y, v, w);
  reach = λ n t w. reach_more b x y (a.reach n t w).0 t v (a.reach n t w).1;
}

pub along_end : (b : List ℕ) (from at : ℕ) → Along b from at → (slice_index b at ≡ 40 → ⊥) → (n : ℕ) × ValuesAt b (suc n) from at
along_end b from at a h = a.build 0 at (refl, h)

pub stuck : (b : List ℕ) (at m t : ℕ) → slice_index b at ≡ 40 → ((x : ℕ) → ValueAt b at x → ⊥) → ValuesAt b m at t → ⊥
stuck b at zero t e f w = w.1 (subst (λ (k : ℕ). slice_index b k ≡ 40) w.0 e)
stuck b at (suc m) t e f w = f w.0 w.1

pub along_stuck : (b : List ℕ) (from at : ℕ) → Along b from at → slice_index b at ≡ 40 → ((x : ℕ) → ValueAt b at x → ⊥) → (n t : ℕ) → ValuesAt b (suc n) from t → ⊥
along_stuck b from at a e f n t w = stuck b at (a.reach n t w).0 t e f (a.reach n t w).1

pub one_values : (b : List ℕ) (m n p x y : ℕ) → ValuesAt b m p x → ValuesAt b n p y → x ≡ y
one_values b zero zero p x y s t = sym s.0 ∙ t.0
one_values b zero (suc n) p x y s t = absurd (s.1 (subst (λ (k : ℕ). slice_index b k ≡ 40) s.0 t.1.left))
one_values b (suc m) zero p x y s t = absurd (t.1 (subst (λ (k : ℕ). slice_index b k ≡ 40) t.0 s.1.left))
one_values b (suc m) (suc n) p x y s t =
    one_values b m n t.0 x y (subst (λ (k : ℕ). ValuesAt b m k x) (one_value b p s.0 t.0 s.1 t.1) s.2) t.2

pub one_mid : (b : List ℕ) (p m x n y : ℕ) → SetAt b p m x → SetAt b p n y → m ≡ n
one_mid b p m x n y s t = one_text b p m n s.address t.address

pub one_set : (b : List ℕ) (p m x n y : ℕ) → SetAt b p m x → SetAt b p n y → x ≡ y
one_set b p m x n y s t =
    one_values b (suc s.others) (suc t.others) n x y (subst (λ (k : ℕ). ValuesAt b (suc s.others) k x) (one_mid b p m x n y s t) s.values) t.values

-- no values after a text that doesn't end at `(`
pub no_set : (b : List ℕ) (p m x : ℕ) → SetAt b p m x → slice_index b p ≡ 13 → ⊥
no_set b p m x s e =
    let early : p < m → ⊥ = λ l. (let c : 32 ≤ slice_index b p = (s.address.each p (omega arith) l).0 in omega (arith, c, e)) in
    let late : m < p → ⊥ = λ l. (let c : p ≤ m = s.address.rises in omega (arith, c, l)) in
    let mark : slice_index b p ≡ 40 = subst (λ (k : ℕ). slice_index b k ≡ 40) (sym (same_place p m early late)) s.values.1.left in
    omega (arith, mark, e)

-- what is known of the sets from the first place, at a later one
pub record Ahead (b : List ℕ) (from at : ℕ) : Type 0 where
  pub build : (e : ℕ) (ss : List SetText) → SetsAt b at e ss → (ts : List SetText) × SetsAt b from e ts
  pub reach : (e : ℕ) (ss : List SetText) → SetsAt b from e ss → (ts : List SetText) × SetsAt b at e ts

pub ahead_first : (b : List ℕ) (from : ℕ) → Ahead b from from
ahead_first b from = record { build = λ e ss w. (ss, w); reach = λ e ss w. (ss, w) }

pub reach_set : (b : List ℕ) (x m y e : ℕ) (ss : List SetText) → SetAt b x m y → SetsAt b x e ss → (ts : List SetText) × SetsAt b y e ts
reach_set b x m y e [] s w = absurd (no_set b x m y s (subst (λ (k : ℕ). slice_index b k ≡ 13) (sym w.0) w.1))
reach_set b x m y e (t ∷ ts) s w = (ts, subst (λ (k : ℕ). SetsAt b k e ts) (one_set b x w.0 w.1 m y w.2 s) w.4)

pub ahead_more : (b : List ℕ) (from x m y : ℕ) → SetAt b x m y → Ahead b from x → Ahead b from y
ahead_more b from x m y s a = record {
  build = λ e ss w. a.build e (record { address = slice_range b x m; values = slice_range b m y } ∷ ss) (m, y, s, refl, w);
  reach = λ e ss w. reach_set b x m y e (a.reach e ss w).0 s (a.reach e ss w).1;
}

pub ahead_end : (b : List ℕ) (from at : ℕ) → Ahead b from at → slice_index b at ≡ 13 → slice_index b (at + 1) ≡ 10 → (ss : List SetText) × SetsAt b from at ss
ahead_end b from at a h k = a.build at [] (refl, h, k)

pub no_line : (b : List ℕ) (at e : ℕ) (ss : List SetText) → slice_index b at ≡ 13 → (slice_index b (at + 1) ≡ 10 → ⊥) → SetsAt b at e ss → ⊥
no_line b at e [] h n w = n (subst (λ (k : ℕ). slice_index b (k + 1) ≡ 10) (sym w.0) w.2)
no_line b at e (s ∷ ss) h n w = no_set b at w.0 w.1 w.2 h

pub ahead_no_line : (b : List ℕ) (from at : ℕ) → Ahead b from at → slice_index b at ≡ 13 → (slice_index b (at + 1) ≡ 10 → ⊥) → (e : ℕ) (ss : List SetText) → SetsAt b from e ss → ⊥
ahead_no_line b from at a h n e ss w = no_line b at e (a.reach e ss w).0 h n (a.reach e ss w).1

pub stuck_set : (b : List ℕ) (at e : ℕ) (ss : List SetText) → (slice_index b at ≡ 13 → ⊥) → ((m y : ℕ) → SetAt b at m y → ⊥) → SetsAt b at e ss → ⊥
stuck_set b at e [] h n w = h (subst (λ (k : ℕ). slice_index b k ≡ 13) (sym w.0) w.1)
stuck_set b at e (s ∷ ss) h n w = n w.0 w.1 w.2

pub ahead_stuck : (b : List ℕ) (from at : ℕ) → Ahead b from at → (slice_index b at ≡ 13 → ⊥) → ((m y : ℕ) → SetAt b at m y → ⊥) → (e : ℕ) (ss : List SetText) → SetsAt b from e ss → ⊥
ahead_stuck b from at a h n e ss w = stuck_set b at e (a.reach e ss w).0 h n (a.reach e ss w).1

pub values_rise : (b : List ℕ) (n p q : ℕ) → ValuesAt b n p q → p ≤ q
values_rise b zero p q x = omega (arith, x.0)
values_rise b (suc n) p q x = omega (arith, x.1.text.rises, x.1.next, values_rise b n x.0 q x.2)

pub sets_rise : (b : List ℕ) (p e : ℕ) (ss : List SetText) → SetsAt b p e ss → p ≤ e
sets_rise b p e [] x = omega (arith, x.0)
sets_rise b p e (s ∷ ss) x = omega (arith, x.2.address.rises, values_rise b (suc x.2.others) x.0 x.1 x.2.values, sets_rise b x.1 e ss x.4)

-- a line's CR LF lies in the block
pub line_within : (b : List ℕ) (p e : ℕ) (ss : List SetText) → SetsAt b p e ss → e + 2 ≤ length b
line_within b p e [] x = ⊎_elim
    (λ (l : e + 1 < length b). omega (arith, l))
    (λ (m : length b ≤ e + 1). (let z : get_or b (e + 1) 0 ≡ 0 = get_or_past b (e + 1) 0 m in absurd (omega (arith, z, x.2))))
    (cases_lt (e + 1) (length b))
line_within b p e (s ∷ ss) x = line_within b x.1 e ss x.4
