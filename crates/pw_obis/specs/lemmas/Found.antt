-- From each place of a block on there is a list of sets and an end or a refusal: one is found by trying.
-- The model of `Sets` names what is found here.
-- What counts is what the record FromPlace says of it; that there is no other is a law of this crate.
use Rattle.std.proofs.Common.{zero, suc, ◌≡◌, ℕ, ◌+◌, ◌<◌, ◌≤◌, ◌⊎◌, inl, inr, ⊎_elim, Option, Some, None, List, [], ◌∷◌, ◌++◌, length, refl, sym, subst, arith, get_or}
use Rattle.std.specs.Prelude.{slice_index, slice_range}
use Rattle.std.proofs.lemmas.List.{get_or_past}
use Rattle.std.proofs.lemmas.Bool.{cases_lt, cases_eq}
use Rattle.pw_obis.specs.Line.{SetText, IsText, TextAt, ValueAt, ValuesAt, SetAt, SetsAt}
use Rattle.pw_obis.specs.Block.{LinesAt}
use Rattle.pw_obis.specs.lemmas.Places.{one_text, one_value, reach_set, no_line, stuck_set, values_rise, sets_rise, line_within}

past : (b : List ℕ) (i c : ℕ) → length b ≤ i → slice_index b i ≡ c → 0 < c → ⊥
past b i c l e h = let z : get_or b i 0 ≡ 0 = get_or_past b i 0 l in omega (arith, z, e, h)

is_text : (c : ℕ) → IsText c ⊎ (IsText c → ⊥)
is_text c = ⊎_elim
    (λ (l : c < 32). inr (λ t. omega (arith, l, t.0)))
    (λ (m : 32 ≤ c). ⊎_elim
    (λ (h : 126 < c). inr (λ t. omega (arith, h, t.1)))
    (λ (n : c ≤ 126). ⊎_elim
    (λ (e : c ≡ 40). inr (λ t. t.2 e))
    (λ (f : c ≡ 40 → ⊥). ⊎_elim (λ (e : c ≡ 41). inr (λ t. t.3 e)) (λ (g : c ≡ 41 → ⊥). inl (m, n, f, g)) (cases_eq c 41))
    (cases_eq c 40))
    (cases_lt 126 c))
    (cases_lt c 32)

text_step : (b : List ℕ) (from to : ℕ) → IsText (slice_index b from) → TextAt b (from + 1) to → TextAt b from to
text_step b from to h t = record {
  rises = omega (arith, t.rises);
  each = λ i l m. ⊎_elim
      (λ (k : from < i). t.each i (omega arith) m)
      (λ (k : i ≤ from). (let e : i ≡ from = omega arith in subst (λ (j : ℕ). IsText (slice_index b j)) (sym e) h))
      (cases_lt from i);
  more = t.more;
}

text_none : (b : List ℕ) (from : ℕ) → (IsText (slice_index b from) → ⊥) → TextAt b from from
text_none b from n = record { rises = omega arith; each = λ i l m. absurd (omega (arith, l, m)); more = n }

past_text : (b : List ℕ) (i : ℕ) → length b ≤ i → IsText (slice_index b i) → ⊥
past_text b i l t = let z : get_or b i 0 ≡ 0 = get_or_past b i 0 l in omega (arith, z, t.0)

text_found : (b : List ℕ) (fuel from : ℕ) → length b ≤ from + fuel → (to : ℕ) × TextAt b from to
text_found b zero from l = (from, text_none b from (λ t. past_text b from (omega (arith, l)) t))
text_found b (suc n) from l = ⊎_elim
    (λ (h : IsText (slice_index b from)).
    let w = text_found b n (from + 1) (omega (arith, l)) in
    let r : (to : ℕ) × TextAt b from to = (w.0, text_step b from w.0 h w.1) in
    r)
    (λ (h : IsText (slice_index b from) → ⊥). (from, text_none b from h))
    (is_text (slice_index b from))

value_found : (b : List ℕ) (from : ℕ) → ((to : ℕ) × ValueAt b from to) ⊎ ((to : ℕ) → ValueAt b from to → ⊥)
value_found b from = ⊎_elim
    (λ (open_mark : slice_index b from ≡ 40).
    let w : (to : ℕ) × TextAt b (from + 1) to = text_found b (length b) (from + 1) (omega arith) in
    ⊎_elim
    (λ (close_mark : slice_index b w.0 ≡ 41). inl (w.0 + 1, record { close = w.0; left = open_mark; text = w.1; right = close_mark; next = refl }))
    (λ (n : slice_index b w.0 ≡ 41 → ⊥). inr (λ to v. n (subst (λ (k : ℕ). slice_index b k ≡ 41) (one_text b (from + 1) v.close w.0 v.text w.1) v.right)))
    (cases_eq (slice_index b w.0) 41))
    (λ (n : slice_index b from ≡ 40 → ⊥). inr (λ to v. n v.left))
    (cases_eq (slice_index b from) 40)

value_rises : (b : List ℕ) (from to : ℕ) → ValueAt b from to → from < to
value_rises b from to v = omega (arith, v.text.rises, v.next)

no_more_values : (b : List ℕ) (at n to : ℕ) → slice_index b at ≡ 40 → ((k t : ℕ) → ValuesAt b (suc k) at t → ⊥) → ValuesAt b n at to → ⊥
no_more_values b at zero to e f w = w.1 (subst (λ (k : ℕ). slice_index b k ≡ 40) w.0 e)
no_more_values b at (suc n) to e f w = f n to w

-- the values from a place on, where those behind the first are known
values_behind : (b : List ℕ) (from next : ℕ) → ValueAt b from next
    → ((n : ℕ) × (to : ℕ) × ValuesAt b (suc n) next to) ⊎ ((n to : ℕ) → ValuesAt b (suc n) next to → ⊥)
    → ((n : ℕ) × (to : ℕ) × ValuesAt b (suc n) from to) ⊎ ((n to : ℕ) → ValuesAt b (suc n) from to → ⊥)
values_behind b from next v rest = ⊎_elim
    (λ (e : slice_index b next ≡ 40). ⊎_elim
    (λ (w : (n : ℕ) × (to : ℕ) × ValuesAt b (suc n) next to). inl (suc w.0, w.1, (next, v, w.2)))
    (λ (f : (n to : ℕ) → ValuesAt b (suc n) next to → ⊥).
    inr (λ k to w. no_more_values b next k to e f (subst (λ (x : ℕ). ValuesAt b k x to) (one_value b from w.0 next w.1 v) w.2)))
    rest)
    (λ (f : slice_index b next ≡ 40 → ⊥). inl (0, next, (next, v, (refl, f))))
    (cases_eq (slice_index b next) 40)

values_found : (b : List ℕ) (fuel from : ℕ) → length b ≤ from + fuel
    → ((n : ℕ) × (to : ℕ) × ValuesAt b (suc n) from to) ⊎ ((n to : ℕ) → ValuesAt b (suc n) from to → ⊥)
values_found b zero from l = inr (λ n to w. past b from 40 (omega (arith, l)) w.1.left (omega arith))
values_found b (suc fuel) from l = ⊎_elim
    (λ (v : (to : ℕ) × ValueAt b from to). values_behind b from v.0 v.1 (values_found b fuel v.0 (omega (arith, l, value_rises b from v.0 v.1))))
    (λ (n : (to : ℕ) → ValueAt b from to → ⊥). inr (λ k to w. n w.0 w.1))
    (value_found b from)

set_found : (b : List ℕ) (from : ℕ) → ((mid : ℕ) × (to : ℕ) × SetAt b from mid to) ⊎ ((mid to : ℕ) → SetAt b from mid to → ⊥)
set_found b from =
    let t : (mid : ℕ) × TextAt b from mid = text_found b (length b) from (omega arith) in
    ⊎_elim
    (λ (w : (n : ℕ) × (to : ℕ) × ValuesAt b (suc n) t.0 to). inl (t.0, w.1, record { address = t.1; others = w.0; values = w.2 }))
    (λ (f : (n to : ℕ) → ValuesAt b (suc n) t.0 to → ⊥).
    inr (λ mid to s. f s.others to (subst (λ (k : ℕ). ValuesAt b (suc s.others) k to) (one_text b from mid t.0 s.address t.1) s.values)))
    (values_found b (length b) t.0 (omega arith))

set_rises : (b : List ℕ) (from mid to : ℕ) → SetAt b from mid to → from < to
set_rises b from mid to s =
    omega (arith, s.address.rises, value_rises b mid s.values.0 s.values.1, values_rise b s.others s.values.0 to s.values.2)

-- a line stands at a place
record Line (b : List ℕ) (from : ℕ) : Type 0 where
  pub end : ℕ
  pub sets : List SetText
  pub line : SetsAt b from end sets

-- the line from a place on, where what stands behind its first set is known
line_behind : (b : List ℕ) (from mid to : ℕ) → SetAt b from mid to → Line b to ⊎ (Line b to → ⊥) → Line b from ⊎ (Line b from → ⊥)
line_behind b from mid to s rest = ⊎_elim
    (λ (w : Line b to).
    inl (record { end = w.end; sets = record { address = slice_range b from mid; values = slice_range b mid to } ∷ w.sets; line = (mid, to, s, refl, w.line) }))
    (λ (f : Line b to → ⊥).
    inr (λ x. (let w = reach_set b from mid to x.end x.sets s x.line in f (record { end = x.end; sets = w.0; line = w.1 }))))
    rest

line_found : (b : List ℕ) (fuel from : ℕ) → length b ≤ from + fuel → Line b from ⊎ (Line b from → ⊥)
line_found b zero from l = inr (λ x. omega (arith, l, sets_rise b from x.end x.sets x.line, line_within b from x.end x.sets x.line))
line_found b (suc fuel) from l = ⊎_elim
    (λ (e : slice_index b from ≡ 13). ⊎_elim
    (λ (h : slice_index b (from + 1) ≡ 10). inl (record { end = from; sets = []; line = (refl, e, h) }))
    (λ (h : slice_index b (from + 1) ≡ 10 → ⊥). inr (λ x. no_line b from x.end x.sets e h x.line))
    (cases_eq (slice_index b (from + 1)) 10))
    (λ (f : slice_index b from ≡ 13 → ⊥). ⊎_elim
    (λ (s : (mid : ℕ) × (to : ℕ) × SetAt b from mid to).
    line_behind b from s.0 s.1 s.2 (line_found b fuel s.1 (omega (arith, l, set_rises b from s.0 s.1 s.2))))
    (λ (n : (mid to : ℕ) → SetAt b from mid to → ⊥). inr (λ x. stuck_set b from x.end x.sets f n x.line))
    (set_found b from))
    (cases_eq (slice_index b from) 13)

-- the sets and the refusal from a place on
pub record FromPlace (b : List ℕ) (from : ℕ) : Type 0 where
  pub lines : ℕ
  pub sets : List SetText
  pub refusal : Option ℕ
  pub are : LinesAt b lines from sets refusal

at_end : (b : List ℕ) (from : ℕ) → from ≡ length b → FromPlace b from
at_end b from e = record { lines = 0; sets = []; refusal = None; are = (refl, e) }

at_bad_line : (b : List ℕ) (from : ℕ) → from < length b → (Line b from → ⊥) → FromPlace b from
at_bad_line b from l f = record { lines = 0; sets = []; refusal = Some from; are = (refl, (refl, l, λ e ss x. f (record { end = e; sets = ss; line = x }))) }

behind_line : (b : List ℕ) (from : ℕ) → (x : Line b from) → FromPlace b (x.end + 2) → FromPlace b from
behind_line b from x w = record {
  lines = suc w.lines;
  sets = x.sets ++ w.sets;
  refusal = w.refusal;
  are = (x.end, x.sets, w.sets, x.line, refl, w.are);
}

pub found : (b : List ℕ) (fuel from : ℕ) → from ≤ length b → length b ≤ from + fuel → FromPlace b from
found b zero from l m = at_end b from (omega (arith, l, m))
found b (suc fuel) from l m = ⊎_elim
    (λ (h : from < length b). ⊎_elim
    (λ (x : Line b from).
    behind_line b from x (found b fuel (x.end + 2) (line_within b from x.end x.sets x.line) (omega (arith, m, sets_rise b from x.end x.sets x.line))))
    (λ (f : Line b from → ⊥). at_bad_line b from h f)
    (line_found b (length b) from (omega arith)))
    (λ (h : length b ≤ from). at_end b from (omega (arith, l, h)))
    (cases_lt from (length b))
