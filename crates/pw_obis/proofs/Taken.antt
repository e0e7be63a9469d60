-- What is to come from a place on, and how a set is taken from it.
use Rattle.std.proofs.Common.{zero, suc, ◌≡◌, ℕ, ◌+◌, ◌<◌, ◌≤◌, ◌⊎◌, inl, inr, Option, Some, None, List, [], ◌∷◌, ◌++◌, length, refl, sym, ap, ◌∙◌, subst, arith}
use Rattle.std.specs.Prelude.{slice_index, slice_range}
use Rattle.std.specs.Option.{unwrap_or}
use Rattle.std.proofs.lemmas.Bool.{cases_lt}
use Rattle.pw_obis.specs.Line.{SetText, SetAt, SetsAt}
use Rattle.pw_obis.specs.Block.{StopsAt, LinesAt}
use Rattle.pw_obis.specs.lemmas.Places.{no_set, one_mid, one_set, sets_rise, line_within}
use Rattle.pw_obis.specs.lemmas.Found.{FromPlace, found}
use Rattle.pw_obis.specs.Coming.{AreLinesUpTo, Coming, nothing, from_choice, from_place}
use Rattle.pw_obis.proofs.EachLine.{one_reading, no_stop}

choice_is : (b : List ℕ) (p : ℕ) (c : (length b < p) ⊎ (p ≤ length b)) → p ≤ length b → (x : FromPlace b p)
    → from_choice b p c ≡ record { sets = x.sets; refusal = x.refusal }
unfolding from_choice
choice_is b p (inl m) l x = absurd (omega (arith, m, l))
choice_is b p (inr m) l x =
    let y : FromPlace b p = found b (length b) p m (omega arith) in
    let e : (y.sets ≡ x.sets) × (y.refusal ≡ x.refusal) = one_reading b y.lines x.lines p y.sets x.sets y.refusal x.refusal y.are x.are in
    ap (λ (ss : List SetText). record { sets = ss; refusal = y.refusal }) e.0 ∙ ap (λ (r : Option ℕ). record { sets = x.sets; refusal = r }) e.1

pub place_is : (b : List ℕ) (p : ℕ) → p ≤ length b → (x : FromPlace b p) → from_place b p ≡ record { sets = x.sets; refusal = x.refusal }
unfolding from_place
place_is b p l x = choice_is b p (cases_lt (length b) p) l x

pub place_has : (b : List ℕ) (p : ℕ) → p ≤ length b → (n : ℕ) × LinesAt b n p (from_place b p).sets (from_place b p).refusal
place_has b p l =
    let x : FromPlace b p = found b (length b) p l (omega arith) in
    (x.lines, subst (λ (k : Coming). LinesAt b x.lines p k.sets k.refusal) (sym (place_is b p l x)) x.are)

pub place_end : (b : List ℕ) (p : ℕ) → p ≡ length b → from_place b p ≡ nothing
place_end b p e = place_is b p (omega (arith, e)) (record { lines = 0; sets = []; refusal = None; are = (refl, e) })

pub place_bad : (b : List ℕ) (p : ℕ) → p < length b → ((e : ℕ) (ss : List SetText) → SetsAt b p e ss → ⊥) → from_place b p ≡ record { sets = []; refusal = Some p }
place_bad b p l f = place_is b p (omega (arith, l)) (record { lines = 0; sets = []; refusal = Some p; are = (refl, (refl, l, f)) })

pub place_line : (b : List ℕ) (p e : ℕ) (first : List SetText) → SetsAt b p e first
    → from_place b p ≡ record { sets = first ++ (from_place b (e + 2)).sets; refusal = (from_place b (e + 2)).refusal }
place_line b p e first s =
    let w : e + 2 ≤ length b = line_within b p e first s in
    let m = place_has b (e + 2) w in
    place_is b p (omega (arith, w, sets_rise b p e first s))
    (record {
      lines = suc m.0;
      sets = first ++ (from_place b (e + 2)).sets;
      refusal = (from_place b (e + 2)).refusal;
      are = (e, first, (from_place b (e + 2)).sets, s, refl, m.1);
    })

-- at the end of a line the next one is next
pub place_empty : (b : List ℕ) (p e : ℕ) (ss : List SetText) → SetsAt b p e ss → slice_index b p ≡ 13 → (p + 2 ≤ length b) × (from_place b p ≡ from_place b (p + 2))
place_empty b p e [] l h =
    let here : SetsAt b p p [] = (refl, h, subst (λ (k : ℕ). slice_index b (k + 1) ≡ 10) (sym l.0) l.2) in
    (line_within b p p [] here, place_line b p p [] here)
place_empty b p e (s ∷ ss) l h = absurd (no_set b p l.0 l.1 l.2 h)

-- the sets of a line, where the first one is known
split : (b : List ℕ) (p m t e : ℕ) (first : List SetText) → SetAt b p m t → SetsAt b p e first → (slice_index b p ≡ 13 → ⊥)
    → (rest : List SetText) × (first ≡ record { address = slice_range b p m; values = slice_range b m t } ∷ rest) × SetsAt b t e rest
split b p m t e [] s l k = absurd (k (subst (λ (x : ℕ). slice_index b x ≡ 13) (sym l.0) l.1))
split b p m t e (f ∷ rest) s l k =
    let i : l.0 ≡ m = one_mid b p l.0 l.1 m t l.2 s in
    let j : l.1 ≡ t = one_set b p l.0 l.1 m t l.2 s in
    let same : f ≡ record { address = slice_range b p m; values = slice_range b m t } =
    l.3 ∙ ap (λ (x : ℕ). record { address = slice_range b p x; values = slice_range b x l.1 }) i
    ∙ ap (λ (x : ℕ). record { address = slice_range b p m; values = slice_range b m x }) j in
    (rest, ap (λ (x : SetText). x ∷ rest) same, subst (λ (x : ℕ). SetsAt b x e rest) j l.4)

-- where a line stands and no end of one, a set stands
pub no_set_left : (b : List ℕ) (p e : ℕ) (ss : List SetText) → ((m t : ℕ) → SetAt b p m t → ⊥) → SetsAt b p e ss → (slice_index b p ≡ 13 → ⊥) → ⊥
no_set_left b p e [] n l h = h (subst (λ (k : ℕ). slice_index b k ≡ 13) (sym l.0) l.1)
no_set_left b p e (s ∷ ss) n l h = n l.0 l.1 l.2

-- a set is taken, and the rest of its line is next
pub record Left (b : List ℕ) (p m t : ℕ) : Type 0 where
  pub sets : (from_place b p).sets ≡ record { address = slice_range b p m; values = slice_range b m t } ∷ (from_place b t).sets
  pub refusal : (from_place b p).refusal ≡ (from_place b t).refusal
  pub within : t ≤ length b

pub left_in_line : (b : List ℕ) (p m t e : ℕ) (ss : List SetText) → SetAt b p m t → SetsAt b p e ss → (slice_index b p ≡ 13 → ⊥) → Left b p m t
left_in_line b p m t e ss s l h =
    let w = split b p m t e ss s l h in
    let here = place_line b p e ss l in
    let there = place_line b t e w.0 w.2 in
    let set : SetText = record { address = slice_range b p m; values = slice_range b m t } in
    record {
      sets =
          ap (λ (c : Coming). c.sets) here
          ∙ ap (λ (x : List SetText). x ++ (from_place b (e + 2)).sets) w.1
          ∙ ap (λ (x : List SetText). set ∷ x) (sym (ap (λ (c : Coming). c.sets) there));
      refusal = ap (λ (c : Coming). c.refusal) here ∙ sym (ap (λ (c : Coming). c.refusal) there);
      within = omega (arith, sets_rise b t e w.0 w.2, line_within b p e ss l);
    }

-- ---- where lines stop

one_place : (b : List ℕ) (p q : ℕ) (r : Option ℕ) → StopsAt b p r → StopsAt b q r → p ≡ q
one_place b p q None x y = x ∙ sym y
one_place b p q (Some at) x y = sym x.0 ∙ y.0

-- before they stop a line stands
line_before : (b : List ℕ) (n p stop : ℕ) (ss : List SetText) (r : Option ℕ) → LinesAt b n p ss r → StopsAt b stop r → p < stop → (e : ℕ) × (first : List SetText) × SetsAt b p e first
line_before b zero p stop ss r l s h = absurd (omega (arith, one_place b p stop r l.1 s, h))
line_before b (suc n) p stop ss r l s h = (l.0, l.1, l.3)

pub has_line : (b : List ℕ) (p stop : ℕ) → AreLinesUpTo b p stop → p < stop → (e : ℕ) × (first : List SetText) × SetsAt b p e first
has_line b p stop a h = let m = place_has b p a.0 in line_before b m.0 p stop (from_place b p).sets (from_place b p).refusal m.1 a.1 h

-- and where they stop none
lines_rise : (b : List ℕ) (n p stop : ℕ) (ss : List SetText) (r : Option ℕ) → LinesAt b n p ss r → StopsAt b stop r → p ≤ stop
lines_rise b zero p stop ss r l s = omega (arith, one_place b p stop r l.1 s)
lines_rise b (suc n) p stop ss r l s = omega (arith, sets_rise b p l.0 l.1 l.3, lines_rise b n (l.0 + 2) stop l.2 r l.5 s)

none_at : (b : List ℕ) (n p : ℕ) (ss : List SetText) (r : Option ℕ) → LinesAt b n p ss r → StopsAt b p r → ss ≡ []
none_at b zero p ss r l s = l.0
none_at b (suc n) p ss r l s = absurd (no_stop b p l.0 r l.1 s l.3)

pub none_left : (b : List ℕ) (p stop : ℕ) → AreLinesUpTo b p stop → stop ≤ p → (from_place b p).sets ≡ []
none_left b p stop a h =
    let m = place_has b p a.0 in
    let e : stop ≡ p = omega (arith, h, lines_rise b m.0 p stop (from_place b p).sets (from_place b p).refusal m.1 a.1) in
    none_at b m.0 p (from_place b p).sets (from_place b p).refusal m.1 (subst (λ (k : ℕ). StopsAt b k (from_place b p).refusal) e a.1)

-- where the lines of a block stop is told by its refusal
last_stop : (b : List ℕ) (n p : ℕ) (ss : List SetText) (r : Option ℕ) → LinesAt b n p ss r → (stop : ℕ) × StopsAt b stop r
last_stop b zero p ss r l = (p, l.1)
last_stop b (suc n) p ss r l = last_stop b n (l.0 + 2) l.2 r l.5

told_stop : (b : List ℕ) (stop : ℕ) (r : Option ℕ) → StopsAt b stop r → StopsAt b (unwrap_or r (length b)) r
told_stop b stop None s = refl
told_stop b stop (Some at) s = subst (λ (k : ℕ). StopsAt b k (Some at)) (sym s.0) s

pub lines_of_block : (b : List ℕ) → AreLinesUpTo b 0 (unwrap_or (from_place b 0).refusal (length b))
lines_of_block b =
    let m = place_has b 0 (omega arith) in
    let s = last_stop b m.0 0 (from_place b 0).sets (from_place b 0).refusal m.1 in
    (omega arith, told_stop b s.0 (from_place b 0).refusal s.1)
