-- A block's lines, one after the other.
use Rattle.std.proofs.Common.{zero, suc, ◌≡◌, ℕ, ◌+◌, Option, Some, None, List, [], ◌∷◌, ◌++◌, length, refl, sym, ap, ◌∙◌, subst, arith, get_or}
use Rattle.std.specs.Prelude.{slice_index, slice_range}
use Rattle.std.proofs.lemmas.List.{get_or_past}
use Rattle.pw_obis.specs.Line.{SetText, SetsAt}
use Rattle.pw_obis.specs.Block.{StopsAt, LinesAt, HasSets}
use Rattle.pw_obis.specs.Laws.{ExactlyOne, IsOutcome}
use Rattle.pw_obis.specs.lemmas.Places.{no_set, one_set, one_mid}

-- a line has one end and one list of sets
pub one_line : (b : List ℕ) (p e f : ℕ) (ss ts : List SetText) → SetsAt b p e ss → SetsAt b p f ts → (e ≡ f) × (ss ≡ ts)
one_line b p e f [] [] x y = (sym x.0 ∙ y.0, refl)
one_line b p e f [] (t ∷ ts) x y = absurd (no_set b p y.0 y.1 y.2 (subst (λ (k : ℕ). slice_index b k ≡ 13) (sym x.0) x.1))
one_line b p e f (s ∷ ss) [] x y = absurd (no_set b p x.0 x.1 x.2 (subst (λ (k : ℕ). slice_index b k ≡ 13) (sym y.0) y.1))
one_line b p e f (s ∷ ss) (t ∷ ts) x y =
    let m : x.0 ≡ y.0 = one_mid b p x.0 x.1 y.0 y.1 x.2 y.2 in
    let q : x.1 ≡ y.1 = one_set b p x.0 x.1 y.0 y.1 x.2 y.2 in
    let r : (e ≡ f) × (ss ≡ ts) = one_line b y.1 e f ss ts (subst (λ (k : ℕ). SetsAt b k e ss) q x.4) y.4 in
    let same : s ≡ t =
    x.3 ∙ ap (λ (k : ℕ). record { address = slice_range b p k; values = slice_range b k x.1 }) m
    ∙ ap (λ (k : ℕ). record { address = slice_range b p y.0; values = slice_range b y.0 k }) q ∙ sym y.3 in
    let both : s ∷ ss ≡ t ∷ ts = cc (same, r.1) in
    (r.0, both)

-- no line stands at a block's end
pub no_line_at_end : (b : List ℕ) (p e : ℕ) (ss : List SetText) → p ≡ length b → SetsAt b p e ss → ⊥
no_line_at_end b p e [] h x = let z : get_or b e 0 ≡ 0 = get_or_past b e 0 (omega (arith, h, x.0)) in omega (arith, z, x.1)
no_line_at_end b p e (s ∷ ss) h x =
    let z : get_or b x.0 0 ≡ 0 = get_or_past b x.0 0 (omega (arith, h, x.2.address.rises)) in
    omega (arith, z, x.2.values.1.left)

-- ---- a block is read in one way

one_stop : (b : List ℕ) (p : ℕ) (r q : Option ℕ) → StopsAt b p r → StopsAt b p q → r ≡ q
one_stop b p None None x y = refl
one_stop b p None (Some at) x y = absurd (omega (arith, x, y.1))
one_stop b p (Some at) None x y = absurd (omega (arith, y, x.1))
one_stop b p (Some at) (Some other) x y = ap Some (x.0 ∙ sym y.0)

pub no_stop : (b : List ℕ) (p e : ℕ) (r : Option ℕ) (ss : List SetText) → StopsAt b p r → SetsAt b p e ss → ⊥
no_stop b p e None ss x y = no_line_at_end b p e ss x y
no_stop b p e (Some at) ss x y = x.2 e ss y

pub one_reading : (b : List ℕ) (m n p : ℕ) (ss ts : List SetText) (r q : Option ℕ) → LinesAt b m p ss r → LinesAt b n p ts q → (ss ≡ ts) × (r ≡ q)
one_reading b zero zero p ss ts r q x y = (x.0 ∙ sym y.0, one_stop b p r q x.1 y.1)
one_reading b zero (suc n) p ss ts r q x y = absurd (no_stop b p y.0 r y.1 x.1 y.3)
one_reading b (suc m) zero p ss ts r q x y = absurd (no_stop b p x.0 q x.1 y.1 x.3)
one_reading b (suc m) (suc n) p ss ts r q x y =
    let same : (x.0 ≡ y.0) × (x.1 ≡ y.1) = one_line b p x.0 y.0 x.1 y.1 x.3 y.3 in
    let w : (x.2 ≡ y.2) × (r ≡ q) = one_reading b m n (y.0 + 2) x.2 y.2 r q (subst (λ (k : ℕ). LinesAt b m (k + 2) x.2 r) same.0 x.5) y.5 in
    (x.4 ∙ ap (λ (t : List SetText). t ++ x.2) same.1 ∙ ap (λ (t : List SetText). y.1 ++ t) w.0 ∙ sym y.4, w.1)

pub one_list : (b : List ℕ) (ss ts : List SetText) (r q : Option ℕ) → HasSets b ss r → HasSets b ts q → (ss ≡ ts) × (r ≡ q)
one_list b ss ts r q x y = one_reading b x.0 y.0 0 ss ts r q x.1 y.1

pub one_outcome : (b : List ℕ) (ss : List SetText) (r : Option ℕ) → HasSets b ss r → ExactlyOne (IsOutcome b)
one_outcome b ss r h = record {
  answer = (ss, r);
  holds = h;
  only = λ other x. (let e : (ss ≡ other.0) × (r ≡ other.1) = one_list b ss other.0 r other.1 h x in
      ap (λ (t : List SetText). (t, r)) e.0 ∙ ap (λ (q : Option ℕ). (other.0, q)) e.1);
}
