-- A text has one list of records, and what is read of it stands in front of that list.
use Rattle.std.proofs.Common.{◌≡◌, ℕ, ◌≤◌, List, [], ◌∷◌, ◌++◌, length, Some, None, refl, sym, ap, subst, ◌∙◌, inl, inr, ◌⊎◌, ⊎_elim, arith}
use Rattle.std.proofs.lemmas.Option.{none-some, same_Some}
use Rattle.std.proofs.lemmas.List.{append-nil, length-append}
use Rattle.csv.specs.Machine.{Read, next_record}
use Rattle.csv.specs.Reading.{Reached, AreRecords}
use Rattle.csv.specs.declared.parser.Config.{Config}
use Rattle.csv.specs.declared.parser.State.{State}
use Rattle.pw_record.specs.Row.{Row}

-- the first list stands in front of the second
abbrev pub IsFront : List Row → List Row → Type 0
IsFront front rows = (rest : List Row) × (front ++ rest ≡ rows)

front_more : (a b : Row) (front rows : List Row) → a ≡ b → IsFront front rows → IsFront (a ∷ front) (b ∷ rows)
front_more a b front rows same f =
    let whole : a ∷ (front ++ f.0) ≡ a ∷ rows = ap (λ (l : List Row). a ∷ l) f.1 in
    (f.0, whole ∙ ap (λ (r : Row). r ∷ rows) same)

one_next : (cfg : Config) (s : State) (xs : List ℕ) (p q : Read) → next_record cfg s [] [] xs ≡ Some p → next_record cfg s [] [] xs ≡ Some q → q ≡ p
one_next cfg s xs p q a b = same_Some q p (sym b ∙ a)

same_record : (p q : Read) (a b : Row) → q ≡ p → a ≡ p.0 → b ≡ q.0 → a ≡ b
same_record p q a b same x y = x ∙ sym (ap (λ (r : Read). r.0) same) ∙ sym y

-- of two fronts one stands in front of the other
pub two_fronts : (cfg : Config) (s a b : State) (xs ys zs : List ℕ) (one other : List Row) → Reached cfg s xs one a ys → Reached cfg s xs other b zs
    → IsFront one other ⊎ IsFront other one
unfolding Reached
two_fronts cfg s a b xs ys zs [] other h k = inl (other, refl)
two_fronts cfg s a b xs ys zs (r ∷ rs) [] h k = inr (r ∷ rs, refl)
two_fronts cfg s a b xs ys zs (r ∷ rs) (q ∷ qs) h k =
    let same : k.0 ≡ h.0 = one_next cfg s xs h.0 k.0 h.1 k.1 in
    let first : r ≡ q = same_record h.0 k.0 r q same h.2 k.2 in
    let P : Read → Type 0 = λ p. Reached cfg p.1 p.2 qs b zs in
    ⊎_elim
    (λ (f : IsFront rs qs). inl (front_more r q rs qs first f))
    (λ (f : IsFront qs rs). inr (front_more q r qs rs (sym first) f))
    (two_fronts cfg h.0.1 a b h.0.2 ys zs rs qs h.3 (subst P same k.3))

-- what is reached stands in front of all records
pub front_of_all : (cfg : Config) (s a : State) (xs ys : List ℕ) (front rows : List Row) → Reached cfg s xs front a ys → AreRecords cfg s xs rows → IsFront front rows
unfolding Reached
front_of_all cfg s a xs ys [] rows h k = (rows, refl)
front_of_all cfg s a xs ys (r ∷ rs) [] h k =
    let P : State → Type 0 = λ t. next_record cfg t [] [] xs ≡ None in
    let Q : List ℕ → Type 0 = λ l. next_record cfg k.0 [] [] l ≡ None in
    let ends : next_record cfg s [] [] xs ≡ None = subst P (sym k.2.0) (subst Q (sym k.2.1) k.3) in
    absurd (none-some h.0 (sym ends ∙ h.1))
front_of_all cfg s a xs ys (r ∷ rs) (q ∷ qs) h k =
    let same : k.2.0 ≡ h.0 = one_next cfg s xs h.0 k.2.0 h.1 k.2.1 in
    let first : r ≡ q = same_record h.0 k.2.0 r q same h.2 k.2.2 in
    let P : Read → Type 0 = λ p. Reached cfg p.1 p.2 qs k.0 k.1 in
    front_more r q rs qs first (front_of_all cfg h.0.1 a h.0.2 ys rs qs h.3 (k.0, k.1, subst P same k.2.3, k.3))

no_rest : (rows rest all : List Row) → rows ++ rest ≡ all → length all ≤ length rows → rows ≡ all
no_rest rows [] all e l = sym (append-nil rows) ∙ e
no_rest rows (r ∷ rest) all e l =
    let n : length (rows ++ r ∷ rest) ≡ length all = ap length e in
    absurd (omega (arith, n, l, length-append rows (r ∷ rest)))

pub one_records : (cfg : Config) (s : State) (xs : List ℕ) (one other : List Row) → AreRecords cfg s xs one → AreRecords cfg s xs other → one ≡ other
one_records cfg s xs one other h k =
    let f : IsFront one other = front_of_all cfg s h.0 xs h.1 one other h.2 k in
    let g : IsFront other one = front_of_all cfg s k.0 xs k.1 other one k.2 h in
    let n : length (other ++ g.0) ≡ length one = ap length g.1 in
    no_rest one f.0 other f.1 (omega (arith, n, length-append other g.0))
