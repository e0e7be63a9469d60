-- A list that is made from some of the members of another, one after the other.
use Rattle.std.proofs.Common.{◌≡◌, ℕ, ◌+◌, ◌≤◌, List, [], ◌∷◌, ◌++◌, length, drop, refl, ap, sym, subst, ◌∙◌}
use Rattle.pw_model.proofs.Places.{drop-all}

-- with what the rest gives, ys is what all of them give
pub record IsSoFar {X Y : Type 0} (P : List X → List Y → Type 0) (some : List X) (i : ℕ) (ys : List Y) : Type 0 where
  pub onward : (more : List Y) → P (drop i some) more → P some (ys ++ more)

append-one : {Y : Type 0} (ys more : List Y) (y : Y) → (ys ++ y ∷ []) ++ more ≡ ys ++ y ∷ more
append-one [] more y = refl
append-one (x ∷ ys) more y = ap (λ l. x ∷ l) (append-one ys more y)

append-none : {Y : Type 0} (ys : List Y) → ys ++ [] ≡ ys
append-none [] = refl
append-none (y ∷ ys) = ap (λ l. y ∷ l) (append-none ys)

pub so-far-first : {X Y : Type 0} (P : List X → List Y → Type 0) (some : List X) → IsSoFar P some 0 []
so-far-first P some = record { onward = λ more h. h }

pub so-far-more : {X Y : Type 0} (P : List X → List Y → Type 0) (some : List X) (i : ℕ) (ys zs : List Y) (y : Y) → IsSoFar P some i ys → zs ≡ ys ++ y ∷ [] →
    ((more : List Y) → P (drop (i + 1) some) more → P (drop i some) (y ∷ more)) → IsSoFar P some (i + 1) zs
so-far-more {X} {Y} P some i ys zs y h e step = record {
  onward = λ more m.
      let Q : List Y → Type 0 = λ l. P some l in
      subst Q (sym (ap (λ (l : List Y). l ++ more) e ∙ append-one ys more y)) (h.onward (y ∷ more) (step more m));
}

pub so-far-skip : {X Y : Type 0} (P : List X → List Y → Type 0) (some : List X) (i : ℕ) (ys : List Y) → IsSoFar P some i ys →
    ((more : List Y) → P (drop (i + 1) some) more → P (drop i some) more) → IsSoFar P some (i + 1) ys
so-far-skip P some i ys h step = record { onward = λ more m. h.onward more (step more m) }

pub so-far-all : {X Y : Type 0} (P : List X → List Y → Type 0) (some : List X) (i : ℕ) (ys : List Y) → IsSoFar P some i ys → length some ≤ i → P [] [] → P some ys
so-far-all {X} {Y} P some i ys h l none =
    let Q : List X → Type 0 = λ v. P v [] in
    let R : List Y → Type 0 = λ v. P some v in
    subst R (append-none ys) (h.onward [] (subst Q (sym (drop-all some i l)) none))
