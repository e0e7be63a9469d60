-- Two cuts of one list.
use Rattle.std.proofs.Common.{◌≡◌, ◌<◌, ◌≤◌, List, [], ◌∷◌, ◌++◌, length, refl, ap, ◌∙◌, inl, inr, ◌⊎◌, arith}
use Rattle.std.proofs.lemmas.List.{append-nil, length-append}

-- cut before x and before y: at one place, or the one before the other
abbrev AreCuts : {X : Type 0} → List X → X → List X → X → Type 0
AreCuts {X} a x b y = ((a ≡ b) × (x ≡ y)) ⊎ (((mid : List X) × (b ≡ a ++ x ∷ mid)) ⊎ ((mid : List X) × (a ≡ b ++ y ∷ mid)))

cuts-more : {X : Type 0} (z w : X) (a b : List X) (x y : X) → z ≡ w → AreCuts a x b y → AreCuts (z ∷ a) x (w ∷ b) y
cuts-more z w a b x y e (inl p) = inl (cc (e, p.0), p.1)
cuts-more z w a b x y e (inr (inl p)) = let same : w ∷ b ≡ z ∷ (a ++ x ∷ p.0) = cc (e, p.1) in inr (inl (p.0, same))
cuts-more z w a b x y e (inr (inr p)) = let same : z ∷ a ≡ w ∷ (b ++ y ∷ p.0) = cc (e, p.1) in inr (inr (p.0, same))

pub cuts : {X : Type 0} (a b : List X) (x y : X) (xs ys : List X) → a ++ x ∷ xs ≡ b ++ y ∷ ys → AreCuts a x b y
cuts [] [] x y xs ys e = inl (refl, cc)
cuts [] (w ∷ b) x y xs ys e = let same : w ∷ b ≡ x ∷ b = cc in inr (inl (b, same))
cuts (z ∷ a) [] x y xs ys e = let same : z ∷ a ≡ y ∷ a = cc in inr (inr (a, same))
cuts (z ∷ a) (w ∷ b) x y xs ys e =
    let first : z ≡ w = cc in
    let rest : a ++ x ∷ xs ≡ b ++ y ∷ ys = cc in
    cuts-more z w a b x y first (cuts a b x y xs ys rest)

-- the longer beginning holds what stands behind the shorter one
pub longer : {X : Type 0} (a b : List X) (y : X) (xs ys : List X) → a ++ xs ≡ b ++ y ∷ ys → length b < length a → (mid : List X) × (a ≡ b ++ y ∷ mid)
longer [] b y xs ys e l = absurd (omega (arith, l))
longer (z ∷ a) [] y xs ys e l = let same : z ∷ a ≡ y ∷ a = cc in (a, same)
longer {X} (z ∷ a) (w ∷ b) y xs ys e l =
    let rest : a ++ xs ≡ b ++ y ∷ ys = cc in
    let more : (mid : List X) × (a ≡ b ++ y ∷ mid) = longer a b y xs ys rest (omega (arith, l)) in
    let same : z ∷ a ≡ w ∷ (b ++ y ∷ more.0) = cc (e, more.1) in
    (more.0, same)

-- where it isn't longer, nothing stands behind
pub nothing-behind : {X : Type 0} (a b rest : List X) → a ≡ b ++ rest → length a ≤ length b → a ≡ b
nothing-behind a b [] e l = e ∙ append-nil b
nothing-behind a b (c ∷ rest) e l = absurd (omega (arith, l, ap length e, length-append b (c ∷ rest)))
