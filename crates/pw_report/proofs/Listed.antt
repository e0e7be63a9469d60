-- Lists put behind one another, one more.
use Rattle.std.proofs.Common.{◌≡◌, ℕ, ◌+◌, List, [], ◌++◌, append_assoc, add-one, ap, sym, ◌∙◌, refl}
use Rattle.std.proofs.lemmas.List.{append-nil}
use Rattle.pw_report.specs.Layout.{listed_below}

-- ---- what a function gives of each number below
-- none yet
pub listed-none : {X : Type 0} (bs : List X) (f : ℕ → List X) → bs ≡ bs ++ listed_below 0 f
unfolding listed_below
listed-none bs f = sym (append-nil bs)

pub listed-next : {X : Type 0} (f : ℕ → List X) (n : ℕ) → listed_below n f ++ f n ≡ listed_below (n + 1) f
unfolding listed_below
listed-next f n = rw add-one refl

-- ---- behind what a text begins with
pub text-begun : {X : Type 0} (empty now bs : List X) (f : ℕ → List X) → empty ≡ [] → now ≡ empty ++ bs → now ≡ bs ++ listed_below 0 f
text-begun empty now bs f p q = q ∙ ap (λ t. t ++ bs) p ∙ listed-none bs f

-- one more
pub text-next : {X : Type 0} (bs now new line : List X) (f : ℕ → List X) (n : ℕ) → now ≡ bs ++ listed_below n f → new ≡ now ++ line → line ≡ f n → new ≡ bs ++ listed_below (n + 1) f
text-next bs now new line f n p q r = q ∙ (λ i. p i ++ r i) ∙ append_assoc bs (listed_below n f) (f n) ∙ ap (λ t. bs ++ t) (listed-next f n)

-- all
pub text-whole : {X : Type 0} (bs now : List X) (f : ℕ → List X) (n m : ℕ) → now ≡ bs ++ listed_below n f → n ≡ m → now ≡ bs ++ listed_below m f
text-whole bs now f n m p q = p ∙ ap (λ k. bs ++ listed_below k f) q
