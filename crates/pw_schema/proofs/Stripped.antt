-- A text between a front and a back that are stripped from it.
use Rattle.std.proofs.Common.{◌≡◌, ◌++◌, ◌==◌, ℕ, List, Bool, IsTrue, sym, ap, ◌∙◌}
use Rattle.std.specs.Cmp.Lexicographic.{pointwise}
use Rattle.std.proofs.lemmas.Bool.Decides.{Decides-eqb}
use Rattle.std.proofs.lemmas.List.{append_cancel_left, append_cancel_right}
use Rattle.std.proofs.lemmas.Slice.Eq.{slice_eq-Decides}

-- what is left in the middle is the text that is asked for exactly where the whole is it with front and back
pub between : (whole front rest middle back text : List ℕ) (same : Bool) → whole ≡ front ++ rest → rest ≡ middle ++ back → same ≡ pointwise ◌==◌ middle text → (IsTrue same → whole ≡ front ++ (text ++ back)) × (whole ≡ front ++ (text ++ back) → IsTrue same)
between whole front rest middle back text same begins ends is =
    let decides = slice_eq-Decides Decides-eqb middle text same is in (
      λ yes. begins ∙ ap (λ r. front ++ r) (ends ∙ ap (λ m. m ++ back) (decides.0 yes)),
      λ e. decides.1 (append_cancel_right middle text back (sym ends ∙ append_cancel_left front rest (text ++ back) (sym begins ∙ e))),
    )
