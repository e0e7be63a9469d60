-- One pair of a list of points behind another.
use Rattle.std.proofs.Common.{◌≡◌, ℕ, ◌<◌, ◌≤◌, List, [], ◌∷◌, ◌++◌, length, take, drop, get_or, refl, ap, sym, subst, ◌∙◌, arith}
use Rattle.std.proofs.lemmas.List.{append_assoc, append-nil}
use Rattle.pw_tariff.specs.declared.ids.AccountId.{AccountId}
use Rattle.pw_tariff.specs.declared.ids.MeterId.{MeterId}
use Rattle.pw_tariff.specs.Office.{OfficeFile}
use Rattle.pw_obis.specs.declared.reference.Register.{Register}
use Rattle.pw_model.specs.Lists.{IsInOrder}
use Rattle.pw_model.specs.Seconds.{by_second}
use Rattle.pw_parts.proofs.Chart.{less-is}
use Rattle.pw_bills.specs.declared.reasons.WhyPiece.{WhyPiece}
use Rattle.pw_bills.specs.inner.Naming.{OwnerStart}
use Rattle.pw_bills.specs.inner.Rows.{Adds, GivenBetween, GivenByPoints}

pub rest-rises : (rest next : List (ℕ × ℕ)) → next ≡ drop 1 rest → IsInOrder by_second rest → IsInOrder by_second next
rest-rises [] next e r = let P : List (ℕ × ℕ) → Type 0 = λ ps. IsInOrder by_second ps in subst P (sym e) tt
rest-rises (p ∷ ps) next e r = let P : List (ℕ × ℕ) → Type 0 = λ ps. IsInOrder by_second ps in subst P (sym e) r.1

module _ (file : OfficeFile) (owners : List OwnerStart) (a : AccountId) (m : MeterId) (r : Register) (points : List (ℕ × ℕ)) where
  -- rows so far, with what is still to come
  abbrev pub IsSoFar : List (ℕ × ℕ) → List WhyPiece → List WhyPiece → Type 0
  IsSoFar rest old new =
      (given : List WhyPiece) × (new ≡ old ++ given)
      × ((more : List WhyPiece) → GivenByPoints file owners a m r rest more → GivenByPoints file owners a m r points (given ++ more))

  pub pair-more : (rest next pair : List (ℕ × ℕ)) (p q : ℕ × ℕ) (old mid new : List WhyPiece) → 2 ≤ length rest → pair ≡ take 2 rest → next ≡ drop 1 rest →
      p ≡ get_or pair 0 p → q ≡ get_or pair 1 q → IsInOrder by_second rest → (p.0 < q.0 → Adds (GivenBetween file owners a m r p q) mid new) → IsSoFar rest old mid → IsSoFar next old new
  pair-more [] next pair p q old mid new l t d e f o g h = absurd (omega (arith, l))
  pair-more (u ∷ []) next pair p q old mid new l t d e f o g h = absurd (omega (arith, l))
  pair-more (u ∷ v ∷ ps) next pair p q old mid new l t d e f o g h =
      let first : p ≡ u = e ∙ ap (λ (xs : List (ℕ × ℕ)). get_or xs 0 p) t in
      let second : q ≡ v = f ∙ ap (λ (xs : List (ℕ × ℕ)). get_or xs 1 q) t in
      let b : u.0 < v.0 = less-is u.0 v.0 o.0.0 in
      let c : p.0 ≡ u.0 = ap (λ (x : ℕ × ℕ). x.0) first in
      let k : q.0 ≡ v.0 = ap (λ (x : ℕ × ℕ). x.0) second in
      let added = g (omega (arith, b, c, k)) in
      let one : List WhyPiece = added.0 in
      let given : List WhyPiece = h.0 in
      let P : ℕ × ℕ → Type 0 = λ x. GivenBetween file owners a m r x q one in
      let Q : ℕ × ℕ → Type 0 = λ x. GivenBetween file owners a m r u x one in
      let R : List (ℕ × ℕ) → List WhyPiece → Type 0 = λ xs ws. GivenByPoints file owners a m r xs ws in
      let W : List WhyPiece → Type 0 = λ ws. GivenByPoints file owners a m r points ws in
      let between : GivenBetween file owners a m r u v one = subst Q second (subst P first added.1) in (
        given ++ one,
        added.2 ∙ ap (λ (ws : List WhyPiece). ws ++ one) h.1 ∙ append_assoc old given one,
        λ more n.
            let N : List (ℕ × ℕ) → Type 0 = λ xs. R xs more in
            let whole : R (u ∷ v ∷ ps) (one ++ more) = (one, more, between, subst N d n, refl) in
            subst W (sym (append_assoc given one more)) (h.2 (one ++ more) whole),
      )

  pub pairs-over : (rest : List (ℕ × ℕ)) (old new : List WhyPiece) → length rest < 2 → IsSoFar rest old new → Adds (GivenByPoints file owners a m r points) old new
  pairs-over [] old new l h = (h.0, let W : List WhyPiece → Type 0 = λ ws. GivenByPoints file owners a m r points ws in subst W (append-nil h.0) (h.2 [] refl), h.1)
  pairs-over (u ∷ []) old new l h = (h.0, let W : List WhyPiece → Type 0 = λ ws. GivenByPoints file owners a m r points ws in subst W (append-nil h.0) (h.2 [] refl), h.1)
  pairs-over (u ∷ v ∷ ps) old new l h = absurd (omega (arith, l))
