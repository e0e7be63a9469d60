-- A text with zeros behind it, 32 bytes in all.
use Rattle.std.proofs.Common.{◌≡◌, ℕ, zero, suc, ◌-◌, List, [], ◌∷◌, ◌++◌, length, take, drop, replicate, refl, ap, sym, ◌∙◌, subst, arith}
use Rattle.pw_model.specs.References.{IsReference, padded}

take-text : (t zs : List ℕ) → take (length t) (t ++ zs) ≡ t
take-text [] zs = refl
take-text (x ∷ t) zs = ap (λ l. x ∷ l) (take-text t zs)

abbrev zeros : ℕ → List ℕ
zeros m = replicate m 0

drop-zeros : (n m : ℕ) → drop n (zeros m) ≡ zeros (m - n)
drop-zeros zero m = let e : m - 0 ≡ m = omega arith in rw e
drop-zeros (suc n) zero = let e : zero - suc n ≡ zero = omega arith in rw e
drop-zeros (suc n) (suc m) = let e : suc m - suc n ≡ m - n = omega arith in rw e (drop-zeros n m)

-- the first bytes of 32 zeros overwritten by a text are that text's reference
pub text-fits : (t new : List ℕ) → new ≡ t → IsReference t →
    let whole = new ++ drop (length t) (zeros 32) in
    IsReference (take (length t) whole) × (length t ≡ length (take (length t) whole)) × (whole ≡ padded (take (length t) whole))
text-fits t new e h =
    let same : new ++ drop (length t) (zeros 32) ≡ t ++ drop (length t) (zeros 32) = ap (λ l. l ++ drop (length t) (zeros 32)) e in
    let front : take (length t) (new ++ drop (length t) (zeros 32)) ≡ t = ap (take (length t)) same ∙ take-text t (drop (length t) (zeros 32)) in (
      subst IsReference (sym front) h,
      sym (ap length front),
      same ∙ ap (λ l. t ++ l) (drop-zeros (length t) 32) ∙ sym (ap padded front),
    )
