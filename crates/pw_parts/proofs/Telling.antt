-- What records tell, one after another.
use Rattle.std.proofs.Common.{◌≡◌, ℕ, ◌+◌, ◌<◌, Option, Some, None, List, [], ◌∷◌, ◌++◌, length, take, get_or, ap, sym, ◌∙◌}
use Rattle.std.specs.List.{filter_map}
use Rattle.std.proofs.lemmas.List.{take_more, append-nil}
use Rattle.std.proofs.lemmas.List.Elements.{filter_map-append}

module _ {X Y : Type 0} (h : X → Option Y) where
  told-step : (xs : List X) (i : ℕ) (x : X) → i < length xs → x ≡ get_or xs i x → filter_map h (take (i + 1) xs) ≡ filter_map h (take i xs) ++ filter_map h (x ∷ [])
  told-step xs i x l e =
      ap (filter_map h) (take_more xs i x l) ∙ filter_map-append h (take i xs) (get_or xs i x ∷ [])
      ∙ ap (λ z. filter_map h (take i xs) ++ filter_map h (z ∷ [])) (sym e)

  pub told-some : (xs : List X) (i : ℕ) (x : X) (y : Y) (ys zs : List Y) → i < length xs → x ≡ get_or xs i x → h x ≡ Some y → ys ≡ filter_map h (take i xs) → zs ≡ ys ++ y ∷ [] → zs ≡ filter_map h (take (i + 1) xs)
  told-some xs i x y ys zs l e t a b = rw (told-step xs i x l e, t, ← a) b

  pub told-none : (xs : List X) (i : ℕ) (x : X) (ys zs : List Y) → i < length xs → x ≡ get_or xs i x → h x ≡ None → ys ≡ filter_map h (take i xs) → zs ≡ ys → zs ≡ filter_map h (take (i + 1) xs)
  told-none xs i x ys zs l e t a b = rw (told-step xs i x l e, t, append-nil (filter_map h (take i xs)), ← a) b
