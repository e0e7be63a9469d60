-- What was topped up, and the balance.
-- (Definitions of this project.)
use Rattle.std.specs.Prelude.{◌≡◌, ℕ, ◌+◌, ◌*◌, Bool, false, ◌||◌, cond, ◌==◌, Option, Some, List, [], ◌∷◌, map, ℤ, pos, ◌+ℤ◌, ◌-ℤ◌}
use Rattle.pw_tariff.specs.declared.ids.AccountId.{AccountId}
use Rattle.pw_tariff.specs.declared.ids.Direction.TheVariants.{Import, Export}
use Rattle.pw_model.specs.declared.records.Key.{Key}
use Rattle.pw_model.specs.declared.records.Content.{Content}
use Rattle.pw_model.specs.declared.records.Content.TheVariants as content
use Rattle.pw_model.specs.declared.records.Contents.{Contents}
use Rattle.pw_model.specs.declared.records.Contents.TheVariants.{One}
use Rattle.pw_model.specs.declared.records.Entry.{Entry}
use Rattle.pw_model.specs.Same.{same_key}
use Rattle.pw_model.specs.Counting.{contents_at}
use Rattle.pw_tariff.specs.Office.{OfficeRules}
use Rattle.pw_model.specs.Energy.{cost}

-- whether x stands in a list
abbrev pub stands_in : {X : Type 0} → (X → X → Bool) → X → List X → Bool
stands_in same x [] = false
stands_in same x (y ∷ ys) = same x y || stands_in same x ys

-- f of each that stands in a list, once, added up
abbrev pub sum_once : {X : Type 0} → (X → X → Bool) → (X → ℕ) → List X → ℕ
sum_once same f [] = 0
sum_once same f (x ∷ xs) = cond (stands_in same x xs) 0 (f x) + sum_once same f xs

abbrev pub keys : List Entry → List Key
keys = map (λ e. e.key)

-- the cents that count for an account at a key with these contents
abbrev pub cents_for : ℕ → Contents → ℕ
cents_for a (One (content.TopUp b c t)) = cond (b.0 == a) c 0
cents_for a _ = 0

-- a top-up for an account
abbrev pub IsTopUpFor : ℕ → Content → Type 0
IsTopUpFor a (content.TopUp b c t) = b.0 ≡ a
IsTopUpFor a _ = ⊥

-- the cents of a top-up
abbrev pub cents_in : Content → ℕ
cents_in (content.TopUp b c t) = c
cents_in _ = 0

-- the counting top-ups of an account, in cents
unfoldable pub topped_up : List Entry → ℕ → ℕ
topped_up s a = sum_once same_key (λ k. cents_for a (contents_at s k)) (keys s)

abbrev pub nano_in_cent : ℕ
nano_in_cent = 10000000

-- in nano-euro
abbrev pub balance : OfficeRules → List Entry → ℕ → ℤ
balance office s a =
    let owner : Option AccountId = Some (record { 0 = a }) in
    (pos (nano_in_cent * topped_up s a) -ℤ pos (cost office (contents_at s) owner Import)) +ℤ pos (cost office (contents_at s) owner Export)
