-- The records that count, and what they tell by the second. It serves `src/by_second.rt`.
-- (Definitions of this project.)
use Rattle.std.specs.Prelude.{ℕ, Option, Some, None, List}
use Rattle.pw_tariff.specs.declared.ids.AccountId.{AccountId}
use Rattle.pw_model.specs.declared.records.Key.{Key}
use Rattle.pw_model.specs.declared.records.Key.TheVariants as key
use Rattle.pw_model.specs.declared.records.Content.{Content}
use Rattle.pw_model.specs.declared.records.Content.TheVariants as content
use Rattle.pw_model.specs.declared.records.Entry.{Entry}
use Rattle.pw_model.specs.Counting.{Counts}
use Rattle.pw_model.specs.Lists.{Lists}
use Rattle.pw_model.specs.Same.{entry_order}

-- the records of a set that count and have such a key, in order
abbrev pub ListsCounting : (Key → Type 0) → List Entry → List Entry → Type 0
ListsCounting Of s = Lists entry_order (λ e. Counts s e × Of e.key)

-- ---- what is told by the second
-- from when on an assignment gives a meter to whom
abbrev pub given_at : Key → Content → Option (ℕ × Option AccountId)
given_at (key.Assignment m t) (content.Assignment o) = Some (t, o)
given_at _ _ = None

abbrev pub given : Entry → Option (ℕ × Option AccountId)
given e = given_at e.key e.content
