-- What a service answers to the bytes that were received of a connection.
-- (Definitions of this project.)
use Rattle.std.specs.Prelude.{◌≡◌, ◌≤◌, ◌<◌, ◌⊎◌, false, ℕ, Bool, List, [], length, take}
use Rattle.pw_serve.specs.declared.service.Answer.{Answer}
use Rattle.pw_serve.specs.declared.service.Answer.TheVariants as answer
use Rattle.pw_serve.specs.Exchanges.{Asked, Whole, Refused}

module _ {S : Type 0} (answers : S → Asked → List ℕ → S → Type 0) (waits : List ℕ → Type 0) where
  -- `ended` says that no byte follows these, `may_be_large` that the reply may have any length, and `text` is the reply
  abbrev pub IsAnswer : S → List ℕ → Bool → Bool → S → List ℕ → Answer → Type 0
  -- only while more bytes may come, and these are such that it waits on them
  IsAnswer old bytes ended may_be_large new text answer.Waits = (new ≡ old) × (ended ≡ false) × (text ≡ []) × waits bytes
  -- only where a large reply has to wait
  IsAnswer old bytes ended may_be_large new text answer.Later = (new ≡ old) × (may_be_large ≡ false) × (text ≡ [])
  -- the first bytes are a request
  IsAnswer old bytes ended may_be_large new text (answer.Replied n closes) =
      (0 < n) × (n ≤ length bytes) × answers old (Whole (take n bytes) closes) text new
  -- they are refused, all of them
  IsAnswer old bytes ended may_be_large new text answer.Refused = answers old (Refused bytes ended) text new
  -- there was no memory for the reply: nothing was answered, or it is lost
  IsAnswer old bytes ended may_be_large new text answer.Short =
      (new ≡ old) ⊎ ((n : ℕ) × (closes : Bool) × (reply : List ℕ) × (n ≤ length bytes) × answers old (Whole (take n bytes) closes) reply new)
