-- What is used, paid and topped up between two instants.
-- (Definitions of this project. An interval has the seconds from its begin on, up to and without its end.)
use Rattle.std.specs.Prelude.{ℕ, ◌+◌, ◌*◌, ◌&&◌, Bool, cond, ◌==◌, nat_le, nat_lt, Option, List}
use Rattle.pw_tariff.specs.declared.ids.AccountId.{AccountId}
use Rattle.pw_tariff.specs.declared.ids.Direction.{Direction}
use Rattle.pw_tariff.specs.Office.{OfficeRules}
use Rattle.pw_model.specs.declared.records.Key.{Key}
use Rattle.pw_model.specs.declared.records.Content.TheVariants as content
use Rattle.pw_model.specs.declared.records.Contents.{Contents}
use Rattle.pw_model.specs.declared.records.Contents.TheVariants.{One}
use Rattle.pw_model.specs.declared.records.Entry.{Entry}
use Rattle.pw_model.specs.Same.{same_key}
use Rattle.pw_model.specs.Counting.{contents_at}
use Rattle.pw_model.specs.Energy.{Asked, of_class, energy_where, over_periods, over_bands}
use Rattle.pw_model.specs.Payments.{sum_once, keys}

-- the second is one of the interval
abbrev pub lies_in : ℕ → ℕ → ℕ → Bool
lies_in from to t = nat_le from t && nat_lt t to

-- those of the seconds that are asked for that lie in the interval
abbrev pub between : ℕ → ℕ → Asked → Asked
between from to asked o t = lies_in from to t && asked o t

-- the seconds of an interval with this owner, period and band
abbrev pub class_between : OfficeRules → ℕ → ℕ → Option AccountId → ℕ → ℕ → Asked
class_between office from to owner period band = between from to (of_class office owner period band)

-- in Wh: what flows in the seconds of the interval with this owner, period and band
abbrev pub energy_between : OfficeRules → List Entry → Option AccountId → ℕ → ℕ → Direction → ℕ → ℕ → ℕ
energy_between office s owner period band direction from to =
    energy_where office (contents_at s) direction (class_between office from to owner period band)

-- what that costs, in nano-euro: at the price of its period and band
abbrev pub class_cost : OfficeRules → (Key → Contents) → Option AccountId → ℕ → ℕ → Direction → ℕ → ℕ → ℕ
class_cost office at owner period band direction from to =
    office.price period band direction
    * energy_where office at direction (class_between office from to owner period band)

-- what all energy of an owner in a direction costs in the interval, in nano-euro
unfoldable pub cost_between : OfficeRules → (Key → Contents) → Option AccountId → Direction → ℕ → ℕ → ℕ
cost_between office at owner direction from to =
    over_periods office (λ p. over_bands office (λ b. class_cost office at owner p b direction from to))

-- the cents that count for an account at a key with these contents, where they were topped up in the interval
abbrev pub cents_between : ℕ → ℕ → ℕ → Contents → ℕ
cents_between a from to (One (content.TopUp b c t)) = cond (lies_in from to t && (b.0 == a)) c 0
cents_between a from to _ = 0

-- the counting top-ups of an account that have their instant in the interval, in cents
unfoldable pub topped_up_between : List Entry → ℕ → ℕ → ℕ → ℕ
topped_up_between s a from to = sum_once same_key (λ k. cents_between a from to (contents_at s k)) (keys s)

-- the office in which each second outside an interval has a band of its own, behind all others
abbrev pub cut_office : OfficeRules → ℕ → ℕ → OfficeRules
cut_office office from to = record office {
  bands = office.bands + 1;
  band = λ t. cond (lies_in from to t) (office.band t) office.bands;
}
