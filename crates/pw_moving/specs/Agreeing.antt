-- When two offices agree on what the records of a set ask for.
-- (Definitions of this project.)
use Rattle.std.specs.Prelude.{◌≡◌, ℕ, ◌<◌, ◌≤◌, Option, List}
use Rattle.pw_obis.specs.declared.reference.Register.{Register}
use Rattle.pw_tariff.specs.declared.ids.Direction.{Direction}
use Rattle.pw_tariff.specs.Office.{OfficeRules}
use Rattle.pw_model.specs.declared.records.Entry.{Entry}
use Rattle.pw_moving.specs.Adopting.{AreUpTo, IsUpTo}

-- a second with one behind it that isn't behind the last reading: no energy flows at another
abbrev pub IsBefore : Option ℕ → ℕ → Type 0
IsBefore last t = (n : ℕ) × (t < n) × IsUpTo last n

-- the office b has all that a has, at the same places, and it may have more behind: more accounts, meters and periods. What
-- both have is the same: bands, the registers that count, prices, and at each second before the last reading that isn't
-- withdrawn the band and the period
pub record AgreeOn (a b : OfficeRules) (s : List Entry) : Type 0 where
  pub accounts : a.accounts ≤ b.accounts
  pub meters : a.meters ≤ b.meters
  pub bands : a.bands ≡ b.bands
  pub periods : a.periods ≤ b.periods
  pub end : a.end ≡ b.end
  pub counts : (m : ℕ) (r : Register) → m < a.meters → a.counts m r ≡ b.counts m r
  pub price : (p n : ℕ) (d : Direction) → p < a.periods → n < a.bands → a.price p n d ≡ b.price p n d
  pub last : Option ℕ
  pub readings : AreUpTo last s
  pub band : (t : ℕ) → IsBefore last t → a.band t ≡ b.band t
  pub period : (t : ℕ) → IsBefore last t → a.period t ≡ b.period t
