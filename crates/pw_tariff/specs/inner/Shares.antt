-- One share added to cells. It serves `src/cells.rt` and `src/spread.rt`.
use Rattle.std.specs.Prelude.{◌≡◌, ℕ, ◌+◌, Option, List, cond}
use Rattle.pw_tariff.specs.declared.ids.AccountId.{AccountId}
use Rattle.pw_tariff.specs.declared.cells.Cell.{Cell}
use Rattle.pw_tariff.specs.Cells.{owner_place, AreInOrder, AreAboveZero, is_of, energy_in, energy_of_all}

-- of one owner, period and band
abbrev pub IsOfOneClass : Cell → Cell → Type 0
IsOfOneClass c d = (owner_place c.owner ≡ owner_place d.owner) × (c.period.0 ≡ d.period.0) × (c.band.0 ≡ d.band.0)

-- the cells of new are those of old with one share more
pub record IsAdded (old new : List Cell) (share : Cell) : Type 0 where
  pub in_order : AreInOrder new
  pub above_zero : AreAboveZero new
  pub energy : (owner : Option AccountId) (period band : ℕ) →
      energy_in new owner period band ≡ energy_in old owner period band + cond (is_of owner period band share) share.wh 0
  pub whole : energy_of_all new ≡ energy_of_all old + share.wh
