-- Shares of energy by owner, period and band.
-- (Definitions of this project.)
use Rattle.std.specs.Prelude.{◌≡◌, ◌==◌, ◌&&◌, ℕ, ◌+◌, ◌<◌, ◌⊎◌, Option, Some, None, List, [], ◌∷◌, Bool, cond}
use Rattle.pw_tariff.specs.declared.ids.AccountId.{AccountId}
use Rattle.pw_tariff.specs.declared.cells.Cell.{Cell}
use Rattle.pw_tariff.specs.Owners.{same_owner}

-- nobody stands first, then the accounts in the office file's order
abbrev pub owner_place : Option AccountId → ℕ
owner_place None = 0
owner_place (Some a) = a.0 + 1

-- a cell stands before that of a period and a band: by period, then by band
abbrev pub IsBeforeTariff : Cell → ℕ → ℕ → Type 0
IsBeforeTariff c period band = (c.period.0 < period) ⊎ ((c.period.0 ≡ period) × (c.band.0 < band))

-- a cell stands before another: by owner, then by period, then by band
abbrev pub IsBeforeCell : Cell → Cell → Type 0
IsBeforeCell c d = (owner_place c.owner < owner_place d.owner)
    ⊎ ((owner_place c.owner ≡ owner_place d.owner) × IsBeforeTariff c d.period.0 d.band.0)

-- each cell stands before the next, so no owner, period and band stand twice
abbrev pub AreInOrder : List Cell → Type 0
AreInOrder [] = Unit {0}
AreInOrder (a ∷ []) = Unit {0}
AreInOrder (a ∷ b ∷ cells) = IsBeforeCell a b × AreInOrder (b ∷ cells)

-- each has some energy
abbrev pub AreAboveZero : List Cell → Type 0
AreAboveZero [] = Unit {0}
AreAboveZero (c ∷ cells) = (0 < c.wh) × AreAboveZero cells

-- the cell is that of an owner, a period and a band
abbrev pub is_of : Option AccountId → ℕ → ℕ → Cell → Bool
is_of owner period band c = same_owner c.owner owner && ((c.period.0 == period) && (c.band.0 == band))

-- what an owner has in a period and a band, in watt-hours: nothing where no cell stands for them
unfoldable pub energy_in : List Cell → Option AccountId → ℕ → ℕ → ℕ
energy_in [] owner period band = 0
energy_in (c ∷ cells) owner period band = cond (is_of owner period band c) c.wh (energy_in cells owner period band)

-- what all have
unfoldable pub energy_of_all : List Cell → ℕ
energy_of_all [] = 0
energy_of_all (c ∷ cells) = c.wh + energy_of_all cells
