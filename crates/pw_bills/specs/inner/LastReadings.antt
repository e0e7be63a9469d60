-- Readings that are told one register after another. It serves `src/readings.rt`.
-- (Definitions of this project.)
use Rattle.std.specs.Prelude.{◌≡◌, ℕ, ◌-◌, ◌<◌, ◌≤◌, List, [], ◌∷◌, ◌++◌}
use Rattle.pw_flow.specs.Time.{last}
use Rattle.pw_obis.specs.declared.reference.Register.{Register}
use Rattle.pw_tariff.specs.declared.ids.AccountId.{AccountId}
use Rattle.pw_tariff.specs.Office.{OfficeRules}
use Rattle.pw_model.specs.Counting.{contents_at}
use Rattle.pw_model.specs.Lists.{Lists}
use Rattle.pw_model.specs.Shelf.{ShelfContent}
use Rattle.pw_bills.specs.declared.readings.LastReading.{LastReading}
use Rattle.pw_bills.specs.declared.readings.LastReadings.{LastReadings}
use Rattle.pw_bills.specs.ReadUpTo.{IsLastReading, reading_order, register_number}
use Rattle.pw_bills.specs.inner.Gathering.{Pass}

-- those of the registers before one
abbrev pub AreReadBefore : OfficeRules → ShelfContent → AccountId → ℕ → ℕ → ℕ → List LastReading → Type 0
AreReadBefore office c a from end n =
    Lists reading_order (λ row. IsLastReading office (contents_at c.records) a from end row × (register_number row < n))

-- ---- what is gathered
abbrev pub latest_reading : ShelfContent → ℕ → ℕ → Register → LastReading
latest_reading c end m r = record { meter = record { 0 = m }; register = r; last = last (c.point m r) (end - 1) }

-- a register adds its latest reading before the end
abbrev pub AddsLatest : Pass → ℕ → Register → LastReadings → LastReadings → Type 0
AddsLatest q m r old new = new.rows.items ≡ old.rows.items ++ latest_reading q.content q.end m r ∷ []

-- for a register: two calls at most, and one row at most
abbrev pub ThreeAreRead : Pass → ℕ → Register → ℕ → Type 0
ThreeAreRead q m r most = 3 ≤ most
