-- Energies that follow what counts.
use Rattle.std.proofs.Common.{◌≡◌, ℕ, ◌+◌}
use Rattle.pw_tariff.specs.Office.{OfficeRules}
use Rattle.pw_model.specs.declared.records.Key.{Key}
use Rattle.pw_model.specs.declared.records.Contents.{Contents}
use Rattle.pw_model.specs.declared.records.TotalKey.{TotalKey}
use Rattle.pw_book.specs.inner.Sums.{energy_told}

-- from the one to the other, each energy loses and gains such amounts
abbrev pub Differ : OfficeRules → (Key → Contents) → (Key → Contents) → (TotalKey → ℕ) → (TotalKey → ℕ) → Type 0
Differ office was is less more = (k : TotalKey) → energy_told office was k + more k ≡ energy_told office is k + less k
