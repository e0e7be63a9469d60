-- What the export of energies adds up to.
use Rattle.std.proofs.Common.{◌≡◌, ◌+◌, ◌∙◌, ℕ, zero, suc, List, [], ◌∷◌, Option, Some, None, cond, ap, length, refl, arith}
use Rattle.std.specs.List.{sum_by}
use Rattle.std.proofs.lemmas.List.Sums.{sum_by-append}
use Rattle.pw_flow.specs.Time.{sum_over}
use Rattle.pw_tariff.specs.declared.ids.AccountId.{AccountId}
use Rattle.pw_tariff.specs.declared.ids.Direction.{Direction}
use Rattle.pw_tariff.specs.declared.ids.Direction.TheVariants.{Import, Export}
use Rattle.pw_tariff.specs.Office.{OfficeFile, office_of}
use Rattle.pw_tariff.proofs.Answered.{bands-of}
use Rattle.pw_model.specs.declared.records.Entry.{Entry}
use Rattle.pw_model.specs.Energy.{account, energy, over_bands}
use Rattle.pw_model.specs.Same.{same_direction}
use Rattle.pw_model.proofs.Whole.{nothing-is_lost}
use Rattle.pw_report.specs.Exports.{EnergyRow, energy_row, energy_rows, owner_rows}
use Rattle.pw_report.specs.Laws.{NothingIsLostInExport}
use Rattle.pw_report.specs.Layout.{listed_below}

-- the sum of what is listed is the sum of the sums
sum-listed : {X : Type 0} (f : X → ℕ) (g : ℕ → List X) (h : ℕ → ℕ) (n : ℕ) → ((k : ℕ) → sum_by f (g k) ≡ h k) → sum_by f (listed_below n g) ≡ sum_over h 0 n
unfolding listed_below sum_over
sum-listed f g h zero e = refl
sum-listed f g h (suc n) e =
    let at : n ≡ 0 + n = omega arith in
    sum_by-append f (listed_below n g) (g n) ∙ (λ i. sum-listed f g h n e i + (e n ∙ ap h at) i)

two-rows : (file : OfficeFile) (s : List Entry) (d : Direction) (o : Option AccountId) (b : ℕ) →
    sum_by (λ row. cond (same_direction row.direction d) row.wh 0) (energy_row file s o b Import ∷ energy_row file s o b Export ∷ []) ≡ energy (office_of file) s o b d
two-rows file s Import o b = omega arith
two-rows file s Export o b = omega arith

owner-sum : (file : OfficeFile) (s : List Entry) (d : Direction) (o : Option AccountId) →
    sum_by (λ row. cond (same_direction row.direction d) row.wh 0) (owner_rows file s o) ≡ over_bands (office_of file) (λ b. energy (office_of file) s o b d)
unfolding owner_rows
owner-sum file s d o = sum-listed _ _ (λ b. energy (office_of file) s o b d) _ (two-rows file s d o)

pub nothing-is-lost-in-export : NothingIsLostInExport
unfolding energy_rows
nothing-is-lost-in-export file s d sound of_office =
    let f : EnergyRow → ℕ = λ row. cond (same_direction row.direction d) row.wh 0 in
    sum_by-append f (owner_rows file s None) _
    ∙ (λ i. owner-sum file s d None i + sum-listed f (λ a. owner_rows file s (Some (account a))) (λ a. over_bands (office_of file) (λ b. energy (office_of file) s (Some (account a)) b d)) (length file.accounts) (λ a. owner-sum file s d (Some (account a))) i)
    ∙ nothing-is_lost (office_of file) s d (λ t. (bands-of file sound t).band) of_office
