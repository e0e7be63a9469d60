-- Lines of what a book answers, in the words of its office and its records as they were.
use Rattle.std.proofs.Common.{◌≡◌, ◌∙◌, ℕ, ℤ, List, Option, Some, ap}
use Rattle.std.specs.Prelude.{decimal}
use Rattle.pw_tariff.specs.declared.ids.AccountId.{AccountId}
use Rattle.pw_tariff.specs.declared.ids.Direction.{Direction}
use Rattle.pw_tariff.specs.declared.ids.Direction.TheVariants.{Import, Export}
use Rattle.pw_tariff.specs.Office.{OfficeFile, office_of}
use Rattle.pw_model.specs.declared.records.Entry.{Entry}
use Rattle.pw_model.specs.Energy.{account, energy}
use Rattle.pw_model.specs.Payments.{balance}
use Rattle.pw_report.specs.Amounts.{balance_text}
use Rattle.pw_report.specs.Exports.{energy_cost, energy_row, energy_row_line}
use Rattle.pw_report.specs.Names.{account_name, band_name}
use Rattle.pw_report.specs.Tables.{account_line, balance_line, band_line, energy_line}

pub account-line : (file asked named : OfficeFile) (s t : List Entry) (a : ℕ) (name amount : List ℕ) (nano passed : ℤ) → asked ≡ file → named ≡ file → t ≡ s →
    nano ≡ balance (office_of asked) t a → passed ≡ nano → amount ≡ balance_text passed → name ≡ account_name named a →
    account_line name amount ≡ balance_line file s a
account-line file asked named s t a name amount nano passed f g h p e q r =
    let x : name ≡ account_name file a = r ∙ ap (λ o. account_name o a) g in
    let y : nano ≡ balance (office_of file) s a = p ∙ (λ i. balance (office_of (f i)) (h i) a) in
    let z : amount ≡ balance_text (balance (office_of file) s a) = q ∙ ap balance_text (e ∙ y) in
    λ i. account_line (x i) (z i)

pub energy-line : (file one other named : OfficeFile) (s t u : List Entry) (a b imported exported : ℕ) (name : List ℕ) → one ≡ file → other ≡ file → named ≡ file → t ≡ s → u ≡ s →
    imported ≡ energy (office_of one) t (Some (account a)) b Import → exported ≡ energy (office_of other) u (Some (account a)) b Export → name ≡ band_name named b →
    band_line name (decimal imported) (decimal exported) ≡ energy_line file s a b
energy-line file one other named s t u a b imported exported name f g h j k p q r =
    let x : name ≡ band_name file b = r ∙ ap (λ o. band_name o b) h in
    let y : imported ≡ energy (office_of file) s (Some (account a)) b Import = p ∙ (λ i. energy (office_of (f i)) (j i) (Some (account a)) b Import) in
    let z : exported ≡ energy (office_of file) s (Some (account a)) b Export = q ∙ (λ i. energy (office_of (g i)) (k i) (Some (account a)) b Export) in
    λ i. band_line (x i) (decimal (y i)) (decimal (z i))

pub row-line : (file named : OfficeFile) (s : List Entry) (o : Option AccountId) (b : ℕ) (d : Direction) (wh nano : ℕ) → named ≡ file →
    wh ≡ energy (office_of file) s o b d → nano ≡ energy_cost file s o b d →
    energy_row_line named (record { owner = o; band = b; direction = d; wh = wh; nano = nano }) ≡ energy_row_line file (energy_row file s o b d)
row-line file named s o b d wh nano g p q = λ i. energy_row_line (g i) (record { owner = o; band = b; direction = d; wh = p i; nano = q i })
