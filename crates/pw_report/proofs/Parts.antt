-- The lines of a statement, one behind another.
use Rattle.std.proofs.Common.{◌≡◌, ◌∙◌, ◌++◌, ℕ, List, [], length}
use Rattle.std.specs.Prelude.{codes}
use Rattle.pw_tariff.specs.Office.{OfficeFile, office_of}
use Rattle.pw_model.specs.declared.records.Entry.{Entry}
use Rattle.pw_model.specs.Payments.{balance, topped_up}
use Rattle.pw_report.specs.Amounts.{balance_text, euro_text}
use Rattle.pw_report.specs.Layout.{listed_below}
use Rattle.pw_report.specs.Names.{account_name}
use Rattle.pw_report.specs.Tables.{band_line, energy_line, statement_text}

-- what is known of the parts, each told of the office and the records that the book had then
pub record AreParts (file : OfficeFile) (s : List Entry) (a : ℕ) (name lines : List ℕ) (cents : ℕ) (amount : List ℕ) : Type 0 where
  pub name_is : name ≡ account_name file a
  pub lines_are : lines ≡ listed_below (length file.bands) (energy_line file s a)
  pub cents_are : cents ≡ topped_up s a
  pub amount_is : amount ≡ balance_text (balance (office_of file) s a)

pub statement-is : (file : OfficeFile) (s : List Entry) (a : ℕ) (name lines : List ℕ) (cents : ℕ) (amount none head told whole : List ℕ) → AreParts file s a name lines cents amount →
    none ≡ [] → head ≡ none ++ codes "account " ++ name ++ codes "\n" ++ band_line (codes "band") (codes "import Wh") (codes "export Wh") → told ≡ head ++ lines →
    whole ≡ told ++ codes "topped up EUR " ++ euro_text cents ++ codes "\n" ++ codes "balance EUR " ++ amount ++ codes "\n" →
    whole ≡ statement_text file s a
unfolding statement_text
statement-is file s a name lines cents amount none head told whole p n h t w =
    let begun = h ∙ (λ i. n i ++ codes "account " ++ p.name_is i ++ codes "\n" ++ band_line (codes "band") (codes "import Wh") (codes "export Wh")) in
    let listed = t ∙ (λ i. begun i ++ p.lines_are i) in
    w ∙ (λ i. listed i ++ codes "topped up EUR " ++ euro_text (p.cents_are i) ++ codes "\n" ++ codes "balance EUR " ++ p.amount_is i ++ codes "\n")
