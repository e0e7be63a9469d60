-- The lines of a bill, one behind another.
use Rattle.std.proofs.Common.{◌≡◌, ◌∙◌, ◌++◌, ℕ, ℤ, List, [], FitsSigned, of_z, to_z, ap}
use Rattle.std.specs.Int.{w128}
use Rattle.std.proofs.lemmas.Int.{to_z-of_z}
use Rattle.std.specs.Prelude.{codes, decimal}
use Rattle.std.specs.List.{flat_map}
use Rattle.pw_tariff.specs.Office.{OfficeFile}
use Rattle.pw_months.specs.Bills.{Bill}
use Rattle.pw_bills.specs.declared.readings.LastReading.{LastReading}
use Rattle.pw_report.specs.declared.bills.Amounts.{Amounts}
use Rattle.pw_report.specs.declared.months.Month.{Month}
use Rattle.pw_report.specs.Bills.{amount_line, bill_text, named_line, periods_text, read_line, rounding_line}
use Rattle.pw_report.specs.Months.{month_text}
use Rattle.pw_report.specs.Names.{account_name}
use Rattle.pw_report.specs.inner.Told.{AreAmounts}

-- what is known of the parts
pub record AreTold (file : OfficeFile) (a : ℕ) (m : Month) (bill : Bill) (count : ℕ) (name month records : List ℕ) (amounts : Amounts) : Type 0 where
  pub name_is : name ≡ account_name file a
  pub month_is : month ≡ month_text m
  pub records_are : records ≡ decimal count
  pub amounts_are : AreAmounts bill amounts
  pub begin_fits : FitsSigned w128 amounts.begin
  pub topped_up_fits : FitsSigned w128 amounts.topped_up
  pub imported_fits : FitsSigned w128 amounts.imported
  pub exported_fits : FitsSigned w128 amounts.exported
  pub rounding_fits : FitsSigned w128 amounts.rounding
  pub end_fits : FitsSigned w128 amounts.end

-- as a word keeps it
abbrev kept : ℤ → ℤ
kept z = to_z w128 (of_z w128 z)

kept-is : (z is : ℤ) → FitsSigned w128 z → z ≡ is → kept z ≡ is
kept-is z is f e = to_z-of_z w128 z f ∙ e

pub bill-is : (file : OfficeFile) (a : ℕ) (m : Month) (first last : ℕ) (bill : Bill) (read : List LastReading) (count : ℕ) (name month records : List ℕ) (amounts : Amounts) (t0 t1 t2 t3 t4 t5 t6 t7 t8 t9 t10 t11 : List ℕ) →
    AreTold file a m bill count name month records amounts →
    t0 ≡ [] → t1 ≡ t0 ++ named_line (codes "account") name → t2 ≡ t1 ++ named_line (codes "month") month → t3 ≡ t2 ++ amount_line (codes "begin") (kept amounts.begin) → t4 ≡ t3 ++ amount_line (codes "topped up") (kept amounts.topped_up) →
    t5 ≡ t4 ++ periods_text file bill first last → t6 ≡ t5 ++ amount_line (codes "import") (kept amounts.imported) → t7 ≡ t6 ++ amount_line (codes "export") (kept amounts.exported) → t8 ≡ t7 ++ rounding_line (kept amounts.rounding) →
    t9 ≡ t8 ++ amount_line (codes "end") (kept amounts.end) → t10 ≡ t9 ++ flat_map (read_line file) read → t11 ≡ t10 ++ named_line (codes "records") records →
    t11 ≡ bill_text file a m first last bill read count
unfolding bill_text
bill-is file a m first last bill read count name month records amounts t0 t1 t2 t3 t4 t5 t6 t7 t8 t9 t10 t11 p e0 e1 e2 e3 e4 e5 e6 e7 e8 e9 e10 e11 =
    let q = p.amounts_are in
    let f1 : t1 ≡ named_line (codes "account") (account_name file a) = e1 ∙ (λ i. e0 i ++ named_line (codes "account") (p.name_is i)) in
    let f2 = e2 ∙ (λ i. f1 i ++ named_line (codes "month") (p.month_is i)) in
    let f3 = e3 ∙ (λ i. f2 i ++ amount_line (codes "begin") (kept-is _ _ p.begin_fits q.begin_is i)) in
    let f4 = e4 ∙ (λ i. f3 i ++ amount_line (codes "topped up") (kept-is _ _ p.topped_up_fits q.topped_up_is i)) in
    let f5 = e5 ∙ ap (λ t. t ++ periods_text file bill first last) f4 in
    let f6 = e6 ∙ (λ i. f5 i ++ amount_line (codes "import") (kept-is _ _ p.imported_fits q.imported_is i)) in
    let f7 = e7 ∙ (λ i. f6 i ++ amount_line (codes "export") (kept-is _ _ p.exported_fits q.exported_is i)) in
    let f8 = e8 ∙ (λ i. f7 i ++ rounding_line (kept-is _ _ p.rounding_fits q.rounding_is i)) in
    let f9 = e9 ∙ (λ i. f8 i ++ amount_line (codes "end") (kept-is _ _ p.end_fits q.end_is i)) in
    let f10 = e10 ∙ ap (λ t. t ++ flat_map (read_line file) read) f9 in
    e11 ∙ (λ i. f10 i ++ named_line (codes "records") (p.records_are i))
