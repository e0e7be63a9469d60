-- Each page has one text.
use Rattle.std.proofs.Common.{◌≡◌, ◌∙◌, ◌++◌, ◌*◌, ℕ, List, length, Option, Some, None, [], ◌∷◌, ap, refl, sym}
use Rattle.std.specs.Prelude.{codes, decimal}
use Rattle.std.specs.List.{flat_map}
use Rattle.pw_tariff.specs.declared.ids.AccountId.{AccountId}
use Rattle.pw_tariff.specs.declared.ids.Direction.{Direction}
use Rattle.pw_tariff.specs.declared.ids.Direction.TheVariants.{Import, Export}
use Rattle.pw_tariff.specs.Office.{OfficeFile, office_of, price_at}
use Rattle.pw_model.specs.declared.records.Entry.{Entry}
use Rattle.pw_model.specs.Counting.{SameMembers}
use Rattle.pw_model.specs.Energy.{account, over_periods}
use Rattle.pw_model.specs.Kinds.{IsAssignment, IsTopUp, IsWithdrawal}
use Rattle.pw_model.specs.Laws.{HaveSameAnswers}
use Rattle.pw_model.proofs.Answers.{lists-are_at_most_one, order_counts_nothing}
use Rattle.pw_model.proofs.Existence.{lists-exist}
use Rattle.pw_record.specs.declared.row.RowKind.TheVariants as row
use Rattle.pw_report.specs.declared.page.Page.{Page}
use Rattle.pw_report.specs.declared.page.Page.TheVariants.{Statement, Month, MeterReadings, Table}
use Rattle.pw_report.specs.declared.page.Table.TheVariants.{Accounts, Falls, Disputes, Readings, Energies, Assignments, TopUps, Withdrawals}
use Rattle.pw_report.specs.Amounts.{balance_text, euro_text}
use Rattle.pw_report.specs.Exports.{EnergyRow, csv_line, energies_header, energies_text, energy_cost, energy_row_line, energy_rows, one_meter_text, owner_rows, readings_text, records_text}
use Rattle.pw_report.specs.Laws.{EachPageHasOneText, HasMonth}
use Rattle.pw_report.specs.Layout.{listed_below}
use Rattle.pw_report.specs.Names.{account_name, band_name}
use Rattle.pw_report.specs.Pages.{IsAnswer}
use Rattle.pw_report.proofs.MonthAnswers.{month-back, month-exists, month-only, month-there}
use Rattle.pw_report.proofs.Held.{assignment-known, held-one, held-there_is, topup-known, withdrawal-known}
use Rattle.pw_report.specs.Tables.{account_line, accounts_text, band_line, disputes_text, falls_text, statement_text}

-- ---- one
exists : (page : Page) (file : OfficeFile) (s : List Entry) → HasMonth page → (text : List ℕ) × IsAnswer page file s text
exists (Statement a) file s k = (statement_text file s a.0, refl)
exists (Month w x n) file s k = month-exists w file s x n k
exists (MeterReadings m) file s k = let l = (lists-exist s).readings m.0 in (one_meter_text file m.0 (λ r. (l r).0), ((λ r. (l r).0), (λ r. (l r).1), refl))
exists (Table Accounts) file s k = (accounts_text file s, refl)
exists (Table Falls) file s k = let l = (lists-exist s).falls in (falls_text file l.0, (l.0, l.1, refl))
exists (Table Disputes) file s k = let l = (lists-exist s).disputes in (disputes_text file l.0, (l.0, l.1, refl))
exists (Table Readings) file s k = (readings_text file (λ m r. ((lists-exist s).readings m r).0), ((λ m r. ((lists-exist s).readings m r).0), (λ m r. ((lists-exist s).readings m r).1), refl))
exists (Table Energies) file s k = (energies_text file s, refl)
exists (Table Assignments) file s k = let l = held-there_is IsAssignment assignment-known s in (records_text file row.Assignment l.0, (l.0, l.1, refl))
exists (Table TopUps) file s k = let l = held-there_is IsTopUp topup-known s in (records_text file row.TopUp l.0, (l.0, l.1, refl))
exists (Table Withdrawals) file s k = let l = held-there_is IsWithdrawal withdrawal-known s in (records_text file row.Withdrawal l.0, (l.0, l.1, refl))

-- ---- and no other
only : (page : Page) (file : OfficeFile) (s : List Entry) (a b : List ℕ) → HasMonth page → IsAnswer page file s a → IsAnswer page file s b → a ≡ b
only (Statement x) file s a b k p q = p ∙ sym q
only (Month w x n) file s a b k p q = month-only w file s x n a b p q
only (MeterReadings m) file s a b k p q = p.2 ∙ (λ i. one_meter_text file m.0 (λ r. (lists-are_at_most_one s).readings m.0 r _ _ (p.1 r) (q.1 r) i)) ∙ sym q.2
only (Table Accounts) file s a b k p q = p ∙ sym q
only (Table Falls) file s a b k p q = p.2 ∙ ap (falls_text file) ((lists-are_at_most_one s).falls _ _ p.1 q.1) ∙ sym q.2
only (Table Disputes) file s a b k p q = p.2 ∙ ap (disputes_text file) ((lists-are_at_most_one s).disputes _ _ p.1 q.1) ∙ sym q.2
only (Table Readings) file s a b k p q = p.2 ∙ (λ i. readings_text file (λ m r. (lists-are_at_most_one s).readings m r _ _ (p.1 m r) (q.1 m r) i)) ∙ sym q.2
only (Table Energies) file s a b k p q = p ∙ sym q
only (Table Assignments) file s a b k p q = p.2 ∙ ap (records_text file row.Assignment) (held-one IsAssignment s _ _ p.1 q.1) ∙ sym q.2
only (Table TopUps) file s a b k p q = p.2 ∙ ap (records_text file row.TopUp) (held-one IsTopUp s _ _ p.1 q.1) ∙ sym q.2
only (Table Withdrawals) file s a b k p q = p.2 ∙ ap (records_text file row.Withdrawal) (held-one IsWithdrawal s _ _ p.1 q.1) ∙ sym q.2

-- ---- whatever the order of the records
module _ (file : OfficeFile) (s t : List Entry) (h : HaveSameAnswers (office_of file) s t) where
  statement-same : (a : ℕ) → statement_text file s a ≡ statement_text file t a
  unfolding statement_text
  statement-same a = λ i.
      codes "account " ++ account_name file a ++ codes "\n" ++ band_line (codes "band") (codes "import Wh") (codes "export Wh")
      ++ listed_below (length file.bands) (λ b. band_line (band_name file b) (decimal (h.energies (Some (account a)) b Import i)) (decimal (h.energies (Some (account a)) b Export i)))
      ++ codes "topped up EUR " ++ euro_text (h.topped a i) ++ codes "\n"
      ++ codes "balance EUR " ++ balance_text (h.balances a i) ++ codes "\n"

  accounts-same : accounts_text file s ≡ accounts_text file t
  unfolding accounts_text
  accounts-same = λ i. account_line (codes "account") (codes "balance EUR") ++ listed_below (length file.accounts) (λ a. account_line (account_name file a) (balance_text (h.balances a i)))

  energies-same : energies_text file s ≡ energies_text file t
  unfolding energies_text energy_rows owner_rows energy_cost
  energies-same = λ i.
      let nano = λ (o : Option AccountId) (b : ℕ) (d : Direction). over_periods (office_of file) (λ p. price_at file p b d * h.in_periods o p b d i) in
      let row : Option AccountId → ℕ → Direction → EnergyRow = λ o b d. record { owner = o; band = b; direction = d; wh = h.energies o b d i; nano = nano o b d } in
      let rows = λ (o : Option AccountId). listed_below (length file.bands) (λ b. row o b Import ∷ row o b Export ∷ []) in
      csv_line energies_header ++ flat_map (energy_row_line file) (rows None ++ listed_below (length file.accounts) (λ a. rows (Some (account a))))

there : (page : Page) (file : OfficeFile) (s t : List Entry) (text : List ℕ) → SameMembers s t → HaveSameAnswers (office_of file) s t → IsAnswer page file s text → IsAnswer page file t text
there (Statement a) file s t text k h p = p ∙ statement-same file s t h a.0
there (Month w x n) file s t text k h p = month-there w file s t x n text k p
there (MeterReadings n) file s t text k h p = (p.0, (λ r. (h.readings n.0 r (p.0 r)).0 (p.1 r)), p.2)
there (Table Accounts) file s t text k h p = p ∙ accounts-same file s t h
there (Table Falls) file s t text k h p = (p.0, (h.falls p.0).0 p.1, p.2)
there (Table Disputes) file s t text k h p = (p.0, (h.disputes p.0).0 p.1, p.2)
there (Table Readings) file s t text k h p = (p.0, (λ n r. (h.readings n r (p.0 n r)).0 (p.1 n r)), p.2)
there (Table Energies) file s t text k h p = p ∙ energies-same file s t h
there (Table Assignments) file s t text k h p = (p.0, (h.assignments p.0).0 p.1, p.2)
there (Table TopUps) file s t text k h p = (p.0, (h.topups p.0).0 p.1, p.2)
there (Table Withdrawals) file s t text k h p = (p.0, (h.withdrawals p.0).0 p.1, p.2)

back : (page : Page) (file : OfficeFile) (s t : List Entry) (text : List ℕ) → SameMembers s t → HaveSameAnswers (office_of file) s t → IsAnswer page file t text → IsAnswer page file s text
back (Statement a) file s t text k h p = p ∙ sym (statement-same file s t h a.0)
back (Month w x n) file s t text k h p = month-back w file s t x n text k p
back (MeterReadings n) file s t text k h p = (p.0, (λ r. (h.readings n.0 r (p.0 r)).1 (p.1 r)), p.2)
back (Table Accounts) file s t text k h p = p ∙ sym (accounts-same file s t h)
back (Table Falls) file s t text k h p = (p.0, (h.falls p.0).1 p.1, p.2)
back (Table Disputes) file s t text k h p = (p.0, (h.disputes p.0).1 p.1, p.2)
back (Table Readings) file s t text k h p = (p.0, (λ n r. (h.readings n r (p.0 n r)).1 (p.1 n r)), p.2)
back (Table Energies) file s t text k h p = p ∙ sym (energies-same file s t h)
back (Table Assignments) file s t text k h p = (p.0, (h.assignments p.0).1 p.1, p.2)
back (Table TopUps) file s t text k h p = (p.0, (h.topups p.0).1 p.1, p.2)
back (Table Withdrawals) file s t text k h p = (p.0, (h.withdrawals p.0).1 p.1, p.2)

pub each-page-has-one-text : EachPageHasOneText
each-page-has-one-text page file s k = record {
  exists = exists page file s k;
  only = λ a b p q. only page file s a b k p q;
  same = λ t text m.
      let h = order_counts_nothing (office_of file) s t m in
      (there page file s t text m h, back page file s t text m h);
}
