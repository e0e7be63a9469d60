-- A set of records has one text of each page of a month that there is, whatever the order in which its records are listed.
use Rattle.std.proofs.Common.{◌≡◌, ℕ, ◌-◌, Some, List, refl, sym, subst, ◌∙◌}
use Rattle.std.specs.Prelude.{length, slice_index}
use Rattle.pw_tariff.specs.declared.ids.AccountId.{AccountId}
use Rattle.pw_tariff.specs.Office.{OfficeFile, office_of, period_at}
use Rattle.pw_model.specs.declared.records.Entry.{Entry}
use Rattle.pw_model.specs.declared.records.Key.{Key}
use Rattle.pw_model.specs.declared.records.Contents.{Contents}
use Rattle.pw_model.specs.Counting.{SameMembers, contents_at}
use Rattle.pw_model.specs.Energy.{energy_where}
use Rattle.pw_model.specs.Kinds.{IsTopUp}
use Rattle.pw_model.specs.Lists.{Lists, record_count}
use Rattle.pw_model.proofs.Answers.{order_counts_nothing}
use Rattle.pw_model.proofs.InOrder.{by-numbers, lists-one}
use Rattle.pw_months.specs.Between.{class_between, energy_between}
use Rattle.pw_months.specs.Bills.{bill_of}
use Rattle.pw_months.specs.Why.{AreWhyRows}
use Rattle.pw_months.proofs.BillSums.{order-of_bill}
use Rattle.pw_bills.specs.declared.payments.TopUpRow.{TopUpRow}
use Rattle.pw_bills.specs.Payments.{AreTopUpRows, IsTopUpRow, row_order}
use Rattle.pw_bills.specs.ReadUpTo.{AreLastReadings, IsLastReading, reading_order}
use Rattle.pw_bills.specs.Stretches.{end_of}
use Rattle.pw_bills.specs.inner.TopUpRows.{rows_among}
use Rattle.pw_bills.proofs.RowsListed.{rows-are}
use Rattle.pw_report.specs.declared.months.Month.{Month}
use Rattle.pw_report.specs.declared.page.MonthPage.{MonthPage}
use Rattle.pw_report.specs.declared.page.MonthPage.TheVariants as page
use Rattle.pw_report.specs.Bills.{bill_text}
use Rattle.pw_report.specs.DaysAndWhy.{days_text, why_text}
use Rattle.pw_report.specs.Months.{IsThere}
use Rattle.pw_report.specs.Pages.{IsBillText, IsDaysText, IsMonthAnswer, IsWhyText}
use Rattle.pw_report.proofs.Held.{held-there_is, topup-known}
use Rattle.pw_report.proofs.MonthsThere.{days-one, days-there, reads-one, reads-there, span-one, span-there}
use Rattle.pw_report.proofs.Runs.{why-exists, why-one}

pub month-exists : (what : MonthPage) (file : OfficeFile) (s : List Entry) (a : AccountId) (m : Month) → IsThere m →
    (text : List ℕ) × IsMonthAnswer what file s a m text
month-exists page.Bill file s a m h =
    let w = span-there m h in
    let r = reads-there (office_of file) (contents_at s) a w.0 w.1 in (
      bill_text file a.0 m (period_at file w.0) (period_at file (w.1 - 1)) (bill_of (office_of file) s a.0 w.0 w.1) r.0 (record_count s),
      (w.0, w.1, r.0, w.2, r.1, refl),
    )
month-exists page.Days file s a m h =
    let d = days-there m h in (
      days_text file m (λ i p b e. energy_between (office_of file) s (Some a) p b e (slice_index d.0 i) (end_of d.0 d.1 i)) (length d.0),
      (d.0, d.1, d.2, refl),
    )
month-exists page.Why file s a m h =
    let w = span-there m h in
    let y = why-exists (office_of file) (contents_at s) a.0 w.0 w.1 in
    let held = held-there_is IsTopUp topup-known s in
    let p : List TopUpRow = rows_among (contents_at s) a w.0 w.1 held.0 in
    (why_text file a y.0 p, (w.0, w.1, y.0, p, w.2, y.1, rows-are s a w.0 w.1 held.0 held.1, refl))

-- ---- and no other
bill-only : (file : OfficeFile) (s : List Entry) (a : AccountId) (m : Month) (x y : List ℕ) → IsBillText file s a m x → IsBillText file s a m y → x ≡ y
bill-only file s a m x y p q =
    let e = span-one m p.0 p.1 q.0 q.1 p.3 q.3 in
    let P : ℕ → Type 0 = λ n. AreLastReadings (office_of file) s a n q.1 q.2 in
    let Q : ℕ → Type 0 = λ n. AreLastReadings (office_of file) s a p.0 n q.2 in
    let r : p.2 ≡ q.2 = reads-one (office_of file) (contents_at s) a p.0 p.1 p.2 q.2 p.4 (subst Q (sym e.1) (subst P (sym e.0) q.4)) in
    p.5 ∙ (λ i. bill_text file a.0 m (period_at file (e.0 i)) (period_at file (e.1 i - 1)) (bill_of (office_of file) s a.0 (e.0 i) (e.1 i)) (r i) (record_count s)) ∙ sym q.5

days-only : (file : OfficeFile) (s : List Entry) (a : AccountId) (m : Month) (x y : List ℕ) → IsDaysText file s a m x → IsDaysText file s a m y → x ≡ y
days-only file s a m x y p q =
    let e = days-one m p.0 q.0 p.1 q.1 p.2 q.2 in
    p.3 ∙ (λ k. days_text file m (λ i n b d. energy_between (office_of file) s (Some a) n b d (slice_index (e.0 k) i) (end_of (e.0 k) (e.1 k) i)) (length (e.0 k))) ∙ sym q.3

why-only : (file : OfficeFile) (s : List Entry) (a : AccountId) (m : Month) (x y : List ℕ) → IsWhyText file s a m x → IsWhyText file s a m y → x ≡ y
why-only file s a m x y p q =
    let e = span-one m p.0 p.1 q.0 q.1 p.4 q.4 in
    let P : ℕ → Type 0 = λ n. AreWhyRows (office_of file) (contents_at s) a.0 n q.1 q.2 in
    let Q : ℕ → Type 0 = λ n. AreWhyRows (office_of file) (contents_at s) a.0 p.0 n q.2 in
    let r : p.2 ≡ q.2 = why-one (office_of file) (contents_at s) a.0 p.0 p.1 p.2 q.2 p.5 (subst Q (sym e.1) (subst P (sym e.0) q.5)) in
    let S : ℕ → Type 0 = λ n. AreTopUpRows s a n q.1 q.3 in
    let T : ℕ → Type 0 = λ n. AreTopUpRows s a p.0 n q.3 in
    let I : TopUpRow → Type 0 = IsTopUpRow (contents_at s) a p.0 p.1 in
    let t : p.3 ≡ q.3 = lists-one row_order (by-numbers (λ (row : TopUpRow). row.reference)) I I (λ v. (λ w. w, λ w. w)) p.3 q.3 p.6
    (subst T (sym e.1) (subst S (sym e.0) q.6)) in
    p.7 ∙ (λ i. why_text file a (r i) (t i)) ∙ sym q.7

pub month-only : (what : MonthPage) (file : OfficeFile) (s : List Entry) (a : AccountId) (m : Month) (x y : List ℕ) →
    IsMonthAnswer what file s a m x → IsMonthAnswer what file s a m y → x ≡ y
month-only page.Bill file s a m x y p q = bill-only file s a m x y p q
month-only page.Days file s a m x y p q = days-only file s a m x y p q
month-only page.Why file s a m x y p q = why-only file s a m x y p q

-- ---- whatever the order of the records
pub month-there : (what : MonthPage) (file : OfficeFile) (s t : List Entry) (a : AccountId) (m : Month) (x : List ℕ) → SameMembers s t →
    IsMonthAnswer what file s a m x → IsMonthAnswer what file t a m x
month-there page.Bill file s t a m x h p =
    let same = order_counts_nothing (office_of file) s t h in
    let P : (Key → Contents) → Type 0 = λ at. Lists reading_order (IsLastReading (office_of file) at a p.0 p.1) p.2 in
    let b : bill_of (office_of file) s a.0 p.0 p.1 ≡ bill_of (office_of file) t a.0 p.0 p.1 = order-of_bill (office_of file) s t a.0 p.0 p.1 h in
    let n : record_count s ≡ record_count t = same.count in (
      p.0,
      p.1,
      p.2,
      p.3,
      subst P same.contents p.4,
      p.5 ∙ (λ i. bill_text file a.0 m (period_at file p.0) (period_at file (p.1 - 1)) (b i) p.2 (n i)),
    )
month-there page.Days file s t a m x h p =
    let c = (order_counts_nothing (office_of file) s t h).contents in (
      p.0,
      p.1,
      p.2,
      p.3 ∙ (λ k. days_text file m (λ i n b d. energy_where (office_of file) (c k) d (class_between (office_of file) (slice_index p.0 i) (end_of p.0 p.1 i) (Some a) n b)) (length p.0)),
    )
month-there page.Why file s t a m x h p =
    let c = (order_counts_nothing (office_of file) s t h).contents in
    let P : (Key → Contents) → Type 0 = λ at. AreWhyRows (office_of file) at a.0 p.0 p.1 p.2 in
    let Q : (Key → Contents) → Type 0 = λ at. Lists row_order (IsTopUpRow at a p.0 p.1) p.3 in
    (p.0, p.1, p.2, p.3, p.4, subst P c p.5, subst Q c p.6, p.7)

pub month-back : (what : MonthPage) (file : OfficeFile) (s t : List Entry) (a : AccountId) (m : Month) (x : List ℕ) → SameMembers s t →
    IsMonthAnswer what file t a m x → IsMonthAnswer what file s a m x
month-back what file s t a m x h p = month-there what file t s a m x (λ e. ((h e).1, (h e).0)) p
