-- Which page of a month words name. It serves `src/commands.rt`.
-- (Definitions of this project.)
use Rattle.std.specs.Prelude.{◌≡◌, ◌≢◌, ℕ, Some, List, slice_get}
use Rattle.pw_tariff.specs.Office.{OfficeFile}
use Rattle.pw_report.specs.declared.months.Month.{Month}
use Rattle.pw_report.specs.declared.page.MonthPage.{MonthPage}
use Rattle.pw_report.specs.declared.page.Page.{Page}
use Rattle.pw_report.specs.declared.page.Page.TheVariants as page
use Rattle.pw_report.specs.Months.{IsMonthText}
use Rattle.pw_commands.specs.declared.fault.Fault.{Fault}
use Rattle.pw_commands.specs.declared.fault.Fault.TheVariants as fault

-- this page, of the account of a name and the month of a text
abbrev pub IsMonthOf : OfficeFile → MonthPage → List ℕ → List ℕ → Page → Type 0
IsMonthOf file what name text (page.Month shown a m) = (shown ≡ what) × (slice_get file.accounts a.0 ≡ Some name) × IsMonthText text m
IsMonthOf file what name text _ = ⊥

-- no account has the name; or one has it, and no month has the text
abbrev pub IsNoMonth : OfficeFile → List ℕ → List ℕ → Fault → Type 0
IsNoMonth file name text fault.NoSuchAccount = (a : ℕ) → slice_get file.accounts a ≢ Some name
IsNoMonth file name text fault.NoSuchMonth =
    ((a : ℕ) × (slice_get file.accounts a ≡ Some name)) × ((m : Month) → IsMonthText text m → ⊥)
IsNoMonth file name text _ = ⊥
