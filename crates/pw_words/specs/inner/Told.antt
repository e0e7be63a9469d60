-- By which words the parts of a command are told.
-- (Definitions of this project.)
use Rattle.std.specs.Prelude.{◌≡◌, ℕ, List, codes}
use Rattle.pw_report.specs.declared.page.MonthPage.{MonthPage}
use Rattle.pw_report.specs.declared.page.MonthPage.TheVariants as month
use Rattle.pw_report.specs.declared.page.Table.{Table}
use Rattle.pw_report.specs.declared.page.Table.TheVariants as table

-- the word of a table
abbrev pub IsTableWord : Table → List ℕ → Type 0
IsTableWord table.Readings word = word ≡ codes "readings"
IsTableWord table.Energies word = word ≡ codes "energy"
IsTableWord table.Accounts word = word ≡ codes "accounts"
IsTableWord table.Falls word = word ≡ codes "falls"
IsTableWord table.Disputes word = word ≡ codes "disputes"
IsTableWord table.Assignments word = word ≡ codes "assignments"
IsTableWord table.TopUps word = word ≡ codes "topups"
IsTableWord table.Withdrawals word = word ≡ codes "withdrawals"

-- the command that prints a page of a month
abbrev pub IsMonthWord : MonthPage → List ℕ → Type 0
IsMonthWord month.Bill word = word ≡ codes "bill"
IsMonthWord month.Days word = word ≡ codes "days"
IsMonthWord month.Why word = word ≡ codes "why"
