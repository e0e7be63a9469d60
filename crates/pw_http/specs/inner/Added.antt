-- The routes with some more. It serves `src/routes.rt`.
use Rattle.std.specs.Prelude.{List, [], ◌∷◌}
use Rattle.matchit.specs.Rows.{RowsOf}
use Rattle.matchit.specs.Router.{RouteOf}
use Rattle.pw_http.specs.declared.routes.Route.{Route}
use Rattle.pw_http.specs.declared.routes.Route.TheVariants.{Telegrams, Readouts, Assignments, TopUps, Withdrawals, Account, Month, MeterReadings, Table, File}
use Rattle.pw_page.specs.declared.File.TheVariants as file
use Rattle.pw_report.specs.declared.page.MonthPage.TheVariants as month
use Rattle.pw_report.specs.declared.page.Table.TheVariants as table
use Rattle.pw_http.specs.Routes.{added}

-- one behind another
abbrev pub all_added : RowsOf (RouteOf Route) → List Route → RowsOf (RouteOf Route)
all_added rows [] = rows
all_added rows (route ∷ routes) = all_added (added rows route) routes

abbrev pub uploads : List Route
uploads = Telegrams ∷ Readouts ∷ Assignments ∷ TopUps ∷ Withdrawals ∷ []

abbrev pub pages : List Route
pages = Table table.Accounts ∷ Table table.Falls ∷ Table table.Disputes ∷ Account ∷ []

abbrev pub exports : List Route
exports = Table table.Readings ∷ Table table.Energies ∷ Table table.Assignments ∷ Table table.TopUps ∷ Table table.Withdrawals ∷ MeterReadings ∷ []

abbrev pub months : List Route
months = Month month.Bill ∷ Month month.Days ∷ Month month.Why ∷ []

abbrev pub files : List Route
files = File file.Page ∷ File file.Script ∷ File file.Style ∷ []
