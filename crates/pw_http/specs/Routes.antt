-- The routes: what stands where, and by which method. A word in braces stands for one byte or more without `/`.
-- (Definitions of this project, over the routes of `matchit`.)
use Rattle.std.specs.Prelude.{true, false, ℕ, Bool, ◌-◌, ◌==◌, cond, Option, Some, None, List, [], ◌∷◌, length, take, drop, codes, bytes_eq, option_map, Result, Ok, Err, if◌then◌else◌}
use Rattle.std.specs.Str.{is_utf8}
use Rattle.matchit.specs.Rows.{RowsOf}
use Rattle.matchit.specs.Order.{placed}
use Rattle.matchit.specs.Seek.{first, slash}
use Rattle.matchit.specs.Route.{Scan, parse_route}
use Rattle.matchit.specs.Router.{RouteOf, route_from}
use Rattle.matchit.specs.declared.error.InsertError.{InsertError}
use Rattle.pw_page.specs.declared.File.TheVariants as file
use Rattle.pw_http.specs.declared.routes.Route.{Route}
use Rattle.pw_http.specs.declared.routes.Route.TheVariants.{Telegrams, Readouts, Assignments, TopUps, Withdrawals, Account, Month, MeterReadings, Table, File}
use Rattle.pw_report.specs.declared.page.MonthPage.TheVariants as month
use Rattle.pw_report.specs.declared.page.Table.TheVariants as table
use Rattle.pw_http.specs.declared.routes.Place.{Place}
use Rattle.pw_http.specs.declared.routes.Place.TheVariants.{NoPage, NoMethod, At}

-- ---- the table
abbrev pub method_name : Route → List ℕ
method_name Telegrams = codes "POST"
method_name Readouts = codes "POST"
method_name Assignments = codes "POST"
method_name TopUps = codes "POST"
method_name Withdrawals = codes "POST"
method_name Account = codes "GET"
method_name (Month page) = codes "GET"
method_name MeterReadings = codes "GET"
method_name (Table table) = codes "GET"
method_name (File file) = codes "GET"

abbrev pub route_text : Route → List ℕ
route_text Telegrams = codes "/telegrams"
route_text Readouts = codes "/meters/{meter}/readouts"
route_text Assignments = codes "/assignments"
route_text TopUps = codes "/topups"
route_text Withdrawals = codes "/withdrawals"
route_text (Table table.Accounts) = codes "/accounts"
route_text Account = codes "/accounts/{account}"
route_text (Table table.Falls) = codes "/falls"
route_text (Table table.Disputes) = codes "/disputes"
route_text (Table table.Readings) = codes "/export/readings"
route_text (Table table.Energies) = codes "/export/energy"
route_text (Table table.Assignments) = codes "/export/assignments"
route_text (Table table.TopUps) = codes "/export/topups"
route_text (Table table.Withdrawals) = codes "/export/withdrawals"
route_text MeterReadings = codes "/export/readings/{meter}"
route_text (Month month.Bill) = codes "/accounts/{account}/{month}"
route_text (Month month.Days) = codes "/accounts/{account}/{month}/days"
route_text (Month month.Why) = codes "/accounts/{account}/{month}/why"
route_text (File file.Page) = codes "/"
route_text (File file.Script) = codes "/page.js"
route_text (File file.Style) = codes "/page.css"

-- ---- as `matchit` keeps it
-- the rows with one more route, where its text reads as a route
abbrev pub added_read : Result Scan InsertError → Route → RowsOf (RouteOf Route) → RowsOf (RouteOf Route)
added_read (Ok s) route rows = placed (s.pattern, route_from s route) rows
added_read (Err e) route rows = rows

abbrev pub added : RowsOf (RouteOf Route) → Route → RowsOf (RouteOf Route)
added rows route = added_read (parse_route (route_text route)) route rows

unfoldable pub route_table : RowsOf (RouteOf Route)
route_table =
    added (added (added (added (added (added (added (added (added (added (added (added (added (added (added (added (added (added (added (added (added [] Telegrams)
    Readouts) Assignments) TopUps) Withdrawals) (Table table.Accounts)) (Table table.Falls)) (Table table.Disputes)) Account) (Table
    table.Readings)) (Table table.Energies)) (Table table.Assignments)) (Table table.TopUps)) (Table table.Withdrawals)) MeterReadings)
    (Month month.Bill)) (Month month.Days)) (Month month.Why)) (File file.Page)) (File file.Script)) (File file.Style)

abbrev pub row_value : RouteOf Route → Route
row_value r = r.value

-- the route of a path
abbrev pub route_at : List ℕ → Option Route
route_at path = option_map row_value (first route_table path)

-- ---- the place of a request
abbrev pub by_method : List ℕ → Option Route → Place
by_method method None = NoPage
by_method method (Some route) = if bytes_eq method (method_name route) then At route else NoMethod

-- a target without a route, or that isn't UTF-8; a route that has another method; or a route
abbrev pub place_of : List ℕ → List ℕ → Place
place_of method target = if is_utf8 target then by_method method (route_at target) else NoPage

-- ---- the length of a page
-- a page that grows with the records, or with the meters of the office
abbrev pub may_be_large : Route → Bool
may_be_large (Month month.Days) = false
may_be_large (Month page) = true
may_be_large MeterReadings = true
may_be_large (Table table.Accounts) = false
may_be_large (Table table) = true
may_be_large _ = false

-- ---- the words in braces
-- up to and without the first slash, or all
abbrev pub up_to_slash : List ℕ → List ℕ
up_to_slash [] = []
up_to_slash (b ∷ rest) = cond (b == slash) [] (b ∷ up_to_slash rest)

-- behind the first slash, or nothing
abbrev pub behind_slash : List ℕ → List ℕ
behind_slash [] = []
behind_slash (b ∷ rest) = cond (b == slash) rest (behind_slash rest)

-- what stands in a target behind `/accounts/`, up to the next slash
abbrev pub account_in : List ℕ → List ℕ
account_in target = up_to_slash (drop (length (codes "/accounts/")) target)

-- what stands behind that slash, up to the next one
abbrev pub month_in : List ℕ → List ℕ
month_in target = up_to_slash (behind_slash (drop (length (codes "/accounts/")) target))

-- what stands in a target behind `/export/readings/`
abbrev pub exported_meter_in : List ℕ → List ℕ
exported_meter_in target = drop (length (codes "/export/readings/")) target

-- what stands in a target between `/meters/` and `/readouts`
abbrev pub meter_in : List ℕ → List ℕ
meter_in target = drop (length (codes "/meters/")) (take (length target - length (codes "/readouts")) target)
