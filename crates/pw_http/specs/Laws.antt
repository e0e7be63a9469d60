-- The laws of these definitions. Each is the contract of a function of the module `laws`.
use Rattle.std.specs.Prelude.{◌≡◌, ◌<◌, ℕ, false, List, ◌∷◌, ◌++◌, Option, Some, codes}
use Rattle.matchit.specs.Seek.{has_slash}
use Rattle.pw_http.specs.declared.routes.Route.TheVariants.{Telegrams, Readouts, Assignments, TopUps, Withdrawals, Account, Month, MeterReadings, Table, File}
use Rattle.pw_page.specs.declared.File.TheVariants as file
use Rattle.pw_report.specs.declared.page.MonthPage.{MonthPage}
use Rattle.pw_report.specs.declared.page.MonthPage.TheVariants as month
use Rattle.pw_report.specs.declared.page.Table.TheVariants as table
use Rattle.pw_http.specs.Routes.{account_in, exported_meter_in, meter_in, month_in, route_at}
use Rattle.pw_http.specs.Requests.{Request, Asked, Requests}
use Rattle.pw_http.specs.declared.audience.Audience.{Audience}

-- a stream has one list of requests at most, and one end, whoever is let in
abbrev pub StreamsHaveOneReading : Type 0
StreamsHaveOneReading = (audience : Audience) (stream : List ℕ) (requests others : List Request) (last end : Option Asked) →
    Requests audience stream requests last → Requests audience stream others end → (requests ≡ others) × (last ≡ end)

-- a stream has one list of requests, and one end
pub record HasOneReading (audience : Audience) (stream : List ℕ) : Type 0 where
  pub requests : List Request
  pub last : Option Asked
  pub are : Requests audience stream requests last
  pub only : (others : List Request) (end : Option Asked) → Requests audience stream others end → (others ≡ requests) × (end ≡ last)

-- the path of an account's month reaches a page of it, and names both
pub record ReachesMonth (what : MonthPage) (account text path : List ℕ) : Type 0 where
  pub route : route_at path ≡ Some (Month what)
  pub account_is : account_in path ≡ account
  pub month_is : month_in path ≡ text

-- each route is reached by its path, where the word in braces is any text of one byte or more without a slash; and this
-- text is what the path names
pub record PathsReachRoutes : Type 0 where
  pub telegrams : route_at (codes "/telegrams") ≡ Some Telegrams
  pub readouts : (b : ℕ) (rest : List ℕ) → b < 256 → has_slash (b ∷ rest) ≡ false →
      (route_at (codes "/meters/" ++ b ∷ rest ++ codes "/readouts") ≡ Some Readouts) × (meter_in (codes "/meters/" ++ b ∷ rest ++ codes "/readouts") ≡ b ∷ rest)
  pub assignments : route_at (codes "/assignments") ≡ Some Assignments
  pub top_ups : route_at (codes "/topups") ≡ Some TopUps
  pub withdrawals : route_at (codes "/withdrawals") ≡ Some Withdrawals
  pub accounts : route_at (codes "/accounts") ≡ Some (Table table.Accounts)
  pub account : (b : ℕ) (rest : List ℕ) → b < 256 → has_slash (b ∷ rest) ≡ false →
      (route_at (codes "/accounts/" ++ b ∷ rest) ≡ Some Account) × (account_in (codes "/accounts/" ++ b ∷ rest) ≡ b ∷ rest)
  pub bill : (b : ℕ) (rest : List ℕ) (c : ℕ) (more : List ℕ) → b < 256 → has_slash (b ∷ rest) ≡ false → c < 256 → has_slash (c ∷ more) ≡ false →
      ReachesMonth month.Bill (b ∷ rest) (c ∷ more) (codes "/accounts/" ++ b ∷ rest ++ codes "/" ++ c ∷ more)
  pub days : (b : ℕ) (rest : List ℕ) (c : ℕ) (more : List ℕ) → b < 256 → has_slash (b ∷ rest) ≡ false → c < 256 → has_slash (c ∷ more) ≡ false →
      ReachesMonth month.Days (b ∷ rest) (c ∷ more) (codes "/accounts/" ++ b ∷ rest ++ codes "/" ++ c ∷ more ++ codes "/days")
  pub why : (b : ℕ) (rest : List ℕ) (c : ℕ) (more : List ℕ) → b < 256 → has_slash (b ∷ rest) ≡ false → c < 256 → has_slash (c ∷ more) ≡ false →
      ReachesMonth month.Why (b ∷ rest) (c ∷ more) (codes "/accounts/" ++ b ∷ rest ++ codes "/" ++ c ∷ more ++ codes "/why")
  pub falls : route_at (codes "/falls") ≡ Some (Table table.Falls)
  pub disputes : route_at (codes "/disputes") ≡ Some (Table table.Disputes)
  pub readings : route_at (codes "/export/readings") ≡ Some (Table table.Readings)
  pub readings_of : (b : ℕ) (rest : List ℕ) → b < 256 → has_slash (b ∷ rest) ≡ false →
      (route_at (codes "/export/readings/" ++ b ∷ rest) ≡ Some MeterReadings) × (exported_meter_in (codes "/export/readings/" ++ b ∷ rest) ≡ b ∷ rest)
  pub energies : route_at (codes "/export/energy") ≡ Some (Table table.Energies)
  pub all_assignments : route_at (codes "/export/assignments") ≡ Some (Table table.Assignments)
  pub all_top_ups : route_at (codes "/export/topups") ≡ Some (Table table.TopUps)
  pub all_withdrawals : route_at (codes "/export/withdrawals") ≡ Some (Table table.Withdrawals)
  pub page : route_at (codes "/") ≡ Some (File file.Page)
  pub script : route_at (codes "/page.js") ≡ Some (File file.Script)
  pub style : route_at (codes "/page.css") ≡ Some (File file.Style)
