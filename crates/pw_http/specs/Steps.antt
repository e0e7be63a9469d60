-- What a book answers to a request, and what it is behind it.
-- (Definitions of this project.)
use Rattle.std.specs.Prelude.{◌≡◌, ◌≢◌, ◌↔◌, ◌+◌, ◌<◌, ◌⊎◌, ℕ, true, Option, Some, None, List, ◌++◌, codes, option_map, slice_get, Result, Ok, Err, IfOk, IsErrOf}
use Rattle.pw_tariff.specs.declared.ids.AccountId.{AccountId}
use Rattle.pw_tariff.specs.declared.ids.MeterId.{MeterId}
use Rattle.pw_tariff.specs.Office.{office_of}
use Rattle.pw_model.specs.declared.records.Entry.{Entry}
use Rattle.pw_model.specs.Shelf.{ShelfContent}
use Rattle.pw_record.specs.declared.fault.Cause.{Cause}
use Rattle.pw_record.specs.declared.fault.Cause.TheVariants as cause
use Rattle.pw_record.specs.Causes.{fault_line}
use Rattle.pw_record.specs.Uploads.{Upload, Telegrams, Readouts, Assignments, TopUps, Withdrawals, Gives, Refuses}
use Rattle.pw_shelf.specs.declared.shelf.Shelf.{Ghosts}
use Rattle.pw_book.specs.Acceptance.{acceptance_line}
use Rattle.pw_book.specs.After.{Outcome, Refused, Posted}
use Rattle.pw_book.specs.Faults.{book_line, post_line}
use Rattle.pw_book.specs.Posting.{FailuresPosted, IsPosted, LeavesPosted, failed_in}
use Rattle.pw_book.specs.declared.book.Accepted.{Accepted}
use Rattle.pw_book.specs.declared.book.Book.{Book}
use Rattle.pw_book.specs.declared.fault.BookFault.{BookFault}
use Rattle.pw_book.specs.declared.fault.PostFault.{PostFault}
use Rattle.pw_book.specs.declared.fault.PostFault.TheVariants as post
use Rattle.pw_page.specs.declared.File.{File}
use Rattle.pw_page.specs.Files.{text_of}
use Rattle.pw_report.specs.declared.months.Month.{Month}
use Rattle.pw_report.specs.declared.page.MonthPage.{MonthPage}
use Rattle.pw_report.specs.declared.page.MonthPage.TheVariants as month
use Rattle.pw_report.specs.declared.page.Page.{Page}
use Rattle.pw_report.specs.declared.page.Page.TheVariants as page
use Rattle.pw_report.specs.declared.page.Table.TheVariants as table
use Rattle.pw_report.specs.Months.{IsMonthText}
use Rattle.pw_report.specs.Pages.{IsAnswer}
use Rattle.pw_report.specs.Reports.{IsReport}
use Rattle.pw_http.specs.declared.replies.ContentType.{ContentType}
use Rattle.pw_http.specs.declared.replies.ContentType.TheVariants.{Plain, Csv}
use Rattle.pw_http.specs.declared.replies.ContentType.TheVariants as content
use Rattle.pw_http.specs.declared.replies.Status.{Status}
use Rattle.pw_http.specs.declared.replies.Status.TheVariants.{Fine, BadRequest, NotFound, MethodNotAllowed, Unavailable, InsufficientStorage}
use Rattle.pw_http.specs.declared.routes.Route.TheVariants as route
use Rattle.pw_http.specs.declared.routes.Place.{Place}
use Rattle.pw_http.specs.declared.routes.Place.TheVariants.{NoPage, NoMethod, At}
use Rattle.pw_http.specs.Replies.{Reply}
use Rattle.pw_http.specs.Routes.{account_in, exported_meter_in, meter_in, month_in, place_of}
use Rattle.pw_http.specs.Runs.{Asking}

-- ---- replies
-- a line of text
abbrev pub line_reply : Status → List ℕ → Reply
line_reply status line = record { status = status; content = Plain; body = line ++ codes "\n" }

-- to an upload that is refused in reading its body: for its content, or for want of memory
abbrev pub refused_status : Cause → Status
refused_status cause.Memory = Unavailable
refused_status _ = BadRequest

-- to an upload that is posted: a full book has no room for it
abbrev pub posted_status : PostFault → Status
posted_status (post.Full held limit) = InsufficientStorage
posted_status _ = Unavailable

abbrev pub posted_reply : Result Accepted PostFault → Reply
posted_reply (Ok accepted) = line_reply Fine (acceptance_line accepted)
posted_reply (Err fault) = line_reply (posted_status fault) (post_line fault)

abbrev pub upload_reply : Outcome → Reply
upload_reply (Refused fault) = line_reply (refused_status fault.cause) (fault_line fault)
upload_reply (Posted answer) = posted_reply answer

-- exports are CSV, and so are the days of a month, and why
abbrev pub page_content : Page → ContentType
page_content (page.Statement account) = Plain
page_content (page.Month month.Bill account of_month) = Plain
page_content (page.Month month.Days account of_month) = Csv
page_content (page.Month month.Why account of_month) = Csv
page_content (page.MeterReadings meter) = Csv
page_content (page.Table table.Accounts) = Plain
page_content (page.Table table.Falls) = Plain
page_content (page.Table table.Disputes) = Plain
page_content (page.Table table.Readings) = Csv
page_content (page.Table table.Energies) = Csv
page_content (page.Table table.Assignments) = Csv
page_content (page.Table table.TopUps) = Csv
page_content (page.Table table.Withdrawals) = Csv

-- to a question for a page
abbrev pub page_reply : Page → Result (List ℕ) BookFault → Reply
page_reply shown (Ok text) = record { status = Fine; content = page_content shown; body = text }
page_reply shown (Err fault) = line_reply Unavailable (book_line fault)

-- to a question for a file of the page
abbrev pub file_reply : File → Reply
file_reply file = record { status = Fine; content = content.File file; body = text_of file }

-- ---- steps
-- what a request sends, by where it goes
abbrev pub upload_at : Place → List ℕ → List ℕ → Option Upload
upload_at (At route.Telegrams) target body = Some (Telegrams body)
upload_at (At route.Readouts) target body = Some (Readouts (meter_in target) body)
upload_at (At route.Assignments) target body = Some (Assignments body)
upload_at (At route.TopUps) target body = Some (TopUps body)
upload_at (At route.Withdrawals) target body = Some (Withdrawals body)
upload_at _ target body = None

abbrev pub upload_of : Asking → Option Upload
upload_of asking = upload_at (place_of asking.method asking.target) asking.target asking.body

module _ {S : Type 0} (shelf : Ghosts S) where
  -- the records that a book holds, with points, starts and totals
  abbrev pub held : Book S shelf → ShelfContent
  held book = (shelf.state book.shelf).content

  -- entries posted, with what was answered. The counts are those of the store: of failures of its device, and of calls
  -- of `abandon` that failed; what is said of the records is said where the store has returned what was written
  pub record ArePosted (entries : List Entry) (answer : Result Accepted PostFault) (old new : Book S shelf) : Type 0 where
    -- held with them, or as before
    pub posted : shelf.clean new.shelf → IsPosted (office_of old.office) old.limit entries (held old) (held new) answer
    pub left : shelf.clean new.shelf → LeavesPosted (office_of old.office) old.limit entries (held old) (held new) (shelf.left old.shelf) (shelf.left new.shelf) answer
    -- one failure more is counted where it answers Device
    pub failures : FailuresPosted answer (shelf.state old.shelf).failures (shelf.state new.shelf).failures
    -- Reopen of a shut book, or where an `abandon` failed
    pub reopen : IsErrOf answer post.Reopen ↔ ((old.shut ≡ true) ⊎ ((shelf.state old.shelf).failed_abandons < (shelf.state new.shelf).failed_abandons))
    pub abandons : (shelf.state new.shelf).failed_abandons ≡ (shelf.state old.shelf).failed_abandons + failed_in old.shut answer
    -- the book is shut behind Reopen
    pub shut : (new.shut ≡ true) ↔ IsErrOf answer post.Reopen
    pub untouched : old.shut ≡ true → new.shelf ≡ old.shelf
    pub clean : shelf.clean new.shelf → shelf.clean old.shelf
    -- the store is the same
    pub store : shelf.same_store old.shelf new.shelf
    pub office : new.office ≡ old.office
    pub zone : new.zone ≡ old.zone
    pub limit : new.limit ≡ old.limit

  -- an upload, with what came of it: its body is refused, and nothing is done; or what it gives is posted
  abbrev pub IsTaken : Upload → Outcome → Book S shelf → Book S shelf → Type 0
  IsTaken upload (Refused fault) old new = Refuses old.office upload fault × (new ≡ old)
  IsTaken upload (Posted answer) old new = (entries : List Entry) × Gives old.office upload entries × ArePosted entries answer old new

  abbrev pub Takes : Upload → Book S shelf → Reply → Book S shelf → Type 0
  Takes upload old reply new = (outcome : Outcome) × (reply ≡ upload_reply outcome) × IsTaken upload outcome old new

  -- a page is asked for: its text, by the records held, or why there is none; the records are as before
  pub record IsShown (shown : Page) (answer : Result (List ℕ) BookFault) (old new : Book S shelf) : Type 0 where
    pub text : shelf.clean new.shelf → IfOk answer (λ text. IsAnswer shown old.office (held old).records text)
    pub report : IsReport shelf answer old new

  abbrev pub Shows : Page → Book S shelf → Reply → Book S shelf → Type 0
  Shows shown old reply new = (answer : Result (List ℕ) BookFault) × (reply ≡ page_reply shown answer) × IsShown shown answer old new

  -- nothing is done, and a line is answered
  abbrev pub Says : Status → List ℕ → Book S shelf → Reply → Book S shelf → Type 0
  Says status line old reply new = (reply ≡ line_reply status line) × (new ≡ old)

  -- nothing is asked of the book, and a file of the page is answered: so it is where the book is shut
  abbrev pub GivesFile : File → Book S shelf → Reply → Book S shelf → Type 0
  GivesFile file old reply new = (reply ≡ file_reply file) × (new ≡ old)

  -- the statement of the account of a name, if the office has one
  abbrev pub ShowsAccount : List ℕ → Book S shelf → Reply → Book S shelf → Type 0
  ShowsAccount name old reply new =
      (((a : ℕ) → slice_get old.office.accounts a ≢ Some name) × Says NotFound (codes "no such account") old reply new)
      ⊎ ((a : AccountId) × (slice_get old.office.accounts a.0 ≡ Some name) × Shows (page.Statement a) old reply new)

  -- a page of an account for the month of a text, if it is one
  abbrev pub ShowsMonthOf : MonthPage → AccountId → List ℕ → Book S shelf → Reply → Book S shelf → Type 0
  ShowsMonthOf what a text old reply new =
      (((m : Month) → IsMonthText text m → ⊥) × Says NotFound (codes "no such month") old reply new)
      ⊎ ((m : Month) × IsMonthText text m × Shows (page.Month what a m) old reply new)

  -- of the account of a name, if the office has one: the account is looked at first
  abbrev pub ShowsMonth : MonthPage → List ℕ → List ℕ → Book S shelf → Reply → Book S shelf → Type 0
  ShowsMonth what name text old reply new =
      (((a : ℕ) → slice_get old.office.accounts a ≢ Some name) × Says NotFound (codes "no such account") old reply new)
      ⊎ ((a : AccountId) × (slice_get old.office.accounts a.0 ≡ Some name) × ShowsMonthOf what a text old reply new)

  -- the readings of the meter of an id, if the office has one
  abbrev pub ShowsMeter : List ℕ → Book S shelf → Reply → Book S shelf → Type 0
  ShowsMeter id old reply new =
      (((m : ℕ) → option_map (λ t. t.id) (slice_get old.office.meters m) ≢ Some id) × Says NotFound (codes "no such meter") old reply new)
      ⊎ ((m : MeterId) × (option_map (λ t. t.id) (slice_get old.office.meters m.0) ≡ Some id) × Shows (page.MeterReadings m) old reply new)

  -- by where the request goes
  abbrev pub AnswersAt : Place → List ℕ → List ℕ → Book S shelf → Reply → Book S shelf → Type 0
  AnswersAt NoPage target body = Says NotFound (codes "no such page")
  AnswersAt NoMethod target body = Says MethodNotAllowed (codes "no such method")
  AnswersAt (At route.Telegrams) target body = Takes (Telegrams body)
  AnswersAt (At route.Readouts) target body = Takes (Readouts (meter_in target) body)
  AnswersAt (At route.Assignments) target body = Takes (Assignments body)
  AnswersAt (At route.TopUps) target body = Takes (TopUps body)
  AnswersAt (At route.Withdrawals) target body = Takes (Withdrawals body)
  AnswersAt (At route.Account) target body = ShowsAccount (account_in target)
  AnswersAt (At (route.Month what)) target body = ShowsMonth what (account_in target) (month_in target)
  AnswersAt (At route.MeterReadings) target body = ShowsMeter (exported_meter_in target)
  AnswersAt (At (route.Table table)) target body = Shows (page.Table table)
  AnswersAt (At (route.File file)) target body = GivesFile file

  -- one step: what a book answers to a request, and what it is behind it
  abbrev pub Answers : Book S shelf → Asking → Reply → Book S shelf → Type 0
  Answers old asking reply new = AnswersAt (place_of asking.method asking.target) asking.target asking.body old reply new
