-- The records after uploads, whatever their order.
-- (Definitions of this project.)
use Rattle.std.specs.Prelude.{◌≡◌, ◌↔◌, ℕ, List, [], ◌∷◌, ◌++◌, ◌⊎◌, Result, Ok, Err, IsErrOf}
use Rattle.std.specs.List.{flat_map}
use Rattle.pw_tariff.specs.Office.{OfficeFile, office_of}
use Rattle.pw_model.specs.declared.records.Entry.{Entry}
use Rattle.pw_model.specs.Counting.{Member, SameMembers}
use Rattle.pw_model.specs.Laws.{HaveSameAnswers}
use Rattle.pw_model.specs.Shelf.{ShelfContent}
use Rattle.pw_record.specs.declared.fault.UploadFault.{UploadFault}
use Rattle.pw_record.specs.Uploads.{Upload, Gives, Refuses, RefusesContent}
use Rattle.pw_record.specs.Laws.{IsOutcome}
use Rattle.pw_book.specs.declared.book.Accepted.{Accepted}
use Rattle.pw_book.specs.declared.fault.PostFault.{PostFault}
use Rattle.pw_book.specs.declared.fault.PostFault.TheVariants.{Reopen}
use Rattle.pw_book.specs.Posting.{IsAccepted, IsPosted}

-- the record is one of the entries that an upload gives
abbrev pub Brings : OfficeFile → Upload → Entry → Type 0
Brings file upload e = (entries : List Entry) × Gives file upload entries × Member e entries

-- the records after uploads: those before, and all that the uploads give
abbrev pub After : OfficeFile → List Entry → List Upload → List Entry → Type 0
After file before uploads records =
    (e : Entry) → Member e records ↔ (Member e before ⊎ ((upload : Upload) × Member upload uploads × Brings file upload e))

-- one upload more: where the book takes its entries, the records held are those after it; where it is refused for its
-- content, they are as they were
pub record LeavesAfter (file : OfficeFile) : Type 0 where
  pub taken : (before : List Entry) (uploads : List Upload) (upload : Upload) (entries : List Entry) (limit : ℕ) (old new : ShelfContent) (accepted : Accepted) →
      After file before uploads old.records → Gives file upload entries → IsAccepted (office_of file) limit entries old new accepted →
      After file before (uploads ++ upload ∷ []) new.records
  pub refused : (before : List Entry) (uploads : List Upload) (upload : Upload) (fault : UploadFault) (records : List Entry) →
      After file before uploads records → RefusesContent file upload fault → After file before (uploads ++ upload ∷ []) records

-- ---- runs
-- what came of an upload: it was refused for its body, or posted with this answer
pub data Outcome : Type 0 where
  Refused : UploadFault → Outcome
  Posted : Result Accepted PostFault → Outcome

-- one upload, from one content to another, that it takes or leaves as it is
abbrev pub LeadsTo : OfficeFile → ℕ → Upload → Outcome → ShelfContent → ShelfContent → Type 0
LeadsTo file limit upload (Refused fault) old new = Refuses file upload fault × (new ≡ old)
LeadsTo file limit upload (Posted answer) old new =
    (entries : List Entry) × Gives file upload entries × IsPosted (office_of file) limit entries old new answer × (IsErrOf answer Reopen → ⊥)

-- uploads behind one another, each with what came of it
abbrev pub IsRun : OfficeFile → ℕ → List (Upload × Outcome) → ShelfContent → ShelfContent → Type 0
IsRun file limit [] old new = new ≡ old
IsRun file limit (sent ∷ others) old new =
    (between : ShelfContent) × LeadsTo file limit sent.0 sent.1 old between × IsRun file limit others between new

-- the upload, where it was accepted
abbrev pub if_accepted : Outcome → Upload → List Upload
if_accepted (Posted (Ok a)) upload = upload ∷ []
if_accepted (Posted (Err fault)) upload = []
if_accepted (Refused fault) upload = []

-- the uploads of a run that were accepted
abbrev pub accepted_in : List (Upload × Outcome) → List Upload
accepted_in [] = []
accepted_in (sent ∷ others) = if_accepted sent.1 sent.0 ++ accepted_in others

-- all that a run accepted, and beside it nothing but uploads that are refused for their content
pub record AreAccepted (file : OfficeFile) (run : List (Upload × Outcome)) (uploads : List Upload) : Type 0 where
  pub all : (upload : Upload) → Member upload (accepted_in run) → Member upload uploads
  pub only : (upload : Upload) → Member upload uploads →
      Member upload (accepted_in run) ⊎ ((fault : UploadFault) × RefusesContent file upload fault)

-- behind any run the records are those before it, and those after the uploads that it accepted; uploads that are refused
-- for their content bring nothing; runs that begin with the same records and accept the same uploads end
-- with the same records, and the same answers
pub record RunsLeaveAfter (file : OfficeFile) : Type 0 where
  pub after : (limit : ℕ) (run : List (Upload × Outcome)) (old new : ShelfContent) →
      IsRun file limit run old new → After file old.records (accepted_in run) new.records
  pub beside : (limit : ℕ) (run : List (Upload × Outcome)) (uploads : List Upload) (old new : ShelfContent) →
      IsRun file limit run old new → AreAccepted file run uploads → After file old.records uploads new.records
  pub same : (one two : ℕ) (run other : List (Upload × Outcome)) (old new old' new' : ShelfContent) →
      IsRun file one run old new → IsRun file two other old' new' → SameMembers old.records old'.records →
      SameMembers (accepted_in run) (accepted_in other) →
      SameMembers new.records new'.records × HaveSameAnswers (office_of file) new.records new'.records

-- ---- order
-- the same uploads, in any order and repeated at will, have the same records after them, and the same answers
pub record HaveTheSameAfter (file : OfficeFile) (before : List Entry) (others : List Upload) (records : List Entry) : Type 0 where
  pub after : After file before others records
  pub only : (found : List Entry) → After file before others found → SameMembers records found × HaveSameAnswers (office_of file) records found

abbrev pub OrderOfUploadsCountsNothing : OfficeFile → Type 0
OrderOfUploadsCountsNothing file = (before : List Entry) (uploads others : List Upload) (records : List Entry) →
    SameMembers uploads others → After file before uploads records → HaveTheSameAfter file before others records

-- ---- the records after uploads, from what comes of each
-- what comes of uploads: of each its outcome
abbrev pub AreOutcomes : OfficeFile → List Upload → List (Result (List Entry) UploadFault) → Type 0
AreOutcomes file [] outcomes = outcomes ≡ []
AreOutcomes file (upload ∷ uploads) [] = ⊥
AreOutcomes file (upload ∷ uploads) (outcome ∷ outcomes) = IsOutcome file upload outcome × AreOutcomes file uploads outcomes

-- the entries that an upload gives; none where it is refused
abbrev pub given_by : Result (List Entry) UploadFault → List Entry
given_by (Ok entries) = entries
given_by (Err fault) = []

-- the records before uploads, and all that the uploads give
abbrev pub after_of : List Entry → List (Result (List Entry) UploadFault) → List Entry
after_of before outcomes = before ++ flat_map given_by outcomes

-- uploads have one list of outcomes; whatever the records before them, those that it makes are the records after them, and
-- any others that are have the same members and the same answers
pub record HaveOneAfter (file : OfficeFile) (uploads : List Upload) : Type 0 where
  pub outcomes : List (Result (List Entry) UploadFault)
  pub each : AreOutcomes file uploads outcomes
  pub only : (others : List (Result (List Entry) UploadFault)) → AreOutcomes file uploads others → outcomes ≡ others
  pub after : (before : List Entry) → After file before uploads (after_of before outcomes)
  pub alone : (before records : List Entry) → After file before uploads records →
      SameMembers (after_of before outcomes) records × HaveSameAnswers (office_of file) (after_of before outcomes) records
