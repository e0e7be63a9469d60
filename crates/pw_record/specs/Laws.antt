-- What follows from the definitions alone.
-- (Definitions of this project.)
use Rattle.std.specs.Prelude.{◌≡◌, ℕ, List, Result, Ok, Err}
use Rattle.pw_tariff.specs.Office.{OfficeFile}
use Rattle.pw_model.specs.declared.records.Entry.{Entry}
use Rattle.pw_record.specs.declared.fault.UploadFault.{UploadFault}
use Rattle.pw_record.specs.declared.laws.UploadBytes.{UploadBytes}
use Rattle.pw_record.specs.declared.laws.UploadKind.{UploadKind}
use Rattle.pw_record.specs.declared.laws.UploadKind.TheVariants as kind
use Rattle.pw_record.specs.Uploads.{Upload, Telegrams, Readouts, Assignments, TopUps, Withdrawals, Gives, RefusesContent}

-- an upload gives at most one list of entries, or is refused for at most one content fault in one part, and not both
pub record HasNoTwoOutcomes (file : OfficeFile) (upload : Upload) : Type 0 where
  pub entries : (one other : List Entry) → Gives file upload one → Gives file upload other → one ≡ other
  pub either : (given : List Entry) (fault : UploadFault) → Gives file upload given → RefusesContent file upload fault → ⊥
  pub refusal : (one other : UploadFault) → RefusesContent file upload one → RefusesContent file upload other → one ≡ other

-- what comes of an upload: the entries that it gives, or the fault for which its content is refused
abbrev pub IsOutcome : OfficeFile → Upload → Result (List Entry) UploadFault → Type 0
IsOutcome file upload (Ok entries) = Gives file upload entries
IsOutcome file upload (Err fault) = RefusesContent file upload fault

-- one of both comes of it, and nothing else
pub record HasOneOutcome (file : OfficeFile) (upload : Upload) : Type 0 where
  pub outcome : Result (List Entry) UploadFault
  pub holds : IsOutcome file upload outcome
  pub only : (other : Result (List Entry) UploadFault) → IsOutcome file upload other → outcome ≡ other

-- the upload of a kind with a body
abbrev pub upload_with : UploadKind → List ℕ → Upload
upload_with kind.Telegrams body = Telegrams body
upload_with (kind.Readouts id) body = Readouts id.now body
upload_with kind.Assignments body = Assignments body
upload_with kind.TopUps body = TopUps body
upload_with kind.Withdrawals body = Withdrawals body

-- the upload that bytes are
abbrev pub upload_of : UploadBytes → Upload
upload_of bytes = upload_with bytes.kind bytes.body.now
