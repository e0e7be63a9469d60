-- Uploads: what each gives, or why it is refused.
-- (Definitions of this project.)
use Rattle.std.specs.Prelude.{◌≡◌, ℕ, List}
use Rattle.pw_tariff.specs.Office.{OfficeFile}
use Rattle.pw_model.specs.declared.records.Entry.{Entry}
use Rattle.pw_record.specs.declared.fault.UploadFault.{UploadFault}
use Rattle.pw_record.specs.Causes.{want_of_memory}
use Rattle.pw_record.specs.Frames.{TelegramsGive, TelegramsRefused, ReadoutsGive, ReadoutsRefused}
use Rattle.pw_record.specs.Rows.{AssignmentsGive, AssignmentsRefused, TopUpsGive, TopUpsRefused, WithdrawalsGive, WithdrawalsRefused}

-- an upload: a body of telegrams; the id of a meter and a body of its readouts; a body of assignments, of top-ups, or of
-- withdrawals
pub data Upload : Type 0 where
  Telegrams : List ℕ → Upload
  Readouts : List ℕ → List ℕ → Upload
  Assignments : List ℕ → Upload
  TopUps : List ℕ → Upload
  Withdrawals : List ℕ → Upload

-- the entries that it gives
abbrev pub Gives : OfficeFile → Upload → List Entry → Type 0
Gives file (Telegrams body) entries = TelegramsGive file body entries
Gives file (Readouts id body) entries = ReadoutsGive file id body entries
Gives file (Assignments body) entries = AssignmentsGive file body entries
Gives file (TopUps body) entries = TopUpsGive file body entries
Gives file (Withdrawals body) entries = WithdrawalsGive file body entries

-- why it is refused
abbrev pub Refuses : OfficeFile → Upload → UploadFault → Type 0
Refuses file (Telegrams body) fault = TelegramsRefused file body fault
Refuses file (Readouts id body) fault = ReadoutsRefused file id body fault
Refuses file (Assignments body) fault = AssignmentsRefused file body fault
Refuses file (TopUps body) fault = TopUpsRefused file body fault
Refuses file (Withdrawals body) fault = WithdrawalsRefused file body fault

-- it is refused for its content, and not for want of memory
abbrev pub RefusesContent : OfficeFile → Upload → UploadFault → Type 0
RefusesContent file upload fault = Refuses file upload fault × (fault ≡ want_of_memory → ⊥)
