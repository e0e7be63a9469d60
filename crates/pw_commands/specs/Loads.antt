-- What a file of an upload gives, why it is refused, and how far a load of many files is.
-- (Definitions of this project.)
use Rattle.std.specs.Prelude.{ℕ, List, ◌++◌, codes, decimal}
use Rattle.pw_tariff.specs.Office.{OfficeFile}
use Rattle.pw_model.specs.declared.records.Entry.{Entry}
use Rattle.pw_record.specs.Laws.{upload_with}
use Rattle.pw_record.specs.Uploads as upload
use Rattle.pw_record.specs.declared.fault.UploadFault.{UploadFault}
use Rattle.pw_record.specs.declared.laws.UploadKind.{UploadKind}
use Rattle.pw_commands.specs.declared.progress.Loaded.{Loaded}

-- a file of a kind gives the entries that its upload gives
abbrev pub Gives : OfficeFile → UploadKind → List ℕ → List Entry → Type 0
Gives office kind body entries = upload.Gives office (upload_with kind body) entries

-- and is refused as it is
abbrev pub Refused : OfficeFile → UploadKind → List ℕ → UploadFault → Type 0
Refused office kind body fault = upload.Refuses office (upload_with kind body) fault

-- how far a load of many files is, `files N of M, records K`: N files of M are through, and K records of theirs were accepted
abbrev pub loaded_line : Loaded → List ℕ
loaded_line l = codes "files " ++ (decimal l.files ++ (codes " of " ++ (decimal l.all ++ (codes ", records " ++ decimal l.records))))
