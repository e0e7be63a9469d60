-- Why a command is refused: the line, and the exit status. One table over all faults.
-- (A format of this project.)
use Rattle.std.specs.Prelude.{◌≡◌, ◌⊎◌, ℕ, List, Option, Result, Ok, Err, ◌++◌, codes, decimal}
use Rattle.std.specs.Io.KnownBytes.{Appends}
use Rattle.pw_line.specs.Refused.{memory_line}
use Rattle.pw_read.specs.Run.{WritesFront}
use Rattle.pw_tariff.specs.Faults as office_fault
use Rattle.pw_tariff.specs.declared.fault.OfficeFault.{OfficeFault}
use Rattle.pw_tariff.specs.declared.fault.OfficeFault.TheVariants as office
use Rattle.pw_record.specs.Causes as upload_fault
use Rattle.pw_record.specs.declared.fault.Cause.{Cause as UploadCause}
use Rattle.pw_record.specs.declared.fault.Cause.TheVariants as cause
use Rattle.pw_book.specs.Faults as book_fault
use Rattle.pw_book.specs.declared.fault.PostFault.{PostFault}
use Rattle.pw_book.specs.declared.fault.PostFault.TheVariants as post
use Rattle.pw_store.specs.Faults as store_fault
use Rattle.pw_http.specs.Faults as wire_fault
use Rattle.pw_found.specs.Causes as found_cause
use Rattle.pw_found.specs.declared.cause.Cause.{Cause}
use Rattle.pw_found.specs.declared.verdict.Refusal.{Refusal}
use Rattle.pw_found.specs.declared.verdict.Refusal.TheVariants as refusal
use Rattle.pw_commands.specs.declared.fault.Fault.{Fault}
use Rattle.pw_commands.specs.declared.fault.Fault.TheVariants as fault

-- what was given is refused, or memory was
abbrev pub office_status : OfficeFault → ℕ
office_status office.Memory = 3
office_status _ = 1

abbrev pub cause_status : UploadCause → ℕ
cause_status cause.Memory = 3
cause_status _ = 1

-- a full book is no failure
abbrev pub post_status : PostFault → ℕ
post_status (post.Full held limit) = 1
post_status _ = 3

-- why a file can't be read
abbrev pub IsOfReading : Fault → Type 0
IsOfReading f = (f ≡ fault.Device) ⊎ (f ≡ fault.Memory)

-- what a store that isn't looked at or opened is to a command
abbrev pub fault_of_refusal : Refusal → Fault
fault_of_refusal refusal.NoSuchStore = fault.NoSuchStore
fault_of_refusal refusal.Memory = fault.Memory
fault_of_refusal (refusal.Unopened why) = fault.Unopened why

-- why a store isn't opened
abbrev pub IsOfOpening : Fault → Type 0
IsOfOpening (fault.Store of_opening) = Unit {0}
IsOfOpening (fault.Unopened why) = Unit {0}
IsOfOpening fault.NoSuchStore = Unit {0}
IsOfOpening f = f ≡ fault.Memory

-- 1: what was given is refused; 3: a file, socket, stream, store or memory failed
abbrev pub fault_status : Fault → ℕ
fault_status (fault.Office of_office) = office_status of_office
fault_status fault.TooLarge = 1
fault_status (fault.Upload of_upload) = cause_status of_upload.cause
fault_status (fault.List line) = 1
fault_status fault.NoSuchAccount = 1
fault_status fault.NoSuchMonth = 1
fault_status fault.NoSuchMeter = 1
fault_status fault.NoSuchStore = 1
fault_status fault.NotAdopted = 1
fault_status fault.NotCarried = 1
fault_status fault.NotFree = 1
fault_status (fault.Store of_opening) = 3
fault_status (fault.Unopened why) = 3
fault_status (fault.Post of_post) = post_status of_post
fault_status (fault.Book of_book) = 3
fault_status (fault.Wire of_wire) = 3
fault_status fault.Device = 3
fault_status fault.Memory = 3

-- why a file isn't opened as a store's stands in a line before: which cause it is, and what to do
abbrev pub unopened_text : Cause → List ℕ
unopened_text why = found_cause.cause_text why ++ codes "\ndevice failed"

-- the line, without its end; of a store's file that isn't opened two lines
abbrev pub fault_text : Fault → List ℕ
fault_text (fault.Office of_office) = office_fault.office_fault_line of_office
fault_text fault.TooLarge = codes "body too large"
fault_text (fault.Upload of_upload) = upload_fault.fault_line of_upload
fault_text (fault.List line) = codes "line " ++ (decimal line ++ codes " of the list names no upload")
fault_text fault.NoSuchAccount = codes "no such account"
fault_text fault.NoSuchMonth = codes "no such month"
fault_text fault.NoSuchMeter = codes "no such meter"
fault_text fault.NoSuchStore = codes "no such store"
fault_text fault.NotAdopted = codes "the new office file can't be adopted; carry takes the records into a new store"
fault_text fault.NotCarried = codes "the new office file can't hold this record"
fault_text fault.NotFree = codes "the new store's path isn't free"
fault_text (fault.Store of_opening) = store_fault.open_line of_opening
fault_text (fault.Unopened why) = unopened_text why
fault_text (fault.Post of_post) = book_fault.post_line of_post
fault_text (fault.Book of_book) = book_fault.book_line of_book
fault_text (fault.Wire of_wire) = wire_fault.wire_line of_wire
fault_text fault.Device = codes "device failed"
fault_text fault.Memory = memory_line

-- with its end
abbrev pub fault_line : Fault → List ℕ
fault_line given = fault_text given ++ codes "\n"

-- bytes are written, or after an error a front of them
abbrev pub Writes : {T E : Type 0} → Option (List ℕ) → Option (List ℕ) → List ℕ → Result T E → Type 0
Writes old new bytes (Ok done) = Appends old new bytes
Writes old new bytes (Err error) = WritesFront old new bytes

-- a line is written, and this status answered; or the writer fails within the line, and 3 is
abbrev pub TellsLine : List ℕ → ℕ → Option (List ℕ) → Option (List ℕ) → ℕ → Type 0
TellsLine line told before after status =
    ((status ≡ told) × Appends before after line) ⊎ ((status ≡ 3) × WritesFront before after line)

-- the line of a fault is told, with its status; want of memory may be told in its place
abbrev pub IsTold : Fault → Option (List ℕ) → Option (List ℕ) → ℕ → Type 0
IsTold given before after status =
    TellsLine (fault_line given) (fault_status given) before after status
    ⊎ TellsLine (fault_line fault.Memory) 3 before after status
