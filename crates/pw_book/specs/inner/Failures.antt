-- How many failures a call of the shelf counts on the way to an answer. It serves `src/shelf_calls.rt` and `src/upload.rt`.
use Rattle.std.specs.Prelude.{◌≡◌, ℕ, Result, Ok, Err}
use Rattle.pw_book.specs.Faults.{post_fault_of}
use Rattle.pw_book.specs.declared.fault.BookFault.{BookFault}
use Rattle.pw_book.specs.Posting.{FailuresWith}

abbrev pub FailuresUploaded : {T : Type 0} → Result T BookFault → ℕ → ℕ → Type 0
FailuresUploaded (Ok a) old new = new ≡ old
FailuresUploaded (Err fault) old new = FailuresWith (post_fault_of fault) old new
