-- The numbers, names and lines of the book's faults.
-- (A format of this project.)
use Rattle.std.specs.Prelude.{ℕ, List, ◌++◌, codes, decimal}
use Rattle.pw_line.specs.Refused.{refused_line}
use Rattle.pw_shelf.specs.declared.fault.ShelfFault.{ShelfFault}
use Rattle.pw_shelf.specs.declared.fault.ShelfFault.TheVariants as shelf
use Rattle.pw_book.specs.declared.fault.PostFault.{PostFault}
use Rattle.pw_book.specs.declared.fault.PostFault.TheVariants as post
use Rattle.pw_book.specs.declared.fault.BookFault.{BookFault}
use Rattle.pw_book.specs.declared.fault.BookFault.TheVariants as book

-- ---- of an upload
abbrev pub post_told : PostFault → ℕ × List ℕ
post_told (post.Full held limit) = (60, codes "Full")
post_told post.Device = (61, codes "Device")
post_told post.Memory = (62, codes "Memory")
post_told post.Reopen = (63, codes "Reopen")

-- behind the number and the name, that of the records held and the limit
abbrev pub full_line : ℕ → List ℕ → ℕ → ℕ → List ℕ
full_line number name held limit =
    refused_line number name ++ (codes " held " ++ (decimal held ++ (codes " limit " ++ decimal limit)))

abbrev pub post_line : PostFault → List ℕ
post_line (post.Full held limit) = full_line 60 (codes "Full") held limit
post_line fault = refused_line (post_told fault).0 (post_told fault).1

abbrev pub post_fault : ShelfFault → PostFault
post_fault shelf.Memory = post.Memory
post_fault shelf.Device = post.Device

-- ---- of a question
abbrev pub book_told : BookFault → ℕ × List ℕ
book_told book.Device = (61, codes "Device")
book_told book.Memory = (62, codes "Memory")
book_told book.Reopen = (63, codes "Reopen")

abbrev pub book_line : BookFault → List ℕ
book_line fault = refused_line (book_told fault).0 (book_told fault).1

abbrev pub book_fault : ShelfFault → BookFault
book_fault shelf.Memory = book.Memory
book_fault shelf.Device = book.Device

abbrev pub post_fault_of : BookFault → PostFault
post_fault_of book.Device = post.Device
post_fault_of book.Memory = post.Memory
post_fault_of book.Reopen = post.Reopen
