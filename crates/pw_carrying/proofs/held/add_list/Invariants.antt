use Rattle.std.proofs.Common.{◌≡◌, ◌++◌, take}
use Rattle.pw_book.specs.Posting.{fresh_of}
use Rattle.pw_carrying.proofs.held.add_list.Given as goal

abbrev pub invariant-loop-entry : goal.invariant-loop-entry
invariant-loop-entry g l = record { found : l.found.items ≡ l.fn.found.items ++ fresh_of l.sent (take l.entry-index l.entry-items) }
