use Rattle.std.proofs.Common.{◌≡◌, false, map, take}
use Rattle.std.specs.List.{All}
use Rattle.pw_tariff.specs.Office.{office_of}
use Rattle.pw_model.specs.Office.{AllOfOffice}
use Rattle.pw_model.specs.Counting.{SameMembers}
use Rattle.pw_model.specs.Shelf.{ShelfContent}
use Rattle.pw_book.specs.declared.laws.crashes.Sent.{Sent}
use Rattle.pw_book.specs.Posting.{LeavesSound}
use Rattle.pw_book.specs.Crashes.{AreWhole, acknowledged}
use Rattle.pw_book.proofs.laws.crashes.uploads_survive_a_crash.Given as goal

abbrev pub invariant-loop-sent : goal.invariant-loop-sent
invariant-loop-sent g l = record {
  entries : map (λ (sent : Sent). sent.entries) l.uploads ≡ map (λ (sent : Sent). sent.entries) l.initial.uploads;
  of_office : All (λ (sent : Sent). AllOfOffice (office_of l.initial.book.office) sent.entries.items) l.uploads;
  office : l.book.office ≡ l.initial.book.office;
  held : g.S.Shelf.clean l.book.shelf → l.book.shut ≡ false → SameMembers (g.S.Shelf.state l.book.shelf).content.records (acknowledged (g.S.Shelf.state l.initial.book.shelf).content.records (take l.sent-index l.uploads));
  whole : g.S.Shelf.clean l.book.shelf → (c : ShelfContent) → g.S.Shelf.left l.book.shelf c → AreWhole (g.S.Shelf.state l.initial.book.shelf).content.records (take l.sent-index l.uploads) c.records;
  sound : g.S.Shelf.clean l.book.shelf → LeavesSound (office_of l.initial.book.office) (g.S.Shelf.left l.initial.book.shelf) (g.S.Shelf.left l.book.shelf);
  clean : g.S.Shelf.clean l.book.shelf → g.S.Shelf.clean l.initial.book.shelf;
  store : g.S.Shelf.same_store l.initial.book.shelf l.book.shelf;
}
