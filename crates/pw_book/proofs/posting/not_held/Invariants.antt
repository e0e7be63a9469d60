use Rattle.std.proofs.Common.{◌≡◌, ◌+◌, ◌≤◌, length, take}
use Rattle.pw_model.specs.declared.records.Entry.{Entry}
use Rattle.pw_model.specs.Counting.{Member}
use Rattle.pw_book.specs.Asking.{IsOnlyAsked}
use Rattle.pw_book.specs.Posting.{fresh_of}
use Rattle.pw_book.proofs.posting.not_held.Given as goal

abbrev pub invariant-loop-entry : goal.invariant-loop-entry
invariant-loop-entry g l = record {
  fresh : g.S.Shelf.clean l.shelf → l.fresh.items ≡ fresh_of (g.S.Shelf.state l.initial.shelf).content.records (take l.entry-index l.entries);
  few : length l.fresh.items ≤ l.entry-index;
  part : (e : Entry) → Member e l.fresh.items → Member e l.entries;
  tally : (g.S.Shelf.state l.shelf).tally ≤ (g.S.Shelf.state l.initial.shelf).tally + l.entry-index;
  asked : IsOnlyAsked g.S.Shelf 0 l.initial.shelf l.shelf;
}
