use Rattle.std.proofs.Common.{◌≡◌, take}
use Rattle.pw_model.specs.Counting.{standing_among}
use Rattle.pw_book.specs.Asking.{IsOnlyAsked}
use Rattle.pw_book.proofs.withdrawn.standing_among.Given as goal

abbrev pub invariant-loop-entry : goal.invariant-loop-entry
invariant-loop-entry g l = record {
  standing : g.S.Shelf.clean l.shelf → l.all.items ≡ standing_among (g.S.Shelf.state l.initial.shelf).content.records (take l.entry-index l.records);
  asked : IsOnlyAsked g.S.Shelf 0 l.initial.shelf l.shelf;
}
