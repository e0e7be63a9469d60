use Rattle.std.proofs.Common.{◌≡◌, length}
use Rattle.pw_shelf.specs.Table.{at_begin}
use Rattle.pw_shelf.specs.inner.Table.{CanGoBack}
use Rattle.pw_shelf.proofs.table.Table.go_back.Given as goal

abbrev pub invariant-loop-key : goal.invariant-loop-key
invariant-loop-key g l = record {
  same : (k : g.row.K.Denot) → at_begin g.K.Ord.cmp l.self k ≡ at_begin g.K.Ord.cmp l.initial.self k;
  back : CanGoBack g.K.Ord.cmp l.self;
}

abbrev pub decreases-loop-key : goal.decreases-loop-key
decreases-loop-key g l = length l.self.changed.entries
