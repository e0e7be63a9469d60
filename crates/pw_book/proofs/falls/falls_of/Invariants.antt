use Rattle.std.proofs.Common.{◌≡◌, ◌++◌}
use Rattle.std.specs.Slice.Iter.{windows_rest, windows_size}
use Rattle.pw_book.proofs.Falling.{falls_in}
use Rattle.pw_book.proofs.falls.falls_of.Given as goal

abbrev pub invariant-loop-pair : goal.invariant-loop-pair
invariant-loop-pair l = record {
  can_next : (goal.iterator-loop-pair).can_next l.pair-iterator;
  is_finite : (goal.iterator-loop-pair).is_finite l.pair-iterator;
  of_two : windows_size l.pair-iterator ≡ 2;
  -- the falls so far, with those still to come
  falls : l.falls.items ++ falls_in l.meter l.register (windows_rest l.pair-iterator) ≡ falls_in l.meter l.register l.points;
}
