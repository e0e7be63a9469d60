use Rattle.std.proofs.Common.{◌≡◌, ◌++◌, map, take}
use Rattle.std.specs.List.{filter}
use Rattle.pw_bills.specs.inner.Rows.{gives_something, why_of}
use Rattle.pw_bills.proofs.pieces.add_pieces.Given as goal

abbrev pub invariant-loop-piece : goal.invariant-loop-piece
invariant-loop-piece l =
    l.rows.items ≡ l.initial.rows.items ++ map (why_of l.place.stretches.now.account l.place.meter l.place.register l.span) (filter gives_something (take l.piece-index l.pieces))
