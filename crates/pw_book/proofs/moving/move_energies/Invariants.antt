use Rattle.pw_tariff.specs.Office.{office_of, periods_in}
use Rattle.std.proofs.Common.{length}
use Rattle.pw_shelf.specs.Calls.{GoesOn}
use Rattle.pw_book.specs.inner.Moves.{MovesTotals}
use Rattle.pw_parts.specs.Changes.{gathered}
use Rattle.pw_parts.specs.declared.changes.Side.TheVariants.{Gains, Loses}
use Rattle.pw_book.proofs.Walking.{HasTaken, IsRest, Moved}
use Rattle.pw_book.proofs.moving.move_energies.Given as goal

-- the totals are moved of which no change is still to come
abbrev pub invariant-loop-key : goal.invariant-loop-key
invariant-loop-key g l = record {
  rest : IsRest l.changes.rows l.key-iterator;
  moved : g.S.Shelf.clean l.shelf → MovesTotals (Moved (periods_in l.office) (length l.office.bands) (length l.office.accounts) l.key-iterator) (gathered Gains l.changes.rows) (gathered Loses l.changes.rows) (g.S.Shelf.state l.initial.shelf).content (g.S.Shelf.state l.shelf).content;
  tally : HasTaken (office_of l.office) l.key-iterator (g.S.Shelf.state l.initial.shelf).tally (g.S.Shelf.state l.shelf).tally;
  kept : GoesOn g.S.Shelf.state g.S.Shelf.left g.S.Shelf.clean g.S.Shelf.same_store 0 l.initial.shelf l.shelf;
}
