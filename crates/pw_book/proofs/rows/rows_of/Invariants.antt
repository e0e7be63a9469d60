use Rattle.std.proofs.Common.{ℕ, Option}
use Rattle.pw_tariff.specs.declared.ids.MeterId.{MeterId}
use Rattle.pw_obis.specs.declared.reference.Register.{Register}
use Rattle.pw_model.specs.declared.records.Entry.{Entry}
use Rattle.pw_model.specs.Counting.{Member}
use Rattle.pw_model.specs.Kinds.{IsReadingOf}
use Rattle.pw_model.specs.Lists.{IsInOrder}
use Rattle.pw_model.specs.Same.{entry_order}
use Rattle.pw_model.specs.Seconds.{ListsSeconds}
use Rattle.pw_book.specs.Asking.{IsOnlyAsked}
use Rattle.pw_book.proofs.RowFacts.{RowsSoFar}
use Rattle.pw_book.proofs.rows.rows_of.Given as goal

abbrev pub invariant-loop-entry : goal.invariant-loop-entry
invariant-loop-entry g l = record {
  rows : g.S.Shelf.clean l.shelf → (told : ℕ → Option ℕ) (m : MeterId) (r : Register) → ListsSeconds told l.points → IsInOrder entry_order l.readings → ((x : Entry) → Member x l.readings → IsReadingOf m r x.key) →
      RowsSoFar told (g.S.Shelf.state l.initial.shelf).content.records l.readings l.entry-index m r l.rows.items;
  asked : IsOnlyAsked g.S.Shelf 0 l.initial.shelf l.shelf;
}
