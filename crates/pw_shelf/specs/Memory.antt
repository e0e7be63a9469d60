-- What is known of a store in memory.
-- (Definitions of this project.)
use Rattle.std.specs.Prelude.{◌≡◌, Bool, true, false, Option, Some, None}
use Rattle.pw_model.specs.Shelf.{ShelfContent}
use Rattle.pw_shelf.specs.declared.kept.Kept.{Kept}
use Rattle.pw_shelf.specs.declared.memory.MemoryShelf.{MemoryShelf}
use Rattle.pw_shelf.specs.Content.{content_now, content_then}
use Rattle.pw_shelf.specs.State.{State, committed}

abbrev pub begun_of : Bool → Kept → Option ShelfContent
begun_of false k = None
begun_of true k = Some (content_then k)

-- no device and no `abandon` fails
abbrev pub state_of : MemoryShelf → State
state_of m = record {
  content = content_now m.kept;
  begun = begun_of m.begun m.kept;
  failures = 0;
  failed_abandons = 0;
  tally = m.tally.count;
}

-- a crash leaves what was committed last, and this alone
abbrev pub left_of : MemoryShelf → ShelfContent → Type 0
left_of m c = c ≡ committed (state_of m)

-- memory returns what was written
abbrev pub clean_of : MemoryShelf → Type 0
clean_of m = Unit {0}

-- a store in memory remembers nothing of its making
abbrev pub same_of : MemoryShelf → MemoryShelf → Type 0
same_of old new = Unit {0}
