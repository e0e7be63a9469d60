-- What a query on the list of objects shows. It serves `src/conflicts.rt`.
use Rattle.std.specs.Prelude.{List, map}
use Rattle.std.specs.List.Sorted.{IsPermutation}
use Rattle.sqlite.specs.Order.{Row}
use Rattle.sqlite.specs.Tree.{Trees}
use Rattle.pw_schema.specs.Conflicts.{listing, only_text}

abbrev pub ShowsTexts : Trees → List Row → Type 0
ShowsTexts db rows = IsPermutation (map only_text (listing db)) rows
