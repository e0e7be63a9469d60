-- Whether the texts of a file's objects say what becomes of a row that breaks a rule.
-- (A format of this project. SQLite's CREATE TABLE may have a clause ON CONFLICT behind a key, a NOT NULL or a CHECK. The
-- schema of a file doesn't show it, so it is looked for in the texts.)
use Rattle.std.specs.Prelude.{◌≡◌, false, codes, List, [], ◌∷◌, map}
use Rattle.std.specs.List.{AllByRecursion}
use Rattle.sqlite.specs.Listing.{shown}
use Rattle.sqlite.specs.Order.{Row, column, bytes}
use Rattle.sqlite.specs.Tree.{Trees}
use Rattle.sqlite_catalog.specs.Listing.{mentions}
use Rattle.sqlite_rules.specs.Edit.{put_all}
use Rattle.sqlite_trees.specs.Objects.{catalog_tree}

-- the rows of `sqlite_schema`, as a query reads them: number, type, name, table, no root page, text
abbrev pub listing : Trees → List Row
listing db = put_all [] (map shown (db catalog_tree))

abbrev pub only_text : Row → Row
only_text r = column r 5 ∷ []

-- the text has the word CONFLICT nowhere, be it in capitals or not; what has no text has none
abbrev pub IsWithoutConflict : Row → Type 0
IsWithoutConflict r = mentions (codes "conflict") (bytes (column r 0)) ≡ false

abbrev pub AreWithoutConflict : Trees → Type 0
AreWithoutConflict db = AllByRecursion IsWithoutConflict (map only_text (listing db))
