-- What a book over the files of a store holds when it is opened.
-- (Definitions of this project.)
use Rattle.std.specs.Prelude.{◌≡◌}
use Rattle.sqlite.specs.Effect.{Database, IsDatabase}
use Rattle.sqlite.specs.Files.{AreFoundIn, HoldsDatabase}
use Rattle.sqlite.specs.Tree.{Trees}
use Rattle.sqlite_wal.specs.Recovery.{Image}
use Rattle.pw_found.specs.Verdicts.{MayOpen}
use Rattle.pw_found.specs.declared.verdict.Purpose.{Purpose}
use Rattle.pw_found.specs.declared.verdict.Purpose.TheVariants.{Ask}
use Rattle.pw_tariff.specs.Office.{OfficeRules}
use Rattle.pw_model.specs.Shelf.{ShelfContent}
use Rattle.pw_schema.specs.Tables.{no_schema}
use Rattle.pw_commands.specs.Crashes.{WasHeld}

-- what the tables in the files had, or nothing where they were made, which is done to take uploads alone: to ask, no
-- database is taken that lists nothing
pub record OpensWith (office : OfficeRules) (purpose : Purpose) (image : Image) (c : ShelfContent) : Type 0 where
  pub may : MayOpen purpose image
  pub found : Database
  -- its schema is the one that its tree of the catalog lists
  pub database : IsDatabase found
  pub holds : (db : Trees) → HoldsDatabase image db → found.trees ≡ db
  pub reads : AreFoundIn image found.trees
  pub asked : purpose ≡ Ask → found.schema ≡ no_schema → ⊥
  pub held : WasHeld office found c
