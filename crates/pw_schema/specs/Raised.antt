-- What bringing a store to version 3 makes of its trees.
-- (Definitions of this project.)
use Rattle.std.specs.Prelude.{◌≡◌, ℕ, List, [], ◌∷◌}
use Rattle.std.specs.List.{AllByRecursion}
use Rattle.sqlite.specs.Tree.{Trees}
use Rattle.pw_schema.specs.declared.kind.StoreVersion.{StoreVersion}
use Rattle.pw_schema.specs.declared.kind.StoreVersion.TheVariants.{First, Second, Third}

-- whose rows stay: those of records, points, starts and totals of top-ups. The row of `office` gets another version, `total`
-- is emptied, and totals of energy are put by period
abbrev pub lasting_trees : List ℕ
lasting_trees = 1 ∷ 3 ∷ 5 ∷ 7 ∷ 9 ∷ 13 ∷ 14 ∷ 16 ∷ 18 ∷ []

-- all but that of `office`
abbrev pub all_but_office : List ℕ
all_but_office = 1 ∷ 3 ∷ 5 ∷ 7 ∷ 9 ∷ 11 ∷ 13 ∷ 14 ∷ 16 ∷ 18 ∷ 20 ∷ []

-- of those that stay, those that a version has
abbrev pub kept_trees : StoreVersion → List ℕ
kept_trees First = 1 ∷ 3 ∷ 5 ∷ 7 ∷ 9 ∷ 13 ∷ []
kept_trees Second = lasting_trees
kept_trees Third = lasting_trees

-- and those that it lacks: of withdrawn records
abbrev pub lacked_trees : StoreVersion → List ℕ
lacked_trees First = 14 ∷ 16 ∷ 18 ∷ []
lacked_trees Second = []
lacked_trees Third = []

abbrev pub HasSame : List ℕ → Trees → Trees → Type 0
HasSame trees before db = AllByRecursion (λ t. db t ≡ before t) trees

abbrev pub AreEmpty : List ℕ → Trees → Type 0
AreEmpty trees db = AllByRecursion (λ t. db t ≡ []) trees

-- the rows that the version has are as they were, and the tables that it lacked have none
pub record IsRaised (v : StoreVersion) (before db : Trees) : Type 0 where
  pub same : HasSame (kept_trees v) before db
  pub empty : AreEmpty (lacked_trees v) db
