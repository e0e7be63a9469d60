-- What a CREATE TABLE makes of a database, whatever rows it has.
use Rattle.std.proofs.Common.{◌≡◌, ℕ, List, [], ◌∷◌, ◌++◌, false, cond, Ok, Err, Result, OnOk, sym, ap, subst, ◌∙◌}
use Rattle.std.specs.List.{AllByRecursion}
use Rattle.sqlite.specs.declared.error.Error.{Error}
use Rattle.sqlite.specs.Table.{Table}
use Rattle.sqlite.specs.Schema.{Schema}
use Rattle.sqlite.specs.Tree.{Trees}
use Rattle.sqlite.specs.Command.TheVariants.{CreateTable}
use Rattle.sqlite.specs.Compile.{table_defined_by}
use Rattle.sqlite.specs.Change.{created}
use Rattle.sqlite.specs.Listing.{understood}
use Rattle.sqlite.specs.Effect.{Database}
use Rattle.sqlite.specs.Does.{Tally, lacks_sequence}
use Rattle.sqlite.specs.State.{State, Shows, HasCleanDisk, Executes, KeepsCommit, Survives, CommitsBy}
use Rattle.sqlite.proofs.Callers.{IsPlain, command_of, statement_of, runs_as}
use Rattle.sqlite.proofs.InsideLemmas.{unchanged_keeps}
use Rattle.sqlite_catalog.specs.Change.{next_tree, KeepsRows}
use Rattle.pw_schema.specs.declared.table.StoreTable.{StoreTable}
use Rattle.pw_schema.specs.Fresh.{IsWithin}
use Rattle.pw_schema.specs.inner.Stages.{Grows, IsMaking, before, behind, table_at, text_of, tree_of}
use Rattle.pw_schema.proofs.Outcomes.{fails, keeps_commit}
use Rattle.pw_schema.proofs.Steps.{went, same_value}

pub record Makes (schema : Schema) (sql : List ℕ) (table : Table) : Type 0 where
  pub command : command_of (understood schema sql) ≡ CreateTable
  pub plain : IsPlain (understood schema sql)
  pub text : statement_of sql (understood schema sql) ≡ sql
  pub defined : table_defined_by sql ≡ Ok table
  pub uncounted : lacks_sequence (created schema table) ≡ false

module _ (old new : State) (schema : Schema) (sql : List ℕ) (table : Table) (makes : Makes schema sql table) (has : old.now.schema ≡ schema) (count : ℕ) (h : Executes sql [] old new (Ok count)) where
  made : (new.now.schema ≡ created schema table) × KeepsRows schema.tables old.now.trees new.now.trees × (new.now.trees (next_tree schema) ≡ []) × Shows old new new.now (cond old.in_transaction old.committed new.now) old.in_transaction
  made =
      let w = runs_as sql [] old new schema has CreateTable makes.command makes.plain count h in
      let done = went w.changed in
      let inner = went done.1 in
      let it = inner.1 in
      let is : it.table ≡ table = same_value (sym it.defined ∙ ap table_defined_by makes.text ∙ makes.defined) in
      let mid : inner.0.schema ≡ created schema table = it.is ∙ ap (λ s. created s it.table) has ∙ ap (created schema) is in
      let none : lacks_sequence inner.0.schema ≡ false = ap lacks_sequence mid ∙ makes.uncounted in
      let same : done.0 ≡ inner.0 = same_value (rw none at inner.2) in
      let last : new.now ≡ inner.0 = ap (λ (p : Tally × Database). p.1) (same_value done.2) ∙ same in (
        rw last mid,
        rw last (subst (λ s. KeepsRows s.tables old.now.trees inner.0.trees) has it.others),
        rw last (subst (λ s. inner.0.trees (next_tree s) ≡ []) has it.empty),
        w.shown,
      )

module _ (old new : State) (t : StoreTable) (makes : Makes (before t) (text_of t) (table_at t 0)) where
  pub within_more : IsWithin (before t) old → (r : Result ℕ Error) → Executes (text_of t) [] old new r → OnOk r (IsWithin (behind t) new)
  within_more at (Ok n) h = let it = made old new _ _ _ makes at.schema_is n h in record { is_open = it.3.is_open; inside = it.3.mode ∙ at.inside; schema_is = it.0 }
  within_more at (Err e) h = tt

  pub grows_more : next_tree (before t) ≡ tree_of t → IsWithin (before t) old → (r : Result ℕ Error) → Executes (text_of t) [] old new r → OnOk r (Grows t old.now.trees new.now.trees)
  grows_more place at (Ok n) h = let it = made old new _ _ _ makes at.schema_is n h in record { others = it.1; empty = subst (λ at. new.now.trees at ≡ []) place it.2 }
  grows_more place at (Err e) h = tt

  pub makes_kept : IsWithin (before t) old → (r : Result ℕ Error) → Executes (text_of t) [] old new r → KeepsCommit old new
  makes_kept at (Ok n) h =
      let shown = subst (λ b. Shows old new new.now (cond b old.committed new.now) b) at.inside (made old new _ _ _ makes at.schema_is n h).3 in record { was_open = λ _. shown.was_open; committed = λ _. shown.committed_is }
  makes_kept at (Err e) h = unchanged_keeps old new (fails old new (text_of t) [] e h)

  pub makes_survives : (HasCleanDisk old → IsWithin (before t) old) → Survives old new (CommitsBy (text_of t) [] old) → Survives old new (λ _. ⊥)
  makes_survives at =
      keeps_commit old new (text_of t) [] CreateTable (λ clean. ap (λ s. command_of (understood s (text_of t))) (at clean).schema_is ∙ makes.command) (λ name e. absurd cc) (λ e. absurd cc) (λ clean. (at clean).inside)

-- ---- where the tables before it have no rows
emptied : (old new : Trees) (tables : List Table) (last : Table) → AllByRecursion (λ t. old t.tree ≡ []) tables → AllByRecursion (λ t. new t.tree ≡ old t.tree) tables → new last.tree ≡ []
    → AllByRecursion (λ t. new t.tree ≡ []) (tables ++ last ∷ [])
emptied old new [] last all kept e = (e, tt)
emptied old new (t ∷ tables) last all kept e = (kept.0 ∙ all.0, emptied old new tables last all.1 kept.1 e)

pub blank_more : (t : StoreTable) → next_tree (before t) ≡ tree_of t → (old new : State) → IsMaking (before t) old → IsWithin (behind t) new → Grows t old.now.trees new.now.trees → IsMaking (behind t) new
blank_more t place old new making within grows = record {
  is_open = within.is_open;
  inside = within.inside;
  blank = record {
    schema_is = within.schema_is;
    empty = emptied old.now.trees new.now.trees (before t).tables (record (table_at t 0) { tree = next_tree (before t) }) making.blank.empty grows.others (subst (λ at. new.now.trees at ≡ []) (sym place) grows.empty);
  };
}
