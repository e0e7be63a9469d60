-- What the DELETE of totals by band alone, the UPDATE of the version, and that of the office file, leave as it was, and the
-- row that the last of them makes.
use Rattle.std.proofs.Common.{◌≡◌, ◌==◌, ℕ, pos, List, [], ◌∷◌, codes, map, Bool, true, false, cond, None, Some, Ok, Err, Result, OnOk, sym, ap, subst, ◌∙◌, refl, arith}
use Rattle.std.specs.List.{list_any}
use Rattle.std.specs.List.Sorted.{IsPermutation}
use Rattle.std.proofs.lemmas.List.Sorted.{IsPermutation-map}
use Rattle.sqlite.specs.declared.error.Error.{Error}
use Rattle.sqlite.specs.Order.{Row}
use Rattle.sqlite.specs.Schema.{Schema}
use Rattle.sqlite.specs.Tree.{Trees, has_rowid}
use Rattle.sqlite.specs.Command.{Command}
use Rattle.sqlite.specs.Command.TheVariants.{Commit, Delete, Release, Update}
use Rattle.sqlite.specs.Listing.{understood}
use Rattle.sqlite.specs.Edit.{Edit, Applies, edit_of}
use Rattle.sqlite.specs.Effect.{Answers}
use Rattle.sqlite.specs.Program.{overlay}
use Rattle.sqlite.specs.Query.{Output}
use Rattle.sqlite.specs.Rowids.TheVariants.{Given}
use Rattle.sqlite.specs.Ops.{binary, from_truth, is_true}
use Rattle.sqlite_value.proofs.OrderLemmas.{value_cmp-Int}
use Rattle.std.specs.Ordering.{is_eq}
use Rattle.sqlite.specs.Does.{Does}
use Rattle.sqlite_schema.specs.declared.schema.Keys.{Keys}
use Rattle.sqlite_schema.specs.declared.program.Program.{Program}
use Rattle.sqlite.specs.State.{State, Shows, HasCleanDisk, Executes, KeepsCommit, Runs, Survives, CommitsBy, mode_of}
use Rattle.sqlite.proofs.Callers.{IsPlain, command_of, one_permutation, runs_as, statement_of}
use Rattle.sqlite_rules.specs.Calls.{ids_of}
use Rattle.sqlite.proofs.InsideLemmas.{unchanged_keeps}
use Rattle.sqlite.specs.declared.types.Value.TheVariants.{Blob, Int, Null}
use Rattle.sqlite.specs.Term.{lit, col, op2}
use Rattle.sqlite.specs.Collation.TheVariants.{Binary}
use Rattle.sqlite_sql.specs.declared.ops.BinaryOp.TheVariants.{Compare}
use Rattle.sqlite_sql.specs.declared.ops.CompareOp.TheVariants.{Eq}
use Rattle.sqlite_tied.specs.Compute.{everything}
use Rattle.pw_schema.specs.Fresh.{IsWithin, SetsText, office_row}
use Rattle.pw_schema.specs.Raised.{HasSame, all_but_office, lasting_trees}
use Rattle.pw_schema.specs.Tables.{office_at, only_one, ours_with, total_at}
use Rattle.pw_schema.specs.declared.kind.StoreVersion.TheVariants.{Third}
use Rattle.pw_schema.specs.inner.Stages.{BringsTo}
use Rattle.pw_schema.proofs.Outcomes.{early, fails, keeps_commit}
use Rattle.pw_schema.proofs.OfficeRow.{cast_int, cast_null}
use Rattle.pw_schema.proofs.Scans.{IsScan, outputs, plain_query, scans}
use Rattle.pw_schema.proofs.Steps.{one_delete, one_update, uncounted}

abbrev own : Schema
own = ours_with only_one

-- ---- an edit of a table whose rows don't last
abbrev is_lasting : ℕ → Bool
is_lasting tree = list_any (λ t. t == tree) lasting_trees

apart : (tree at : ℕ) → is_lasting tree ≡ false → is_lasting at ≡ true → at ≡ tree → ⊥
apart tree at none one e = let bad : false ≡ true = sym none ∙ ap (λ t. is_lasting t) (sym e) ∙ one in cc

lasting : (keys : Keys) (db next : Trees) (edit : Edit) → Applies own keys db edit next → is_lasting edit.table.tree ≡ false → HasSame lasting_trees db next
lasting keys db next edit it none =
    let t = it.tables in
    let other : (at : ℕ) → is_lasting at ≡ true → at ≡ edit.table.tree → ⊥ = λ at. apart edit.table.tree at none in
    (t.1.0 (other 1 refl), (t.1.1.0 (other 3 refl), (t.1.1.1.0 (other 5 refl), (t.1.1.1.1.0 (other 7 refl), (t.1.1.1.1.1.0 (other 9 refl), (t.1.1.1.1.1.1.1.0 (other 13 refl), (t.1.1.1.1.1.1.1.1.0 (other 14 refl), (t.1.1.1.1.1.1.1.1.1.0 (other 16 refl), (t.1.1.1.1.1.1.1.1.1.1.0 (other 18 refl), tt)))))))))

-- of `office` alone
beside_office : (keys : Keys) (db next : Trees) (edit : Edit) → Applies own keys db edit next → edit.table.tree ≡ 0 → HasSame all_but_office db next
beside_office keys db next edit it is =
    let t = it.tables in
    (t.1.0 (λ e. absurd (omega (arith, is, e))), (t.1.1.0 (λ e. absurd (omega (arith, is, e))), (t.1.1.1.0 (λ e. absurd (omega (arith, is, e))), (t.1.1.1.1.0 (λ e. absurd (omega (arith, is, e))), (t.1.1.1.1.1.0 (λ e. absurd (omega (arith, is, e))), (t.1.1.1.1.1.1.0 (λ e. absurd (omega (arith, is, e))), (t.1.1.1.1.1.1.1.0 (λ e. absurd (omega (arith, is, e))), (t.1.1.1.1.1.1.1.1.0 (λ e. absurd (omega (arith, is, e))), (t.1.1.1.1.1.1.1.1.1.0 (λ e. absurd (omega (arith, is, e))), (t.1.1.1.1.1.1.1.1.1.1.0 (λ e. absurd (omega (arith, is, e))), (t.1.1.1.1.1.1.1.1.1.1.1.0 (λ e. absurd (omega (arith, is, e))), tt)))))))))))

-- ---- a text by which such a table is changed
-- how it is understood
abbrev pub Means : List ℕ → Command → Type 0
Means sql command = (command_of (understood own sql) ≡ command) × IsPlain (understood own sql)

-- what it makes of a store, where it is run with these values: the trees of which it keeps the rows
abbrev pub Changes : List ℕ → Row → Command → List ℕ → Type 1
Changes sql params command kept = (old new : State) (count : ℕ) → old.now.schema ≡ own → Runs old new None command (statement_of sql (understood own sql)) params count
    → Shows old new new.now (cond old.in_transaction old.committed new.now) old.in_transaction × (new.now.schema ≡ own) × HasSame kept old.now.trees new.now.trees

module _ (sql : List ℕ) (params : Row) (command : Command) (kept : List ℕ) (means : Means sql command) (changes : Changes sql params command kept) (old new : State) where
  module _ (at : IsWithin own old) (count : ℕ) (h : Executes sql params old new (Ok count)) where
    ran : Shows old new new.now (cond old.in_transaction old.committed new.now) old.in_transaction × (new.now.schema ≡ own) × HasSame kept old.now.trees new.now.trees
    ran = changes old new count at.schema_is (runs_as sql params old new own at.schema_is command means.0 means.1 count h)

  within : IsWithin own old → (r : Result ℕ Error) → Executes sql params old new r → OnOk r (IsWithin own new)
  within at (Err e) h = tt
  within at (Ok n) h = let it = ran at n h in record { is_open = it.0.is_open; inside = it.0.mode ∙ at.inside; schema_is = it.1 }

  others : IsWithin own old → (r : Result ℕ Error) → Executes sql params old new r → OnOk r (HasSame kept old.now.trees new.now.trees)
  others at (Err e) h = tt
  others at (Ok n) h = (ran at n h).2

  commit_kept : IsWithin own old → (r : Result ℕ Error) → Executes sql params old new r → KeepsCommit old new
  commit_kept at (Ok n) h = let s = subst (λ b. Shows old new new.now (cond b old.committed new.now) b) at.inside (ran at n h).0 in record { was_open = λ _. s.was_open; committed = λ _. s.committed_is }
  commit_kept at (Err e) h = unchanged_keeps old new (fails old new sql params e h)

  pub stays_third : (r : Result ℕ Error) → ((name : List ℕ) → ¬ (command ≡ Release name)) → ¬ (command ≡ Commit) → (HasCleanDisk old → IsWithin own old) → (HasCleanDisk new → Executes sql params old new r) → Survives old new (CommitsBy sql params old)
      → BringsTo Third r old new
  stays_third r no_release no_commit at runs s = record {
    made = λ clean. within (at (early old new s clean)) r (runs clean);
    kept = λ clean. commit_kept (at (early old new s clean)) r (runs clean);
    crash = keeps_commit old new sql params command (λ clean. ap (λ d. command_of (understood d sql)) (at clean).schema_is ∙ means.0) no_release no_commit (λ clean. (at clean).inside) s;
  }

  pub same_others : (r : Result ℕ Error) → (HasCleanDisk old → IsWithin own old) → (HasCleanDisk new → Executes sql params old new r) → Survives old new (CommitsBy sql params old) → HasCleanDisk new → OnOk r (HasSame kept old.now.trees new.now.trees)
  same_others r at runs s clean = others (at (early old new s clean)) r (runs clean)

-- ---- the DELETE of totals by band alone
abbrev pub empty_total_text : List ℕ
empty_total_text = codes "DELETE FROM total"

abbrev pub empty_total : Program
empty_total = record { lets = []; body = plain_query 11 [] (col 1 0 ∷ []) }

pub empty_total_means : Means empty_total_text (Delete 6 empty_total)
unfolding understood everything
empty_total_means = (refl, (refl, refl))

pub empties_total : Changes empty_total_text [] (Delete 6 empty_total) lasting_trees
empties_total old new count has it =
    let done = one_delete old.step_limit (mode_of old).keys own (total_at 11) [] (mode_of old) old.now.trees 6 empty_total it.tally new.now (λ _. refl)
    (subst (λ s. Does old.step_limit (mode_of old) [] (record old.now { schema = s }) (statement_of empty_total_text (understood own empty_total_text)) None (Delete 6 empty_total) (Ok (it.tally, new.now))) has it.changed) in
    (it.shown, done.0, lasting (mode_of old).keys old.now.trees new.now.trees _ done.1.2 refl)

-- ---- the UPDATE of the version
abbrev pub set_version_text : List ℕ
set_version_text = codes "UPDATE office SET version = 3 WHERE id = 1"

abbrev pub set_version : Program
set_version = record { lets = []; body = plain_query 0 (op2 (Compare Eq Binary) (col 1 0) (lit (Int (pos 1))) ∷ []) (col 1 0 ∷ col 1 0 ∷ lit Null ∷ lit (Int (pos 3)) ∷ col 1 3 ∷ []) }

pub set_version_means : Means set_version_text (Update 0 set_version)
unfolding understood everything
set_version_means = (refl, (refl, refl))

pub sets_version : Changes set_version_text [] (Update 0 set_version) lasting_trees
sets_version old new count has it =
    let done = one_update old.step_limit (mode_of old).keys own (office_at 0 only_one) [] (mode_of old) old.now.trees 0 set_version it.tally new.now (λ _ _. refl)
    (subst (λ s. Does old.step_limit (mode_of old) [] (record old.now { schema = s }) (statement_of set_version_text (understood own set_version_text)) None (Update 0 set_version) (Ok (it.tally, new.now))) has it.changed) in
    (it.shown, done.0, lasting (mode_of old).keys old.now.trees new.now.trees _ done.1.2 refl)

-- ---- the UPDATE of the office file
abbrev pub set_office_text : List ℕ
set_office_text = codes "UPDATE office SET body = ?1 WHERE id = 1"

abbrev pub set_office : Program
set_office = record { lets = []; body = plain_query 0 (op2 (Compare Eq Binary) (col 1 0) (lit (Int (pos 1))) ∷ []) (col 1 0 ∷ col 1 0 ∷ lit Null ∷ col 1 2 ∷ col 0 0 ∷ []) }

pub set_office_means : Means set_office_text (Update 0 set_office)
unfolding understood everything
set_office_means = (refl, (refl, refl))

-- it finds the row by its id
same_id : is_true (binary (Compare Eq Binary) (Int (pos 1)) (Int (pos 1))) ≡ true
unfolding binary
same_id = ap (λ o. is_true (from_truth (Some (is_eq o)))) (value_cmp-Int (pos 1) (pos 1))

module _ (body : List ℕ) where
  -- what it finds is made anew
  abbrev SetsFound : State → State → Type 0
  SetsFound old new = (rows : List Row) × Answers (record { schema = own; trees = old.now.trees }) set_office (Blob body ∷ []) rows
      × Applies own (mode_of old).keys old.now.trees (edit_of old.now.trees (uncounted (office_at 0 only_one)) (ids_of rows) Given 1 rows) new.now.trees

  updates : (old new : State) (count : ℕ) → old.now.schema ≡ own → Runs old new None (Update 0 set_office) (statement_of set_office_text (understood own set_office_text)) (Blob body ∷ []) count → (new.now.schema ≡ own) × SetsFound old new
  updates old new count has it =
      one_update old.step_limit (mode_of old).keys own (office_at 0 only_one) (Blob body ∷ []) (mode_of old) old.now.trees 0 set_office it.tally new.now (λ _ _. refl)
      (subst (λ s. Does old.step_limit (mode_of old) (Blob body ∷ []) (record old.now { schema = s }) (statement_of set_office_text (understood own set_office_text)) None (Update 0 set_office) (Ok (it.tally, new.now))) has it.changed)

  pub sets_office : Changes set_office_text (Blob body ∷ []) (Update 0 set_office) all_but_office
  sets_office old new count has it =
      let done = updates old new count has it in
      (it.shown, done.0, beside_office (mode_of old).keys old.now.trees new.now.trees _ done.1.2 refl)

  at_id : (told : List ℕ) → has_rowid (pos 1) (office_row told) ≡ true
  at_id told = ap is_eq (value_cmp-Int (pos 1) (pos 1))

  -- the row that is made of one, as it is found
  abbrev made : List Row
  made = (Int (pos 1) ∷ office_row body) ∷ []

  shows : (told : List ℕ) → map (λ (o : Output). o.1) (outputs set_office.body (Blob body ∷ []) (office_row told ∷ [])) ≡ made
  shows told = rw same_id refl

  found : (told : List ℕ) (all rows : List Row) → all ≡ office_row told ∷ [] → IsScan set_office.body (Blob body ∷ []) all rows → rows ≡ made
  found told all rows is scan =
      let shown : map (λ (o : Output). o.1) (outputs set_office.body (Blob body ∷ []) all) ≡ made = ap (λ xs. map (λ (o : Output). o.1) (outputs set_office.body (Blob body ∷ []) xs)) is ∙ shows told in
      scan.shown ∙ one_permutation _ _ (subst (λ xs. IsPermutation xs (map (λ (o : Output). o.1) scan.ordered)) shown (IsPermutation-map (λ (o : Output). o.1) _ _ scan.same))

  pub sets_text : (old new : State) (r : Result ℕ Error) → IsWithin own old → Executes set_office_text (Blob body ∷ []) old new r → OnOk r (SetsText body old.now.trees new.now.trees)
  sets_text old new (Err e) at h = tt
  sets_text old new (Ok count) at h = λ told is.
      let it = (updates old new count at.schema_is (runs_as set_office_text (Blob body ∷ []) old new own at.schema_is (Update 0 set_office) set_office_means.0 set_office_means.1 count h)).1 in
      let rows : it.0 ≡ made = found told (old.now.trees 0) it.0 is (scans 0 set_office.body (overlay old.now.trees []) (Blob body ∷ []) it.0 (it.1.answer Null)) in
      it.2.rows ∙ rw (rows, is, cast_null, cast_int 1, cast_int 3, at_id told) refl
