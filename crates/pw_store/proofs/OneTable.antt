-- What a DELETE of the rows with a key, an UPDATE of the row with one, and an INSERT of rows make of one of our tables.
use Rattle.std.proofs.Common.{◌≡◌, ◌⊎◌, inl, inr, ℕ, ◌/◌, List, [], ◌∷◌, map, length, find, Bool, true, false, not, ◌&&◌, Option, Some, None, unwrap_or, Ok, arith, refl, sym, ap, subst, subst₂, ◌∙◌}
use Rattle.std.proofs.lemmas.Bool.{cases_Bool}
use Rattle.std.specs.List.{AllByRecursion, list_all, filter}
use Rattle.std.specs.List.Sorted.{IsPermutation}
use Rattle.std.proofs.lemmas.List.Sorted.{IsPermutation-map, length_permutation}
use Rattle.sqlite.specs.declared.types.Value.TheVariants.{Null}
use Rattle.sqlite.specs.Order.{Row}
use Rattle.sqlite.specs.Term.{Term, col, holds, eval_all}
use Rattle.sqlite.specs.Table.{Table}
use Rattle.sqlite.specs.Schema.{Schema}
use Rattle.sqlite.specs.Tree.{Trees, put_row, rowid}
use Rattle.sqlite.specs.Edit.{Applies, Edit, edit_of, edited, are_fresh, id_in, is_taken, without_all}
use Rattle.sqlite.specs.Cast.{cast_row}
use Rattle.sqlite.specs.Rowids.TheVariants.{Given, Chosen}
use Rattle.sqlite.specs.Source.TheVariants.{Values}
use Rattle.sqlite.specs.Command.{Command}
use Rattle.sqlite.specs.Command.TheVariants.{Delete, Insert, Update}
use Rattle.sqlite.specs.Query.{Query, Output, output}
use Rattle.sqlite.specs.Effect.{Answers, Database, value_rows}
use Rattle.sqlite.specs.Does.{Does, OnRows, Tally}
use Rattle.sqlite.specs.Rows.{Outcome, Written, stamped}
use Rattle.sqlite.specs.declared.run.Mode.{Mode}
use Rattle.sqlite.specs.State.{State, mode_of, Executes}
use Rattle.sqlite.specs.Listing.{understood}
use Rattle.sqlite.specs.Program.{overlay}
use Rattle.sqlite.proofs.Callers.{one_permutation, one_step, runs_as, statement_of}
use Rattle.sqlite_schema.specs.declared.program.Program.{Program}
use Rattle.sqlite_schema.specs.declared.schema.Keys.{Keys}
use Rattle.sqlite_rules.specs.Action.{works}
use Rattle.sqlite_rules.specs.Calls.{ids_of}
use Rattle.sqlite_trees.proofs.ListLemmas.{filter_same, all_weaker}
use Rattle.pw_schema.specs.Tables.{IsOurs, ours_with, only_one}
use Rattle.pw_schema.proofs.Steps.{one_delete, one_insert, plain_task, same_value, uncounted, went}
use Rattle.pw_model.specs.Counting.{EachOnce, Member}
use Rattle.pw_store.specs.Keyed.{AreKeyed, HasRowid}
use Rattle.pw_store.proofs.Texts.{IsInsert, plain_query}
use Rattle.pw_store.proofs.KeptTexts.{IsDelete, IsUpdate}
use Rattle.pw_store.proofs.Scans.{scans, outputs, IsScan}
use Rattle.pw_store.proofs.Lists.{plainly}
use Rattle.pw_store.proofs.KeptRows.{ids, leaves}

-- the query by which DELETE and UPDATE find rows, with what UPDATE makes of each
abbrev found_by : Table → List Term → List Term → Query
found_by table tests makes = plain_query table.tree tests (col 1 0 ∷ makes)

abbrev pub program_of : Table → List Term → List Term → Program
program_of table tests makes = record { lets = []; body = found_by table tests makes }

-- the rows that it has found were taken out of the table
abbrev pub HasDeleted : Table → List Term → Row → State → State → Type 0
HasDeleted table tests params old new =
    (new.now.schema ≡ ours_with only_one)
    × ((rows : List Row) × Answers (record { schema = ours_with only_one; trees = old.now.trees }) (program_of table tests []) params rows
    × Applies (ours_with only_one) (mode_of old).keys old.now.trees (edit_of old.now.trees (uncounted table) (ids_of rows) Given 0 []) new.now.trees)

-- the rows that it has found, so many, were made anew
abbrev pub set_by : Trees → Table → List Row → Edit
set_by db table rows = edit_of db (uncounted table) (ids_of rows) Given 1 rows

abbrev pub HasSet : Table → List Term → List Term → Row → ℕ → State → State → Type 0
HasSet table tests makes params count old new =
    (new.now.schema ≡ ours_with only_one)
    × ((rows : List Row) × Answers (record { schema = ours_with only_one; trees = old.now.trees }) (program_of table tests makes) params rows
    × Applies (ours_with only_one) (mode_of old).keys old.now.trees (set_by old.now.trees table rows) new.now.trees × (count ≡ length (set_by old.now.trees table rows).news))

-- these rows were put into the table
abbrev pub HasInsertedAll : Table → List Row → State → State → Type 0
HasInsertedAll table rows old new =
    (new.now.schema ≡ ours_with only_one) × Applies (ours_with only_one) (mode_of old).keys old.now.trees (edit_of old.now.trees (uncounted table) [] Chosen 0 rows) new.now.trees

-- this one was
abbrev pub HasInserted : Table → Row → State → State → Type 0
HasInserted table row = HasInsertedAll table (row ∷ [])

-- at its place in the list of tables a command works on the rows of this table
abbrev IsOnRows : List ℕ → Table → Row → Command → State → Type 0
IsOnRows text table params command old =
    (out : Outcome (Tally × Database)) → Does old.step_limit (mode_of old) params (record old.now { schema = ours_with only_one }) (statement_of text (understood (ours_with only_one) text)) None command out
    → OnRows (plain_task old.step_limit (mode_of old).keys (ours_with only_one) table params) (mode_of old) None command old.now.trees out

-- what a plain UPDATE makes of the trees, for any table, and how many rows it tells
one_set : (limit : Option ℕ) (keys : Keys) (schema : Schema) (t : Table) (params : Row) (mode : Mode) (db : Trees) (at : ℕ) (q : Program) (tally : Tally) (after : Database)
    → ((olds news : List Row) → works schema keys 0 t.tree olds news ≡ [])
    → OnRows (plain_task limit keys schema t params) mode None (Update at q) db (Ok (tally, after))
    → (after.schema ≡ schema) × ((rows : List Row) × Answers (record { schema = schema; trees = db }) q params rows × Applies schema keys db (set_by db t rows) after.trees × (tally.rows ≡ Some (length (set_by db t rows).news)))
one_set limit keys schema t params mode db at q tally after none h =
    let done = went h in
    let told = same_value (went (went done.2).2).2 in
    let now = ap (λ (p : Tally × Database). p.1) told in
    let given = went done.1 in
    let written = went given.2 in
    let it = same_value written.2 in
    let after_trees : written.0 ≡ after.trees = sym (ap (λ (d : Database). d.trees) now ∙ ap (λ (w : Written). w.trees) it) in
    let got = one_step schema keys db written.0 (set_by db t given.0) (none _ _) written.1 in
    (ap (λ (d : Database). d.schema) now, (given.0, given.1, subst (Applies schema keys db (set_by db t given.0)) after_trees got, ap (λ (p : Tally × Database). p.0.rows) told ∙ ap (λ (w : Written). Some (length w.rows)) it))

module _ (text : List ℕ) (at : ℕ) (params : Row) (old new : State) (ours : IsOurs old.now.schema) (count : ℕ) (h : Executes text params old new (Ok count)) (table : Table) where
  pub deletes : (tests : List Term) → IsDelete text at (found_by table tests []) → IsOnRows text table params (Delete at (program_of table tests [])) old
      → ((olds : List Row) → works (ours_with only_one) (mode_of old).keys 0 table.tree olds [] ≡ []) → HasDeleted table tests params old new
  deletes tests it on_rows quiet =
      let command = Delete at (program_of table tests []) in
      let w = runs_as text params old new (ours_with only_one) ours command (it.is only_one) (it.plain only_one) count h in
      one_delete old.step_limit (mode_of old).keys (ours_with only_one) table params (mode_of old) old.now.trees at (program_of table tests []) w.tally new.now quiet
      (on_rows _ (subst (λ s. Does old.step_limit (mode_of old) params (record old.now { schema = s }) (statement_of text (understood (ours_with only_one) text)) None command (Ok (w.tally, new.now))) ours w.changed))

  pub sets : (tests makes : List Term) → IsUpdate text at (found_by table tests makes) → IsOnRows text table params (Update at (program_of table tests makes)) old
      → ((olds news : List Row) → works (ours_with only_one) (mode_of old).keys 0 table.tree olds news ≡ []) → HasSet table tests makes params count old new
  sets tests makes it on_rows quiet =
      let command = Update at (program_of table tests makes) in
      let w = runs_as text params old new (ours_with only_one) ours command (it.is only_one) (it.plain only_one) count h in
      let got = one_set old.step_limit (mode_of old).keys (ours_with only_one) table params (mode_of old) old.now.trees at (program_of table tests makes) w.tally new.now quiet
      (on_rows _ (subst (λ s. Does old.step_limit (mode_of old) params (record old.now { schema = s }) (statement_of text (understood (ours_with only_one) text)) None command (Ok (w.tally, new.now))) ours w.changed)) in
      (got.0, (got.1.0, got.1.1, got.1.2, w.counted ∙ ap (λ n. unwrap_or n 0) got.1.3))

  pub inserts_all : (width : ℕ) (terms : List Term) (rows : List Row) → IsInsert text at width terms → IsOnRows text table params (Insert at (Values terms width)) old
      → ((news : List Row) → works (ours_with only_one) (mode_of old).keys 0 table.tree [] news ≡ []) → value_rows (stamped table params) width (length terms / width) terms ≡ rows → HasInsertedAll table rows old new
  inserts_all width terms rows it on_rows quiet values =
      let command = Insert at (Values terms width) in
      let w = runs_as text params old new (ours_with only_one) ours command (it.is only_one) (it.plain only_one) count h in
      one_insert old.step_limit (mode_of old).keys (ours_with only_one) table params (mode_of old) old.now.trees at width terms rows w.tally new.now values quiet
      (on_rows _ (subst (λ s. Does old.step_limit (mode_of old) params (record old.now { schema = s }) (statement_of text (understood (ours_with only_one) text)) None command (Ok (w.tally, new.now))) ours w.changed))

  pub inserts : (width : ℕ) (terms : List Term) (row : Row) → IsInsert text at width terms → IsOnRows text table params (Insert at (Values terms width)) old
      → ((news : List Row) → works (ours_with only_one) (mode_of old).keys 0 table.tree [] news ≡ []) → value_rows (stamped table params) width (length terms / width) terms ≡ row ∷ [] → HasInserted table row old new
  inserts width terms row = inserts_all width terms (row ∷ [])

nothing : (rows : List Row) → length rows ≡ 0 → rows ≡ []
nothing [] few = refl
nothing (r ∷ rows) few = absurd (omega (arith, few))

untaken : (a b : Bool) → (not a && b) ≡ true → a ≡ false
untaken true b e = absurd (let bad : false ≡ true = e in cc)
untaken false b e = refl

-- ---- where the rows that pass are those with the key
module _ (table : Table) (tests makes : List Term) (params : Row) (IsRow : Row → Type 0) (at_key : Row → Bool) (passes_at : (r : Row) → IsRow r → list_all (holds (params ∷ r ∷ [])) tests ≡ at_key r) where
  abbrev passes : Row → Bool
  passes r = list_all (holds (params ∷ r ∷ [])) tests

  abbrev shown : List Row → List Row
  shown rows = map (λ (o : Output). o.1) (map (output (found_by table tests makes)) (map (λ row. params ∷ row ∷ []) rows))

  shown_ids : (rows : List Row) → ids_of (shown rows) ≡ ids rows
  shown_ids [] = refl
  shown_ids (row ∷ rows) = ap (λ more. id_in (rowid row) ∷ more) (shown_ids rows)

  -- what is found shows the rows with the key, in some order
  found : (all rows : List Row) → AllByRecursion IsRow all → IsScan (found_by table tests makes) params all rows → IsPermutation (shown (filter at_key all)) rows
  found all rows are s =
      let same = filter_same passes at_key all (all_weaker IsRow (λ row. passes row ≡ at_key row) passes_at all are) in
      subst₂ (λ xs ys. IsPermutation (shown xs) ys) same (sym s.shown) (IsPermutation-map (λ (o : Output). o.1) (outputs (found_by table tests makes) params all) s.ordered s.same)

  seen : (db : Trees) (rows : List Row) → AllByRecursion IsRow (db table.tree) → Answers (record { schema = ours_with only_one; trees = db }) (program_of table tests makes) params rows → IsPermutation (shown (filter at_key (db table.tree))) rows
  seen db rows are answers =
      let scan = scans table.tree (found_by table tests makes) (overlay db []) params rows (answers.answer Null) in
      found (db table.tree) rows are (subst (λ all. IsScan (found_by table tests makes) params all rows) (plainly db table.tree) scan)

  module _ {K : Type 0} (key_in : Row → K) where
    -- without the rows that were found, those without the key are left
    left_by_key : (all rows : List Row) → AreKeyed IsRow key_in all → IsPermutation (shown (filter at_key all)) rows → without_all all (ids_of rows) ≡ filter (λ row. not (at_key row)) all
    left_by_key all rows keyed same =
        let moved = IsPermutation-map (λ r. id_in (rowid r)) (shown (filter at_key all)) rows same in
        leaves at_key all (ids_of rows) keyed.numbered keyed.ids (subst (λ xs. IsPermutation xs (ids_of rows)) (shown_ids (filter at_key all)) moved)

  -- the row that UPDATE makes of one
  abbrev pub made_of : Row → Row
  made_of r = cast_row (uncounted table) (eval_all makes (params ∷ r ∷ []))

  -- no row has the key, or one has it
  abbrev IsAlone : List Row → Type 0
  IsAlone rows = ((filter at_key rows ≡ []) × (find at_key rows ≡ None)) ⊎ ((r : Row) × IsRow r × HasRowid r × (at_key r ≡ true) × (filter at_key rows ≡ r ∷ []))

  -- no row had the key, and the rows are the same; or one had it, which was made anew
  abbrev pub IsSet : List Row → List Row → ℕ → Type 0
  IsSet old new count =
      ((count ≡ 0) × (find at_key old ≡ None) × (new ≡ old))
      ⊎ ((r : Row) × (count ≡ 1) × IsRow r × HasRowid r × (at_key r ≡ true)
      × (is_taken (filter (λ row. not (at_key row)) old) (made_of r) ≡ false) × (new ≡ put_row (made_of r) (filter (λ row. not (at_key row)) old)))

  module _ {K : Type 0} (key_in : Row → K) (k : K) (hit : (r : Row) → at_key r ≡ true → key_in r ≡ k) where
    no_more : (r : Row) (rows : List Row) → at_key r ≡ true → (Member (key_in r) (map key_in rows) → ⊥) → filter at_key rows ≡ []
    no_more r [] up none = refl
    no_more r (x ∷ rows) up none = elim (cases_Bool (at_key x)) [
      | inl both ↦ absurd (none (inl (hit r up ∙ sym (hit x both))))
      | inr miss ↦ rw miss (no_more r rows up (λ m. none (inr m)))
    ]

    alone : (rows : List Row) → AllByRecursion IsRow rows → AllByRecursion HasRowid rows → EachOnce (map key_in rows) → IsAlone rows
    alone [] each ids once = inl (refl, refl)
    alone (r ∷ rows) each ids once = elim (cases_Bool (at_key r)) [
      | inl up ↦ inr (r, each.0, ids.0, up, rw up (ap (λ more. r ∷ more) (no_more r rows up once.0)))
      | inr down ↦ elim (alone rows each.1 ids.1 once.1) [
        | inl none ↦ inl (rw down none.0, rw down none.1)
        | inr one ↦ inr (one.0, one.1, one.2, one.3, rw down one.4)
      ]
    ]

    module _ (old new : State) (count : ℕ) (set : HasSet table tests makes params count old new) (keyed : AreKeyed IsRow key_in (old.now.trees table.tree)) where
      abbrev before : List Row
      before = old.now.trees table.tree

      same : IsPermutation (shown (filter at_key before)) set.1.0
      same = seen old.now.trees set.1.0 keyed.each set.1.1

      none_set : filter at_key before ≡ [] → find at_key before ≡ None → IsSet before (new.now.trees table.tree) count
      none_set none unseen =
          let rows : set.1.0 ≡ [] = nothing set.1.0 (length_permutation [] set.1.0 (subst (λ xs. IsPermutation (shown xs) set.1.0) none same)) in
          inl (set.1.3 ∙ ap (λ xs. length (set_by old.now.trees table xs).news) rows, unseen, set.1.2.rows ∙ ap (λ xs. edited old.now.trees (set_by old.now.trees table xs)) rows)

      one_made : (r : Row) → IsRow r → HasRowid r → at_key r ≡ true → filter at_key before ≡ r ∷ [] → IsSet before (new.now.trees table.tree) count
      one_made r is id at one =
          let rows : set.1.0 ≡ shown (r ∷ []) = one_permutation _ set.1.0 (subst (λ xs. IsPermutation (shown xs) set.1.0) one same) in
          let left = subst (λ xs. without_all before (ids_of xs) ≡ filter (λ row. not (at_key row)) before) rows (left_by_key key_in before set.1.0 keyed same) in
          let fresh = subst (λ xs. are_fresh (without_all before (ids_of xs)) (set_by old.now.trees table xs).news ≡ true) rows set.1.2.fresh in
          inr (
            r,
            set.1.3 ∙ ap (λ xs. length (set_by old.now.trees table xs).news) rows,
            is,
            id,
            at,
            untaken _ _ (subst (λ xs. are_fresh xs (made_of r ∷ []) ≡ true) left fresh),
            set.1.2.rows ∙ ap (λ xs. edited old.now.trees (set_by old.now.trees table xs)) rows ∙ ap (put_row (made_of r)) left,
          )

      pub set_or_not : IsSet before (new.now.trees table.tree) count
      set_or_not = elim (alone before keyed.each keyed.ids keyed.once) [
        | inl none ↦ none_set none.0 none.1
        | inr one ↦ one_made one.0 one.1 one.2 one.3 one.4
      ]

-- what DELETE leaves are the rows without the key
pub others_left : (table : Table) (tests : List Term) (params : Row) (IsRow : Row → Type 0) (at_key : Row → Bool) (passes_at : (r : Row) → IsRow r → list_all (holds (params ∷ r ∷ [])) tests ≡ at_key r) {K : Type 0} (key_in : Row → K) (old new : State)
    → HasDeleted table tests params old new → AreKeyed IsRow key_in (old.now.trees table.tree) → new.now.trees table.tree ≡ filter (λ row. not (at_key row)) (old.now.trees table.tree)
others_left table tests params IsRow at_key passes_at key_in old new deleted keyed =
    let it = deleted.1 in
    it.2.rows ∙ left_by_key table tests [] params IsRow at_key passes_at key_in (old.now.trees table.tree) it.0 keyed (seen table tests [] params IsRow at_key passes_at old.now.trees it.0 keyed.each it.1)
