-- BEGIN, COMMIT and ROLLBACK, whatever the tables are.
use Rattle.std.proofs.Common.{codes, Option, Some, None, ◌≡◌, ◌⊎◌, inl, inr, ℕ, List, [], true, false, Ok, Err, Result, refl, sym, ap, subst, ◌∙◌, IsTrue, OnOk, OnErr}
use Rattle.sqlite.specs.Tree.{Trees}
use Rattle.sqlite.specs.Order.{Row}
use Rattle.sqlite.specs.Command.{Command}
use Rattle.sqlite.specs.Command.TheVariants.{Begin, Commit, Rollback, Release}
use Rattle.sqlite.specs.Schema.{Schema}
use Rattle.sqlite_tied.specs.Compute.{everything}
use Rattle.sqlite.specs.Listing.{understood}
use Rattle.sqlite.specs.declared.error.Error.{Error}
use Rattle.sqlite.specs.State.{State, HasCleanDisk, Executes, IsUnchanged, IsRolledBack, Shows, Survives, CommitsBy, mode_of, text_of}
use Rattle.sqlite.specs.Clock.{timed}
use Rattle.sqlite.specs.Does.{Does, Tally}
use Rattle.sqlite.specs.Effect.{Database}
use Rattle.sqlite.specs.declared.run.Mode.{Mode}
use Rattle.sqlite_schema.specs.declared.command.Returning.{Returning}
use Rattle.sqlite.proofs.Callers.{command_of, runs_as, IsPlain}
use Rattle.sqlite.proofs.StateLemmas.{survives_weaker}
use Rattle.pw_schema.specs.Calls.{Writes}
use Rattle.pw_schema.proofs.Outcomes.{fails}

abbrev pub begin_text : List ℕ
begin_text = codes "BEGIN"

abbrev pub commit_text : List ℕ
commit_text = codes "COMMIT"

abbrev pub rollback_text : List ℕ
rollback_text = codes "ROLLBACK"

-- a text is understood so, whatever the schema
abbrev Means : List ℕ → Command → Type 0
Means sql command = (s : Schema) → (command_of (understood s sql) ≡ command) × IsPlain (understood s sql)

begin_means : Means begin_text Begin
unfolding understood everything
begin_means s = (refl, (refl, refl))

commit_means : Means commit_text Commit
unfolding understood everything
commit_means s = (refl, (refl, refl))

rollback_means : Means rollback_text Rollback
unfolding understood everything
rollback_means s = (refl, (refl, refl))

pub begins : (old new : State) (r : Result ℕ Error) → Executes begin_text [] old new r → OnOk r (Shows old new old.now old.committed true)
begins old new (Err e) h = tt
begins old new (Ok n) h = (runs_as begin_text [] old new old.now.schema refl Begin (begin_means _).0 (begin_means _).1 n h).1

pub commits : (old new : State) (r : Result ℕ Error) → Executes commit_text [] old new r → OnOk r (Shows old new old.now old.now false)
commits old new (Err e) h = tt
commits old new (Ok n) h = (runs_as commit_text [] old new old.now.schema refl Commit (commit_means _).0 (commit_means _).1 n h).1

pub rolls_back : (old new : State) (r : Result ℕ Error) → Executes rollback_text [] old new r → OnOk r (IsRolledBack old new)
rolls_back old new (Err e) h = tt
rolls_back old new (Ok n) h = (runs_as rollback_text [] old new old.now.schema refl Rollback (rollback_means _).0 (rollback_means _).1 n h).1

pub either_fails : (old new : State) (sql : List ℕ) (params : Row) (r : Result ℕ Error) → Executes sql params old new r → OnErr r (IsUnchanged old new ⊎ IsRolledBack old new)
either_fails old new sql params (Ok n) h = tt
either_fails old new sql params (Err e) h = fails old new sql params e h

pub on_error : {T E P : Type 0} (r : Result T E) → P → OnErr r P
on_error (Ok x) p = tt
on_error (Err e) p = p

-- none of the three writes by itself
no_write : (limit : Option ℕ) (mode : Mode) (params : Row) (db : Database) (text : List ℕ) (returning : Option Returning) (out : Tally × Database) → Does limit mode params db text returning Commit (Ok out) → ⊥
no_write limit mode params db text None out h = let e = h in cc
no_write limit mode params db text (Some r) out h = let e = h in cc

no_write_begin : (limit : Option ℕ) (mode : Mode) (params : Row) (db : Database) (text : List ℕ) (returning : Option Returning) (out : Tally × Database) → Does limit mode params db text returning Begin (Ok out) → ⊥
no_write_begin limit mode params db text None out h = let e = h in cc
no_write_begin limit mode params db text (Some r) out h = let e = h in cc

no_write_rollback : (limit : Option ℕ) (mode : Mode) (params : Row) (db : Database) (text : List ℕ) (returning : Option Returning) (out : Tally × Database) → Does limit mode params db text returning Rollback (Ok out) → ⊥
no_write_rollback limit mode params db text None out h = let e = h in cc
no_write_rollback limit mode params db text (Some r) out h = let e = h in cc

pub commit_leaves : (old new : State) → Survives old new (CommitsBy commit_text [] old) → Survives old new (λ db. db ≡ old.now.trees)
unfolding CommitsBy
commit_leaves old new s = survives_weaker old new _ _ (λ clean db h.
    let same : h.0.command ≡ Commit = sym (ap command_of h.1.is) ∙ (commit_means old.now.schema).0 in
    elim h.2 [
      | inl ends ↦ ends.1
      | inr writes ↦ absurd (no_write old.step_limit (mode_of old) (timed [] h.0.formats h.1.now) old.now (text_of commit_text h.0) h.0.returning _
          (subst (λ k. Does old.step_limit (mode_of old) (timed [] h.0.formats h.1.now) old.now (text_of commit_text h.0) h.0.returning k (Ok (writes.1, writes.2))) same writes.3))
    ]) s

-- a text that commits nothing and writes no rows
leaves_none : (old new : State) (sql : List ℕ) (command : Command) → Means sql command → ¬ (command ≡ Commit) → ((name : List ℕ) → ¬ (command ≡ Release name)) → ((limit : Option ℕ) (mode : Mode) (params : Row) (db : Database) (text : List ℕ) (returning : Option Returning) (out : Tally × Database) → Does limit mode params db text returning command (Ok out) → ⊥)
    → Survives old new (CommitsBy sql [] old) → Survives old new (λ _. ⊥)
unfolding CommitsBy
leaves_none old new sql command means no_commit no_release no_rows s = survives_weaker old new _ _ (λ clean db h.
    let same : h.0.command ≡ command = sym (ap command_of h.1.is) ∙ (means old.now.schema).0 in
    elim h.2 [
      | inl ends ↦ elim ends.0 [
        | inl commit ↦ no_commit (sym same ∙ commit)
        | inr release ↦ no_release release.0 (sym same ∙ release.2)
      ]
      | inr writes ↦ no_rows old.step_limit (mode_of old) (timed [] h.0.formats h.1.now) old.now (text_of sql h.0) h.0.returning _
          (subst (λ k. Does old.step_limit (mode_of old) (timed [] h.0.formats h.1.now) old.now (text_of sql h.0) h.0.returning k (Ok (writes.1, writes.2))) same writes.3)
    ]) s

pub begin_leaves : (old new : State) → Survives old new (CommitsBy begin_text [] old) → Survives old new (λ _. ⊥)
begin_leaves old new s = leaves_none old new begin_text Begin begin_means (λ e. absurd cc) (λ name e. absurd cc) no_write_begin s

pub rollback_leaves : (old new : State) → Survives old new (CommitsBy rollback_text [] old) → Survives old new (λ _. ⊥)
rollback_leaves old new s = leaves_none old new rollback_text Rollback rollback_means (λ e. absurd cc) (λ name e. absurd cc) no_write_rollback s

-- what is left behind a text that fails, and behind one that is done
pub failed_so : {T : Type 0} (answer : Result T Error) (old new : State) (sql : List ℕ) (e : Error) → (HasCleanDisk new → Executes sql [] old new (Err e)) → Survives old new (λ _. ⊥) → Writes answer old new
failed_so answer old new sql e h s = record { failed = λ clean. on_error answer (either_fails old new sql [] (Err e) (h clean)); crash = s }

pub done_so : {T : Type 0} (x : T) (old new : State) → Survives old new (λ _. ⊥) → Writes {E = Error} (Ok x) old new
done_so x old new s = record { failed = λ clean. tt; crash = s }

pub commit_alone : (old new : State) (r : Result ℕ Error) → OnOk r (Shows old new old.now old.now false) → ((db : Trees) → IsTrue new.is_open → new.may_leave db → db ≡ new.committed.trees) → OnOk r ((db : Trees) → new.may_leave db → db ≡ old.now.trees)
commit_alone old new (Err e) shown law = tt
commit_alone old new (Ok n) shown law = λ db may. law db shown.is_open may ∙ ap (λ (d : Database). d.trees) shown.committed_is

pub commit_stays : (old new : State) (r : Result ℕ Error) → OnOk r (Shows old new old.now old.now false) → (IsTrue new.is_open → new.may_leave new.committed.trees) → OnOk r (new.may_leave old.now.trees)
commit_stays old new (Err e) shown law = tt
commit_stays old new (Ok n) shown law = subst new.may_leave (ap (λ (d : Database). d.trees) shown.committed_is) (law shown.is_open)
