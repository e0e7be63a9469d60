-- What the row of `office` makes of the empty tables.
use Rattle.std.proofs.Common.{◌≡◌, ℕ, pos, List, [], ◌∷◌, codes, Bool, true, false, cond, None, Ok, Err, Result, OnOk, IsTrue, refl, ap, subst, ◌∙◌, arith}
use Rattle.std.specs.List.{AllByRecursion}
use Rattle.sqlite.specs.declared.types.Value.{Value}
use Rattle.sqlite.specs.declared.types.Value.TheVariants.{Null, Int, Blob}
use Rattle.sqlite.specs.declared.error.Error.{Error}
use Rattle.sqlite.specs.Ops.{unary}
use Rattle.sqlite.specs.Term.{Term, lit, col}
use Rattle.sqlite.specs.Table.{Table}
use Rattle.sqlite.specs.Kind.TheVariants.{Integer}
use Rattle.sqlite.specs.Source.TheVariants.{Values}
use Rattle.sqlite.specs.Command.TheVariants.{Insert}
use Rattle.sqlite.specs.Edit.{Applies, edit_of}
use Rattle.sqlite.specs.Cast.{cast}
use Rattle.sqlite.specs.Rowids.TheVariants.{Chosen}
use Rattle.sqlite.specs.Does.{Does}
use Rattle.sqlite.specs.Effect.{IsDatabase}
use Rattle.sqlite.specs.State.{State, mode_of, Executes, Shows, KeepsCommit, HasCleanDisk, Survives, CommitsBy}
use Rattle.sqlite.specs.Listing.{understood}
use Rattle.sqlite_tied.specs.Compute.{everything}
use Rattle.sqlite.proofs.Callers.{runs_as, statement_of, command_of, IsPlain}
use Rattle.pw_schema.specs.Tables.{ours_with, only_one, office_at}
use Rattle.pw_schema.specs.Fresh.{office_row, IsFresh}
use Rattle.pw_schema.specs.inner.Stages.{IsBlank, IsMaking}
use Rattle.pw_schema.proofs.Steps.{one_insert, uncounted}
use Rattle.pw_schema.proofs.Outcomes.{fails, keeps_commit}
use Rattle.sqlite.proofs.InsideLemmas.{unchanged_keeps}

abbrev pub put_office_text : List ℕ
put_office_text = codes "INSERT INTO office (id, version, body) VALUES (1, 3, ?1)"

abbrev terms : List Term
terms = lit (Int (pos 1)) ∷ lit Null ∷ lit (Int (pos 3)) ∷ col 0 0 ∷ []

pub put_office_is : command_of (understood (ours_with only_one) put_office_text) ≡ Insert 0 (Values terms 4)
unfolding understood everything
put_office_is = refl

pub put_office_plain : IsPlain (understood (ours_with only_one) put_office_text)
unfolding understood everything
put_office_plain = (refl, refl)

either : (b : Bool) (x : Value) → cond b x x ≡ x
either true x = refl
either false x = refl

pub cast_null : cast Integer Null ≡ Null
unfolding unary
cast_null = either _ Null

pub cast_int : (n : ℕ) → cast Integer (Int (pos n)) ≡ Int (pos n)
unfolding unary
cast_int n = either _ (Int (pos n))

abbrev ours : Table
ours = office_at 0 only_one

module _ (old new : State) (body : List ℕ) (count : ℕ) (blank : IsBlank (ours_with only_one) old.now) (h : Executes put_office_text (Blob body ∷ []) old new (Ok count)) where
  has : old.now.schema ≡ ours_with only_one
  has = blank.schema_is

  empty : AllByRecursion (λ t. old.now.trees t.tree ≡ []) (ours_with only_one).tables
  empty = blank.empty

  applied : (new.now.schema ≡ ours_with only_one) × Applies (ours_with only_one) (mode_of old).keys old.now.trees (edit_of old.now.trees (uncounted ours) [] Chosen 0 (office_row body ∷ [])) new.now.trees
  applied =
      let w = runs_as put_office_text (Blob body ∷ []) old new (ours_with only_one) has (Insert 0 (Values terms 4)) put_office_is put_office_plain count h in
      let text = statement_of put_office_text (understood (ours_with only_one) put_office_text) in
      one_insert old.step_limit (mode_of old).keys (ours_with only_one) ours (Blob body ∷ []) (mode_of old) old.now.trees 0 4 terms (office_row body ∷ []) w.tally new.now refl (λ _. refl)
      (subst (λ s. Does old.step_limit (mode_of old) (Blob body ∷ []) (record old.now { schema = s }) text None (Insert 0 (Values terms 4)) (Ok (w.tally, new.now))) has w.changed)

  pub fresh : IsFresh body new.now
  fresh =
      let it = applied.1 in
      let t = it.tables in
      record {
        schema_is = applied.0;
        office = it.rows ∙ rw (cast_null, cast_int 1, cast_int 3, empty.0) refl;
        reading = t.1.0 (λ e. absurd (omega (arith, e))) ∙ empty.1.0;
        assignment = t.1.1.0 (λ e. absurd (omega (arith, e))) ∙ empty.1.1.0;
        topup = t.1.1.1.0 (λ e. absurd (omega (arith, e))) ∙ empty.1.1.1.0;
        point = t.1.1.1.1.0 (λ e. absurd (omega (arith, e))) ∙ empty.1.1.1.1.0;
        start = t.1.1.1.1.1.0 (λ e. absurd (omega (arith, e))) ∙ empty.1.1.1.1.1.0;
        total = t.1.1.1.1.1.1.0 (λ e. absurd (omega (arith, e))) ∙ empty.1.1.1.1.1.1.0;
        total_topup = t.1.1.1.1.1.1.1.0 (λ e. absurd (omega (arith, e))) ∙ empty.1.1.1.1.1.1.1.0;
        withdrawn_reading = t.1.1.1.1.1.1.1.1.0 (λ e. absurd (omega (arith, e))) ∙ empty.1.1.1.1.1.1.1.1.0;
        withdrawn_assignment = t.1.1.1.1.1.1.1.1.1.0 (λ e. absurd (omega (arith, e))) ∙ empty.1.1.1.1.1.1.1.1.1.0;
        withdrawn_topup = t.1.1.1.1.1.1.1.1.1.1.0 (λ e. absurd (omega (arith, e))) ∙ empty.1.1.1.1.1.1.1.1.1.1.0;
        period_total = t.1.1.1.1.1.1.1.1.1.1.1.0 (λ e. absurd (omega (arith, e))) ∙ empty.1.1.1.1.1.1.1.1.1.1.1.0;
      }

  pub listed : IsDatabase new.now
  listed = (runs_as put_office_text (Blob body ∷ []) old new (ours_with only_one) has (Insert 0 (Values terms 4)) put_office_is put_office_plain count h).sound

  pub shown : Shows old new new.now (cond old.in_transaction old.committed new.now) old.in_transaction
  shown = (runs_as put_office_text (Blob body ∷ []) old new (ours_with only_one) has (Insert 0 (Values terms 4)) put_office_is put_office_plain count h).shown

pub open_if : (old new : State) (body : List ℕ) (out : Result ℕ Error) → IsMaking (ours_with only_one) old → Executes put_office_text (Blob body ∷ []) old new out → OnOk out (IsTrue new.is_open)
open_if old new body (Ok n) making h = (shown old new body n making.blank h).is_open
open_if old new body (Err e) making h = tt

pub office_kept : (old new : State) (body : List ℕ) (out : Result ℕ Error) → IsMaking (ours_with only_one) old → Executes put_office_text (Blob body ∷ []) old new out → KeepsCommit old new
office_kept old new body (Ok n) making h =
    let s = subst (λ b. Shows old new new.now (cond b old.committed new.now) b) making.inside (shown old new body n making.blank h) in record { was_open = λ _. s.was_open; committed = λ _. s.committed_is }
office_kept old new body (Err e) making h = unchanged_keeps old new (fails old new put_office_text (Blob body ∷ []) e h)

pub fresh_if : (old new : State) (body : List ℕ) (out : Result ℕ Error) → IsMaking (ours_with only_one) old → Executes put_office_text (Blob body ∷ []) old new out → OnOk out (IsFresh body new.now)
fresh_if old new body (Ok n) making h = fresh old new body n making.blank h
fresh_if old new body (Err e) making h = tt

pub listed_if : (old new : State) (body : List ℕ) (out : Result ℕ Error) → IsMaking (ours_with only_one) old → Executes put_office_text (Blob body ∷ []) old new out → OnOk out (IsDatabase new.now)
listed_if old new body (Ok n) making h = listed old new body n making.blank h
listed_if old new body (Err e) making h = tt

pub office_survives : (old new : State) (body : List ℕ) → (HasCleanDisk old → IsMaking (ours_with only_one) old) → Survives old new (CommitsBy put_office_text (Blob body ∷ []) old) → Survives old new (λ _. ⊥)
office_survives old new body making =
    keeps_commit old new put_office_text (Blob body ∷ []) (Insert 0 (Values terms 4)) (λ clean. ap (λ s. command_of (understood s put_office_text)) (making clean).blank.schema_is ∙ put_office_is) (λ name e. absurd cc) (λ e. absurd cc) (λ clean. (making clean).inside)
