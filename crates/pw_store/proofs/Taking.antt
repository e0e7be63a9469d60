-- What any DELETE or UPDATE leaves of the connection, and small lemmas on tests.
use Rattle.std.proofs.Common.{◌≡◌, ℕ, List, Bool, true, false, cond, Option, option_map, Some, None, Ok, Result, IsTrue, refl, sym, ap, subst, ◌∙◌}
use Rattle.sqlite.specs.Order.{Row}
use Rattle.sqlite.specs.Query.{Query}
use Rattle.sqlite.specs.Command.{Command}
use Rattle.sqlite.specs.Command.TheVariants.{Commit, Release}
use Rattle.sqlite.specs.Listing.{understood}
use Rattle.sqlite.specs.declared.error.Error.{Error}
use Rattle.sqlite.specs.State.{State, Shows, HasCleanDisk, Executes, Survives, CommitsBy, Runs, Writes as Written}
use Rattle.sqlite.proofs.Callers.{command_of, runs_as}
use Rattle.pw_schema.specs.Calls.{Writes}
use Rattle.pw_schema.specs.Tables.{ours_with, only_one, IsOurs}
use Rattle.pw_schema.proofs.Outcomes.{keeps_commit}
use Rattle.pw_store.proofs.Adding.{execute_fails}
use Rattle.pw_store.proofs.KeptTexts.{IsEdit, edit_at}

-- ---- any DELETE or UPDATE
module _ (sets : Bool) (text : List ℕ) (at : ℕ) (q : Query) (it : IsEdit sets text at q) where
  abbrev command : Command
  command = edit_at sets at q

  written : (edits : Bool) (old new : State) (run : List ℕ) (params : Row) (count : ℕ) → Runs old new None (edit_at edits at q) run params count → Written old new None (edit_at edits at q) run params count
  written true old new run params count h = h
  written false old new run params count h = h

  no_release : (edits : Bool) (name : List ℕ) → edit_at edits at q ≡ Release name → ⊥
  no_release true name e = absurd cc
  no_release false name e = absurd cc

  no_commit : (edits : Bool) → edit_at edits at q ≡ Commit → ⊥
  no_commit true e = absurd cc
  no_commit false e = absurd cc

  pub edit_inside : (old new : State) → IsOurs old.now.schema → (params : Row) (count : ℕ) → Executes text params old new (Ok count) → IsTrue old.in_transaction → Shows old new new.now old.committed true
  edit_inside old new ours params count h inside =
      let w = written sets old new _ params count (runs_as text params old new (ours_with only_one) ours command (it.is only_one) (it.plain only_one) count h) in
      let is : old.in_transaction ≡ true = inside in
      subst (λ b. Shows old new new.now (cond b old.committed new.now) b) is w.shown

  pub edits_if : (old new : State) (params : Row) (r : Result ℕ Error) → (HasCleanDisk old → IsOurs old.now.schema) → (HasCleanDisk old → IsTrue old.in_transaction) → (HasCleanDisk new → Executes text params old new r) → Survives old new (CommitsBy text params old) → Writes r old new
  edits_if old new params r ours inside runs s = record {
    failed = λ clean. execute_fails text old new params r (runs clean);
    crash = keeps_commit old new text params command (λ clean. ap (λ s. command_of (understood s text)) (ours clean) ∙ it.is only_one) (no_release sets) (no_commit sets) inside s;
  }

-- ---- tests
pub both_true : (a b : Bool) → (a ≡ true → b ≡ true) → (b ≡ true → a ≡ true) → a ≡ b
both_true true b f g = sym (f refl)
both_true false true f g = g refl
both_true false false f g = refl

-- where nothing is told of what was found, nothing was found
pub none_found : {A B : Type 0} (f : A → B) (x : Option A) → option_map f x ≡ None → x ≡ None
none_found f None e = refl
none_found f (Some a) e = absurd (let bad : Some (f a) ≡ None = e in cc)
