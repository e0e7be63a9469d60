-- Rows that a query shows one at a time.
use Rattle.std.proofs.Common.{◌≡◌, ◌⊎◌, inl, inr, ℕ, List, [], ◌++◌, Result, Ok, Err, refl, sym, subst, ◌∙◌, IsTrue, OnOk}
use Rattle.sqlite.specs.Order.{Row}
use Rattle.sqlite.specs.Effect.{Database}
use Rattle.sqlite.specs.Listing.{understood, reads_listing, IsSourceOf}
use Rattle.sqlite.specs.State.{State, HasCleanDisk, IsUnchanged, IsRolledBack, KeepsCommit, Shown, ShowsRows, Begins, FailsToQuery, CommitsShowing, Survives}
use Rattle.sqlite.specs.declared.error.Error.{Error}
use Rattle.sqlite.specs.Clock.{timed}
use Rattle.sqlite.proofs.Callers.{IsPlain, EndsIn, command_of, begins_shown, unchanged_then}
use Rattle.sqlite_resolve.specs.declared.compiled.Compiled.{Compiled}
use Rattle.sqlite_resolve.specs.declared.error.CompileError.{CompileError}
use Rattle.sqlite_schema.specs.declared.command.Command.{Command}
use Rattle.sqlite_schema.specs.declared.command.Command.TheVariants.{Select}
use Rattle.sqlite_sql.specs.Program.{Ends}
use Rattle.sqlite.specs.Query.{Query}
use Rattle.sqlite.specs.Schema.{Schema}
use Rattle.sqlite.proofs.StateLemmas.{survives_then}
use Rattle.pw_schema.proofs.Outcomes.{early, fails_query, read_survives}
use Rattle.pw_schema.specs.Calls.{Looks}
use Rattle.pw_schema.specs.Tables.{IsOurs, only_one, ours_with}
use Rattle.pw_store.specs.declared.fault.OpenFault.{OpenFault}
use Rattle.pw_store.specs.declared.fault.OpenFault.TheVariants.{Store, Memory, OfficeDiffers, Version, Unclean}
use Rattle.pw_store.specs.inner.Opened.{RefusesUnless}
use Rattle.pw_store.specs.inner.Scanning.{HasTaken, IsOneQuery, IsOther, IsSelect}
use Rattle.pw_store.proofs.Texts.{IsQuery}

pub plain_of : (r : Result Compiled CompileError) → IsOneQuery r → IsPlain r
plain_of (Ok c) one = one.0
plain_of (Err e) one = absurd one

-- what was undone, or not done at all, committed nothing
pub keeps : (old new : State) → IsUnchanged old new ⊎ IsRolledBack old new → KeepsCommit old new
keeps old new (inl same) = record { was_open = λ live. same.0.was_open; committed = λ live. same.0.committed_is }
keeps old new (inr back) = record { was_open = back.was_open; committed = λ live. (back.undone live).1 }

pub keeps_on : (old mid new : State) → IsUnchanged old mid → KeepsCommit mid new → KeepsCommit old new
keeps_on old mid new same keeps = record { was_open = λ live. same.0.was_open; committed = λ live. keeps.committed live ∙ same.0.committed_is }

pub fails_keeping : (sql : List ℕ) (old new : State) (e : Error) → IsOneQuery (understood old.now.schema sql) → FailsToQuery sql [] old new e → KeepsCommit old new
fails_keeping sql old new e one h = keeps old new (fails_query old new sql [] e (plain_of _ one) h)

pub survives_one : (sql : List ℕ) (old new : State) → (HasCleanDisk old → IsOneQuery (understood old.now.schema sql)) → Survives old new (CommitsShowing sql [] old) → Survives old new (λ _. ⊥)
survives_one sql old new one s = read_survives old new sql [] (λ clean. plain_of _ (one clean)) s

-- it ends, since nothing is computed before it
ends_in : (command : Command) (db : Database) (params : Row) → IsSelect command → EndsIn command db params
ends_in (Select q names) db params none = subst (λ l. Ends db.trees params [] l) (sym none) tt
ends_in _ db params none = absurd none

select_of : (r : Result Compiled CompileError) (c : Compiled) → IsOneQuery r → r ≡ Ok c → IsSelect c.command
select_of r c one is = (subst IsOneQuery is one).1

-- a connection that is open is unchanged beside itself
pub itself : (s : State) → IsTrue s.is_open → IsUnchanged s s
itself s live = (
  record { was_open = live; is_open = live; now_is = refl; committed_is = refl; mode = refl },
  record { changes = refl; last_rowid = refl },
  refl,
)

-- what is shown of a connection is shown of it as it was before
pub shown_first : (sql : List ℕ) (first old new : State) (rows : List Row) → IsOneQuery (understood first.now.schema sql) → IsUnchanged first old → Shown sql [] old new rows → Shown sql [] first new rows
unfolding Shown
shown_first sql first old new rows one same h =
    let is : understood first.now.schema sql ≡ Ok h.0 = subst (λ (d : Database). understood d.schema sql ≡ Ok h.0) same.0.now_is h.1.is in
    let none = (subst IsPlain is (plain_of _ one)).0 in
    let full = timed [] h.0.formats h.1.now in
    let it = subst (λ r. ShowsRows old new sql h.0 full rows r) none h.2 in (
      h.0,
      record { is = is; whole = h.1.whole; given = h.1.given; now = h.1.now },
      subst (λ r. ShowsRows first new sql h.0 full rows r) (sym none) (it.0, subst (λ (d : Database). IsSourceOf (reads_listing d.schema sql) d it.0) same.0.now_is it.1, it.2, unchanged_then first old new same it.3),
    )

-- rows that begin an answer are the first of a whole one
pub begun_whole : (sql : List ℕ) (first now : State) (rows : List Row) → IsOneQuery (understood first.now.schema sql) → IsUnchanged first now → Begins sql [] now rows → (tail : List Row) × Shown sql [] first now (rows ++ tail)
begun_whole sql first now rows one same begins =
    let here : IsOneQuery (understood now.now.schema sql) = subst (λ (d : Database). IsOneQuery (understood d.schema sql)) (sym same.0.now_is) one in
    let whole = begins_shown sql [] now now rows begins (itself now same.0.is_open) (λ c db it source. ends_in c.command db _ (select_of _ c here it.is)) in
    (whole.0, shown_first sql first now now (rows ++ whole.0) one same whole.1)

pub err_is : {A E : Type 0} (d e : E) → ◌≡◌ {A = Result A E} (Err d) (Err e) → d ≡ e
err_is d e is = cc

-- ---- over our tables
one_query : (r : Result Compiled CompileError) (q : Query) (names : List (List ℕ)) → IsPlain r → command_of r ≡ Select (record { lets = []; body = q }) names → IsOneQuery r
one_query (Ok c) q names plain is = (plain, subst IsSelect (sym is) refl)
one_query (Err e) q names plain is = absurd plain

pub ours_one : {text : List ℕ} {q : Query} → IsQuery text q → (s : Schema) → IsOurs s → IsOneQuery (understood s text)
ours_one {text} {q} it s ours = subst (λ t. IsOneQuery (understood t text)) (sym ours) (one_query (understood (ours_with only_one) text) q it.names (it.plain only_one) (it.is only_one))

-- the same rows were taken, of which more is known
pub taken_if : {J A E : Type 0} (took : J → List Row → J → Type 0) (P Q : List Row → Type 0) (old new : J) (r : Result A E) → ((rows : List Row) → P rows → Q rows) → OnOk r (HasTaken took P old new) → OnOk r (HasTaken took Q old new)
taken_if took P Q old new (Ok a) f h = (h.0, h.1, f h.0 h.2)
taken_if took P Q old new (Err e) f h = tt

-- a fault that is none of version or text, and of rows only where they aren't such
pub refuses_unless : (AreSuch : Type 0) (fault : OpenFault) → IsOther {A = ℕ} (Err fault) → (◌≡◌ {A = Result ℕ OpenFault} (Err fault) (Err Unclean) → AreSuch → ⊥) → RefusesUnless AreSuch fault
refuses_unless AreSuch Store other refused = tt
refuses_unless AreSuch Memory other refused = tt
refuses_unless AreSuch OfficeDiffers other refused = elim other [ inl i ↦ cc | inr more ↦ elim more [ inl i ↦ cc | inr i ↦ cc ] ]
refuses_unless AreSuch Version other refused = elim other [ inl i ↦ cc | inr more ↦ elim more [ inl i ↦ cc | inr i ↦ cc ] ]
refuses_unless AreSuch Unclean other refused = refused refl

-- where more is asked of rows, they are refused too
pub refuses_more : (AreSuch AreMore : Type 0) (fault : OpenFault) → (AreMore → AreSuch) → RefusesUnless AreSuch fault → RefusesUnless AreMore fault
refuses_more AreSuch AreMore Store only refused = tt
refuses_more AreSuch AreMore Memory only refused = tt
refuses_more AreSuch AreMore OfficeDiffers only refused = refused
refuses_more AreSuch AreMore Version only refused = refused
refuses_more AreSuch AreMore Unclean only refused = λ more. refused (only more)

-- ---- one after the other
pub survives_on : (a b c : State) → Survives a b (λ _. ⊥) → Survives b c (λ _. ⊥) → Survives a c (λ _. ⊥)
survives_on a b c = survives_then a b c (λ _. ⊥) (λ _. ⊥) (λ _. ⊥) (λ clean db it. it) (λ clean db it. it)

-- a look behind one that found the connection unchanged
pub looks_on : {T E : Type 0} (r : Result T E) (a b c : State) → (HasCleanDisk b → IsUnchanged a b) → Survives a b (λ _. ⊥) → Looks r b c → Looks r a c
looks_on (Ok x) a b c same crash look = record {
  same = λ clean. unchanged_then a b c (same (early b c look.crash clean)) (look.same clean);
  kept = λ clean. keeps_on a b c (same (early b c look.crash clean)) (look.kept clean);
  crash = survives_on a b c crash look.crash;
}
looks_on (Err e) a b c same crash look = record {
  same = λ clean. tt;
  kept = λ clean. keeps_on a b c (same (early b c look.crash clean)) (look.kept clean);
  crash = survives_on a b c crash look.crash;
}

-- what a look that answered Ok leaves
abbrev pub HasLooked : State → State → Type 0
HasLooked a b = (HasCleanDisk b → IsUnchanged a b) × Survives a b (λ _. ⊥)

pub looked : {T E : Type 0} (x : T) (a b : State) → Looks {T = T} {E = E} (Ok x) a b → HasLooked a b
looked x a b look = (look.same, look.crash)

-- a look behind three
pub looks_last : {T E : Type 0} (r : Result T E) (a b c d e : State) → HasLooked a b → HasLooked b c → HasLooked c d → Looks r d e → Looks r a e
looks_last r a b c d e first second third look = looks_on r a b e first.0 first.1 (looks_on r b c e second.0 second.1 (looks_on r c d e third.0 third.1 look))
