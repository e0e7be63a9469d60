-- What any query leaves of the connection.
use Rattle.std.proofs.Common.{Vec, ◌⊎◌, List, ℕ, Ok, Err, Result, subst, IfOk, IfErr, OnOk, OnErr}
use Rattle.sqlite.specs.Order.{Row}
use Rattle.sqlite.specs.Listing.{understood}
use Rattle.sqlite.specs.Clock.{timed}
use Rattle.sqlite.specs.declared.error.Error.{Error}
use Rattle.sqlite.specs.State.{State, HasCleanDisk, Shown, ShowsRows, IsUnchanged, IsRolledBack, Survives, CommitsShowing, FailsToQuery}
use Rattle.sqlite.proofs.Callers.{IsPlain}
use Rattle.pw_schema.specs.inner.Calls.{Asks}
use Rattle.pw_schema.proofs.Outcomes.{early, fails_query, read_survives}

-- the connection is as it was after a query
stays : (sql : List ℕ) (params : Row) (old new : State) (rows : List Row) → IsPlain (understood old.now.schema sql) → Shown sql params old new rows → IsUnchanged old new
unfolding Shown
stays sql params old new rows plain h =
    let none = (subst IsPlain h.1.is plain).0 in
    (subst (ShowsRows old new sql h.0 (timed params h.0.formats h.1.now) rows) none h.2).3

module _ (sql : List ℕ) (params : Row) (old new : State) where
  stays_if : {Z : Type 0} (r : Result (Vec Row Z) Error) → IsPlain (understood old.now.schema sql) → IfOk r (λ rows. Shown sql params old new rows.items) → OnOk r (IsUnchanged old new)
  stays_if (Ok rows) plain h = stays sql params old new rows.items plain h
  stays_if (Err e) plain h = tt

  fails_if : {Z : Type 0} (r : Result (Vec Row Z) Error) → IsPlain (understood old.now.schema sql) → IfErr r (FailsToQuery sql params old new) → OnErr r (IsUnchanged old new ⊎ IsRolledBack old new)
  fails_if (Ok rows) plain h = tt
  fails_if (Err e) plain h = fails_query old new sql params e plain h

  survives_if : (HasCleanDisk old → IsPlain (understood old.now.schema sql)) → Survives old new (CommitsShowing sql params old) → Survives old new (λ _. ⊥)
  survives_if plain s = read_survives old new sql params plain s

  -- all that a query leaves
  pub asks_if : {Z : Type 0} (r : Result (Vec Row Z) Error) → (HasCleanDisk old → IsPlain (understood old.now.schema sql)) → (HasCleanDisk new → IfOk r (λ rows. Shown sql params old new rows.items)) → (HasCleanDisk new → IfErr r (FailsToQuery sql params old new)) → Survives old new (CommitsShowing sql params old) → Asks r old new
  asks_if r plain ok err s = record {
    same = λ clean. stays_if r (plain (early old new s clean)) (ok clean);
    failed = λ clean. fails_if r (plain (early old new s clean)) (err clean);
    crash = survives_if plain s;
  }
