use Rattle.std.proofs.Common.{[], ◌∷◌, ◌++◌, Err, rules, refl, ap, subst, append_assoc}
use Rattle.std.proofs.lemmas.Result.{IfOk-from_err}
use Rattle.sqlite.specs.Held.{state}
use Rattle.sqlite.specs.Order.{Row}
use Rattle.sqlite.specs.State.{CommitsShowing, HasCleanDisk, IsUnchanged, Shown}
use Rattle.sqlite.proofs.Callers.{begun_plain, given_begin, unchanged_then}
use Rattle.pw_schema.proofs.Outcomes.{early}
use Rattle.pw_store.proofs.Scanning.{begun_whole, err_is, fails_keeping, plain_of, shown_first, survives_one}
use Rattle.pw_store.proofs.scan.judge_each.Goals as goal

pub returns-in_err-rows-clause-looks : goal.returns-in_err-rows-clause-looks
returns-in_err-rows-clause-looks g c =
    let old = state g.S.Store c.args.conn.now in
    let new = state g.S.Store c.query.follows.lender-at-none in
    let held = rw c.in_err-rows.was at c.query.follows.holds-at-none in
    record {
      same = λ clean. IfOk-from_err c.from_residual.result _ c.from_residual.ensures.0;
      kept = λ clean. fails_keeping c.args.text.now old new c.in_err-rows.field-0.0 (c.requires.query (early old new {P = CommitsShowing c.args.text.now [] old} held.survives clean)) (held.err clean);
      crash = survives_one c.args.text.now old new c.requires.query held.survives;
    }

pub loop-count-init : goal.loop-count-init
loop-count-init g c =
    let made = c.in_ok-rows.ensures in
    let old = state g.S.Store c.args.conn.now in
    let new = state g.S.Store c.in_ok-rows.rows.conn.now in (
      refl,
      survives_one c.args.text.now old new c.requires.query made.survives,
      ([], c.requires.start, λ clean. begun_plain g.S.Store c.args.text.now [] c.args.conn.now c.in_ok-rows.rows.conn.now (plain_of _ (c.requires.query (early old new {P = CommitsShowing c.args.text.now [] old} made.survives clean))) (made.begun clean)),
    )

pub returns-in-None-clause-took : goal.returns-in-None-clause-took
returns-in-None-clause-took g c =
    let moved = c.next.follows.holds-at-none in
    let now = c.next.follows.lender-at-none.conn.now in
    let old = state g.S.Store c.args.conn.now in
    let mid = state g.S.Store c.loop-count.rows.conn.now in
    let new = state g.S.Store now in
    let given = c.loop-count.invariant.2 in (
      given.0,
      given.1,
      λ late. (
          let clean : HasCleanDisk new = search rules in
          let before = early mid new moved.survives clean in
          let was = given.2 before in
          let one = c.requires.query (early old mid c.loop-count.invariant.1 before) in
          let shown = shown_first c.args.text.now old mid new given.0 one was.1 ((rw (c.in_ok-row.was, c.in-None.is) at (moved.ok clean)) c.args.text.now [] given.0 was.0) in
          search rules
          ),
    )

pub returns-in-None-clause-looks : goal.returns-in-None-clause-looks
returns-in-None-clause-looks g c = record {
  same = search rules;
  kept = search rules;
  crash = search rules;
}

pub returns-in-Err-clause-refused : goal.returns-in-Err-clause-refused
returns-in-Err-clause-refused g c late is =
    let moved = c.next.follows.holds-at-none in
    let now = c.next.follows.lender-at-none.conn.now in
    let old = state g.S.Store c.args.conn.now in
    let mid = state g.S.Store c.loop-count.rows.conn.now in
    let new = state g.S.Store now in
    let given = c.loop-count.invariant.2 in
    let row : Row = c.in-Some.row.now in
    let clean : HasCleanDisk new = search rules in
    let before = early mid new moved.survives clean in
    let was = given.2 before in
    let one = c.requires.query (early old mid c.loop-count.invariant.1 before) in
    let on = (rw (c.in_ok-row.was, c.in-Some.is) at (moved.ok clean)) c.args.text.now [] given.0 was.0 in
    let same : IsUnchanged old new = unchanged_then old mid new was.1 (rw c.in_ok-row.was at (moved.same clean)) in
    let whole = begun_whole c.args.text.now old new (given.0 ++ row ∷ []) one same (given_begin g.S.Store c.args.text.now [] now (given.0 ++ row ∷ []) on) in
    let fault = c.fault_of_rows.ensures.foreign (err_is _ _ is) in (
      given.0 ++ row ∷ whole.0,
      c.in-Err.ensures.foreign c.args.judge.now given.0 whole.0 given.1 (ap Err fault),
      (let shown = subst (Shown c.args.text.now [] old new) (append_assoc given.0 (row ∷ []) whole.0) whole.1 in search rules),
    )

pub loop-count-preserved : goal.loop-count-preserved
loop-count-preserved g c = search rules

pub returns-clause-took : goal.returns-clause-took
returns-clause-took g c = search rules depth 0 fits 100
