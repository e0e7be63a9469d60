use Rattle.std.proofs.Common.{sym, subst}
use Rattle.std.specs.List.{AllByRecursion}
use Rattle.sqlite.specs.Held.{state}
use Rattle.pw_schema.specs.Conflicts.{IsWithoutConflict}
use Rattle.pw_schema.proofs.Conflicting.{from_shown, to_shown}
use Rattle.pw_schema.proofs.conflicts.has_no_conflict.Goals as goal

pub returns-clause-told : goal.returns-clause-told
returns-clause-told g c clean =
    let db = (state g.S.Store c.args.conn.now).now.trees in
    let shows = c.in_ok-rows.ensures.rows clean in (
      λ none. from_shown db c.in_ok-rows.rows.items shows (subst (AllByRecursion IsWithoutConflict) c.as_slice.ensures.value (c.are_without_conflict.ensures.is none)),
      λ plain. c.are_without_conflict.ensures.all (subst (AllByRecursion IsWithoutConflict) (sym c.as_slice.ensures.value) (to_shown db c.in_ok-rows.rows.items shows plain)),
    )
