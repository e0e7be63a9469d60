use Rattle.std.proofs.Common.{rules}
use Rattle.sqlite.specs.Held.{state}
use Rattle.pw_schema.proofs.Outcomes.{early}
use Rattle.pw_schema.proofs.Raising.{raised_behind}
use Rattle.pw_schema.proofs.raise.raise_to_third.Goals as goal

pub returns-clause-raised : goal.returns-clause-raised
returns-clause-raised g c clean =
    let made = state g.S.Store c.make_missing.new.conn in
    let emptied = state g.S.Store c.empty_total.new.conn in
    let last = state g.S.Store c.set_version.new.conn in
    let before = early emptied last c.in_ok-set_version.ensures.tables.crash clean in
    let first = early made emptied c.in_ok-empty_total.ensures.tables.crash before in
    raised_behind c.args.version (state g.S.Store c.args.conn.now).now.trees made.now.trees emptied.now.trees last.now.trees
    (c.in_ok-make_missing.ensures.raised first) (c.in_ok-empty_total.ensures.others before) (c.in_ok-set_version.ensures.others clean)

pub returns-clause-kept : goal.returns-clause-kept
returns-clause-kept g c = search rules depth 0 fits 100
