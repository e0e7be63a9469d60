use Rattle.sqlite.specs.Held.{state}
use Rattle.pw_schema.proofs.Outcomes.{early}
use Rattle.pw_schema.proofs.Making.{makes, tree_is}
use Rattle.pw_schema.proofs.Creating.{grows_more, makes_kept, makes_survives, within_more}
use Rattle.pw_schema.proofs.make.make.Goals as goal

pub returns-clause-made : goal.returns-clause-made
returns-clause-made g c clean = within_more (state g.S.Store c.args.conn.now) (state g.S.Store c.execute.new.self) c.args.table (makes c.args.table) (c.requires (early (state g.S.Store c.args.conn.now) (state g.S.Store c.execute.new.self) c.execute.ensures.survives clean)) c.execute.result (rw c.text.ensures at (c.execute.ensures.runs clean))

pub returns-clause-grows : goal.returns-clause-grows
returns-clause-grows g c clean = grows_more (state g.S.Store c.args.conn.now) (state g.S.Store c.execute.new.self) c.args.table (makes c.args.table) (tree_is c.args.table) (c.requires (early (state g.S.Store c.args.conn.now) (state g.S.Store c.execute.new.self) c.execute.ensures.survives clean)) c.execute.result (rw c.text.ensures at (c.execute.ensures.runs clean))

pub returns-clause-kept : goal.returns-clause-kept
returns-clause-kept g c clean = makes_kept (state g.S.Store c.args.conn.now) (state g.S.Store c.execute.new.self) c.args.table (makes c.args.table) (c.requires (early (state g.S.Store c.args.conn.now) (state g.S.Store c.execute.new.self) c.execute.ensures.survives clean)) c.execute.result (rw c.text.ensures at (c.execute.ensures.runs clean))

pub returns-clause-crash : goal.returns-clause-crash
returns-clause-crash g c = makes_survives (state g.S.Store c.args.conn.now) (state g.S.Store c.execute.new.self) c.args.table (makes c.args.table) c.requires (rw c.text.ensures at c.execute.ensures.survives)
