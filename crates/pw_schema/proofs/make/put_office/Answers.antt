use Rattle.sqlite.specs.Held.{state}
use Rattle.pw_schema.proofs.Outcomes.{early}
use Rattle.pw_schema.proofs.OfficeRow.{fresh_if, listed_if, open_if, office_kept, office_survives}
use Rattle.pw_schema.proofs.make.put_office.Goals as goal

pub returns-clause-made : goal.returns-clause-made
returns-clause-made g c clean = fresh_if (state g.S.Store c.args.conn.now) (state g.S.Store c.execute.new.self) c.args.body.now c.execute.result (c.requires (early (state g.S.Store c.args.conn.now) (state g.S.Store c.execute.new.self) c.execute.ensures.survives clean)) (rw (c.params-to_sql.ensures) at (c.execute.ensures.runs clean))

pub returns-clause-listed : goal.returns-clause-listed
returns-clause-listed g c clean = listed_if (state g.S.Store c.args.conn.now) (state g.S.Store c.execute.new.self) c.args.body.now c.execute.result (c.requires (early (state g.S.Store c.args.conn.now) (state g.S.Store c.execute.new.self) c.execute.ensures.survives clean)) (rw (c.params-to_sql.ensures) at (c.execute.ensures.runs clean))

pub returns-clause-inside : goal.returns-clause-inside
returns-clause-inside g c clean = open_if (state g.S.Store c.args.conn.now) (state g.S.Store c.execute.new.self) c.args.body.now c.execute.result (c.requires (early (state g.S.Store c.args.conn.now) (state g.S.Store c.execute.new.self) c.execute.ensures.survives clean)) (rw (c.params-to_sql.ensures) at (c.execute.ensures.runs clean))

pub returns-clause-kept : goal.returns-clause-kept
returns-clause-kept g c clean = office_kept (state g.S.Store c.args.conn.now) (state g.S.Store c.execute.new.self) c.args.body.now c.execute.result (c.requires (early (state g.S.Store c.args.conn.now) (state g.S.Store c.execute.new.self) c.execute.ensures.survives clean)) (rw (c.params-to_sql.ensures) at (c.execute.ensures.runs clean))

pub returns-clause-crash : goal.returns-clause-crash
returns-clause-crash g c = office_survives (state g.S.Store c.args.conn.now) (state g.S.Store c.execute.new.self) c.args.body.now c.requires (rw (c.params-to_sql.ensures) at c.execute.ensures.survives)
