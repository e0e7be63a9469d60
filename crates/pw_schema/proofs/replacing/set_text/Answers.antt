use Rattle.std.proofs.Common.{[], ◌∷◌}
use Rattle.sqlite.specs.declared.types.Value.TheVariants.{Blob}
use Rattle.sqlite.specs.Held.{state}
use Rattle.sqlite.specs.Command.TheVariants.{Update}
use Rattle.pw_schema.specs.Raised.{all_but_office}
use Rattle.pw_schema.proofs.Changing.{sets_office, set_office, set_office_means, set_office_text, same_others, sets_text, stays_third}
use Rattle.pw_schema.proofs.Outcomes.{early}
use Rattle.pw_schema.proofs.replacing.set_text.Goals as goal

pub returns-clause-tables : goal.returns-clause-tables
returns-clause-tables g c = stays_third set_office_text (Blob c.args.body.now ∷ []) (Update 0 set_office) all_but_office set_office_means (sets_office c.args.body.now) (state g.S.Store c.args.conn.now) (state g.S.Store c.execute.new.self) c.execute.result (λ name e. absurd cc) (λ e. absurd cc) c.requires (λ clean. rw (c.params-to_sql.ensures) at (c.execute.ensures.runs clean)) (rw (c.params-to_sql.ensures) at c.execute.ensures.survives)

pub returns-clause-set : goal.returns-clause-set
returns-clause-set g c clean = sets_text c.args.body.now (state g.S.Store c.args.conn.now) (state g.S.Store c.execute.new.self) c.execute.result (c.requires (early (state g.S.Store c.args.conn.now) (state g.S.Store c.execute.new.self) (rw (c.params-to_sql.ensures) at c.execute.ensures.survives) clean)) (rw (c.params-to_sql.ensures) at (c.execute.ensures.runs clean))

pub returns-clause-others : goal.returns-clause-others
returns-clause-others g c = same_others set_office_text (Blob c.args.body.now ∷ []) (Update 0 set_office) all_but_office set_office_means (sets_office c.args.body.now) (state g.S.Store c.args.conn.now) (state g.S.Store c.execute.new.self) c.execute.result c.requires (λ clean. rw (c.params-to_sql.ensures) at (c.execute.ensures.runs clean)) (rw (c.params-to_sql.ensures) at c.execute.ensures.survives)
