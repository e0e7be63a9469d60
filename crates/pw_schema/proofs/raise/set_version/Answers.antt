use Rattle.std.proofs.Common.{[]}
use Rattle.sqlite.specs.Held.{state}
use Rattle.sqlite.specs.Command.TheVariants.{Update}
use Rattle.pw_schema.specs.Raised.{lasting_trees}
use Rattle.pw_schema.proofs.Changing.{sets_version, set_version, set_version_means, set_version_text, same_others, stays_third}
use Rattle.pw_schema.proofs.raise.set_version.Goals as goal

pub returns-clause-tables : goal.returns-clause-tables
returns-clause-tables g c = stays_third set_version_text [] (Update 0 set_version) lasting_trees set_version_means sets_version (state g.S.Store c.args.conn.now) (state g.S.Store c.execute.new.self) c.execute.result (λ name e. absurd cc) (λ e. absurd cc) c.requires c.execute.ensures.runs c.execute.ensures.survives

pub returns-clause-others : goal.returns-clause-others
returns-clause-others g c = same_others set_version_text [] (Update 0 set_version) lasting_trees set_version_means sets_version (state g.S.Store c.args.conn.now) (state g.S.Store c.execute.new.self) c.execute.result c.requires c.execute.ensures.runs c.execute.ensures.survives
