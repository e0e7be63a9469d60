use Rattle.std.proofs.Common.{[]}
use Rattle.sqlite.specs.Held.{state}
use Rattle.sqlite.specs.Command.TheVariants.{Delete}
use Rattle.pw_schema.specs.Raised.{lasting_trees}
use Rattle.pw_schema.proofs.Changing.{empties_total, empty_total, empty_total_means, empty_total_text, same_others, stays_third}
use Rattle.pw_schema.proofs.raise.empty_total.Goals as goal

pub returns-clause-tables : goal.returns-clause-tables
returns-clause-tables g c = stays_third empty_total_text [] (Delete 6 empty_total) lasting_trees empty_total_means empties_total (state g.S.Store c.args.conn.now) (state g.S.Store c.execute.new.self) c.execute.result (λ name e. absurd cc) (λ e. absurd cc) c.requires c.execute.ensures.runs c.execute.ensures.survives

pub returns-clause-others : goal.returns-clause-others
returns-clause-others g c = same_others empty_total_text [] (Delete 6 empty_total) lasting_trees empty_total_means empties_total (state g.S.Store c.args.conn.now) (state g.S.Store c.execute.new.self) c.execute.result c.requires c.execute.ensures.runs c.execute.ensures.survives
