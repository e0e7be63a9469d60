use Rattle.pw_schema.proofs.Shapes.{none_named}
use Rattle.pw_schema.proofs.columns.+are_integers.Goals as goal

pub returns-in_default-clause-all : goal.returns-in_default-clause-all
returns-in_default-clause-all t c e = none_named c.args.columns.now c.args.names.now c.in_default.len_below e (c.is_empty.ensures)
