use Rattle.pw_schema.proofs.Rising.{rises, not_none}
use Rattle.pw_schema.proofs.rowids.RowidsJudge.take.Goals as goal

pub returns-clause-took : goal.returns-clause-took
returns-clause-took c first rows held = rises first c.args.self.now c.next_rowid-next.result rows c.args.row.now (not_none _ c.is_none.result c.is_none.ensures c.if-is_none.false) held c.next_rowid-next.ensures.shown c.next_rowid-next.ensures.above
