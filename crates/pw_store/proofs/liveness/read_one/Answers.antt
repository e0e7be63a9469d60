use Rattle.std.proofs.Common.{[]}
use Rattle.sqlite.specs.Held.{state}
use Rattle.pw_store.proofs.Querying.{one_text, one_plain, asks_if}
use Rattle.pw_store.proofs.liveness.read_one.Goals as goal

pub returns : goal.returns
returns g c = record { asks = asks_if one_text [] (state g.S.Store c.args.conn.now) (state g.S.Store c.query_all.new.self) c.query_all.result (λ clean. one_plain _) c.query_all.ensures.ok c.query_all.ensures.err c.query_all.ensures.survives }
