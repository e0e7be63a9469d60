use Rattle.sqlite.specs.Held.{state}
use Rattle.pw_schema.proofs.Outcomes.{early}
use Rattle.pw_store.specs.Content.{total_in}
use Rattle.pw_store.proofs.InTurn.{trees_same, amount_if}
use Rattle.pw_store.proofs.questions.total.Goals as goal

pub returns-clause-amount : goal.returns-clause-amount
returns-clause-amount g c clean =
    let before = early (state g.S.Store c.wake.new.conn) (state g.S.Store c.total_rows.new.conn) c.in_ok-rows.ensures.asks.crash clean in
    let same = trees_same (state g.S.Store c.args.conn.now) (state g.S.Store c.wake.new.conn) (c.in_ok-wake.ensures.asks.same before) in
    amount_if c.read_amount.result (λ db. total_in db c.args.key.now) _ _ c.as_slice.result.now c.in_ok-rows.rows.items c.as_slice.ensures.value same (c.in_ok-rows.ensures.amount clean) c.read_amount.ensures.few c.read_amount.ensures.told
