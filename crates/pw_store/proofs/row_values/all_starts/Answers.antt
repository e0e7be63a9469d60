use Rattle.std.proofs.Common.{take}
use Rattle.pw_schema.proofs.InTurn.{turned, behind_if}
use Rattle.pw_store.specs.inner.Seconds.{start_told}
use Rattle.pw_store.proofs.InTurn.{row_push}
use Rattle.pw_store.proofs.row_values.all_starts.Goals as goal

pub loop-row-preserved : goal.loop-row-preserved
loop-row-preserved c =
    let next = row_push start_told (take c.loop-row.row-index c.args.rows.now) _ c.row-item.result c.loop-row.last c.loop-row.found.items c.push.new.self.items c.in-Some.start c.loop-row.invariant.told c.loop-row.invariant.rising c.loop-row.invariant.last
    (behind_if _ c.is_behind.ensures c.if-not-is_behind.false) c.in-Some.ensures c.in_ok-push.ensures.items (turned c.args.rows.now c.loop-row.row-index c.row-item.result c.loop-row-test.true c.row-item.is) in
    record { told = next.0; rising = next.1; last = next.2 }
