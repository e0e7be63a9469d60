use Rattle.std.proofs.Common.{◌≡◌, length, sym, subst, Some, rules}
use Rattle.sqlite.specs.Held.{state}
use Rattle.sqlite.specs.Tree.{Trees}
use Rattle.pw_schema.proofs.Outcomes.{early}
use Rattle.pw_store.specs.Content.{records_of}
use Rattle.pw_store.specs.Frontier.{NoneFrom}
use Rattle.pw_store.proofs.InTurn.{trees_same}
use Rattle.pw_store.proofs.asking.frontier_for.Goals.{then-is_empty, else-is_empty}
use Rattle.pw_store.proofs.asking.frontier_for.Goals as goal

pub returns-clause-known : goal.returns-clause-known
returns-clause-known g c clean was =
    let before = early (state g.S.Store c.wake.new.conn) (state g.S.Store c.later_rows.new.conn) c.in_ok-rows.ensures.asks.crash clean in
    let same = trees_same (state g.S.Store c.args.conn.now) (state g.S.Store c.wake.new.conn) (c.in_ok-wake.ensures.asks.same before) in
    let m = c.in-Reading.meter in
    let r = c.in-Reading.register in
    let old = records_of (state g.S.Store c.args.conn.now).now.trees in
    elim c.if-is_empty.branch [
      | then-is_empty w ↦ subst (λ from. NoneFrom m r from old) (sym w.from-is)
          (subst (λ (db : Trees). NoneFrom m r (Some c.in-Reading.instant) (records_of db)) same (c.in_ok-rows.ensures.none clean (let few : length c.in_ok-rows.rows.items ≡ 0 = search rules in few)))
      | else-is_empty w ↦ subst (λ from. NoneFrom m r from old) (sym w.from-is) tt
    ]
