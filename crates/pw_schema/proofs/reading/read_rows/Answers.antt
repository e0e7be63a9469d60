use Rattle.std.proofs.Common.{◌≡◌, ◌++◌, ◌∷◌, sym, subst, List, [], take, IfSome, rules}
use Rattle.std.specs.declared.cmp.Ordering.TheVariants.{Less}
use Rattle.pw_model.specs.Same.{entry_order}
use Rattle.sqlite.specs.Order.{Row}
use Rattle.pw_schema.specs.Rows.{ReadsRows}
use Rattle.pw_schema.proofs.InTurn.{read_push, turned, behind_if, behind_last}
use Rattle.pw_schema.proofs.reading.read_rows.Goals as goal

pub loop-row-preserved : goal.loop-row-preserved
loop-row-preserved c =
    let rows : List Row = c.args.rows.now in
    let row : Row = c.row-item.result in
    let more = turned rows c.loop-row.row-index row c.loop-row-test.true c.row-item.is in
    let next = read_push c.args.kind (take c.loop-row.row-index rows) c.loop-row.found.items c.loop-row.last row c.in-Some.entry c.loop-row.invariant.read c.loop-row.invariant.last c.in-Some.ensures.kinds c.in-Some.ensures.told (behind_if _ c.is_behind.ensures.0 c.if-not-is_behind.false) in
    record {
      read = subst (λ xs. ReadsRows c.args.kind xs c.push.new.self.items) (sym more) (subst (ReadsRows c.args.kind (take c.loop-row.row-index rows ++ row ∷ [])) (sym c.in_ok-push.ensures.items) next);
      last = (c.loop-row.found.items, c.in_ok-push.ensures.items);
    }

pub returns-then-not-is_behind-clause-wrong : goal.returns-then-not-is_behind-clause-wrong
returns-then-not-is_behind-clause-wrong c e office is records =
    let low = behind_last c.args.kind c.args.rows.now c.loop-row.row-index c.row-item.result c.loop-row.found.items c.loop-row.last c.loop-row-test.true c.row-item.is c.loop-row.invariant.read c.loop-row.invariant.last records.rising in
    let bad = c.if-not-is_behind.ensures.1 (subst (λ x. IfSome c.loop-row.last (λ l. entry_order l x ≡ Less)) (sym c.in-Some.ensures.told) low) in
    cc

pub returns-clause-wrong : goal.returns-clause-wrong
returns-clause-wrong c = search rules depth 0 fits 100
