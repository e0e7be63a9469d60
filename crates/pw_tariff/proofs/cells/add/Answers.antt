use Rattle.std.proofs.Common.{◌≡◌, ◌<◌, ◌≤◌, length, get_or, arith}
use Rattle.pw_tariff.specs.Cells.{energy_of_all}
use Rattle.pw_tariff.proofs.Adding.{StandsBehind, inserted, enlarged, cell-le, behind, same-cell, read-cell, apart-cell}
use Rattle.pw_tariff.proofs.cells.add.Goals.{else-at-len-via-then-at-len+else-is_like, else-at-len-via-else-at-len}
use Rattle.pw_tariff.proofs.cells.add.Goals as goal

pub overflow_add-index_mut : goal.overflow_add-index_mut
overflow_add-index_mut c =
    let l : c.index_mut.result.now.wh ≤ energy_of_all c.args.cells.now.items =
    cell-le c.args.cells.now.items c.before-at.result c.index_mut.result.now (omega arith) c.index_mut.ensures.value in
    omega (arith, l)

pub returns-then-is_like : goal.returns-then-is_like
returns-then-is_like c =
    let l : c.before-at.result < length c.args.cells.now.items = omega arith in
    let same : c.index.result.now ≡ c.index_mut.result.now = same-cell c.args.cells.now.items c.before-at.result _ _ l c.index.ensures c.index_mut.ensures.value in
    let own = c.is_like.ensures.0 c.if-is_like.true in
    let own2 = rw same at own in
    let before = rw c.deref.ensures.value at c.before-at.ensures.before in
    enlarged c.args.cells.now.items c.before-at.result c.index_mut.result.now c.args.share l c.index_mut.ensures.value
    c.requires.something before own2.0 own2.1 own2.2 c.requires.in_order c.requires.above_zero

pub returns : goal.returns
returns c =
    let before = rw c.deref.ensures.value at c.before-at.ensures.before in
    let there = rw c.deref.ensures.value at c.before-at.ensures.there in
    let bound = rw c.deref.ensures.value at c.before-at.ensures.bound in
    let free : StandsBehind c.args.cells.now.items c.before-at.result c.args.share = λ d l.
    elim c.else-at-len.branch [
      | else-at-len-via-else-at-len w ↦ absurd (omega arith)
      | else-at-len-via-then-at-len+else-is_like w ↦ (
          let same : w.index.result.now ≡ get_or c.args.cells.now.items c.before-at.result d =
          read-cell c.args.cells.now.items c.before-at.result w.index.result.now d l w.index.ensures in
          let apart = apart-cell w.is_like.result _ w.is_like.ensures.1 w.if-is_like.false in
          let apart2 = rw same at apart in
          behind (get_or c.args.cells.now.items c.before-at.result d) c.args.share (there d l) (λ e f g. apart2 (e, f, g)))
    ] in
    rw c.in_ok-insert.ensures.items (inserted c.args.cells.now.items c.before-at.result c.args.share bound c.requires.something before free c.requires.in_order c.requires.above_zero)
