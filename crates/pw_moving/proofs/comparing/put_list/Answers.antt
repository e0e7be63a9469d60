use Rattle.std.proofs.Common.{arith}
use Rattle.pw_moving.specs.Changes.{list_place}
use Rattle.pw_moving.proofs.Rising.{lines-next, lines-none, list-all}
use Rattle.pw_moving.proofs.comparing.put_list.Goals as goal

pub loop-place-init : goal.loop-place-init
loop-place-init c = lines-none (record { old = c.args.old.now; new = c.args.new.now }) (list_place c.args.list) c.args.changes.now.items

pub loop-place-preserved : goal.loop-place-preserved
loop-place-preserved c =
    lines-next (record { old = c.args.old.now; new = c.args.new.now }) (list_place c.args.list) c.loop-place.place c.args.changes.now.items c.loop-place.changes.items c.put_line.new.changes.items
    c.loop-place.invariant c.in_ok-put_line.ensures

pub returns : goal.returns
returns c =
    list-all (record { old = c.args.old.now; new = c.args.new.now }) c.args.list c.loop-place.place c.args.changes.now.items c.loop-place.changes.items
    (omega (arith, c.max-place-end.ensures, c.count.ensures.count, c.count-2.ensures.count, c.loop-place-test.false))
    (omega (arith, c.max-place-end.ensures, c.count.ensures.count, c.count-2.ensures.count, c.loop-place-test.false)) c.loop-place.invariant
