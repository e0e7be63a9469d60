use Rattle.std.proofs.Common.{sym, subst, arith}
use Rattle.pw_moving.specs.declared.change.Listed.{Listed}
use Rattle.pw_moving.specs.Renaming.{Offices}
use Rattle.pw_moving.specs.Changes.{list_place}
use Rattle.pw_moving.specs.inner.Comparing.{AreOfLine, AreOfName, Puts}
use Rattle.pw_moving.proofs.Lines.{line-named, line-next}
use Rattle.pw_moving.proofs.comparing.put_line.Goals as goal

pub returns-in_ok-put_meter-in-Meters : goal.returns-in_ok-put_meter-in-Meters
returns-in_ok-put_meter-in-Meters c =
    let o : Offices = record { old = c.args.old.now; new = c.args.new.now } in
    let P : Listed → Type 0 = λ list. Puts (AreOfName o (list_place list) c.args.place) c.args.changes.now.items c.put_name.new.changes.items in
    let Q : Listed → Type 0 = λ list. Puts (AreOfLine o (list_place list) c.args.place) c.args.changes.now.items c.put_meter.new.changes.items in
    subst Q (sym c.in-Meters.is) (line-next o c.args.place c.args.changes.now.items c.put_name.new.changes.items c.put_meter.new.changes.items (subst P c.in-Meters.is c.in_ok-put_name.ensures)
    c.in_ok-put_meter-in-Meters.ensures)

pub returns-else-place-min : goal.returns-else-place-min
returns-else-place-min c =
    let o : Offices = record { old = c.args.old.now; new = c.args.new.now } in
    let olds = c.meters.ensures.count in
    let news = c.meters-in-Meters.ensures.count in
    let few = c.min.ensures in
    let past = c.if-place-min.false in
    line-named o c.args.list c.args.place c.args.changes.now.items c.put_name.new.changes.items (λ e l k. omega (arith, olds, news, few, past, l, k)) c.in_ok-put_name.ensures
