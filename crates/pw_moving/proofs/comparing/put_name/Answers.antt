use Rattle.std.proofs.Common.{refl, arith}
use Rattle.pw_moving.specs.Renaming.{Offices}
use Rattle.pw_moving.proofs.Lines.{name-moved, name-next, name-stays, nameless}
use Rattle.pw_moving.proofs.comparing.put_name.Goals as goal

pub returns-else-place-news : goal.returns-else-place-news
returns-else-place-news c =
    let o : Offices = record { old = c.args.old.now; new = c.args.new.now } in
    let olds = c.count-olds.ensures.count in
    let news = c.count-news.ensures.count in
    let first = c.if-olds-place.true in
    let second = c.if-place-news.false in
    nameless o c.args.list c.args.place c.args.changes.now.items (omega (arith, olds, first)) (omega (arith, news, second))

pub returns-in_ok-push-2 : goal.returns-in_ok-push-2
returns-in_ok-push-2 c =
    let o : Offices = record { old = c.args.old.now; new = c.args.new.now } in
    let olds = c.count-olds.ensures.count in
    let first = c.if-olds-place.false in
    name-next o c.args.list c.args.place c.args.changes.now.items c.put_at_place.new.changes.items c.push-in-Some.new.self.items (omega (arith, olds, first)) c.in_ok-put_at_place.ensures
    (name-moved o c.args.list c.args.place c.in-Some.to c.put_at_place.new.changes.items c.push-in-Some.new.self.items c.count-news.ensures.sound c.in-Some.ensures.some c.in_ok-push-2.ensures.items)

pub returns-in_default : goal.returns-in_default
returns-in_default c =
    let o : Offices = record { old = c.args.old.now; new = c.args.new.now } in
    let olds = c.count-olds.ensures.count in
    let first = c.if-olds-place.false in
    name-next o c.args.list c.args.place c.args.changes.now.items c.put_at_place.new.changes.items c.put_at_place.new.changes.items (omega (arith, olds, first)) c.in_ok-put_at_place.ensures
    (name-stays o c.args.list c.args.place c.put_at_place.new.changes.items c.put_at_place.new.changes.items c.in_default.ensures.none refl)
