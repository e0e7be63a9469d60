use Rattle.std.proofs.Common.{◌≡◌, ◌+◌, ◌*◌, length, arith}
use Rattle.pw_tariff.specs.Office.{office_of}
use Rattle.pw_book.proofs.Chains.{asked-none, asked-then}
use Rattle.pw_carrying.proofs.NotSent.{unsent-at, unsent-none, unsent-then}
use Rattle.pw_carrying.proofs.held.add_held.Goals as goal

pub loop-place-init : goal.loop-place-init
loop-place-init g c = record {
  adds = λ k. unsent-none (office_of c.args.office.now) c.args.sent.now (g.S.Shelf.state c.args.shelf.now).content.records 0 c.args.found.now.items;
  asked = asked-none g.S.Shelf g.met.S.Shelf.same_yet _;
}

pub loop-place-preserved : goal.loop-place-preserved
loop-place-preserved g c =
    let was = c.loop-place.invariant in
    let here = c.list_at-list.ensures.place in
    record {
      adds = λ k.
          let before = c.in_ok-add_list.ensures.asked.kept.clean k in
          unsent-then (office_of c.args.office.now) c.args.sent.now (g.S.Shelf.state c.args.shelf.now).content (g.S.Shelf.state c.loop-place.shelf).content 0 c.loop-place.place (c.loop-place.place + 1) c.args.found.now.items c.loop-place.found.items c.add_list.new.found.items (was.asked.content before) (was.adds before)
          (unsent-at (office_of c.args.office.now) c.args.sent.now (g.S.Shelf.state c.loop-place.shelf).content.records _ _ c.loop-place.place (c.loop-place.place + 1) c.loop-place.found.items c.add_list.new.found.items here (omega (arith, here)) (c.in_ok-add_list.ensures.adds k));
      asked = asked-then g.S.Shelf g.met.S.Shelf.same_then _ _ _ _ was.asked c.in_ok-add_list.ensures.asked;
    }

pub returns-clause-adds : goal.returns-clause-adds
returns-clause-adds g c = λ k.
    let all : c.loop-place.place ≡ 7 * length c.args.office.now.meters + 2 = omega (arith, c.list_count-place-end.ensures, c.loop-place.auto.place-end, c.loop-place-test.false) in
    unsent-at (office_of c.args.office.now) c.args.sent.now (g.S.Shelf.state c.args.shelf.now).content.records 0 _ 0 (7 * length c.args.office.now.meters + 2) c.args.found.now.items c.loop-place.found.items (omega arith) all (c.loop-place.invariant.adds k)
