use Rattle.std.proofs.Common.{◌≡◌, ◌+◌, ◌*◌, Err, Ok, ap, length, arith}
use Rattle.std.proofs.lemmas.Result.{err_from_is_err_and}
use Rattle.pw_model.specs.Shelf.{ShelfContent}
use Rattle.pw_book.proofs.Chains.{asked-none, asked-then}
use Rattle.pw_carrying.proofs.Listing.{carries-at, carries-none, carries-short, carries-then}
use Rattle.pw_carrying.proofs.Uploads.{asked-failed, open-failed, uploads-failed, uploads-none, uploads-then}
use Rattle.pw_carrying.proofs.carrying.carry_held.Goals as goal

pub loop-place-init : goal.loop-place-init
loop-place-init g c = record {
  carried = λ k t. carries-none (tt {0}) c.args.basis.now.office.now c.args.into.now.office (g.S.Shelf.state c.args.shelf.now).content.records 0 (g.T.Shelf.state c.args.into.now.shelf).content.records c.args.waiting.now.entries.items;
  asked = asked-none g.S.Shelf g.met.S.Shelf.same_yet _;
  uploads = uploads-none g.T.Shelf g.met.T.Shelf.same_yet (tt {0}) _;
}

pub loop-place-preserved : goal.loop-place-preserved
loop-place-preserved g c =
    let was = c.loop-place.invariant in
    let here = c.list_at-list.ensures.place in
    record {
      carried = λ k t.
          let before = c.in_ok-carry_list.ensures.asked.kept.clean k in
          let sent = c.in_ok-carry_list.ensures.uploads.clean t in
          let same = ap (λ (d : ShelfContent). d.records) (was.asked.content before) in
          (carries-then {Y = Unit {0}} (tt {0}) (Ok (tt {0})) c.args.basis.now.office.now c.args.into.now.office c.loop-place.into.office (g.S.Shelf.state c.args.shelf.now).content.records (g.S.Shelf.state c.loop-place.shelf).content.records 0 c.loop-place.place (c.loop-place.place + 1) (g.T.Shelf.state c.args.into.now.shelf).content.records c.args.waiting.now.entries.items
          (g.T.Shelf.state c.loop-place.into.shelf).content.records c.loop-place.waiting.entries.items (g.T.Shelf.state c.carry_list.new.into.shelf).content.records c.carry_list.new.waiting.entries.items was.uploads.office same (was.carried before sent)
          (carries-at (Ok (tt {0})) c.args.basis.now.office.now c.loop-place.into.office (g.S.Shelf.state c.loop-place.shelf).content.records _ _ c.loop-place.place (c.loop-place.place + 1) (g.T.Shelf.state c.loop-place.into.shelf).content.records c.loop-place.waiting.entries.items (g.T.Shelf.state c.carry_list.new.into.shelf).content.records c.carry_list.new.waiting.entries.items here (omega (arith, here)) (c.in_ok-carry_list.ensures.carried k t)));
      asked = asked-then g.S.Shelf g.met.S.Shelf.same_then _ _ _ _ was.asked c.in_ok-carry_list.ensures.asked;
      uploads = uploads-then g.T.Shelf g.met.T.Shelf.same_then (tt {0}) (Ok (tt {0})) _ _ _ was.uploads c.in_ok-carry_list.ensures.uploads;
    }

pub returns-in_err-carry_list-clause-carried : goal.returns-in_err-carry_list-clause-carried
returns-in_err-carry_list-clause-carried g c = λ k t.
    let was = c.loop-place.invariant in
    let here = c.list_at-list.ensures.place in
    let p = err_from_is_err_and c.from_residual.result c.from_residual.ensures.1 in
    let before = c.in_err-carry_list.ensures.asked.kept.clean k in
    let sent = c.in_err-carry_list.ensures.uploads.clean t in
    let same = ap (λ (d : ShelfContent). d.records) (was.asked.content before) in
    carries-short (Unit {0}) c.in_err-carry_list.field-0.0 p.0 c.from_residual.result c.args.basis.now.office.now c.args.into.now.office (g.S.Shelf.state c.args.shelf.now).content.records 0 (c.loop-place.place + 1) (7 * length c.args.basis.now.office.now.meters + 2) (g.T.Shelf.state c.args.into.now.shelf).content.records c.args.waiting.now.entries.items
    (g.T.Shelf.state c.carry_list.new.into.shelf).content.records c.carry_list.new.waiting.entries.items p.1 p.2
    (carries-then {Y = Unit {0}} (tt {0}) (Err c.in_err-carry_list.field-0.0) c.args.basis.now.office.now c.args.into.now.office c.loop-place.into.office (g.S.Shelf.state c.args.shelf.now).content.records (g.S.Shelf.state c.loop-place.shelf).content.records 0 c.loop-place.place (c.loop-place.place + 1) (g.T.Shelf.state c.args.into.now.shelf).content.records c.args.waiting.now.entries.items
    (g.T.Shelf.state c.loop-place.into.shelf).content.records c.loop-place.waiting.entries.items (g.T.Shelf.state c.carry_list.new.into.shelf).content.records c.carry_list.new.waiting.entries.items was.uploads.office same (was.carried before sent)
    (carries-at {X = Unit {0}} (Err c.in_err-carry_list.field-0.0) c.args.basis.now.office.now c.loop-place.into.office (g.S.Shelf.state c.loop-place.shelf).content.records _ _ c.loop-place.place (c.loop-place.place + 1) (g.T.Shelf.state c.loop-place.into.shelf).content.records c.loop-place.waiting.entries.items (g.T.Shelf.state c.carry_list.new.into.shelf).content.records c.carry_list.new.waiting.entries.items here (omega (arith, here)) (c.in_err-carry_list.ensures.carried k t)))

pub returns-in_err-carry_list-clause-open_yet : goal.returns-in_err-carry_list-clause-open_yet
returns-in_err-carry_list-clause-open_yet g c =
    let p = err_from_is_err_and c.from_residual.result c.from_residual.ensures.1 in
    open-failed (Unit {0}) c.in_err-carry_list.field-0.0 p.0 c.from_residual.result p.1 p.2 c.in_err-carry_list.ensures.open_yet

pub returns-in_err-carry_list-clause-asked : goal.returns-in_err-carry_list-clause-asked
returns-in_err-carry_list-clause-asked g c =
    let p = err_from_is_err_and c.from_residual.result c.from_residual.ensures.1 in
    asked-failed g.S.Shelf (Unit {0}) c.in_err-carry_list.field-0.0 p.0 c.from_residual.result _ _ p.1 p.2 (asked-then g.S.Shelf g.met.S.Shelf.same_then _ _ _ _ c.loop-place.invariant.asked c.in_err-carry_list.ensures.asked)

pub returns-in_err-carry_list-clause-uploads : goal.returns-in_err-carry_list-clause-uploads
returns-in_err-carry_list-clause-uploads g c =
    let p = err_from_is_err_and c.from_residual.result c.from_residual.ensures.1 in
    uploads-failed g.T.Shelf (Unit {0}) c.in_err-carry_list.field-0.0 p.0 c.from_residual.result _ _ p.1 p.2 (uploads-then g.T.Shelf g.met.T.Shelf.same_then (tt {0}) _ _ _ _ c.loop-place.invariant.uploads c.in_err-carry_list.ensures.uploads)

pub returns-clause-carried : goal.returns-clause-carried
returns-clause-carried g c = λ k t.
    let all : c.loop-place.place ≡ 7 * length c.args.basis.now.office.now.meters + 2 = omega (arith, c.list_count-place-end.ensures, c.loop-place.auto.place-end, c.loop-place-test.false) in
    carries-at {X = Unit {0}} (Ok tt) c.args.basis.now.office.now c.args.into.now.office (g.S.Shelf.state c.args.shelf.now).content.records 0 _ 0 (7 * length c.args.basis.now.office.now.meters + 2) (g.T.Shelf.state c.args.into.now.shelf).content.records c.args.waiting.now.entries.items
    (g.T.Shelf.state c.loop-place.into.shelf).content.records c.loop-place.waiting.entries.items (omega arith) all (c.loop-place.invariant.carried k t)
