use Rattle.std.proofs.Common.{Some, ap, ◌∙◌}
use Rattle.sqlite.specs.Held.{state}
use Rattle.pw_model.specs.Shelf.{ShelfContent}
use Rattle.pw_shelf.specs.Changes.{with_point}
use Rattle.pw_store.specs.Kept.{written_of}
use Rattle.pw_store.proofs.Waited.{one_more}
use Rattle.pw_store.proofs.shelf.SqlShelf.put_point.Goals as goal

pub returns-clause-content : goal.returns-clause-content
returns-clause-content g c clean =
    let now = c.make_room.new.self in
    let p = c.args.point in
    one_more now.waiting.items _ p (written_of (state g.S.Store now.conn) (state g.S.Store now.base.value)) c.push.ensures.items
    ∙ ap (λ (held : ShelfContent). with_point held p.meter.0 p.register p.instant (Some p.wh)) (c.in_ok-make_room.ensures.content clean)

pub returns-clause-keeps_else : goal.returns-clause-keeps_else
returns-clause-keeps_else g c =
    let all = c.in_ok-make_room.ensures.keeps_else in
    record {
      begun = all.begun;
      base = all.base;
      opened = all.opened;
      failures = all.failures;
      abandons = all.abandons;
      tally = all.tally;
      left = all.left;
      clean = all.clean;
    }
