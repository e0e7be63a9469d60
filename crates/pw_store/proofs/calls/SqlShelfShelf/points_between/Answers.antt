use Rattle.std.proofs.Common.{ap, sym, ◌∙◌, arith}
use Rattle.sqlite.specs.Held.{state}
use Rattle.pw_model.specs.Shelf.{ShelfContent}
use Rattle.pw_schema.proofs.Outcomes.{early}
use Rattle.pw_store.specs.Kept.{begun_with, written_of}
use Rattle.pw_store.specs.OpenStore.{held_in}
use Rattle.pw_store.specs.Waiting.{with_waiting}
use Rattle.pw_store.proofs.Keeping.{failed_same, held_open, left_no_more, written_same}
use Rattle.pw_store.proofs.Waited.{within_same}
use Rattle.pw_store.proofs.calls.SqlShelfShelf.points_between.Goals as goal

pub returns-in-Ok-clause-rows : goal.returns-in-Ok-clause-rows
returns-in-Ok-clause-rows g c clean =
    let store = g.S.Store in
    let old = c.args.self.now in
    let now = c.write_within.new.self in
    let asks = c.in-Ok.ensures.asks in
    let before = early (state store now.conn) (state store c.points_between-asked.new.conn) asks.crash clean in
    let m = c.args.meter.0 in
    let r = c.args.register in
    let written = written_of (state store now.conn) (state store now.base.value) in
    let opened = held_open (state store now.conn) (state store now.base.value) (asks.same clean).0.was_open in
    within_same c.args.from c.args.to _ ((held_in store old).point m r) c.in-Ok.found.items
    (λ t low high. ap (λ (held : ShelfContent). held.point m r t) (sym (c.in_default.ensures.content before))
    ∙ c.in_default.ensures.none written.point t low high ∙ ap (λ (held : ShelfContent). held.point m r t) opened)
    (c.in-Ok.ensures.rows clean)

pub returns-in-Ok-clause-asked : goal.returns-in-Ok-clause-asked
returns-in-Ok-clause-asked g c =
    let store = g.S.Store in
    let now = c.write_within.new.self in
    let old = state store now.conn in
    let new = state store c.points_between-asked.new.conn in
    let asks = c.in-Ok.ensures.asks in
    let kept = c.in_default.ensures.keeps_else in
    record {
      same = λ clean. ap (with_waiting now.waiting.items) (written_same old new (state store now.base.value) (asks.same clean)) ∙ c.in_default.ensures.content (early old new asks.crash clean);
      failed = λ clean. tt;
      tally = (let ticked = c.tick-in-Ok.ensures in let before = kept.tally in let rows = c.len.ensures in omega (arith, ticked, before, rows));
      kept = record {
        upload = λ i. begun_with (kept.begun i) (state store (kept.base i));
        counts = record { failures = kept.failures; failed_abandons = kept.abandons };
        left = λ clean k may. kept.left (early old new asks.crash clean) k (left_no_more old new asks.crash clean k may);
        clean = λ clean. kept.clean (early old new asks.crash clean);
        store = kept.opened;
      };
    }

pub returns-in-Err-asked-clause-asked : goal.returns-in-Err-asked-clause-asked
returns-in-Err-asked-clause-asked g c =
    let store = g.S.Store in
    let now = c.write_within.new.self in
    let old = state store now.conn in
    let new = state store c.points_between-asked.new.conn in
    let asks = c.in-Err-asked.ensures.asks in
    let kept = c.in_default.ensures.keeps_else in
    record {
      same = λ clean. tt;
      failed = λ clean none. failed_same now.waiting.items old new (state store now.base.value) now.begun (g.met.S.Store.shut_if_dirty now.conn.store) now.since now.idle (asks.failed clean) ((λ i. begun_with (kept.begun i) (state store (kept.base i))) ∙ none)
          ∙ c.in_default.ensures.content (early old new asks.crash clean);
      tally = (let ticked = c.tick-in-Err-asked.ensures in let before = kept.tally in omega (arith, ticked, before));
      kept = record {
        upload = λ i. begun_with (kept.begun i) (state store (kept.base i));
        counts = record { failures = (let counted = c.fault_of_ask.ensures in let before = kept.failures in omega (arith, counted, before)); failed_abandons = kept.abandons };
        left = λ clean k may. kept.left (early old new asks.crash clean) k (left_no_more old new asks.crash clean k may);
        clean = λ clean. kept.clean (early old new asks.crash clean);
        store = kept.opened;
      };
    }
