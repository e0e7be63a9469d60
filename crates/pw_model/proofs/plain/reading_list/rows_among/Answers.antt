use Rattle.std.proofs.Common.{ap, ◌∙◌}
use Rattle.pw_model.specs.declared.records.Entry.{Entry}
use Rattle.pw_model.proofs.Places.{at-told}
use Rattle.pw_model.proofs.PlainReadings.{rows-push, rows-pass, rows-end}
use Rattle.pw_model.proofs.Standing.{is-reading}
use Rattle.pw_model.proofs.plain.reading_list.rows_among.Goals as goal
use Rattle.pw_model.proofs.plain.reading_list.rows_among.Goals.{in-Some+in_ok-push, in_default}

pub loop-entry-preserved : goal.loop-entry-preserved
loop-entry-preserved c =
    let at = at-told c.args.in_order.now c.loop-entry.entry-index c.entry-item.result c.loop-entry-test.true c.entry-item.is in
    elim c.match-row_of.branch [
      | in-Some+in_ok-push w ↦ (
          let kept = is-reading c.entry-item.result.content w.in-Some.row.wh (ap (λ (e : Entry). e.content) w.in-Some.ensures.some.0) in
          rows-push c.args.standing.now c.args.in_order.now c.args.in_order.now c.args.meter.0 c.args.register c.loop-entry.entry-index c.entry-item.result w.in-Some.row c.loop-entry.rows.items c.match-row_of.rows.items
          c.counts_among-counted.result c.is_withdrawn-withdrawn.result c.requires.rising at w.in-Some.ensures.some (c.counts_among-counted.ensures kept) c.is_withdrawn-withdrawn.ensures (ap (λ v. v.items) w.rows-is ∙ w.in_ok-push.ensures.items) c.loop-entry.invariant)
      | in_default w ↦ rw w.rows-is (rows-pass c.args.standing.now c.args.in_order.now c.args.in_order.now c.args.meter.0 c.args.register c.loop-entry.entry-index c.entry-item.result c.loop-entry.rows.items at w.in_default.ensures.none c.loop-entry.invariant)
    ]

pub returns : goal.returns
returns c = rows-end c.args.standing.now c.args.in_order.now c.args.in_order.now c.args.meter.0 c.args.register c.loop-entry.entry-index c.loop-entry.rows.items c.loop-entry-test.false c.loop-entry.invariant
