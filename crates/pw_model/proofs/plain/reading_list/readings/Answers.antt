use Rattle.pw_model.specs.Lists.{AreReadings}
use Rattle.pw_model.specs.inner.Search.{RowsOf}
use Rattle.pw_model.proofs.EntryOrder.{if-ok}
use Rattle.pw_model.proofs.Standing.{readings-of_standing, view-stands, view-rises}
use Rattle.pw_model.proofs.plain.reading_list.readings.Goals as goal

pub rows_among-requires-clause-standing_rise : goal.rows_among-requires-clause-standing_rise
rows_among-requires-clause-standing_rise c = view-rises c.args.entries.now c.deref.result.now c.in_ok-standing.standing.items c.deref.ensures.value c.in_ok-standing.ensures.standing

pub rows_among-requires-clause-standing : goal.rows_among-requires-clause-standing
rows_among-requires-clause-standing c = view-stands c.args.entries.now c.deref.result.now c.in_ok-standing.standing.items c.deref.ensures.value c.in_ok-standing.ensures.standing

pub returns : goal.returns
returns c =
    if-ok c.rows_among.result (λ rows. RowsOf c.deref.result.now c.entries.result.now c.args.meter.0 c.args.register c.entries.result.now rows.items) (λ rows. AreReadings c.args.entries.now c.args.meter.0 c.args.register rows.items)
    (λ rows l. readings-of_standing c.args.entries.now c.in_ok-in_order.in_order c.in_ok-standing.standing.items c.entries.result.now c.deref.result.now c.args.meter.0 c.args.register rows.items
    c.entries.ensures.entries c.in_ok-in_order.ensures.sorted c.deref.ensures.value c.in_ok-standing.ensures.standing l)
    c.rows_among.ensures
