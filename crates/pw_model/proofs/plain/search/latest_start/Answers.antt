use Rattle.pw_model.proofs.Places.{at-told}
use Rattle.pw_model.proofs.Found.{latest-none, latest-turn, latest-all}
use Rattle.pw_model.proofs.plain.search.latest_start.Goals as goal

pub loop-entry-init : goal.loop-entry-init
loop-entry-init c = latest-none c.args.meter.0 c.args.until

pub loop-entry-preserved : goal.loop-entry-preserved
loop-entry-preserved c =
    latest-turn c.args.meter.0 c.args.until c.args.entries.now c.loop-entry.entry-index c.entry-item.result c.loop-entry.latest c.start_in.result c.later-latest.result
    (at-told c.args.entries.now c.loop-entry.entry-index c.entry-item.result c.loop-entry-test.true c.entry-item.is) c.later-latest.ensures c.loop-entry.invariant c.start_in.ensures

pub returns : goal.returns
returns c = latest-all c.args.meter.0 c.args.until c.args.entries.now c.loop-entry.entry-index c.loop-entry.latest c.loop-entry-test.false c.loop-entry.invariant
