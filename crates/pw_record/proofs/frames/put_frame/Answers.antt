use Rattle.std.proofs.Common.{rules}
use Rattle.pw_record.specs.Shown.{readings_of}
use Rattle.pw_record.specs.inner.Shown.{shown_in}
use Rattle.pw_record.proofs.frames.put_frame.Goals as goal

pub returns-clause-ok : goal.returns-clause-ok
returns-clause-ok c =
    let read = c.in_ok-origin in
    (readings_of read.origin.meter.0 read.origin.instant (shown_in read.shown), read.ensures.ok, search rules)
