use Rattle.std.proofs.Common.{take}
use Rattle.pw_model.specs.inner.Search.{IsLatestAmong}
use Rattle.pw_model.proofs.plain.search.latest_start.Given as goal

abbrev pub invariant-loop-entry : goal.invariant-loop-entry
invariant-loop-entry l = IsLatestAmong l.meter.0 l.until (take l.entry-index l.entries) l.latest
