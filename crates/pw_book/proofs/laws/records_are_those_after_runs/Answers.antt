use Rattle.pw_tariff.specs.Office.{IsSound}
use Rattle.pw_record.proofs.OneOutcome.{one-outcome}
use Rattle.pw_book.proofs.Running.{runs-leave-after}
use Rattle.pw_book.proofs.laws.records_are_those_after_runs.Goals as goal

pub returns : goal.returns
returns c = let sound : IsSound c.args.office.now = c.bands.ensures.sound in runs-leave-after c.args.office.now (one-outcome c.args.office.now sound.named)
