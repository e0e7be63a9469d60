use Rattle.pw_record.proofs.OneOutcome.{one-outcome}
use Rattle.pw_record.proofs.laws.no_upload_has_two_outcomes.Goals as goal

pub returns : goal.returns
returns c = one-outcome c.args.office.now c.bands.ensures.sound.named
