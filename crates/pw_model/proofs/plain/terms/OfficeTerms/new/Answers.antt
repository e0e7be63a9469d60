use Rattle.pw_model.proofs.SoundOffice.{sound-office}
use Rattle.pw_model.proofs.plain.terms.OfficeTerms.new.Goals as goal

pub returns-clause-office : goal.returns-clause-office
returns-clause-office c = sound-office c.args.office.now c.accounts-accounts.ensures.sound
