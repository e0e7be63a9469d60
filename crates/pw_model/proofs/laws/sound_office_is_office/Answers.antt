use Rattle.pw_model.proofs.SoundOffice.{sound-office}
use Rattle.pw_model.proofs.laws.sound_office_is_office.Goals as goal

pub returns : goal.returns
returns c = sound-office
