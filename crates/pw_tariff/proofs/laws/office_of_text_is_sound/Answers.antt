use Rattle.pw_tariff.proofs.Answered.{office-sound}
use Rattle.pw_tariff.proofs.laws.office_of_text_is_sound.Goals as goal

pub returns : goal.returns
returns c = office-sound
