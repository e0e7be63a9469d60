use Rattle.pw_tariff.proofs.Answered.{bands-of}
use Rattle.pw_tariff.proofs.laws.bands_are_of_the_office.Goals as goal

pub returns : goal.returns
returns c = bands-of
