use Rattle.pw_tariff.proofs.Answered.{same-hour}
use Rattle.pw_tariff.proofs.laws.band_is_constant_within_an_hour.Goals as goal

pub returns : goal.returns
returns c = same-hour
