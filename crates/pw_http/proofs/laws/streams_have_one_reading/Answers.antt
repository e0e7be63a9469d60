use Rattle.pw_http.proofs.Unique.{one_reading}
use Rattle.pw_http.proofs.laws.streams_have_one_reading.Goals as goal

pub returns : goal.returns
returns c = one_reading
