use Rattle.pw_model.proofs.TopUps.{top-ups_add_up}
use Rattle.pw_model.proofs.laws.top_ups_add_up.Goals as goal

pub returns : goal.returns
returns c = top-ups_add_up
