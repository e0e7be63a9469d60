use Rattle.pw_flow.proofs.Level.{gives-at_most}
use Rattle.pw_flow.proofs.laws.cell_is_at_most_rise.Goals as goal

pub returns : goal.returns
returns c = gives-at_most
