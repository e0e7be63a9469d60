use Rattle.pw_flow.proofs.Neighbours.{pieces-of}
use Rattle.pw_flow.proofs.laws.flows_of_a_piece_add_up.Goals as goal

pub returns : goal.returns
returns c = pieces-of
