use Rattle.pw_months.proofs.PieceRows.{pieces-are_rows}
use Rattle.pw_months.proofs.laws.pieces_are_rows.Goals as goal

pub returns : goal.returns
returns c = pieces-are_rows
