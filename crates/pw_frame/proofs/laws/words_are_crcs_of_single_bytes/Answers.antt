use Rattle.pw_frame.proofs.SingleBytes.{word_at}
use Rattle.pw_frame.proofs.laws.words_are_crcs_of_single_bytes.Goals as goal

pub returns : goal.returns
returns c = word_at
