use Rattle.pw_tariff.proofs.Answered.{one-answer}
use Rattle.pw_tariff.proofs.laws.text_has_one_answer.Goals as goal

pub returns : goal.returns
returns c = one-answer
