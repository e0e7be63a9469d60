use Rattle.pw_moving.proofs.Gone.{gone-nothing}
use Rattle.pw_moving.proofs.laws.gone_accounts_have_nothing.Goals as goal

pub returns : goal.returns
returns c = gone-nothing
