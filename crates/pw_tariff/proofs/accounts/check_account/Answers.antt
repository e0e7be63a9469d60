use Rattle.std.proofs.Common.{rules}
use Rattle.pw_tariff.proofs.accounts.check_account.Goals as goal

pub returns-then-not-is_new : goal.returns-then-not-is_new
returns-then-not-is_new c = search rules depth 0 fits 100
