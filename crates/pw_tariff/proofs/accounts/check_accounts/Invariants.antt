use Rattle.std.proofs.Common.{map, string_bytes, take}
use Rattle.pw_tariff.specs.Text.{account_checks}
use Rattle.pw_tariff.specs.inner.Checks.{accounts_in_turn}
use Rattle.pw_tariff.proofs.Order.{ComesTo}
use Rattle.pw_tariff.proofs.accounts.check_accounts.Given as goal

abbrev pub invariant-loop-i : goal.invariant-loop-i
invariant-loop-i l = ComesTo (accounts_in_turn (map string_bytes l.names)) (λ name. name) account_checks string_bytes (map string_bytes (take l.i l.names)) l.names l.i
