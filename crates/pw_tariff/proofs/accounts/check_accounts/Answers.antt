use Rattle.std.proofs.Common.{◌+◌, map, string_bytes, take, List, ℕ, arith}
use Rattle.pw_tariff.specs.Text.{account_checks}
use Rattle.pw_tariff.specs.inner.Checks.{accounts_in_turn}
use Rattle.pw_tariff.proofs.Order.{turn-refused, turn-passed, turn-ended, names-more}
use Rattle.pw_tariff.proofs.Passed.{passed-on}
use Rattle.pw_tariff.proofs.accounts.check_accounts.Goals as goal

pub returns-in_err-check_account : goal.returns-in_err-check_account
returns-in_err-check_account c =
    let r = rw c.as_bytes.ensures.value at c.in_err-check_account.ensures in
    passed-on _ _ c.from_residual.result c.from_residual.ensures.1
    (turn-refused (accounts_in_turn (map string_bytes c.args.names.now)) (λ (name : List ℕ). name) account_checks string_bytes
    (map string_bytes (take c.loop-i.i c.args.names.now)) c.args.names.now c.loop-i.i c.index-names-i.result c.in_err-check_account.field-0.0
    (omega arith) c.index-names-i.is c.loop-i.invariant r)

pub loop-i-preserved : goal.loop-i-preserved
loop-i-preserved c =
    let p = rw c.as_bytes.ensures.value at c.in_ok-check_account.ensures in
    turn-passed (accounts_in_turn (map string_bytes c.args.names.now)) (λ (name : List ℕ). name) account_checks string_bytes (map string_bytes (take c.loop-i.i c.args.names.now)) (map string_bytes (take (c.loop-i.i + 1) c.args.names.now)) c.args.names.now c.loop-i.i c.index-names-i.result
    (omega arith) c.index-names-i.is (names-more string_bytes c.args.names.now c.loop-i.i c.index-names-i.result (omega arith) c.index-names-i.is) c.loop-i.invariant p

pub returns : goal.returns
returns c = turn-ended (accounts_in_turn (map string_bytes c.args.names.now)) (λ (name : List ℕ). name) account_checks string_bytes (map string_bytes (take c.loop-i.i c.args.names.now)) c.args.names.now c.loop-i.i (omega arith) c.loop-i.invariant
