use Rattle.pw_moving.specs.Tables.{HasAccounts}
use Rattle.pw_moving.proofs.renaming.accounts_of.Given as goal

abbrev pub invariant-loop-account : goal.invariant-loop-account
invariant-loop-account l = HasAccounts (record { old = l.old; new = l.new }) l.account l.table.items
