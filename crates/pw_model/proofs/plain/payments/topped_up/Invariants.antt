use Rattle.std.proofs.Common.{◌≡◌, ◌*◌, ◌≤◌, take}
use Rattle.pw_model.proofs.Payments.{cents_among}
use Rattle.pw_model.proofs.plain.payments.topped_up.Given as goal

abbrev pub invariant-loop-index : goal.invariant-loop-index
invariant-loop-index l = record {
  sum : l.total ≡ cents_among l.entries l.account.0 (take l.index l.entries);
  bound : l.total ≤ l.index * 4294967295;
}
