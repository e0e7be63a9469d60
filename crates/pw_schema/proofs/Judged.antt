-- Rows that are judged one by one.
use Rattle.std.proofs.Common.{List, [], ◌∷◌}
use Rattle.pw_model.specs.declared.records.Entry.{Entry}
use Rattle.pw_model.specs.Same.{entry_order}
use Rattle.pw_model.specs.Counting.{EachOnce}
use Rattle.pw_model.specs.Lists.{IsInOrder}
use Rattle.pw_model.proofs.EntryOrder.{entry-strict}
use Rattle.pw_model.proofs.InOrder.{before-member}

pub in_order_once : (xs : List Entry) → IsInOrder entry_order xs → EachOnce xs
in_order_once [] h = tt
in_order_once (x ∷ xs) h = (λ m. entry-strict.apart x (before-member entry_order x x xs h.0 m), in_order_once xs h.1)
