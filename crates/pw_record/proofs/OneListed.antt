-- The given entries are listed in one way.
use Rattle.std.proofs.Common.{◌≡◌, List}
use Rattle.pw_model.specs.declared.records.Entry.{Entry}
use Rattle.pw_model.specs.Same.{entry_order}
use Rattle.pw_model.proofs.EntryOrder.{entry-strict}
use Rattle.pw_model.proofs.InOrder.{rising-one}
use Rattle.pw_record.specs.Listed.{AreListed}

pub one_listed : (given one other : List Entry) → AreListed given one → AreListed given other → one ≡ other
one_listed given one other a b =
    rising-one entry_order entry-strict one other a.rising b.rising (λ e. (λ m. (b.same e).0 ((a.same e).1 m), λ m. (a.same e).0 ((b.same e).1 m)))
