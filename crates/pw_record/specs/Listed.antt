-- The entries that an upload answers: each of the given ones once, in order.
-- (Definitions of this project.)
use Rattle.std.specs.Prelude.{List}
use Rattle.pw_model.specs.declared.records.Entry.{Entry}
use Rattle.pw_model.specs.Counting.{SameMembers}
use Rattle.pw_model.specs.Lists.{IsInOrder}
use Rattle.pw_model.specs.Same.{entry_order}

-- the same entries, each before those behind it by key and content, so none twice
pub record AreListed (given listed : List Entry) : Type 0 where
  pub rising : IsInOrder entry_order listed
  pub same : SameMembers given listed
