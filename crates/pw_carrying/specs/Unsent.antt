-- Which records of a book weren't sent.
-- (Definitions of this project.)
use Rattle.std.specs.Prelude.{List}
use Rattle.pw_model.specs.declared.records.Entry.{Entry}
use Rattle.pw_model.specs.Counting.{Member}
use Rattle.pw_model.specs.Lists.{Lists}
use Rattle.pw_model.specs.Same.{entry_order}

-- the records that stand in none of the entries that were sent, in the order in which records are listed
abbrev pub AreUnsent : List Entry → List Entry → List Entry → Type 0
AreUnsent records sent found = Lists entry_order (λ e. Member e records × (Member e sent → ⊥)) found
