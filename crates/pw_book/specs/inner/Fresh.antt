-- The entries of an upload that aren't held. It serves `src/posting.rt` and `src/upload.rt`.
-- (Definitions of this project.)
use Rattle.std.specs.Prelude.{List}
use Rattle.pw_model.specs.declared.records.Entry.{Entry}
use Rattle.pw_model.specs.Counting.{EachOnce, Member}

-- entries that stand in a list once each, and of which none is held
pub record AreFresh (held entries : List Entry) : Type 0 where
  pub once : EachOnce entries
  pub apart : (e : Entry) → Member e entries → Member e held → ⊥
