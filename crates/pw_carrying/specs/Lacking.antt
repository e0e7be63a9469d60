-- What a book lacks of the entries of an upload.
-- (Definitions of this project.)
use Rattle.std.specs.Prelude.{◌≡◌, ◌↔◌, List}
use Rattle.pw_model.specs.declared.records.Entry.{Entry}
use Rattle.pw_model.specs.Counting.{Member}
use Rattle.pw_book.specs.Posting.{fresh_of}

-- those of some entries that stand nowhere among the records, in their order
pub record AreLacking (records entries found : List Entry) : Type 0 where
  pub order : found ≡ fresh_of records entries
  pub members : (e : Entry) → Member e found ↔ (Member e entries × (Member e records → ⊥))
