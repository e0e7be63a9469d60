-- What is known of a shelf, and what a call leaves as it is.
-- (Definitions of this project.)
use Rattle.std.specs.Prelude.{◌≡◌, ◌+◌, ℕ, Option, Some, None}
use Rattle.pw_model.specs.declared.records.Entry.{Entry}
use Rattle.pw_model.specs.Shelf.{ShelfContent}
use Rattle.pw_model.specs.Counting.{IsInserted}

pub record State : Type 0 where
  -- what is held now
  pub content : ShelfContent
  -- what was held when the upload began, if one is begun
  pub begun : Option ShelfContent
  -- how often the device has failed
  pub failures : ℕ
  -- how often `abandon` has failed
  pub failed_abandons : ℕ
  -- the calls made and the rows given
  pub tally : ℕ

-- what was committed last: within an upload, what it began with
abbrev pub committed_of : Option ShelfContent → ShelfContent → ShelfContent
committed_of None c = c
committed_of (Some b) c = b

abbrev pub committed : State → ShelfContent
committed s = committed_of s.begun s.content

-- so many failures of the device more are counted, and no `abandon` has failed since
pub record CountsFailures (told : ℕ) (old new : State) : Type 0 where
  pub failures : new.failures ≡ old.failures + told
  pub failed_abandons : new.failed_abandons ≡ old.failed_abandons

-- the upload, or that none is begun, is as before
abbrev pub KeepsUpload : State → State → Type 0
KeepsUpload old new = new.begun ≡ old.begun

-- one record more, at some place of the list, and nothing else
pub record IsWithRecord (old : ShelfContent) (e : Entry) (new : ShelfContent) : Type 0 where
  pub records : IsInserted e old.records new.records
  pub point : new.point ≡ old.point
  pub start : new.start ≡ old.start
  pub total : new.total ≡ old.total
