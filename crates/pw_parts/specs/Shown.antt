-- What a reading shows.
-- (Definitions of this project.)
use Rattle.std.specs.Prelude.{ℕ, Option, Some, None}
use Rattle.pw_model.specs.declared.records.Key.{Key}
use Rattle.pw_model.specs.declared.records.Key.TheVariants as key
use Rattle.pw_model.specs.declared.records.Content.{Content}
use Rattle.pw_model.specs.declared.records.Content.TheVariants as content
use Rattle.pw_model.specs.declared.records.Entry.{Entry}

-- when and what a reading shows
abbrev pub shown_at : Key → Content → Option (ℕ × ℕ)
shown_at (key.Reading m r t) (content.Reading w) = Some (t, w)
shown_at _ _ = None

abbrev pub shown : Entry → Option (ℕ × ℕ)
shown e = shown_at e.key e.content
