-- What was told at the key of a reading before it was added, where several stand behind. It serves `src/effect.rt`.
-- (Definitions of this project.)
use Rattle.std.specs.Prelude.{ℕ, Option, Some, None}
use Rattle.pw_model.specs.declared.records.Content.TheVariants as content
use Rattle.pw_model.specs.declared.records.Contents.{Contents}
use Rattle.pw_model.specs.declared.records.Contents.TheVariants.{One, Several}

-- the reading that counts, where a point stands; else several
abbrev pub told_by_point : Option ℕ → Contents
told_by_point None = Several
told_by_point (Some w) = One (content.Reading w)
