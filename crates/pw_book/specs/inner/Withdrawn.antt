-- What is told at a key. It serves `src/withdrawn.rt`.
-- (Definitions of this project.)
use Rattle.std.specs.Prelude.{Bool, true, false}
use Rattle.pw_model.specs.declared.records.Contents.{Contents}
use Rattle.pw_model.specs.declared.records.Contents.TheVariants.{Nothing, One, Several}

-- whether a record that stands has the key
abbrev pub is_something : Contents → Bool
is_something Nothing = false
is_something (One c) = true
is_something Several = true
