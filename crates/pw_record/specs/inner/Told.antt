-- What the inner steps of reading a frame's texts answer. It serves `src/meanings.rt`.
use Rattle.std.specs.Prelude.{List}
use Rattle.pw_obis.specs.declared.meaning.Meaning.{Meaning}
use Rattle.pw_obis.specs.Line.{SetText}
use Rattle.pw_record.specs.declared.meanings.Told.{Told}
use Rattle.pw_record.specs.declared.meanings.Told.TheVariants.{Nothing, One, Unlike}
use Rattle.pw_record.specs.Told.{read_as, TellNothing, TellOne, TellUnlike}

-- what the sets tell
abbrev pub AreTelling : Meaning → List SetText → Told → Type 0
AreTelling meaning sets Nothing = TellNothing meaning sets
AreTelling meaning sets (One text) = TellOne meaning sets (read_as meaning text.now)
AreTelling meaning sets Unlike = TellUnlike meaning sets
