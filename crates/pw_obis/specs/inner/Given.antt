-- A set that is given, as a text. It serves the crates that go over the sets of a block.
use Rattle.pw_obis.specs.declared.data_set.Set.{Set}
use Rattle.pw_obis.specs.Line.{SetText}

-- a set without where it lies in memory
abbrev pub set_text : Set → SetText
set_text set = record { address = set.address.now; values = set.values.now }
