use Rattle.std.proofs.Common.{◌≡◌, ◌++◌, ℕ, List}
use Rattle.pw_obis.specs.Line.{SetText}
use Rattle.pw_read.specs.Lines.{SetsShow}
use Rattle.pw_read.proofs.frame_text.put_sets.Given as goal

abbrev pub invariant-sets : goal.invariant-sets
invariant-sets l =
    (done : List SetText) × (lines : List ℕ) × (l.block ≡ done ++ l.set-iterator)
    × SetsShow l.kind done lines × (l.text.items ≡ l.initial.text.items ++ lines)
