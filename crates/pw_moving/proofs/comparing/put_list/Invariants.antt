use Rattle.pw_moving.specs.Changes.{list_place}
use Rattle.pw_moving.specs.inner.Comparing.{AreOfLines, Puts}
use Rattle.pw_moving.proofs.comparing.put_list.Given as goal

abbrev pub invariant-loop-place : goal.invariant-loop-place
invariant-loop-place l = Puts (AreOfLines (record { old = l.old; new = l.new }) (list_place l.list) l.place) l.initial.changes.items l.changes.items
