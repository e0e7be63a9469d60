use Rattle.std.proofs.Common.{All, IsTrue, false, take, ◌≡◌}
use Rattle.pw_moving.specs.Adopting.{IsMet}
use Rattle.pw_commands.proofs.weighing.put_all_unmet.Given as goal

-- where all are met so far, each of the first words is; else not all words are
abbrev pub invariant-loop-word : goal.invariant-loop-word
invariant-loop-word l =
    (IsTrue l.all_met → All (IsMet (record { old = l.old; new = l.new })) (take l.word-index l.words))
    × (l.all_met ≡ false → All (IsMet (record { old = l.old; new = l.new })) l.words → ⊥)
