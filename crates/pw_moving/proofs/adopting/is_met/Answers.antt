use Rattle.std.proofs.Common.{refl, sym, ◌∙◌}
use Rattle.std.proofs.lemmas.Bool.{true≢false}
use Rattle.pw_moving.proofs.Weekly.{change-there}
use Rattle.pw_moving.proofs.Spelt.{met, unsaid-more}
use Rattle.pw_moving.proofs.adopting.is_met.Goals as goal

pub is_said-requires : goal.is_said-requires
is_said-requires c =
    change-there (record { old = c.args.old.now; new = c.args.new.now }) c.args.changes.now c.loop-change.change-index _
    c.requires c.loop-change-test.true

pub returns-then-is_said : goal.returns-then-is_said
returns-then-is_said c = (
  λ _. met c.args.word.now (record { old = c.args.old.now; new = c.args.new.now }) c.args.changes.now
      c.loop-change.change-index _ c.requires c.loop-change-test.true (c.is_said.ensures.0 c.if-is_said.true),
  λ _. refl,
)

pub loop-change-preserved : goal.loop-change-preserved
loop-change-preserved c =
    unsaid-more c.args.word.now (record { old = c.args.old.now; new = c.args.new.now }) c.args.changes.now
    c.loop-change.change-index _ c.loop-change-test.true c.loop-change.invariant
    (λ h. true≢false (sym (c.is_said.ensures.1 h) ∙ c.if-is_said.false))
