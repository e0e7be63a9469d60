use Rattle.std.proofs.Common.{sym}
use Rattle.std.proofs.lemmas.Bool.{true≢false}
use Rattle.pw_moving.specs.Renaming.{Offices}
use Rattle.pw_moving.proofs.Weekly.{adopted-more, change-there}
use Rattle.pw_moving.proofs.adopting.adopts.Goals as goal

pub may_be_adopted-requires : goal.may_be_adopted-requires
may_be_adopted-requires c = change-there (record { old = c.args.old.now; new = c.args.new.now }) c.args.changes.now c.loop-change.change-index _ c.requires c.loop-change-test.true

pub returns-then-not-may_be_adopted : goal.returns-then-not-may_be_adopted
returns-then-not-may_be_adopted c = (
  λ i. absurd (true≢false (sym i)),
  λ h. (
      let o : Offices = record { old = c.args.old.now; new = c.args.new.now } in
      c.if-not-may_be_adopted.ensures.1 (h _ (change-there o c.args.changes.now c.loop-change.change-index _ c.requires c.loop-change-test.true))),
)

pub loop-change-preserved : goal.loop-change-preserved
loop-change-preserved c =
    adopted-more c.args.words.now c.args.last (record { old = c.args.old.now; new = c.args.new.now }) c.args.changes.now c.loop-change.change-index _ c.loop-change-test.true c.loop-change.invariant
    (c.may_be_adopted.ensures.0 c.if-not-may_be_adopted.false)
