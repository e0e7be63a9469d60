use Rattle.std.proofs.Common.{sym, ◌∙◌, inl, inr, arith}
use Rattle.std.proofs.lemmas.Bool.{true≢false}
use Rattle.pw_moving.proofs.Weekly.{not-moved_at_all, not-moved_more, not-moved_none}
use Rattle.pw_moving.proofs.comparing.moved_to.Goals as goal
use Rattle.pw_moving.proofs.comparing.moved_to.Goals.{else-to-from-via-then-to-from+else-is_same_name, else-to-from-via-else-to-from}

pub loop-to-init : goal.loop-to-init
loop-to-init c = not-moved_none (record { old = c.args.old.now; new = c.args.new.now }) c.args.list c.args.from

pub returns-clause-none : goal.returns-clause-none
returns-clause-none c =
    let many = c.count-to-end.ensures.count in
    let past = c.loop-to-test.false in
    not-moved_at_all (record { old = c.args.old.now; new = c.args.new.now }) c.args.list c.args.from c.loop-to.to (omega (arith, many, past)) c.loop-to.invariant

pub loop-to-preserved : goal.loop-to-preserved
loop-to-preserved c =
    not-moved_more (record { old = c.args.old.now; new = c.args.new.now }) c.args.list c.args.from c.loop-to.to c.loop-to.invariant (elim c.else-to-from.branch [
      | else-to-from-via-then-to-from+else-is_same_name w ↦ inr (λ e. true≢false (sym (w.is_same_name.ensures.1 e) ∙ w.if-is_same_name.false))
      | else-to-from-via-else-to-from w ↦ inl (sym w.if-to-from.false)
    ])
