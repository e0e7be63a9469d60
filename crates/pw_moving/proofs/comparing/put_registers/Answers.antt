use Rattle.std.proofs.Common.{Vec, Global, refl, ap, subst, ◌∙◌}
use Rattle.pw_moving.specs.declared.change.Change.{Change}
use Rattle.pw_moving.specs.Renaming.{Offices}
use Rattle.pw_moving.specs.Changes.{Differs}
use Rattle.pw_moving.proofs.Lines.{counts-other, counts-same, like-bools, place-at, puts-nothing, puts-one, registers-next, unlike-bools}
use Rattle.pw_moving.proofs.comparing.put_registers.Goals as goal
use Rattle.pw_moving.proofs.comparing.put_registers.Goals.{then-counts+in_ok-push, else-counts}

pub loop-register-preserved : goal.loop-register-preserved
loop-register-preserved c =
    let o : Offices = record { old = c.args.old.now; new = c.args.new.now } in
    registers-next o c.args.meter _ c.loop-register.register-index (place-at c.loop-register.register-index _ c.loop-register-test.true)
    c.args.changes.now.items c.loop-register.changes.items c.if-counts.changes.items c.loop-register.invariant (elim c.if-counts.branch [
      | then-counts+in_ok-push w ↦ puts-one _ _ c.loop-register.changes.items c.if-counts.changes.items (ap (λ (v : Vec Change Global). v.items) w.changes-is ∙ w.in_ok-push.ensures.items) (
        counts-other o c.args.meter _ c.counts.result c.counts-in-loop-register.result c.requires.old c.requires.new c.counts.ensures c.counts-in-loop-register.ensures
            (unlike-bools c.counts.result c.counts-in-loop-register.result w.if-counts.true),
        refl,
      ) (λ y h. h.1)
      | else-counts w ↦ puts-nothing _ c.loop-register.changes.items c.if-counts.changes.items (ap (λ (v : Vec Change Global). v.items) w.changes-is)
          (λ y h. counts-same o c.args.meter _ c.counts.result c.counts-in-loop-register.result c.counts.ensures c.counts-in-loop-register.ensures
          (like-bools c.counts.result c.counts-in-loop-register.result w.if-counts.false) (subst (λ (z : Change). Differs o z) h.1 h.0))
    ])
