use Rattle.std.proofs.Common.{◌≡◌, Vec, Global, refl, ap, ◌∙◌, subst}
use Rattle.std.proofs.lemmas.Result.{on_ok_weaker}
use Rattle.pw_model.specs.Lists.{Lists}
use Rattle.pw_moving.specs.declared.change.Change.{Change}
use Rattle.pw_moving.specs.declared.change.Change.TheVariants as change
use Rattle.pw_moving.specs.Renaming.{Offices}
use Rattle.pw_moving.specs.Changes.{Differs, change_order}
use Rattle.pw_moving.specs.inner.Comparing.{Puts}
use Rattle.pw_moving.proofs.Lines.{confirmed, like-some, meter-next, puts-nothing, puts-one, refuted, unlike-some}
use Rattle.pw_moving.proofs.comparing.put_meter.Goals as goal
use Rattle.pw_moving.proofs.comparing.put_meter.Goals.{then-not-is_same_clock+in_ok-push, else-not-is_same_clock}

pub returns : goal.returns
returns c =
    let o : Offices = record { old = c.args.old.now; new = c.args.new.now } in
    let clock : Puts (Lists change_order (λ x. Differs o x × (x ≡ change.Clock c.args.meter))) c.args.changes.now.items c.if-not-is_same_clock.changes.items = elim c.if-not-is_same_clock.branch [
      | then-not-is_same_clock+in_ok-push w ↦ puts-one (λ x. Differs o x × (x ≡ change.Clock c.args.meter)) (change.Clock c.args.meter) c.args.changes.now.items c.if-not-is_same_clock.changes.items
          (ap (λ (v : Vec Change Global). v.items) w.changes-is ∙ w.in_ok-push.ensures.items)
          (unlike-some _ _ c.clock.result c.clock-2.result c.clock.ensures c.clock-2.ensures (refuted c.is_same_clock.result w.if-not-is_same_clock.true c.is_same_clock.ensures), refl) (λ y h. h.1)
      | else-not-is_same_clock w ↦ puts-nothing (λ x. Differs o x × (x ≡ change.Clock c.args.meter)) c.args.changes.now.items c.if-not-is_same_clock.changes.items
          (ap (λ (v : Vec Change Global). v.items) w.changes-is)
          (λ y h. like-some _ _ c.clock.result c.clock-2.result c.clock.ensures c.clock-2.ensures (confirmed c.is_same_clock.result w.if-not-is_same_clock.false c.is_same_clock.ensures)
          (subst (λ (z : Change). Differs o z) h.1 h.0))
    ] in
    on_ok_weaker c.put_registers.result (λ h. meter-next o c.args.meter c.args.changes.now.items c.if-not-is_same_clock.changes.items c.put_registers.new.changes.items clock h) c.put_registers.ensures
