use Rattle.std.proofs.Common.{ℕ, List, refl, subst, rules}
use Rattle.std.proofs.lemmas.List.{take_rest}
use Rattle.pw_frame.specs.Frame.{Whole, frame_text}
use Rattle.pw_frame.specs.FirstFault.{IsFault}
use Rattle.pw_frame.proofs.Fronts.{front_push, front_fault}
use Rattle.pw_frame.proofs.frames.Frames.next_frame.Goals.{else-self-2-via-then-self-2+else-self-3, else-self-2-via-else-self-2}
use Rattle.pw_frame.proofs.frames.Frames.next_frame.Goals as goal

pub returns-in-Ok-clause-next : goal.returns-in-Ok-clause-next
returns-in-Ok-clause-next c = rw (← c.self.view_is) (λ o fs x. (
  front_push c.self.inside.body.now fs (frame_text c.in-Ok.frame) c.self.inside.place _ c.in-Ok.size x
      (subst (λ (r : List ℕ). Whole r (frame_text c.in-Ok.frame) c.in-Ok.size) (take_rest c.self.inside.body.now c.self.inside.place) c.in-Ok.ensures.whole.0)
      c.skip_line_ends-self-inside.ensures.gap,
  c.if-self.false,
))

pub returns-in-Err-clause-next : goal.returns-in-Err-clause-next
returns-in-Err-clause-next c = rw (← c.self.view_is) (λ o fs x. (
  front_fault c.self.inside.body.now fs c.self.inside.first c.self.inside.place c.in-Err.fault c.self.invariant.0 x
      (subst (λ (r : List ℕ). IsFault r c.self.inside.place c.in-Err.fault) (take_rest c.self.inside.body.now c.self.inside.place) c.in-Err.ensures.fault)
      (λ e. elim c.else-self-2.branch [ else-self-2-via-then-self-2+else-self-3 w ↦ absurd (w.if-self-3.false e) | else-self-2-via-else-self-2 w ↦ w.if-self-2.false ]),
  refl,
))

pub returns-in-Err-clause-body : goal.returns-in-Err-clause-body
returns-in-Err-clause-body c = search rules depth 0 fits 100

pub returns-then-self-clause-ended : goal.returns-then-self-clause-ended
returns-then-self-clause-ended c = search rules depth 0 fits 100

pub returns-in-Ok-clause-ended : goal.returns-in-Ok-clause-ended
returns-in-Ok-clause-ended c = search rules depth 0 fits 100
