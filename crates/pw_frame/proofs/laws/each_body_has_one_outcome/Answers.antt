use Rattle.std.proofs.Common.{◌≡◌, ◌<◌, ◌≤◌, ◌++◌, ◌∷◌, [], length, arith, subst, ap, ◌∙◌}
use Rattle.pw_frame.specs.Laws.{OneOutcome}
use Rattle.pw_frame.specs.Frame.{frame_text}
use Rattle.pw_frame.proofs.OneOutcome.{outcome_read, outcome_refused}
use Rattle.pw_frame.proofs.Fronts.{front_more_rises}
use Rattle.pw_frame.proofs.laws.each_body_has_one_outcome.Goals as goal

pub returns-in-None : goal.returns-in-None
returns-in-None c =
    let i = c.frames.invariant in
    subst OneOutcome i.3 (outcome_read c.frames.frames.body i.0 (c.in-None.ensures.next i.2 i.0 i.1).0)

pub returns-in-Some-Err : goal.returns-in-Some-Err
returns-in-Some-Err c =
    let i = c.frames.invariant in
    let h = rw c.in-Some-Err.field-0-is at c.in-Some-Err.ensures.next in
    subst OneOutcome i.3 (outcome_refused c.frames.frames.body i.0 _ (h i.2 i.0 i.1).0)

pub frames-smaller : goal.frames-smaller
frames-smaller c =
    let i = c.frames.invariant in
    let h = rw c.in-Some-Ok.field-0-is at c.in-Some-Ok.ensures.next in
    let rises : c.frames.frames.place < c.next_frame.new.self.place = front_more_rises c.frames.frames.body i.0 (frame_text c.in-Some-Ok.field-0-0) _ _ i.1 (h i.2 i.0 i.1).0 in
    let within : c.next_frame.new.self.place ≤ length c.next_frame.new.self.body = c.next_frame.ensures.within in
    let same : length c.next_frame.new.self.body ≡ length c.frames.frames.body = ap length c.next_frame.ensures.body in
    omega (arith, rises, within, same)

pub frames-preserved : goal.frames-preserved
frames-preserved c =
    let i = c.frames.invariant in
    let h = rw c.in-Some-Ok.field-0-is at c.in-Some-Ok.ensures.next in
    let body : c.next_frame.new.self.body ≡ c.frames.frames.body = c.next_frame.ensures.body in (
      i.0 ++ frame_text c.in-Some-Ok.field-0-0 ∷ [],
      rw body (h i.2 i.0 i.1).0,
      (h i.2 i.0 i.1).1,
      body ∙ i.3,
    )
