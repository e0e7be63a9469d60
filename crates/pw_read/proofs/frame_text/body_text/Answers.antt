use Rattle.std.proofs.Common.{◌≡◌, ℕ, List, ◌<◌, ◌++◌, ◌∷◌, [], arith, subst, sym, ◌∙◌, rules}
use Rattle.std.proofs.lemmas.List.{length-append}
use Rattle.pw_frame.specs.Frame.{frame_text}
use Rattle.pw_frame.specs.Body.{Front, BodyFault, BodyReading}
use Rattle.pw_read.specs.Text.{FramesShow}
use Rattle.pw_read.proofs.Shown.{frames_more, stops_at}
use Rattle.pw_read.proofs.frame_text.body_text.Goals as goal

pub returns-in-Err-clause-fault : goal.returns-in-Err-clause-fault
returns-in-Err-clause-fault c =
    let i = c.frames.invariant in
    let h = rw c.in-Err.is at (c.in-Some.ensures.next i.2 i.0 i.1) in
    record { frames = i.0; shown = c.frames.text.items; right = i.4; part_is = i.5; stops = subst (λ (b : List ℕ). BodyFault b i.0 c.in-Err.fault) i.3 h.0 }

pub returns-in-Err-Refused-clause-fault : goal.returns-in-Err-Refused-clause-fault
returns-in-Err-Refused-clause-fault c =
    let i = c.frames.invariant in
    let h = rw c.in-Ok.is at (c.in-Some.ensures.next i.2 i.0 i.1) in
    let front = subst (λ (b : List ℕ). Front b (i.0 ++ frame_text c.in-Ok.frame ∷ []) c.next_frame.new.self.place) i.3 h.0 in
    rw c.in-Err-Refused.field-0-is (record {
      frames = i.0;
      shown = c.frames.text.items;
      right = i.4;
      part_is = i.5;
      stops = stops_at c.args.clock c.args.body.now i.0 (frame_text c.in-Ok.frame) c.next_frame.new.self.place c.in-Err-Refused.cause front (rw c.in-Err-Refused.field-0-is at c.in-Err-Refused.ensures.err);
    })

pub frames-preserved : goal.frames-preserved
frames-preserved c =
    let i = c.frames.invariant in
    let h = rw c.in-Ok.is at (c.in-Some.ensures.next i.2 i.0 i.1) in
    let rises : c.frames.frames.place < c.next_frame.new.self.place = rw c.in-Ok.is at c.in-Some.ensures.rises in
    let body : c.next_frame.new.self.body ≡ c.frames.frames.body = c.in-Some.ensures.body in
    let o = c.in-Ok-put_frame.ensures.ok in (
      i.0 ++ frame_text c.in-Ok.frame ∷ [],
      rw body h.0,
      h.1,
      body ∙ i.3,
      subst (FramesShow c.args.clock (i.0 ++ frame_text c.in-Ok.frame ∷ [])) (sym o.2) (frames_more c.args.clock i.0 (frame_text c.in-Ok.frame) c.frames.text.items o.0 i.4 o.1),
      simp length-append (omega (arith, i.5)),
      omega (arith, i.6, rises),
    )

pub returns-clause-text : goal.returns-clause-text
returns-clause-text c =
    let i = c.frames.invariant in
    record { frames = i.0; reading = subst (λ (b : List ℕ). BodyReading b i.0) i.3 (c.in_default.ensures.next i.2 i.0 i.1).0; shown = i.4 }

pub frames-init : goal.frames-init
frames-init c = search rules depth 0 fits 100

pub returns-in-Err-clause-text : goal.returns-in-Err-clause-text
returns-in-Err-clause-text c = search rules depth 0 fits 100
