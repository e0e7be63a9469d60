use Rattle.std.proofs.Common.{◌≡◌, ℕ, List, ◌≤◌, ◌++◌, ◌∷◌, [], length, arith, refl, subst, ap, ◌∙◌, inl, inr, rules}
use Rattle.std.proofs.lemmas.List.{length-append}
use Rattle.pw_frame.specs.Frame.{frame_text}
use Rattle.pw_frame.specs.Body.{Front, BodyFault, BodyReading}
use Rattle.pw_record.specs.declared.fault.Cause.TheVariants.{Frame, TooManyParts}
use Rattle.pw_record.specs.Shown.{readings_of}
use Rattle.pw_record.specs.inner.Shown.{shown_in}
use Rattle.pw_record.proofs.FrameFacts.{frames-more, more-behind, stops-because}
use Rattle.pw_record.proofs.EachListed.{listed-there_is}
use Rattle.pw_record.proofs.EachOutcome.{not-memory}
use Rattle.pw_record.proofs.laws.frames_have_an_outcome.Goals as goal

pub returns-then-part-gt-MOST_FRAMES : goal.returns-then-part-gt-MOST_FRAMES
returns-then-part-gt-MOST_FRAMES c =
    let i = c.frames.invariant in
    let body : c.next_frame.new.self.body ≡ c.frames.frames.body = c.in-Some.ensures.body in
    let low : c.next_frame.new.self.place ≤ length c.frames.frames.body = omega (arith, c.in-Some.ensures.within, ap length body) in
    let more : BodyReading c.frames.frames.body i.0 → ⊥ =
    more-behind c.frames.frames.body i.0 c.next_frame.new.self.place c.next_frame.new.self.ended c.in-Some.next (c.in-Some.ensures.next i.3 i.0 i.2) low in
    inr (
      c.frames.part,
      TooManyParts,
      stops-because i.0 i.1 i.5 i.6 (inl (record {
        place = c.frames.frames.place;
        many = omega (arith, i.6, i.7, c.if-part-gt-MOST_FRAMES.true);
        front = subst (λ (b : List ℕ). Front b i.0 c.frames.frames.place) i.4 i.2;
        more = subst (λ (b : List ℕ). BodyReading b i.0 → ⊥) i.4 more;
        cause_is = refl;
      })),
      λ e. cc,
    )

pub returns-in-Err : goal.returns-in-Err
returns-in-Err c =
    let i = c.frames.invariant in
    let h = rw c.in-Err.is at (c.in-Some.ensures.next i.3 i.0 i.2) in
    inr (
      c.frames.part,
      Frame c.in-Err.field-0,
      stops-because i.0 i.1 i.5 i.6 (inr (inl (record {
        fault = c.in-Err.field-0;
        few = omega (arith, i.6, c.if-part-gt-MOST_FRAMES.false);
        stops = subst (λ (b : List ℕ). BodyFault b i.0 c.in-Err.field-0) i.4 h.0;
        cause_is = refl;
      }))),
      λ e. cc,
    )

pub returns-in-Err-read_frame : goal.returns-in-Err-read_frame
returns-in-Err-read_frame c =
    let i = c.frames.invariant in
    let h = rw c.in-Ok.is at (c.in-Some.ensures.next i.3 i.0 i.2) in
    let front = subst (λ (b : List ℕ). Front b (i.0 ++ frame_text c.in-Ok.frame ∷ []) c.next_frame.new.self.place) i.4 h.0 in
    inr (
      c.frames.part,
      c.in-Err-read_frame.field-0,
      stops-because i.0 i.1 i.5 i.6 (inr (inr (record {
        frame = frame_text c.in-Ok.frame;
        place = c.next_frame.new.self.place;
        few = omega (arith, i.6, c.if-part-gt-MOST_FRAMES.false);
        front = front;
        refused = c.in-Err-read_frame.ensures.err;
      }))),
      not-memory c.args.office.now c.args.source (frame_text c.in-Ok.frame) c.in-Err-read_frame.field-0 c.in-Err-read_frame.ensures.err,
    )

pub frames-preserved : goal.frames-preserved
frames-preserved c =
    let i = c.frames.invariant in
    let h = rw c.in-Ok.is at (c.in-Some.ensures.next i.3 i.0 i.2) in
    let body : c.next_frame.new.self.body ≡ c.frames.frames.body = c.in-Some.ensures.body in
    let read = c.in-Ok-read_frame.field-0 in
    let more = readings_of read.0.meter.0 read.0.instant (shown_in read.1) in (
      i.0 ++ frame_text c.in-Ok.frame ∷ [],
      i.1 ++ more,
      rw body h.0,
      h.1,
      body ∙ i.4,
      frames-more c.args.office.now c.args.source i.0 (frame_text c.in-Ok.frame) i.1 more i.5 c.in-Ok-read_frame.ensures.ok,
      simp length-append (omega (arith, i.6)),
      omega (arith, i.7, c.if-part-gt-MOST_FRAMES.false),
    )

pub returns : goal.returns
returns c =
    let i = c.frames.invariant in
    let l = listed-there_is i.1 in
    inl (
      l.0,
      record {
        frames = i.0;
        given = i.1;
        reading = subst (λ (b : List ℕ). BodyReading b i.0) i.4 (c.in_default.ensures.next i.3 i.0 i.2).0;
        few = omega (arith, i.6, i.7);
        each = i.5;
        listed = l.1;
      },
    )

pub frames-init : goal.frames-init
frames-init c = search rules depth 0 fits 100
