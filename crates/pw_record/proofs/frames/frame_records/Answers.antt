use Rattle.std.proofs.Common.{Err, ◌≡◌, ℕ, List, ◌≤◌, ◌++◌, ◌∷◌, [], length, arith, refl, subst, ap, sym, ◌∙◌, inl, inr, rules}
use Rattle.std.proofs.lemmas.List.{length-append}
use Rattle.std.proofs.lemmas.Result.{err_from_is_err_and}
use Rattle.pw_frame.specs.Frame.{frame_text}
use Rattle.pw_frame.specs.Body.{Front, BodyFault, BodyReading}
use Rattle.pw_record.specs.declared.fault.UploadFault.{UploadFault}
use Rattle.pw_record.specs.Frames.{BodyStops, FramesGive}
use Rattle.pw_record.specs.inner.Halts.{fault_of_part}
use Rattle.pw_record.proofs.FrameFacts.{frames-more, frames-of-office, more-behind, stops-because}
use Rattle.pw_record.proofs.Stopped.{kept, stopped, told-of-part}
use Rattle.pw_record.proofs.OfOffice.{listed-of-office}
use Rattle.pw_record.proofs.frames.frame_records.Goals as goal

pub returns-in-Err-clause-refused : goal.returns-in-Err-clause-refused
returns-in-Err-clause-refused c =
    let i = c.frames.invariant in
    let h = rw c.in-Err.is at (c.in-Some.ensures.next i.2 i.0 i.1) in
    inr (stops-because i.0 c.frames.given.items i.4 i.5 (inr (inl (record {
      fault = c.in-Err.fault;
      few = omega (arith, i.5, c.if-part-gt-MOST_FRAMES.false);
      stops = subst (λ (b : List ℕ). BodyFault b i.0 c.in-Err.fault) i.3 h.0;
      cause_is = refl;
    }))))

pub returns-in_err-map_err-clause-refused : goal.returns-in_err-map_err-clause-refused
returns-in_err-map_err-clause-refused c =
    let i = c.frames.invariant in
    let h = rw c.in-Ok.is at (c.in-Some.ensures.next i.2 i.0 i.1) in
    let front = subst (λ (b : List ℕ). Front b (i.0 ++ frame_text c.in-Ok.frame ∷ []) c.next_frame.new.self.place) i.3 h.0 in
    let p = err_from_is_err_and c.from_residual.result c.from_residual.ensures.1 in
    let q = stopped c.put_frame.result c.map_err.result _ c.in_err-map_err.field-0.0 c.map_err.ensures.cases c.in_err-map_err.was in
    let is : c.in_err-map_err.field-0.0 ≡ fault_of_part q.0 c.frames.part = search rules in
    let stops = λ (fault : UploadFault). BodyStops c.args.basis.now.office.now c.args.basis.now.source c.args.body.now fault.part fault.cause in
    rw (p.1, p.2, is) (told-of-part q.0 c.frames.part stops (λ cause because. stops-because i.0 c.frames.given.items i.4 i.5 (inr (inr (record {
      frame = frame_text c.in-Ok.frame;
      place = c.next_frame.new.self.place;
      few = omega (arith, i.5, c.if-part-gt-MOST_FRAMES.false);
      front = front;
      refused = c.put_frame.ensures.err cause (q.1 ∙ ap Err because);
    })))))

pub frames-preserved : goal.frames-preserved
frames-preserved c =
    let i = c.frames.invariant in
    let h = rw c.in-Ok.is at (c.in-Some.ensures.next i.2 i.0 i.1) in
    let body : c.next_frame.new.self.body ≡ c.frames.frames.body = c.in-Some.ensures.body in
    let o = kept c.put_frame.result c.map_err.result _ _ c.map_err.ensures.cases c.in_ok-map_err.was c.put_frame.ensures.ok in (
      i.0 ++ frame_text c.in-Ok.frame ∷ [],
      rw body h.0,
      h.1,
      body ∙ i.3,
      subst (FramesGive c.args.basis.now.office.now c.args.basis.now.source (i.0 ++ frame_text c.in-Ok.frame ∷ [])) (sym o.2)
          (frames-more c.args.basis.now.office.now c.args.basis.now.source i.0 (frame_text c.in-Ok.frame) c.frames.given.items o.0 i.4 o.1),
      simp length-append (omega (arith, i.5)),
      omega (arith, i.6, c.if-part-gt-MOST_FRAMES.false),
    )

pub returns-clause-of_office : goal.returns-clause-of_office
returns-clause-of_office c =
    let i = c.frames.invariant in
    listed-of-office c.args.basis.now.office.now c.frames.given.items c.in_order.result c.in_order.ensures
    (frames-of-office c.args.basis.now.office.now c.args.basis.now.source i.0 c.frames.given.items c.requires i.4)

pub returns-clause-entries : goal.returns-clause-entries
returns-clause-entries c =
    let i = c.frames.invariant in
    record {
      frames = i.0;
      given = c.frames.given.items;
      reading = subst (λ (b : List ℕ). BodyReading b i.0) i.3 (c.in_default.ensures.next i.2 i.0 i.1).0;
      few = omega (arith, i.5, i.6);
      each = i.4;
      listed = c.in_order.ensures;
    }

pub returns-then-part-gt-MOST_FRAMES-clause-refused : goal.returns-then-part-gt-MOST_FRAMES-clause-refused
returns-then-part-gt-MOST_FRAMES-clause-refused c =
    let i = c.frames.invariant in
    let body : c.next_frame.new.self.body ≡ c.frames.frames.body = c.in-Some.ensures.body in
    let low : c.next_frame.new.self.place ≤ length c.frames.frames.body = omega (arith, c.in-Some.ensures.within, ap length body) in
    let more : BodyReading c.frames.frames.body i.0 → ⊥ =
    more-behind c.frames.frames.body i.0 c.next_frame.new.self.place c.next_frame.new.self.ended c.in-Some.next (c.in-Some.ensures.next i.2 i.0 i.1) low in
    inr (stops-because i.0 c.frames.given.items i.4 i.5 (inl (record {
      place = c.frames.frames.place;
      many = omega (arith, i.5, i.6, c.if-part-gt-MOST_FRAMES.true);
      front = subst (λ (b : List ℕ). Front b i.0 c.frames.frames.place) i.3 i.1;
      more = subst (λ (b : List ℕ). BodyReading b i.0 → ⊥) i.3 more;
      cause_is = refl;
    })))

pub frames-init : goal.frames-init
frames-init c = search rules depth 0 fits 100
