use Rattle.std.proofs.Common.{◌≡◌, refl, subst, inr, rules}
use Rattle.pw_obis.specs.declared.reference.Register.{Register}
use Rattle.pw_record.specs.Origin.{kind_of}
use Rattle.pw_record.specs.Shown.{IsShown}
use Rattle.pw_record.specs.inner.Shown.{shown_in}
use Rattle.pw_record.proofs.FrameFacts.{refused-for-readings}
use Rattle.pw_record.proofs.frames.read_frame.Goals as goal

pub returns-then-is_nothing_shown-clause-err : goal.returns-then-is_nothing_shown-clause-err
returns-then-is_nothing_shown-clause-err c =
    let sets = c.in_ok-block.block in
    let origin = c.in_ok-origin.origin in
    let kind : c.args.frame.now.kind ≡ kind_of c.args.basis.now.source = search rules in
    let nothing = λ (r : Register). subst (IsShown c.args.basis.now.office.now origin.meter.0 sets r) (c.if-is_nothing_shown.ensures.nothing r) (c.in_ok-shown.ensures.ok r) in
    refused-for-readings sets origin.meter.0 origin.instant kind c.in_ok-block.ensures.block c.in_ok-origin.ensures.ok (inr (nothing, refl))

pub returns-clause-ok : goal.returns-clause-ok
returns-clause-ok c =
    let origin = c.in_ok-origin.origin in
    let kind : c.args.frame.now.kind ≡ kind_of c.args.basis.now.source = search rules in
    record {
      sets = c.in_ok-block.block;
      meter = origin.meter.0;
      instant = origin.instant;
      shown = shown_in c.in_ok-shown.shown;
      kind_is = kind;
      has = c.in_ok-block.ensures.block;
      origin = c.in_ok-origin.ensures.ok;
      shown_are = c.in_ok-shown.ensures.ok;
      some = c.if-is_nothing_shown.ensures.some;
      given_are = refl;
    }
