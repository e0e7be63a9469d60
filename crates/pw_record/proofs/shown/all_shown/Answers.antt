use Rattle.std.proofs.Common.{◌≡◌, ℕ, Option, ◌++◌, ◌∷◌, [], List, subst, sym, ap, ◌∙◌, Ok}
use Rattle.std.proofs.lemmas.List.{append-nil}
use Rattle.std.proofs.lemmas.Result.{err_from_is_err_and}
use Rattle.pw_obis.specs.declared.reference.Register.{Register}
use Rattle.pw_obis.specs.inner.Given.{set_text}
use Rattle.pw_obis.specs.Line.{SetText}
use Rattle.pw_obis.proofs.Given.{given_behind, given_here}
use Rattle.pw_tariff.specs.Office.{OfficeFile}
use Rattle.pw_record.specs.declared.fault.Cause.{Cause}
use Rattle.pw_record.specs.Shown.{AreShown, HasWrongSet, IsWrongSet, Measures}
use Rattle.pw_record.specs.inner.Shown.{shown_in}
use Rattle.pw_record.proofs.Measuring.{still-shown, now-shown}
use Rattle.pw_record.proofs.shown.all_shown.Goals as goal

has-wrong : {file : OfficeFile} {meter : ℕ} {sets : List SetText} {cause : Cause} (before : List SetText) (set : SetText) (behind : List SetText) (shown : Register → Option ℕ)
    → sets ≡ before ++ set ∷ behind → AreShown file meter before shown → IsWrongSet file meter shown set cause → HasWrongSet file meter sets cause
has-wrong before set behind shown sets_are right wrong = record { before = before; set = set; behind = behind; shown = shown; sets_are = sets_are; right = right; wrong = wrong }

pub sets-preserved-in_default : goal.sets-preserved-in_default
sets-preserved-in_default c =
    let i = c.sets.invariant in
    let h = c.in-Some.ensures.steps in (
      i.0 ++ set_text c.in-Some.set ∷ [],
      given_behind c.args.block.now i.0 c.sets.set-iterator c.next.new.self h.0 c.in-Some.set h.1 i.1 h.2,
      still-shown c.args.office.now c.args.meter.0 i.0 (set_text c.in-Some.set) (shown_in c.sets.shown) (rw c.in_default.is at c.in_ok-reading.ensures.ok) i.2,
    )

pub returns-in_err-reading-clause-err : goal.returns-in_err-reading-clause-err
returns-in_err-reading-clause-err c =
    let i = c.sets.invariant in
    let h = c.in-Some.ensures.steps in
    let p = err_from_is_err_and c.from_residual.result c.from_residual.ensures.1 in
    rw (p.1, p.2) (has-wrong i.0 (set_text c.in-Some.set) c.next.new.self (shown_in c.sets.shown)
    (given_here c.args.block.now i.0 c.sets.set-iterator c.next.new.self h.0 c.in-Some.set h.1 i.1 h.2) i.2 c.in_err-reading.ensures.err)

pub returns-then-not-note-clause-err : goal.returns-then-not-note-clause-err
returns-then-not-note-clause-err c =
    let i = c.sets.invariant in
    let h = c.in-Some.ensures.steps in
    let r = c.in-Some-2.reading in
    let measures : Measures c.args.office.now c.args.meter.0 (set_text c.in-Some.set) r.register (Ok r.wh) = rw c.in-Some-2.is at c.in_ok-reading.ensures.ok in
    let unlike = c.if-not-note.ensures.unlike in
    has-wrong i.0 (set_text c.in-Some.set) c.next.new.self (shown_in c.sets.shown)
    (given_here c.args.block.now i.0 c.sets.set-iterator c.next.new.self h.0 c.in-Some.set h.1 i.1 h.2)
    i.2 (r.register, r.wh, unlike.0, measures, unlike.1, unlike.2)

pub sets-preserved : goal.sets-preserved
sets-preserved c =
    let i = c.sets.invariant in
    let h = c.in-Some.ensures.steps in
    let r = c.in-Some-2.reading in
    let set = set_text c.in-Some.set in
    let measures : Measures c.args.office.now c.args.meter.0 set r.register (Ok r.wh) = rw c.in-Some-2.is at c.in_ok-reading.ensures.ok in (
      i.0 ++ set ∷ [],
      given_behind c.args.block.now i.0 c.sets.set-iterator c.next.new.self h.0 c.in-Some.set h.1 i.1 h.2,
      now-shown c.args.office.now c.args.meter.0 i.0 set c.sets.shown c.note.new.shown r.register r.wh c.if-not-note.ensures.noted measures i.2,
    )

pub returns-clause-ok : goal.returns-clause-ok
returns-clause-ok c =
    let i = c.sets.invariant in
    let same : c.args.block.now ≡ i.0 = i.1 ∙ ap (λ (x : List SetText). i.0 ++ x) c.in-None.ensures.steps.0 ∙ append-nil i.0 in
    subst (λ (s : List SetText). AreShown c.args.office.now c.args.meter.0 s (shown_in c.sets.shown)) (sym same) i.2
