-- A frame gives one list of readings, or is refused for one cause.
use Rattle.std.proofs.Common.{◌≡◌, ℕ, Option, Some, None, List, sym, ap, subst, ◌∙◌, inl, inr, ◌⊎◌}
use Rattle.pw_frame.specs.Frame.{FrameText}
use Rattle.pw_obis.specs.declared.reference.Register.{Register}
use Rattle.pw_obis.specs.Block.{HasSets}
use Rattle.pw_obis.specs.Line.{SetText}
use Rattle.pw_obis.proofs.EachLine.{one_list}
use Rattle.pw_tariff.specs.Office.{OfficeFile, AreNamed}
use Rattle.pw_model.specs.declared.records.Entry.{Entry}
use Rattle.pw_record.specs.declared.fault.Cause.{Cause}
use Rattle.pw_record.specs.declared.fault.Cause.TheVariants.{Line, NoRegister}
use Rattle.pw_record.specs.declared.origin.Source.{Source}
use Rattle.pw_record.specs.Origin.{HasOrigin, RefusesOrigin}
use Rattle.pw_record.specs.Shown.{AreShown, HasWrongSet, readings_of}
use Rattle.pw_record.specs.Frames.{FrameGives, HasWrongLine, HasWrongOrigin, HasWrongReadings, RefusesFrame}
use Rattle.pw_record.proofs.OneOrigin.{one-origin, had-or-refused, one-origin-cause}
use Rattle.pw_record.proofs.OneShown.{one-shown-each, wrong-or-shown, one-wrong-cause}

some-or-none : (n : ℕ) → Some n ≡ None → ⊥
some-or-none n e = cc

same-some : (m n : ℕ) → Some m ≡ Some n → m ≡ n
same-some m n e = cc

-- ---- the sets of a frame with their meter and their instant
pub record SamePlace (ss ts : List SetText) (m n t u : ℕ) : Type 0 where
  pub sets : ss ≡ ts
  pub meter : m ≡ n
  pub instant : t ≡ u

one-place : (file : OfficeFile) → AreNamed file → (source : Source) (block : List ℕ) (ss ts : List SetText) (m n t u : ℕ) → HasSets block ss None → HasSets block ts None
    → HasOrigin file source ss m t → HasOrigin file source ts n u → SamePlace ss ts m n t u
one-place file named source block ss ts m n t u h k x y =
    let e : ss ≡ ts = (one_list block ss ts None None h k).0 in
    let here : HasOrigin file source ts m t = subst (λ (l : List SetText). HasOrigin file source l m t) e x in
    let o : (m ≡ n) × (t ≡ u) = one-origin file named source ts m n t u here y in
    record { sets = e; meter = o.0; instant = o.1 }

shown-there : (file : OfficeFile) (ss ts : List SetText) (m n : ℕ) (shown : Register → Option ℕ) → ss ≡ ts → m ≡ n → AreShown file m ss shown → AreShown file n ts shown
shown-there file ss ts m n shown e f x =
    subst (λ (k : ℕ). AreShown file k ts shown) f (subst (λ (l : List SetText). AreShown file m l shown) e x)

-- ---- one list of readings
pub one-given : (file : OfficeFile) → AreNamed file → (source : Source) (frame : FrameText) (a b : List Entry) → FrameGives file source frame a → FrameGives file source frame b → a ≡ b
one-given file named source frame a b x y =
    let p : SamePlace x.sets y.sets x.meter y.meter x.instant y.instant =
    one-place file named source frame.block x.sets y.sets x.meter y.meter x.instant y.instant x.has y.has x.origin y.origin in
    let there : AreShown file y.meter y.sets x.shown = shown-there file x.sets y.sets x.meter y.meter x.shown p.sets p.meter x.shown_are in
    let shown : x.shown ≡ y.shown = one-shown-each file y.meter y.sets x.shown y.shown there y.shown_are in
    let same : readings_of x.meter x.instant x.shown ≡ readings_of y.meter y.instant y.shown = λ i. readings_of (p.meter i) (p.instant i) (shown i) in
    x.given_are ∙ same ∙ sym y.given_are

-- ---- readings or a refusal
-- what is wrong with the readings of sets
abbrev IsWrong : OfficeFile → ℕ → List SetText → Cause → Type 0
IsWrong file m sets cause = HasWrongSet file m sets cause ⊎ (AreShown file m sets (λ register. None) × (cause ≡ NoRegister))

shown-or-wrong : (file : OfficeFile) (m : ℕ) (sets : List SetText) (shown : Register → Option ℕ) (cause : Cause) (register : Register) (wh : ℕ)
    → AreShown file m sets shown → shown register ≡ Some wh → IsWrong file m sets cause → ⊥
shown-or-wrong file m sets shown cause register wh x some (inl y) = wrong-or-shown file m sets shown cause y x
shown-or-wrong file m sets shown cause register wh x some (inr y) =
    let none : shown ≡ (λ register. None) = one-shown-each file m sets shown (λ register. None) x y.0 in
    some-or-none wh (sym some ∙ ap (λ (f : Register → Option ℕ). f register) none)

no-line : (block : List ℕ) (ss ts : List SetText) (at : ℕ) → HasSets block ss (Some at) → HasSets block ts None → ⊥
no-line block ss ts at x y = some-or-none at (one_list block ss ts (Some at) None x y).1

origin-or-refused : (file : OfficeFile) → AreNamed file → (source : Source) (block : List ℕ) (ss ts : List SetText) (m t : ℕ) (cause : Cause) → HasSets block ss None → HasSets block ts None
    → HasOrigin file source ss m t → RefusesOrigin file source ts cause → ⊥
origin-or-refused file named source block ss ts m t cause h k x y =
    let e : ss ≡ ts = (one_list block ss ts None None h k).0 in
    had-or-refused file named source ts m t cause (subst (λ (l : List SetText). HasOrigin file source l m t) e x) y

pub given-or-refused : (file : OfficeFile) → AreNamed file → (source : Source) (frame : FrameText) (given : List Entry) (cause : Cause) → FrameGives file source frame given
    → RefusesFrame file source frame cause → ⊥
given-or-refused file named source frame given cause x (inl y) = y.unlike x.kind_is
given-or-refused file named source frame given cause x (inr (inl y)) = no-line frame.block y.sets x.sets y.fault.at y.has x.has
given-or-refused file named source frame given cause x (inr (inr (inl y))) =
    origin-or-refused file named source frame.block x.sets y.sets x.meter x.instant cause x.has y.has x.origin y.refused
given-or-refused file named source frame given cause x (inr (inr (inr y))) =
    let p : SamePlace x.sets y.sets x.meter y.meter x.instant y.instant =
    one-place file named source frame.block x.sets y.sets x.meter y.meter x.instant y.instant x.has y.has x.origin y.origin in
    let there : AreShown file y.meter y.sets x.shown = shown-there file x.sets y.sets x.meter y.meter x.shown p.sets p.meter x.shown_are in
    shown-or-wrong file y.meter y.sets x.shown cause x.some.0 x.some.1 there x.some.2 y.wrong

-- ---- one cause
one-line : (source : Source) (frame : FrameText) (c d : Cause) → HasWrongLine source frame c → HasWrongLine source frame d → c ≡ d
one-line source frame c d x y =
    let at : x.fault.at ≡ y.fault.at = same-some x.fault.at y.fault.at (one_list frame.block x.sets y.sets (Some x.fault.at) (Some y.fault.at) x.has y.has).1 in
    let fault : x.fault ≡ y.fault = ap (λ (n : ℕ). record { at = n }) at in
    x.cause_is ∙ ap Line fault ∙ sym y.cause_is

one-wrong-origin : (file : OfficeFile) → AreNamed file → (source : Source) (frame : FrameText) (c d : Cause) → HasWrongOrigin file source frame c → HasWrongOrigin file source frame d → c ≡ d
one-wrong-origin file named source frame c d x y =
    let e : x.sets ≡ y.sets = (one_list frame.block x.sets y.sets None None x.has y.has).0 in
    one-origin-cause file named source y.sets c d (subst (λ (l : List SetText). RefusesOrigin file source l c) e x.refused) y.refused

one-wrong-cause-of : (file : OfficeFile) (m : ℕ) (sets : List SetText) (c d : Cause) → IsWrong file m sets c → IsWrong file m sets d → c ≡ d
one-wrong-cause-of file m sets c d (inl x) (inl y) = one-wrong-cause file m sets c d x y
one-wrong-cause-of file m sets c d (inl x) (inr y) = absurd (wrong-or-shown file m sets (λ register. None) c x y.0)
one-wrong-cause-of file m sets c d (inr x) (inl y) = absurd (wrong-or-shown file m sets (λ register. None) d y x.0)
one-wrong-cause-of file m sets c d (inr x) (inr y) = x.1 ∙ sym y.1

one-wrong-readings : (file : OfficeFile) → AreNamed file → (source : Source) (frame : FrameText) (c d : Cause) → HasWrongReadings file source frame c → HasWrongReadings file source frame d
    → c ≡ d
one-wrong-readings file named source frame c d x y =
    let p : SamePlace x.sets y.sets x.meter y.meter x.instant y.instant =
    one-place file named source frame.block x.sets y.sets x.meter y.meter x.instant y.instant x.has y.has x.origin y.origin in
    let here : IsWrong file x.meter y.sets c = subst (λ (l : List SetText). IsWrong file x.meter l c) p.sets x.wrong in
    one-wrong-cause-of file y.meter y.sets c d (subst (λ (k : ℕ). IsWrong file k y.sets c) p.meter here) y.wrong

pub one-cause : (file : OfficeFile) → AreNamed file → (source : Source) (frame : FrameText) (c d : Cause) → RefusesFrame file source frame c → RefusesFrame file source frame d → c ≡ d
one-cause file named source frame c d (inl x) (inl y) = x.cause_is ∙ sym y.cause_is
one-cause file named source frame c d (inl x) (inr (inl y)) = absurd (x.unlike y.kind_is)
one-cause file named source frame c d (inl x) (inr (inr (inl y))) = absurd (x.unlike y.kind_is)
one-cause file named source frame c d (inl x) (inr (inr (inr y))) = absurd (x.unlike y.kind_is)
one-cause file named source frame c d (inr (inl x)) (inl y) = absurd (y.unlike x.kind_is)
one-cause file named source frame c d (inr (inl x)) (inr (inl y)) = one-line source frame c d x y
one-cause file named source frame c d (inr (inl x)) (inr (inr (inl y))) = absurd (no-line frame.block x.sets y.sets x.fault.at x.has y.has)
one-cause file named source frame c d (inr (inl x)) (inr (inr (inr y))) = absurd (no-line frame.block x.sets y.sets x.fault.at x.has y.has)
one-cause file named source frame c d (inr (inr (inl x))) (inl y) = absurd (y.unlike x.kind_is)
one-cause file named source frame c d (inr (inr (inl x))) (inr (inl y)) = absurd (no-line frame.block y.sets x.sets y.fault.at y.has x.has)
one-cause file named source frame c d (inr (inr (inl x))) (inr (inr (inl y))) = one-wrong-origin file named source frame c d x y
one-cause file named source frame c d (inr (inr (inl x))) (inr (inr (inr y))) =
    absurd (origin-or-refused file named source frame.block y.sets x.sets y.meter y.instant c y.has x.has y.origin x.refused)
one-cause file named source frame c d (inr (inr (inr x))) (inl y) = absurd (y.unlike x.kind_is)
one-cause file named source frame c d (inr (inr (inr x))) (inr (inl y)) = absurd (no-line frame.block y.sets x.sets y.fault.at y.has x.has)
one-cause file named source frame c d (inr (inr (inr x))) (inr (inr (inl y))) =
    absurd (origin-or-refused file named source frame.block x.sets y.sets x.meter x.instant d x.has y.has x.origin y.refused)
one-cause file named source frame c d (inr (inr (inr x))) (inr (inr (inr y))) = one-wrong-readings file named source frame c d x y
