-- One frame more of a body.
use Rattle.std.proofs.Common.{◌≡◌, ℕ, ◌+◌, ◌<◌, ◌≤◌, List, [], ◌∷◌, ◌++◌, Option, Some, None, Result, Ok, Err, MatchResult, Bool, false, length, refl, sym, ap, subst, ◌∙◌, append_assoc, inl, inr, ◌⊎◌, ⊎_elim, arith, true}
use Rattle.std.proofs.lemmas.List.{append-nil}
use Rattle.std.specs.List.{flat_map}
use Rattle.pw_frame.specs.declared.frame.Frame.{Frame}
use Rattle.pw_frame.specs.declared.frame.FrameFault.{FrameFault}
use Rattle.pw_frame.specs.Frame.{FrameText, frame_text}
use Rattle.pw_frame.specs.Body.{Front, BodyReading, BodyFault}
use Rattle.pw_frame.proofs.Fronts.{front_more_rises}
use Rattle.pw_obis.specs.declared.reference.Register.{Register}
use Rattle.pw_obis.specs.Block.{HasSets}
use Rattle.pw_obis.specs.Line.{SetText}
use Rattle.pw_tariff.specs.Office.{OfficeFile, MeterText, office_of}
use Rattle.pw_time.specs.Instants.{IsInstant}
use Rattle.pw_time.specs.Outcomes.{IsStampOutcome, IsReadoutOutcome}
use Rattle.pw_model.specs.declared.records.Entry.{Entry}
use Rattle.pw_model.specs.Counting.{Member}
use Rattle.pw_model.specs.Lists.{reading_entry}
use Rattle.pw_model.specs.Office.{AllOfOffice}
use Rattle.pw_record.specs.declared.fault.Cause.{Cause}
use Rattle.pw_record.specs.declared.fault.Cause.TheVariants.{NoRegister}
use Rattle.pw_record.specs.declared.origin.Source.{Source}
use Rattle.pw_record.specs.declared.origin.Source.TheVariants.{Telegrams, Readouts}
use Rattle.pw_record.specs.Origin.{HasOrigin, kind_of}
use Rattle.pw_record.specs.inner.Steps.{IsSourceOf}
use Rattle.pw_record.specs.Shown.{AreShown, HasWrongSet, ShowOne, IsShown, reading_of}
use Rattle.pw_obis.specs.Registers.{registers}
use Rattle.pw_record.specs.Frames.{BodyStops, FrameGives, FramesGive, RefusesBehind, RefusesFrame}
use Rattle.pw_record.proofs.OfOffice.{within, given-by}

pub frames-more : (file : OfficeFile) (source : Source) (frames : List FrameText) (frame : FrameText) (given more : List Entry) → FramesGive file source frames given
    → FrameGives file source frame more → FramesGive file source (frames ++ frame ∷ []) (given ++ more)
frames-more file source [] frame given more x y = (more, [], y, refl, ap (λ l. l ++ more) x ∙ sym (append-nil more))
frames-more file source (f ∷ frames) frame given more x y =
    (x.0, x.1 ++ more, x.2, frames-more file source frames frame x.1 more x.3 y, ap (λ l. l ++ more) x.4 ∙ append_assoc x.0 x.1 more)

-- more frames stand behind these, so they don't reach to the body's end
pub no-reading : (body : List ℕ) (frames : List FrameText) (frame : FrameText) (place : ℕ) → Front body (frames ++ frame ∷ []) place → place ≤ length body → BodyReading body frames → ⊥
no-reading body frames frame place f l r =
    let rises : length body < place = front_more_rises body frames frame (length body) place r.front f in
    omega (arith, rises, l)

-- ---- the meter is the office's
pub origin-within : (file : OfficeFile) (source : Source) (sets : List SetText) (m t : ℕ) → IsSourceOf file source → HasOrigin file source sets m t → m < length file.meters
origin-within file Telegrams sets m t s o = within (λ (x : MeterText). x.id) file.meters m o.0.id o.0.meter_is
origin-within file (Readouts own clock) sets m t s o = subst (λ (k : ℕ). k < length file.meters) (sym o.0) s

origin-instant : (file : OfficeFile) (source : Source) (sets : List SetText) (m t : ℕ) → HasOrigin file source sets m t → IsInstant t
origin-instant file Telegrams sets m t o = let s : IsStampOutcome o.1.0 (Ok t) = o.1.2 in s.5.2
origin-instant file (Readouts own clock) sets m t o = let s : IsReadoutOutcome o.1.0 o.1.1 clock (Ok t) = o.1.4 in s.4.2

-- ---- the readings of a frame are of the office
reading-member : (m t : ℕ) (r : Register) (shown : Option ℕ) (e : Entry) → Member e (reading_of m t r shown) → (wh : ℕ) × (shown ≡ Some wh) × (e ≡ reading_entry m r t wh)
reading-member m t r None e x = absurd x
reading-member m t r (Some wh) e x = ⊎_elim (λ (i : e ≡ reading_entry m r t wh). (wh, refl, i)) (λ n. absurd n) x

appended : (e : Entry) (xs ys : List Entry) → Member e (xs ++ ys) → Member e xs ⊎ Member e ys
appended e [] ys m = inr m
appended e (x ∷ xs) ys m = ⊎_elim
    (λ (i : e ≡ x). inl (inl i))
    (λ (n : Member e (xs ++ ys)). ⊎_elim (λ (k : Member e xs). inl (inr k)) (λ (k : Member e ys). inr k) (appended e xs ys n))
    m

-- a reading of one of some registers
listed : (m t : ℕ) (shown : Register → Option ℕ) (rs : List Register) (e : Entry) → Member e (flat_map (λ r. reading_of m t r (shown r)) rs)
    → (r : Register) × (wh : ℕ) × (shown r ≡ Some wh) × (e ≡ reading_entry m r t wh)
listed m t shown [] e x = absurd x
listed m t shown (r ∷ rs) e x = ⊎_elim
    (λ (k : Member e (reading_of m t r (shown r))). (let y : (wh : ℕ) × (shown r ≡ Some wh) × (e ≡ reading_entry m r t wh) = reading-member m t r (shown r) e k in (r, y.0, y.1, y.2)))
    (λ (k : Member e (flat_map (λ r. reading_of m t r (shown r)) rs)). listed m t shown rs e k)
    (appended e (reading_of m t r (shown r)) (flat_map (λ r. reading_of m t r (shown r)) rs) x)

frame-of-office : (file : OfficeFile) (source : Source) (frame : FrameText) (given : List Entry) → IsSourceOf file source → FrameGives file source frame given → AllOfOffice (office_of file) given
frame-of-office file source frame given s x e n =
    let k : (r : Register) × (wh : ℕ) × (x.shown r ≡ Some wh) × (e ≡ reading_entry x.meter r x.instant wh) =
    listed x.meter x.instant x.shown registers e (subst (Member e) x.given_are n) in
    let one : ShowOne file x.meter x.sets k.0 k.1 = subst (IsShown file x.meter x.sets k.0) k.2 (x.shown_are k.0) in
    given-by file e (reading_entry x.meter k.0 x.instant k.1) k.3
    (origin-within file source x.sets x.meter x.instant s x.origin, one.measures.counts, origin-instant file source x.sets x.meter x.instant x.origin, one.measures.energy_is.1)

pub frames-of-office : (file : OfficeFile) (source : Source) (frames : List FrameText) (given : List Entry) → IsSourceOf file source → FramesGive file source frames given → AllOfOffice (office_of file) given
frames-of-office file source [] given s x e n = absurd (subst (Member e) x n)
frames-of-office file source (frame ∷ frames) given s x e n = ⊎_elim
    (λ (k : Member e x.0). frame-of-office file source frame x.0 s x.2 e k)
    (λ (k : Member e x.1). frames-of-office file source frames x.1 s x.3 e k)
    (appended e x.0 x.1 (subst (Member e) x.4 n))

-- whatever stands behind frames, they aren't all of the body
pub more-behind : (body : List ℕ) (frames : List FrameText) (place : ℕ) (ended : Bool) (next : Result Frame FrameFault)
    → MatchResult next (λ frame. Front body (frames ++ frame_text frame ∷ []) place × (ended ≡ false)) (λ fault. BodyFault body frames fault × (ended ≡ true))
    → place ≤ length body → BodyReading body frames → ⊥
more-behind body frames place ended (Ok frame) h l r = no-reading body frames (frame_text frame) place h.0 l r
more-behind body frames place ended (Err fault) h l r = h.0.no_reading r

-- ---- why a body or a frame is refused
pub stops-because : {file : OfficeFile} {source : Source} {body : List ℕ} {part : ℕ} {cause : Cause} (before : List FrameText) (given : List Entry) → FramesGive file source before given
    → part ≡ length before + 1 → RefusesBehind file source body before cause → BodyStops file source body part cause
stops-because before given good part_is refused = record { before = before; given = given; good = good; part_is = part_is; refused = refused }

pub refused-for-readings : {file : OfficeFile} {source : Source} {frame : FrameText} {cause : Cause} (sets : List SetText) (meter instant : ℕ) → frame.kind ≡ kind_of source
    → HasSets frame.block sets None → HasOrigin file source sets meter instant → HasWrongSet file meter sets cause ⊎ (AreShown file meter sets (λ register. None) × (cause ≡ NoRegister))
    → RefusesFrame file source frame cause
refused-for-readings sets meter instant kind_is has origin wrong =
    inr (inr (inr (record { sets = sets; meter = meter; instant = instant; kind_is = kind_is; has = has; origin = origin; wrong = wrong })))

-- six lists put behind one another
pub six-put : (old a b c d e f n1 n2 n3 n4 n5 n6 : List Entry) → n1 ≡ old ++ a → n2 ≡ n1 ++ b → n3 ≡ n2 ++ c → n4 ≡ n3 ++ d → n5 ≡ n4 ++ e → n6 ≡ n5 ++ f
    → n6 ≡ old ++ (a ++ (b ++ (c ++ (d ++ (e ++ (f ++ []))))))
six-put old a b c d e f n1 n2 n3 n4 n5 n6 p q r s t u = simp (u, t, s, r, q, p, append_assoc, append-nil)
