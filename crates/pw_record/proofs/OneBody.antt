-- A body of telegrams or of readouts has one outcome.
use Rattle.std.proofs.Common.{◌≡◌, ℕ, ◌+◌, List, [], ◌∷◌, ◌++◌, length, sym, ap, subst, ◌∙◌, append_assoc, inl, inr, ⊎_elim, arith}
use Rattle.std.proofs.lemmas.List.{length-append}
use Rattle.pw_frame.specs.Frame.{FrameText}
use Rattle.pw_frame.specs.Body.{BodyReading}
use Rattle.pw_tariff.specs.Office.{OfficeFile, AreNamed}
use Rattle.pw_time.specs.declared.zone.Clock.{Clock}
use Rattle.pw_time.specs.declared.zone.Clock.TheVariants.{Marked}
use Rattle.pw_model.specs.declared.records.Entry.{Entry}
use Rattle.pw_record.specs.declared.fault.Cause.{Cause}
use Rattle.pw_record.specs.declared.fault.Cause.TheVariants.{Frame}
use Rattle.pw_record.specs.declared.fault.UploadFault.{UploadFault}
use Rattle.pw_record.specs.declared.origin.Source.{Source}
use Rattle.pw_record.specs.declared.origin.Source.TheVariants.{Telegrams as OfTelegrams}
use Rattle.pw_record.specs.Causes.{want_of_memory}
use Rattle.pw_record.specs.Listed.{AreListed}
use Rattle.pw_record.specs.Names.{HasId, HasClock}
use Rattle.pw_record.specs.Frames.{FrameGives, RefusesFrame, FramesGive, BodyGives, HasMoreFrames, HasNoFrame, HasRefusedFrame, RefusesBehind, BodyStops, BodyRefused, IsReadoutMeter, readouts_of, ReadoutsGive, ReadoutsRefused}
use Rattle.pw_record.specs.Laws.{HasNoTwoOutcomes}
use Rattle.pw_record.specs.Uploads.{Telegrams, Readouts}
use Rattle.pw_record.proofs.OneCut.{cuts, longer, nothing-behind}
use Rattle.pw_record.proofs.OneFrame.{one-given, given-or-refused, one-cause}
use Rattle.pw_record.proofs.OneFront.{stops-at-end, front-behind, front-compared, one-reading, reading-or-fault, one-fault}
use Rattle.pw_record.proofs.OneListed.{one_listed}
use Rattle.pw_record.proofs.OneName.{one_id}
use Rattle.pw_record.proofs.OneOrigin.{one-clock}

-- ---- the entries of a body
one-given-by-all : (file : OfficeFile) → AreNamed file → (source : Source) (frames : List FrameText) (a b : List Entry) → FramesGive file source frames a → FramesGive file source frames b
    → a ≡ b
one-given-by-all file named source [] a b x y = x ∙ sym y
one-given-by-all file named source (frame ∷ frames) a b x y =
    let first : x.0 ≡ y.0 = one-given file named source frame x.0 y.0 x.2 y.2 in
    let more : x.1 ≡ y.1 = one-given-by-all file named source frames x.1 y.1 x.3 y.3 in
    x.4 ∙ ap (λ (l : List Entry). l ++ x.1) first ∙ ap (λ (l : List Entry). y.0 ++ l) more ∙ sym y.4

one-entries : (file : OfficeFile) → AreNamed file → (source : Source) (body : List ℕ) (a b : List Entry) → BodyGives file source body a → BodyGives file source body b → a ≡ b
one-entries file named source body a b x y =
    let frames : x.frames ≡ y.frames = one-reading body x.frames y.frames x.reading y.reading in
    let each : FramesGive file source y.frames x.given = subst (λ (l : List FrameText). FramesGive file source l x.given) frames x.each in
    let given : x.given ≡ y.given = one-given-by-all file named source y.frames x.given y.given each y.each in
    one_listed y.given a b (subst (λ (l : List Entry). AreListed l a) given x.listed) y.listed

-- ---- a refused frame stands among none that give
each-given : (file : OfficeFile) (source : Source) (before : List FrameText) (frame : FrameText) (mid : List FrameText) (given : List Entry)
    → FramesGive file source (before ++ frame ∷ mid) given → (first : List Entry) × FrameGives file source frame first
each-given file source [] frame mid given x = (x.0, x.2)
each-given file source (f ∷ before) frame mid given x = each-given file source before frame mid x.1 x.3

refused-among : (file : OfficeFile) → AreNamed file → (source : Source) (frames before mid : List FrameText) (frame : FrameText) (given : List Entry) (cause : Cause)
    → FramesGive file source frames given → frames ≡ before ++ frame ∷ mid → RefusesFrame file source frame cause → ⊥
refused-among file named source frames before mid frame given cause x e r =
    let there : FramesGive file source (before ++ frame ∷ mid) given = subst (λ (l : List FrameText). FramesGive file source l given) e x in
    let one : (first : List Entry) × FrameGives file source frame first = each-given file source before frame mid given there in
    given-or-refused file named source frame one.0 cause one.1 r

-- one more frame, and others behind it
one-more : (before : List FrameText) (frame : FrameText) (rest : List FrameText) → (before ++ frame ∷ []) ++ rest ≡ before ++ frame ∷ rest
one-more before frame rest = append_assoc before (frame ∷ []) rest

-- ---- entries or a refusal
given-or-behind : (file : OfficeFile) → AreNamed file → (source : Source) (body : List ℕ) (entries : List Entry) (before : List FrameText) (cause : Cause) → BodyGives file source body entries
    → RefusesBehind file source body before cause → ⊥
given-or-behind file named source body entries before cause x (inl y) =
    let p : (rest : List FrameText) × (x.frames ≡ before ++ rest) = front-behind body x.frames before (length body) y.place x.reading.front (stops-at-end body) y.front in
    let same : x.frames ≡ before = nothing-behind x.frames before p.0 p.1 (omega (arith, x.few, y.many)) in
    y.more (subst (BodyReading body) same x.reading)
given-or-behind file named source body entries before cause x (inr (inl y)) = reading-or-fault body x.frames before y.fault x.reading y.stops
given-or-behind file named source body entries before cause x (inr (inr y)) =
    let p : (rest : List FrameText) × (x.frames ≡ (before ++ y.frame ∷ []) ++ rest) =
    front-behind body x.frames (before ++ y.frame ∷ []) (length body) y.place x.reading.front (stops-at-end body) y.front in
    refused-among file named source x.frames before p.0 y.frame x.given cause x.each (p.1 ∙ one-more before y.frame p.0) y.refused

-- ---- one part and one cause
more-or-none : (body : List ℕ) (a b : List FrameText) (c d : Cause) → HasMoreFrames body a c → HasNoFrame body b d → ⊥
more-or-none body a b c d x y =
    let p : (rest : List FrameText) × (b ≡ a ++ rest) = front-behind body b a y.stops.place x.place y.stops.front y.stops.no_frame x.front in
    omega (arith, ap length p.1, length-append a p.0, x.many, y.few)

more-or-refused : (file : OfficeFile) → AreNamed file → (source : Source) (body : List ℕ) (a b : List FrameText) (given : List Entry) (c d : Cause) → FramesGive file source a given
    → HasMoreFrames body a c → HasRefusedFrame file source body b d → ⊥
more-or-refused file named source body a b given c d g x y =
    let p : (xs : List FrameText) × (ys : List FrameText) × (a ++ xs ≡ (b ++ y.frame ∷ []) ++ ys) = front-compared body a (b ++ y.frame ∷ []) x.place y.place x.front y.front in
    let q : (mid : List FrameText) × (a ≡ b ++ y.frame ∷ mid) = longer a b y.frame p.0 p.1 (p.2 ∙ one-more b y.frame p.1) (omega (arith, x.many, y.few)) in
    refused-among file named source a b q.0 y.frame given d g q.1 y.refused

none-or-refused : (file : OfficeFile) → AreNamed file → (source : Source) (body : List ℕ) (a b : List FrameText) (given : List Entry) (c d : Cause) → FramesGive file source a given
    → HasNoFrame body a c → HasRefusedFrame file source body b d → ⊥
none-or-refused file named source body a b given c d g x y =
    let p : (rest : List FrameText) × (a ≡ (b ++ y.frame ∷ []) ++ rest) = front-behind body a (b ++ y.frame ∷ []) x.stops.place y.place x.stops.front x.stops.no_frame y.front in
    refused-among file named source a b p.0 y.frame given d g (p.1 ∙ one-more b y.frame p.0) y.refused

one-none : (body : List ℕ) (a b : List FrameText) (c d : Cause) → HasNoFrame body a c → HasNoFrame body b d → (length a ≡ length b) × (c ≡ d)
one-none body a b c d x y =
    let e : (a ≡ b) × (x.fault ≡ y.fault) = one-fault body a b x.fault y.fault x.stops y.stops in
    (ap length e.0, x.cause_is ∙ ap Frame e.1 ∙ sym y.cause_is)

one-refused : (file : OfficeFile) → AreNamed file → (source : Source) (body : List ℕ) (a b : List FrameText) (g h : List Entry) (c d : Cause) → FramesGive file source a g
    → FramesGive file source b h → HasRefusedFrame file source body a c → HasRefusedFrame file source body b d → (length a ≡ length b) × (c ≡ d)
one-refused file named source body a b g h c d i j x y =
    let p : (xs : List FrameText) × (ys : List FrameText) × ((a ++ x.frame ∷ []) ++ xs ≡ (b ++ y.frame ∷ []) ++ ys) =
    front-compared body (a ++ x.frame ∷ []) (b ++ y.frame ∷ []) x.place y.place x.front y.front in
    ⊎_elim
    (λ (q : (a ≡ b) × (x.frame ≡ y.frame)).
    let there : RefusesFrame file source y.frame c = subst (λ (f : FrameText). RefusesFrame file source f c) q.1 x.refused in
    (ap length q.0, one-cause file named source y.frame c d there y.refused))
    (λ r. ⊎_elim
    (λ (q : (mid : List FrameText) × (b ≡ a ++ x.frame ∷ mid)). absurd (refused-among file named source b a q.0 x.frame h c j q.1 x.refused))
    (λ (q : (mid : List FrameText) × (a ≡ b ++ y.frame ∷ mid)). absurd (refused-among file named source a b q.0 y.frame g d i q.1 y.refused))
    r)
    (cuts a b x.frame y.frame p.0 p.1 (sym (one-more a x.frame p.0) ∙ p.2 ∙ one-more b y.frame p.1))

one-behind : (file : OfficeFile) → AreNamed file → (source : Source) (body : List ℕ) (a b : List FrameText) (g h : List Entry) (c d : Cause) → FramesGive file source a g
    → FramesGive file source b h → RefusesBehind file source body a c → RefusesBehind file source body b d → (length a ≡ length b) × (c ≡ d)
one-behind file named source body a b g h c d i j (inl x) (inl y) = (x.many ∙ sym y.many, x.cause_is ∙ sym y.cause_is)
one-behind file named source body a b g h c d i j (inl x) (inr (inl y)) = absurd (more-or-none body a b c d x y)
one-behind file named source body a b g h c d i j (inl x) (inr (inr y)) = absurd (more-or-refused file named source body a b g c d i x y)
one-behind file named source body a b g h c d i j (inr (inl x)) (inl y) = absurd (more-or-none body b a d c y x)
one-behind file named source body a b g h c d i j (inr (inl x)) (inr (inl y)) = one-none body a b c d x y
one-behind file named source body a b g h c d i j (inr (inl x)) (inr (inr y)) = absurd (none-or-refused file named source body a b g c d i x y)
one-behind file named source body a b g h c d i j (inr (inr x)) (inl y) = absurd (more-or-refused file named source body b a h d c j y x)
one-behind file named source body a b g h c d i j (inr (inr x)) (inr (inl y)) = absurd (none-or-refused file named source body b a h d c j y x)
one-behind file named source body a b g h c d i j (inr (inr x)) (inr (inr y)) = one-refused file named source body a b g h c d i j x y

same-fault : (a b : UploadFault) → a.part ≡ b.part → a.cause ≡ b.cause → a ≡ b
same-fault a b p c = ap (λ (n : ℕ). record { part = n; cause = a.cause }) p ∙ ap (λ (k : Cause). record { part = b.part; cause = k }) c

one-stop : (file : OfficeFile) → AreNamed file → (source : Source) (body : List ℕ) (a b : UploadFault) → BodyStops file source body a.part a.cause → BodyStops file source body b.part b.cause
    → a ≡ b
one-stop file named source body a b x y =
    let e : (length x.before ≡ length y.before) × (a.cause ≡ b.cause) =
    one-behind file named source body x.before y.before x.given y.given a.cause b.cause x.good y.good x.refused y.refused in
    same-fault a b (x.part_is ∙ ap (λ (n : ℕ). n + 1) e.0 ∙ sym y.part_is) e.1

-- ---- a body from a source
-- a refusal that isn't want of memory is of the body's content
stops-there : (file : OfficeFile) (source : Source) (body : List ℕ) (fault : UploadFault) → (fault ≡ want_of_memory → ⊥) → BodyRefused file source body fault
    → BodyStops file source body fault.part fault.cause
stops-there file source body fault n (inl m) = absurd (n m)
stops-there file source body fault n (inr x) = x

given-or-stopped : (file : OfficeFile) → AreNamed file → (source : Source) (body : List ℕ) (entries : List Entry) (fault : UploadFault) → (fault ≡ want_of_memory → ⊥)
    → BodyGives file source body entries → BodyRefused file source body fault → ⊥
given-or-stopped file named source body entries fault n x y =
    let s : BodyStops file source body fault.part fault.cause = stops-there file source body fault n y in
    given-or-behind file named source body entries s.before fault.cause x s.refused

one-refusal : (file : OfficeFile) → AreNamed file → (source : Source) (body : List ℕ) (a b : UploadFault) → (a ≡ want_of_memory → ⊥) → (b ≡ want_of_memory → ⊥)
    → BodyRefused file source body a → BodyRefused file source body b → a ≡ b
one-refusal file named source body a b m n x y = one-stop file named source body a b (stops-there file source body a m x) (stops-there file source body b n y)

-- ---- telegrams
pub one_telegrams : (file : OfficeFile) → AreNamed file → (body : List ℕ) → HasNoTwoOutcomes file (Telegrams body)
one_telegrams file named body = record {
  entries = λ a b x y. one-entries file named OfTelegrams body a b x y;
  either = λ given fault x y. given-or-stopped file named OfTelegrams body given fault y.1 x y.0;
  refusal = λ a b x y. one-refusal file named OfTelegrams body a b x.1 y.1 x.0 y.0;
}

-- ---- readouts
-- the meter with an id and its clock
abbrev SameMeter : ℕ → ℕ → Clock → Clock → Type 0
SameMeter m n c d = (m ≡ n) × (c ≡ d)

one-readout-meter : (file : OfficeFile) → AreNamed file → (id : List ℕ) (m n : ℕ) (c d : Clock) → HasId file id m → HasId file id n → HasClock file m c → HasClock file n d → SameMeter m n c d
one-readout-meter file named id m n c d x y p q =
    let e : m ≡ n = one_id file named id m n x y in
    (e, one-clock file m n c d e p q)

one-source : (m n : ℕ) (c d : Clock) → SameMeter m n c d → readouts_of m c ≡ readouts_of n d
one-source m n c d e = ap (λ (k : ℕ). readouts_of k c) e.0 ∙ ap (readouts_of n) e.1

same-meter : (file : OfficeFile) → AreNamed file → (id : List ℕ) (m n : ℕ) (c d : Clock) → IsReadoutMeter file id m c → IsReadoutMeter file id n d → readouts_of m c ≡ readouts_of n d
same-meter file named id m n c d x y = one-source m n c d (one-readout-meter file named id m n c d x.meter_is y.meter_is x.clock_is y.clock_is)

-- the meter's clock doesn't mark its times
marks-or-not : (file : OfficeFile) → AreNamed file → (id : List ℕ) (m n : ℕ) (c : Clock) → IsReadoutMeter file id m c → HasId file id n → HasClock file n Marked → ⊥
marks-or-not file named id m n c x y p = x.unmarked (one-readout-meter file named id m n c Marked x.meter_is y x.clock_is p).1

readouts-either : (file : OfficeFile) → AreNamed file → (id body : List ℕ) (given : List Entry) (fault : UploadFault) → (fault ≡ want_of_memory → ⊥)
    → ReadoutsGive file id body given → ReadoutsRefused file id body fault → ⊥
readouts-either file named id body given fault n x (inl y) = y.0 x.0 x.2.meter_is
readouts-either file named id body given fault n x (inr (inl y)) = marks-or-not file named id x.0 y.0 x.1 x.2 y.1 y.2
readouts-either file named id body given fault n x (inr (inr y)) =
    let e : readouts_of x.0 x.1 ≡ readouts_of y.0 y.1 = same-meter file named id x.0 y.0 x.1 y.1 x.2 y.2 in
    given-or-stopped file named (readouts_of y.0 y.1) body given fault n (subst (λ (s : Source). BodyGives file s body given) e x.3) y.3

readouts-refusal : (file : OfficeFile) → AreNamed file → (id body : List ℕ) (a b : UploadFault) → (a ≡ want_of_memory → ⊥) → (b ≡ want_of_memory → ⊥)
    → ReadoutsRefused file id body a → ReadoutsRefused file id body b → a ≡ b
readouts-refusal file named id body a b m n (inl x) (inl y) = x.1 ∙ sym y.1
readouts-refusal file named id body a b m n (inl x) (inr (inl y)) = absurd (x.0 y.0 y.1)
readouts-refusal file named id body a b m n (inl x) (inr (inr y)) = absurd (x.0 y.0 y.2.meter_is)
readouts-refusal file named id body a b m n (inr (inl x)) (inl y) = absurd (y.0 x.0 x.1)
readouts-refusal file named id body a b m n (inr (inl x)) (inr (inl y)) = x.3 ∙ sym y.3
readouts-refusal file named id body a b m n (inr (inl x)) (inr (inr y)) = absurd (marks-or-not file named id y.0 x.0 y.1 y.2 x.1 x.2)
readouts-refusal file named id body a b m n (inr (inr x)) (inl y) = absurd (y.0 x.0 x.2.meter_is)
readouts-refusal file named id body a b m n (inr (inr x)) (inr (inl y)) = absurd (marks-or-not file named id x.0 y.0 x.1 x.2 y.1 y.2)
readouts-refusal file named id body a b m n (inr (inr x)) (inr (inr y)) =
    let e : readouts_of x.0 x.1 ≡ readouts_of y.0 y.1 = same-meter file named id x.0 y.0 x.1 y.1 x.2 y.2 in
    one-refusal file named (readouts_of y.0 y.1) body a b m n (subst (λ (s : Source). BodyRefused file s body a) e x.3) y.3

readouts-entries : (file : OfficeFile) → AreNamed file → (id body : List ℕ) (a b : List Entry) → ReadoutsGive file id body a → ReadoutsGive file id body b → a ≡ b
readouts-entries file named id body a b x y =
    let e : readouts_of x.0 x.1 ≡ readouts_of y.0 y.1 = same-meter file named id x.0 y.0 x.1 y.1 x.2 y.2 in
    one-entries file named (readouts_of y.0 y.1) body a b (subst (λ (s : Source). BodyGives file s body a) e x.3) y.3

pub one_readouts : (file : OfficeFile) → AreNamed file → (id body : List ℕ) → HasNoTwoOutcomes file (Readouts id body)
one_readouts file named id body = record {
  entries = λ a b x y. readouts-entries file named id body a b x y;
  either = λ given fault x y. readouts-either file named id body given fault y.1 x y.0;
  refusal = λ a b x y. readouts-refusal file named id body a b x.1 y.1 x.0 y.0;
}
