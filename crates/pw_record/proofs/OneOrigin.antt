-- The sets of a frame have one meter and one instant, or are refused for one cause.
use Rattle.std.proofs.Common.{◌≡◌, ℕ, List, Some, Result, Ok, Err, refl, sym, ap, subst, ◌∙◌, inl, inr, ◌⊎◌}
use Rattle.pw_obis.specs.Line.{SetText}
use Rattle.pw_tariff.specs.Office.{OfficeFile, AreNamed}
use Rattle.pw_time.specs.declared.fault.StampFault.{StampFault}
use Rattle.pw_time.specs.declared.zone.Clock.{Clock}
use Rattle.pw_time.specs.declared.zone.Clock.TheVariants.{Marked}
use Rattle.pw_time.specs.Outcomes.{IsStampOutcome, IsReadoutOutcome}
use Rattle.pw_time.proofs.UniqueOutcomes.{one_stamp_outcome, one_readout_outcome}
use Rattle.pw_record.specs.declared.fault.Cause.{Cause}
use Rattle.pw_record.specs.declared.fault.Cause.TheVariants.{Instant as InstantCause, NoMeter, UnknownMeter, WrongKind, NoInstant, TwiceGiven}
use Rattle.pw_obis.specs.declared.meaning.Meaning.{Meaning}
use Rattle.pw_obis.specs.declared.meaning.Meaning.TheVariants.{Identifier, Stamp, Time, Date}
use Rattle.pw_record.specs.declared.origin.Source.{Source}
use Rattle.pw_record.specs.declared.origin.Source.TheVariants.{Telegrams, Readouts}
use Rattle.pw_record.specs.Names.{HasId, IsUnknownId, HasClock}
use Rattle.pw_record.specs.Told.{TellNothing, TellOne, TellUnlike}
use Rattle.pw_record.specs.Origin.{HasMeter, RefusesMeter, HasStamp, RefusesStamp, HasDateAndTime, TellTwice, RefusesDateAndTime, HasOrigin, RefusesOrigin}
use Rattle.pw_record.proofs.OneName.{one_id}

-- ---- what the sets tell is one of three
one-told : (meaning : Meaning) (sets : List SetText) (a b : List ℕ) → TellOne meaning sets a → TellOne meaning sets b → a ≡ b
one-told meaning sets a b x y = y.only a x.told

nothing-one : (meaning : Meaning) (sets : List SetText) (a : List ℕ) → TellNothing meaning sets → TellOne meaning sets a → ⊥
nothing-one meaning sets a n x = n a x.told

nothing-unlike : (meaning : Meaning) (sets : List SetText) → TellNothing meaning sets → TellUnlike meaning sets → ⊥
nothing-unlike meaning sets n u = n u.one u.one_told

one-unlike : (meaning : Meaning) (sets : List SetText) (a : List ℕ) → TellOne meaning sets a → TellUnlike meaning sets → ⊥
one-unlike meaning sets a x u = u.unlike (x.only u.one u.one_told ∙ sym (x.only u.other u.other_told))

-- a place or an instant, or a cause
abbrev Answer : Type 0
Answer = Result ℕ Cause

-- an answer by what the sets tell
abbrev ToldAnswer : Meaning → List SetText → Answer → Answer → (List ℕ → Answer → Type 0) → Answer → Type 0
ToldAnswer meaning sets nothing unlike Of answer =
    (TellNothing meaning sets × (answer ≡ nothing))
    ⊎ ((TellUnlike meaning sets × (answer ≡ unlike)) ⊎ ((text : List ℕ) × TellOne meaning sets text × Of text answer))

one-told-answer : (meaning : Meaning) (sets : List SetText) (nothing unlike : Answer) (Of : List ℕ → Answer → Type 0)
    → ((text : List ℕ) (r s : Answer) → Of text r → Of text s → r ≡ s)
    → (r s : Answer) → ToldAnswer meaning sets nothing unlike Of r → ToldAnswer meaning sets nothing unlike Of s → r ≡ s
one-told-answer meaning sets nothing unlike Of one r s (inl x) (inl y) = x.1 ∙ sym y.1
one-told-answer meaning sets nothing unlike Of one r s (inl x) (inr (inl y)) = absurd (nothing-unlike meaning sets x.0 y.0)
one-told-answer meaning sets nothing unlike Of one r s (inl x) (inr (inr y)) = absurd (nothing-one meaning sets y.0 x.0 y.1)
one-told-answer meaning sets nothing unlike Of one r s (inr (inl x)) (inl y) = absurd (nothing-unlike meaning sets y.0 x.0)
one-told-answer meaning sets nothing unlike Of one r s (inr (inl x)) (inr (inl y)) = x.1 ∙ sym y.1
one-told-answer meaning sets nothing unlike Of one r s (inr (inl x)) (inr (inr y)) = absurd (one-unlike meaning sets y.0 y.1 x.0)
one-told-answer meaning sets nothing unlike Of one r s (inr (inr x)) (inl y) = absurd (nothing-one meaning sets x.0 y.0 x.1)
one-told-answer meaning sets nothing unlike Of one r s (inr (inr x)) (inr (inl y)) = absurd (one-unlike meaning sets x.0 x.1 y.0)
one-told-answer meaning sets nothing unlike Of one r s (inr (inr x)) (inr (inr y)) =
    one y.0 r s (subst (λ (t : List ℕ). Of t r) (one-told meaning sets x.0 y.0 x.1 y.1) x.2) y.2

-- ---- the meter of a telegram
abbrev ClockAnswer : ℕ → Clock → Answer → Type 0
ClockAnswer meter clock answer = ((clock ≡ Marked) × (answer ≡ Ok meter)) ⊎ ((clock ≡ Marked → ⊥) × (answer ≡ Err WrongKind))

one-clock-answer : (m n : ℕ) (c d : Clock) (r s : Answer) → m ≡ n → c ≡ d → ClockAnswer m c r → ClockAnswer n d s → r ≡ s
one-clock-answer m n c d r s e f (inl x) (inl y) = x.1 ∙ ap Ok e ∙ sym y.1
one-clock-answer m n c d r s e f (inl x) (inr y) = absurd (y.0 (sym f ∙ x.0))
one-clock-answer m n c d r s e f (inr x) (inl y) = absurd (x.0 (f ∙ y.0))
one-clock-answer m n c d r s e f (inr x) (inr y) = x.1 ∙ sym y.1

pub one-clock : (file : OfficeFile) (m n : ℕ) (c d : Clock) → m ≡ n → HasClock file m c → HasClock file n d → c ≡ d
one-clock file m n c d e x y =
    let z : HasClock file n c = subst (λ (k : ℕ). HasClock file k c) e x in
    let same : Some c ≡ Some d = sym z ∙ y in
    cc

abbrev IdAnswer : OfficeFile → List ℕ → Answer → Type 0
IdAnswer file id answer =
    (IsUnknownId file id × (answer ≡ Err UnknownMeter))
    ⊎ ((meter : ℕ) × (clock : Clock) × HasId file id meter × HasClock file meter clock × ClockAnswer meter clock answer)

one-id-answer : (file : OfficeFile) → AreNamed file → (id : List ℕ) (r s : Answer) → IdAnswer file id r → IdAnswer file id s → r ≡ s
one-id-answer file named id r s (inl x) (inl y) = x.1 ∙ sym y.1
one-id-answer file named id r s (inl x) (inr y) = absurd (x.0 y.0 y.2)
one-id-answer file named id r s (inr x) (inl y) = absurd (y.0 x.0 x.2)
one-id-answer file named id r s (inr x) (inr y) =
    let m : x.0 ≡ y.0 = one_id file named id x.0 y.0 x.2 y.2 in
    one-clock-answer x.0 y.0 x.1 y.1 r s m (one-clock file x.0 y.0 x.1 y.1 m x.3 y.3) x.4 y.4

abbrev MeterAnswer : OfficeFile → List SetText → Answer → Type 0
MeterAnswer file sets answer = ToldAnswer Identifier sets (Err NoMeter) (Err TwiceGiven) (IdAnswer file) answer

one-meter : (file : OfficeFile) → AreNamed file → (sets : List SetText) (r s : Answer) → MeterAnswer file sets r → MeterAnswer file sets s → r ≡ s
one-meter file named sets r s x y = one-told-answer Identifier sets (Err NoMeter) (Err TwiceGiven) (IdAnswer file) (one-id-answer file named) r s x y

meter-had : (file : OfficeFile) (sets : List SetText) (meter : ℕ) → HasMeter file sets meter → MeterAnswer file sets (Ok meter)
meter-had file sets meter x = inr (inr (x.id, x.id_is, inr (meter, Marked, x.meter_is, x.marked, inl (refl, refl))))

meter-refused : (file : OfficeFile) (sets : List SetText) (cause : Cause) → RefusesMeter file sets cause → MeterAnswer file sets (Err cause)
meter-refused file sets NoMeter x = inl (x, refl)
meter-refused file sets TwiceGiven x = inr (inl (x, refl))
meter-refused file sets UnknownMeter x = inr (inr (x.0, x.1, inl (x.2, refl)))
meter-refused file sets WrongKind x = inr (inr (x.id, x.id_is, inr (x.meter, x.clock, x.meter_is, x.clock_is, inr (x.unmarked, refl))))
meter-refused file sets _ x = absurd x

-- ---- the instant of a telegram
abbrev as_answer : Result ℕ StampFault → Answer
as_answer (Ok instant) = Ok instant
as_answer (Err fault) = Err (InstantCause fault)

abbrev StampTextAnswer : List ℕ → Answer → Type 0
StampTextAnswer text answer = (outcome : Result ℕ StampFault) × IsStampOutcome text outcome × (answer ≡ as_answer outcome)

one-stamp-text : (text : List ℕ) (r s : Answer) → StampTextAnswer text r → StampTextAnswer text s → r ≡ s
one-stamp-text text r s x y = x.2 ∙ ap as_answer (one_stamp_outcome text x.0 y.0 x.1 y.1) ∙ sym y.2

abbrev StampAnswer : List SetText → Answer → Type 0
StampAnswer sets answer = ToldAnswer Stamp sets (Err NoInstant) (Err TwiceGiven) StampTextAnswer answer

one-stamp : (sets : List SetText) (r s : Answer) → StampAnswer sets r → StampAnswer sets s → r ≡ s
one-stamp sets r s x y = one-told-answer Stamp sets (Err NoInstant) (Err TwiceGiven) StampTextAnswer one-stamp-text r s x y

stamp-had : (sets : List SetText) (instant : ℕ) → HasStamp sets instant → StampAnswer sets (Ok instant)
stamp-had sets instant x = inr (inr (x.0, x.1, (Ok instant, x.2, refl)))

stamp-refused : (sets : List SetText) (cause : Cause) → RefusesStamp sets cause → StampAnswer sets (Err cause)
stamp-refused sets NoInstant x = inl (x, refl)
stamp-refused sets TwiceGiven x = inr (inl (x, refl))
stamp-refused sets (InstantCause fault) x = inr (inr (x.0, x.1, (Err fault, x.2, refl)))
stamp-refused sets _ x = absurd x

-- ---- the instant of a readout
abbrev BothAnswer : Clock → List SetText → Answer → Type 0
BothAnswer clock sets answer =
    (date : List ℕ) × (time : List ℕ) × (outcome : Result ℕ StampFault) × TellOne Date sets date × TellOne Time sets time
    × IsReadoutOutcome date time clock outcome × (answer ≡ as_answer outcome)

abbrev DateAndTimeAnswer : Clock → List SetText → Answer → Type 0
DateAndTimeAnswer clock sets answer =
    ((TellNothing Date sets ⊎ TellNothing Time sets) × (answer ≡ Err NoInstant))
    ⊎ ((TellTwice sets × (answer ≡ Err TwiceGiven)) ⊎ BothAnswer clock sets answer)

lacks-twice : (sets : List SetText) → TellNothing Date sets ⊎ TellNothing Time sets → TellTwice sets → ⊥
lacks-twice sets (inl n) t = n t.date t.date_told
lacks-twice sets (inr n) t = n t.time t.time_told

lacks-both : (sets : List SetText) (date time : List ℕ) → TellNothing Date sets ⊎ TellNothing Time sets → TellOne Date sets date → TellOne Time sets time → ⊥
lacks-both sets date time (inl n) d t = nothing-one Date sets date n d
lacks-both sets date time (inr n) d t = nothing-one Time sets time n t

twice-both : (sets : List SetText) (date time : List ℕ) → TellUnlike Date sets ⊎ TellUnlike Time sets → TellOne Date sets date → TellOne Time sets time → ⊥
twice-both sets date time (inl u) d t = one-unlike Date sets date d u
twice-both sets date time (inr u) d t = one-unlike Time sets time t u

one-both : (clock : Clock) (sets : List SetText) (r s : Answer) → BothAnswer clock sets r → BothAnswer clock sets s → r ≡ s
one-both clock sets r s x y =
    let d : x.0 ≡ y.0 = one-told Date sets x.0 y.0 x.3 y.3 in
    let t : x.1 ≡ y.1 = one-told Time sets x.1 y.1 x.4 y.4 in
    let here : IsReadoutOutcome y.0 x.1 clock x.2 = subst (λ (k : List ℕ). IsReadoutOutcome k x.1 clock x.2) d x.5 in
    let both : IsReadoutOutcome y.0 y.1 clock x.2 = subst (λ (k : List ℕ). IsReadoutOutcome y.0 k clock x.2) t here in
    x.6 ∙ ap as_answer (one_readout_outcome y.0 y.1 clock x.2 y.2 both y.5) ∙ sym y.6

one-date-and-time : (clock : Clock) (sets : List SetText) (r s : Answer) → DateAndTimeAnswer clock sets r → DateAndTimeAnswer clock sets s → r ≡ s
one-date-and-time clock sets r s (inl x) (inl y) = x.1 ∙ sym y.1
one-date-and-time clock sets r s (inl x) (inr (inl y)) = absurd (lacks-twice sets x.0 y.0)
one-date-and-time clock sets r s (inl x) (inr (inr y)) = absurd (lacks-both sets y.0 y.1 x.0 y.3 y.4)
one-date-and-time clock sets r s (inr (inl x)) (inl y) = absurd (lacks-twice sets y.0 x.0)
one-date-and-time clock sets r s (inr (inl x)) (inr (inl y)) = x.1 ∙ sym y.1
one-date-and-time clock sets r s (inr (inl x)) (inr (inr y)) = absurd (twice-both sets y.0 y.1 x.0.unlike y.3 y.4)
one-date-and-time clock sets r s (inr (inr x)) (inl y) = absurd (lacks-both sets x.0 x.1 y.0 x.3 x.4)
one-date-and-time clock sets r s (inr (inr x)) (inr (inl y)) = absurd (twice-both sets x.0 x.1 y.0.unlike x.3 x.4)
one-date-and-time clock sets r s (inr (inr x)) (inr (inr y)) = one-both clock sets r s x y

date-and-time-had : (clock : Clock) (sets : List SetText) (instant : ℕ) → HasDateAndTime clock sets instant → DateAndTimeAnswer clock sets (Ok instant)
date-and-time-had clock sets instant x = inr (inr (x.0, x.1, Ok instant, x.2, x.3, x.4, refl))

date-and-time-refused : (clock : Clock) (sets : List SetText) (cause : Cause) → RefusesDateAndTime clock sets cause → DateAndTimeAnswer clock sets (Err cause)
date-and-time-refused clock sets NoInstant x = inl (x, refl)
date-and-time-refused clock sets TwiceGiven x = inr (inl (x, refl))
date-and-time-refused clock sets (InstantCause fault) x = inr (inr (x.0, x.1, Err fault, x.2, x.3, x.4, refl))
date-and-time-refused clock sets _ x = absurd x

-- ---- the meter and the instant
abbrev had : ℕ → Answer
had place = Ok place

abbrev refused : Cause → Answer
refused cause = Err cause

same-ok : (a b : ℕ) → had a ≡ had b → a ≡ b
same-ok a b e = cc

same-err : (c d : Cause) → refused c ≡ refused d → c ≡ d
same-err c d e = cc

no-err : (a : ℕ) (c : Cause) → had a ≡ refused c → ⊥
no-err a c e = cc

pub one-origin : (file : OfficeFile) → AreNamed file → (source : Source) (sets : List SetText) (m n t u : ℕ) → HasOrigin file source sets m t → HasOrigin file source sets n u
    → (m ≡ n) × (t ≡ u)
one-origin file named Telegrams sets m n t u x y = (
  same-ok m n (one-meter file named sets (Ok m) (Ok n) (meter-had file sets m x.0) (meter-had file sets n y.0)),
  same-ok t u (one-stamp sets (Ok t) (Ok u) (stamp-had sets t x.1) (stamp-had sets u y.1)),
)
one-origin file named (Readouts own clock) sets m n t u x y = (
  x.0 ∙ sym y.0,
  same-ok t u (one-date-and-time clock sets (Ok t) (Ok u) (date-and-time-had clock sets t x.1) (date-and-time-had clock sets u y.1)),
)

meter-or-not : (file : OfficeFile) → AreNamed file → (sets : List SetText) (m : ℕ) (c : Cause) → HasMeter file sets m → RefusesMeter file sets c → ⊥
meter-or-not file named sets m c x y = no-err m c (one-meter file named sets (Ok m) (Err c) (meter-had file sets m x) (meter-refused file sets c y))

pub had-or-refused : (file : OfficeFile) → AreNamed file → (source : Source) (sets : List SetText) (m t : ℕ) (c : Cause) → HasOrigin file source sets m t → RefusesOrigin file source sets c → ⊥
had-or-refused file named Telegrams sets m t c x (inl y) = meter-or-not file named sets m c x.0 y
had-or-refused file named Telegrams sets m t c x (inr y) = no-err t c (one-stamp sets (Ok t) (Err c) (stamp-had sets t x.1) (stamp-refused sets c y.1))
had-or-refused file named (Readouts own clock) sets m t c x y =
    no-err t c (one-date-and-time clock sets (Ok t) (Err c) (date-and-time-had clock sets t x.1) (date-and-time-refused clock sets c y))

pub one-origin-cause : (file : OfficeFile) → AreNamed file → (source : Source) (sets : List SetText) (c d : Cause) → RefusesOrigin file source sets c → RefusesOrigin file source sets d → c ≡ d
one-origin-cause file named Telegrams sets c d (inl x) (inl y) = same-err c d (one-meter file named sets (Err c) (Err d) (meter-refused file sets c x) (meter-refused file sets d y))
one-origin-cause file named Telegrams sets c d (inl x) (inr y) = absurd (meter-or-not file named sets y.0.0 c y.0.1 x)
one-origin-cause file named Telegrams sets c d (inr x) (inl y) = absurd (meter-or-not file named sets x.0.0 d x.0.1 y)
one-origin-cause file named Telegrams sets c d (inr x) (inr y) = same-err c d (one-stamp sets (Err c) (Err d) (stamp-refused sets c x.1) (stamp-refused sets d y.1))
one-origin-cause file named (Readouts own clock) sets c d x y =
    same-err c d (one-date-and-time clock sets (Err c) (Err d) (date-and-time-refused clock sets c x) (date-and-time-refused clock sets d y))
