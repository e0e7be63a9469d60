-- Each upload has one outcome.
use Rattle.std.proofs.Common.{◌≡◌, ℕ, ◌⊎◌, inl, inr, List, Result, Ok, Err, refl, ap, subst}
use Rattle.pw_frame.specs.Frame.{FrameText}
use Rattle.pw_obis.specs.Line.{SetText}
use Rattle.pw_time.specs.declared.zone.Clock.{Clock}
use Rattle.pw_time.specs.declared.zone.Clock.TheVariants.{Marked}
use Rattle.pw_tariff.specs.Office.{OfficeFile, AreNamed}
use Rattle.pw_model.specs.declared.records.Entry.{Entry}
use Rattle.pw_record.specs.declared.fault.Cause.{Cause}
use Rattle.pw_record.specs.declared.fault.Cause.TheVariants.{UnknownMeter, WrongKind, Memory}
use Rattle.pw_record.specs.declared.fault.UploadFault.{UploadFault}
use Rattle.pw_record.specs.declared.origin.Source.{Source}
use Rattle.pw_record.specs.declared.origin.Source.TheVariants.{Telegrams as OfTelegrams, Readouts as OfReadouts}
use Rattle.pw_record.specs.declared.row.RowKind.{RowKind}
use Rattle.pw_record.specs.declared.row.RowKind.TheVariants.{Assignment, TopUp, Withdrawal}
use Rattle.pw_record.specs.Causes.{want_of_memory}
use Rattle.pw_record.specs.Names.{HasId, IsUnknownId, HasClock}
use Rattle.pw_record.specs.Origin.{RefusesOrigin}
use Rattle.pw_record.specs.Frames.{RefusesFrame, IsReadoutMeter, readouts_of}
use Rattle.pw_record.specs.Rows.{RowsGive, RowsRefused}
use Rattle.pw_record.specs.Laws.{IsOutcome, HasNoTwoOutcomes, HasOneOutcome}
use Rattle.pw_record.specs.Uploads.{Upload, Telegrams, Readouts, Assignments, TopUps, Withdrawals, Gives, RefusesContent}
use Rattle.pw_record.specs.inner.Outcomes.{HasBodyOutcome}
use Rattle.pw_record.proofs.EachRows.{HasRowsOutcome, of-content, rows-there_are}
use Rattle.pw_record.proofs.OneOutcome.{one-outcome}

-- ---- no frame is refused for want of memory
origin-refused : (file : OfficeFile) (source : Source) (sets : List SetText) → RefusesOrigin file source sets Memory → ⊥
origin-refused file OfTelegrams sets (inl x) = x
origin-refused file OfTelegrams sets (inr x) = x.1
origin-refused file (OfReadouts own clock) sets x = x

frame-refused : (file : OfficeFile) (source : Source) (frame : FrameText) → RefusesFrame file source frame Memory → ⊥
frame-refused file source frame (inl x) = let e = x.cause_is in cc
frame-refused file source frame (inr (inl x)) = let e = x.cause_is in cc
frame-refused file source frame (inr (inr (inl x))) = origin-refused file source x.sets x.refused
frame-refused file source frame (inr (inr (inr x))) = elim x.wrong [ inl w ↦ w.wrong | inr n ↦ (let e = n.1 in cc) ]

pub not-memory : (file : OfficeFile) (source : Source) (frame : FrameText) (cause : Cause) → RefusesFrame file source frame cause → cause ≡ Memory → ⊥
not-memory file source frame cause x e = let P : Cause → Type 0 = λ c. RefusesFrame file source frame c in frame-refused file source frame (subst P e x)

-- ---- what comes of an upload
abbrev HasOutcome : OfficeFile → Upload → Type 0
HasOutcome file upload = ((entries : List Entry) × Gives file upload entries) ⊎ ((fault : UploadFault) × RefusesContent file upload fault)

pub only-one : (file : OfficeFile) (upload : Upload) → HasNoTwoOutcomes file upload → (one other : Result (List Entry) UploadFault) → IsOutcome file upload one → IsOutcome file upload other → one ≡ other
only-one file upload n (Ok a) (Ok b) x y = ap Ok (n.entries a b x y)
only-one file upload n (Ok a) (Err b) x y = absurd (n.either a b x y)
only-one file upload n (Err a) (Ok b) x y = absurd (n.either b a y x)
only-one file upload n (Err a) (Err b) x y = ap Err (n.refusal a b x y)

of-outcome : (file : OfficeFile) → AreNamed file → (upload : Upload) → HasOutcome file upload → HasOneOutcome file upload
of-outcome file named upload (inl g) =
    record { outcome = Ok g.0; holds = g.1; only = λ other y. only-one file upload (one-outcome file named upload) (Ok g.0) other g.1 y }
of-outcome file named upload (inr f) =
    record { outcome = Err f.0; holds = f.1; only = λ other y. only-one file upload (one-outcome file named upload) (Err f.0) other f.1 y }

pub of-telegrams : (file : OfficeFile) → AreNamed file → (body : List ℕ) → HasBodyOutcome file OfTelegrams body → HasOneOutcome file (Telegrams body)
of-telegrams file named body (inl g) = of-outcome file named (Telegrams body) (inl g)
of-telegrams file named body (inr s) = of-outcome file named (Telegrams body) (inr (record { part = s.0; cause = s.1 }, (inr s.2, of-content s.0 s.1 s.3)))

pub of-readouts : (file : OfficeFile) → AreNamed file → (id body : List ℕ) (meter : ℕ) (clock : Clock) → IsReadoutMeter file id meter clock
    → HasBodyOutcome file (readouts_of meter clock) body → HasOneOutcome file (Readouts id body)
of-readouts file named id body meter clock m (inl g) = of-outcome file named (Readouts id body) (inl (g.0, (meter, clock, m, g.1)))
of-readouts file named id body meter clock m (inr s) =
    of-outcome file named (Readouts id body) (inr (record { part = s.0; cause = s.1 }, (inr (inr (meter, clock, m, inr s.2)), of-content s.0 s.1 s.3)))

pub of-unknown : (file : OfficeFile) → AreNamed file → (id body : List ℕ) → IsUnknownId file id → HasOneOutcome file (Readouts id body)
of-unknown file named id body n =
    of-outcome file named (Readouts id body) (inr (record { part = 0; cause = UnknownMeter }, (inl (n, refl), of-content 0 UnknownMeter (λ e. cc))))

pub of-marked : (file : OfficeFile) → AreNamed file → (id body : List ℕ) (meter : ℕ) → HasId file id meter → HasClock file meter Marked → HasOneOutcome file (Readouts id body)
of-marked file named id body meter m c =
    of-outcome file named (Readouts id body) (inr (record { part = 0; cause = WrongKind }, (inr (inl (meter, m, c, refl)), of-content 0 WrongKind (λ e. cc))))

-- rows by their kind
of-rows : (file : OfficeFile) (kind : RowKind) (body : List ℕ) → HasRowsOutcome file kind body
    → ((entries : List Entry) × RowsGive file kind body entries) ⊎ ((fault : UploadFault) × (RowsRefused file kind body fault × (fault ≡ want_of_memory → ⊥)))
of-rows file kind body (inl g) = inl g
of-rows file kind body (inr f) = inr (f.0, (f.1, f.2))

pub of-assignments : (file : OfficeFile) → AreNamed file → (body : List ℕ) → HasOneOutcome file (Assignments body)
of-assignments file named body = of-outcome file named (Assignments body) (of-rows file Assignment body (rows-there_are file Assignment body))

pub of-top_ups : (file : OfficeFile) → AreNamed file → (body : List ℕ) → HasOneOutcome file (TopUps body)
of-top_ups file named body = of-outcome file named (TopUps body) (of-rows file TopUp body (rows-there_are file TopUp body))

pub of-withdrawals : (file : OfficeFile) → AreNamed file → (body : List ℕ) → HasOneOutcome file (Withdrawals body)
of-withdrawals file named body = of-outcome file named (Withdrawals body) (of-rows file Withdrawal body (rows-there_are file Withdrawal body))
