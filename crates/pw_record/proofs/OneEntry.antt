-- A row gives one entry, or is refused for one cause.
use Rattle.std.proofs.Common.{◌≡◌, ℕ, Some, arith, Option, List, [], ◌∷◌, length, Result, Ok, Err, refl, sym, ap, subst, ◌∙◌, inl, inr, ◌⊎◌}
use Rattle.std.proofs.lemmas.Option.{same_Some}
use Rattle.pw_obis.specs.declared.reference.Register.{Register}
use Rattle.pw_obis.specs.declared.value.ValueFault.TheVariants.{Digits}
use Rattle.pw_tariff.specs.declared.ids.AccountId.{AccountId}
use Rattle.pw_tariff.specs.Office.{OfficeFile, AreNamed}
use Rattle.pw_time.specs.declared.fault.StampFault.{StampFault}
use Rattle.pw_time.specs.Outcomes.{IsUtcOutcome}
use Rattle.pw_time.proofs.UniqueOutcomes.{one_utc_outcome}
use Rattle.pw_model.specs.declared.records.Key.TheVariants as key
use Rattle.pw_model.specs.declared.records.Content.TheVariants as content
use Rattle.pw_model.specs.declared.records.Named.{Named}
use Rattle.pw_model.specs.declared.records.Named.TheVariants as named
use Rattle.pw_model.specs.declared.records.Entry.{Entry}
use Rattle.pw_model.specs.Counting.{assignment_key, named_entry, named_of}
use Rattle.pw_model.specs.Lists.{reading_entry}
use Rattle.pw_model.specs.References.{IsReference}
use Rattle.pw_record.specs.declared.fault.Cause.{Cause}
use Rattle.pw_record.specs.declared.fault.Cause.TheVariants.{Instant, Value, UnknownMeter, UnknownAccount, CsvForm, Cents, Reference, Kind, RegisterName}
use Rattle.pw_record.specs.declared.row.RowKind.{RowKind}
use Rattle.pw_record.specs.declared.row.RowKind.TheVariants.{Assignment, TopUp, Withdrawal}
use Rattle.pw_record.specs.declared.row.NamedKind.{NamedKind}
use Rattle.pw_record.specs.declared.row.NamedKind.TheVariants as of
use Rattle.pw_record.specs.Names.{HasId, IsUnknownId, HasRegister, IsUnknownRegister, HasName, IsUnknownName, IsOwner, IsUnknownOwner}
use Rattle.pw_record.specs.Cents.{IsCents}
use Rattle.pw_record.specs.WattHours.{IsWattHours}
use Rattle.pw_record.specs.Row.{Row, GivesAssignment, GivesTopUp, GivesReading, GivesNamed, GivesWithdrawal, RefusesAssignment, RefusesTopUp, RefusesReading, RefusesNamed, RefusesWithdrawal, HasNoKind, kind_name, GivesEntry, RefusesRow}
use Rattle.pw_record.proofs.OneName.{one_id, one_name, one_owner, owner_known}

-- what a row is answered: its entry, or why it is refused
abbrev pub Outcome : Type 0
Outcome = Result Entry Cause

abbrev given : Entry → Outcome
given e = Ok e

-- ---- one step: something is wrong, or a value is found and the rest follows from it
abbrev Step : {X : Type 0} → (Outcome → Type 0) → (X → Type 0) → (X → Outcome → Type 0) → Outcome → Type 0
Step {X} Wrong Found Rest r = Wrong r ⊎ ((x : X) × Found x × Rest x r)

-- where it is wrong in one way, and not found then, and found once, and the rest is one, the step is one
one_step : {X : Type 0} (Wrong : Outcome → Type 0) (Found : X → Type 0) (Rest : X → Outcome → Type 0)
    → ((r s : Outcome) → Wrong r → Wrong s → r ≡ s)
    → ((r : Outcome) (x : X) → Wrong r → Found x → ⊥)
    → ((x y : X) → Found x → Found y → x ≡ y)
    → ((x : X) → Found x → (r s : Outcome) → Rest x r → Rest x s → r ≡ s)
    → (r s : Outcome) → Step Wrong Found Rest r → Step Wrong Found Rest s → r ≡ s
one_step Wrong Found Rest wrong either found rest r s (inl a) (inl b) = wrong r s a b
one_step Wrong Found Rest wrong either found rest r s (inl a) (inr b) = absurd (either r b.0 a b.1)
one_step Wrong Found Rest wrong either found rest r s (inr a) (inl b) = absurd (either s a.0 b a.1)
one_step {X} Wrong Found Rest wrong either found rest r s (inr a) (inr b) =
    let same : b.0 ≡ a.0 = found b.0 a.0 b.1 a.1 in
    let P : X → Type 0 = λ x. Rest x s in
    rest a.0 a.1 r s a.2 (subst P same b.2)

-- one cause, whatever shows it
abbrev For : Type 0 → Cause → Outcome → Type 0
For Why cause r = Why × (r ≡ Err cause)

one_for : (Why : Type 0) (cause : Cause) (r s : Outcome) → For Why cause r → For Why cause s → r ≡ s
one_for Why cause r s a b = a.1 ∙ sym b.1

-- ---- an instant in UTC
abbrev WrongStamp : List ℕ → Outcome → Type 0
WrongStamp text r = (fault : StampFault) × IsUtcOutcome text (Err fault) × (r ≡ Err (Instant fault))

same_fault : (a b : StampFault) → ◌≡◌ {A = Result ℕ StampFault} (Err a) (Err b) → a ≡ b
same_fault a b e = cc

same_instant : (a b : ℕ) → ◌≡◌ {A = Result ℕ StampFault} (Ok a) (Ok b) → a ≡ b
same_instant a b e = cc

not_both_told : (a : ℕ) (b : StampFault) → ◌≡◌ {A = Result ℕ StampFault} (Ok a) (Err b) → ⊥
not_both_told a b e = cc

one_wrong_stamp : (text : List ℕ) (r s : Outcome) → WrongStamp text r → WrongStamp text s → r ≡ s
one_wrong_stamp text r s a b =
    let same : a.0 ≡ b.0 = same_fault a.0 b.0 (one_utc_outcome text (Err a.0) (Err b.0) a.1 b.1) in
    let told : ◌≡◌ {A = Outcome} (Err (Instant a.0)) (Err (Instant b.0)) = ap (λ (f : StampFault). Err (Instant f)) same in
    a.2 ∙ told ∙ sym b.2

right_stamp : (text : List ℕ) (r : Outcome) (t : ℕ) → WrongStamp text r → IsUtcOutcome text (Ok t) → ⊥
right_stamp text r t a b = not_both_told t a.0 (one_utc_outcome text (Ok t) (Err a.0) b a.1)

one_instant : (text : List ℕ) (t u : ℕ) → IsUtcOutcome text (Ok t) → IsUtcOutcome text (Ok u) → t ≡ u
one_instant text t u a b = same_instant t u (one_utc_outcome text (Ok t) (Ok u) a b)

-- ---- assignments
abbrev Three : Type 0
Three = List ℕ × List ℕ × List ℕ

abbrev three : Three → Row
three f = f.0 ∷ f.1 ∷ f.2 ∷ []

abbrev assignment : ℕ → ℕ → Option AccountId → Entry
assignment meter instant owner = record { key = assignment_key meter instant; content = content.Assignment owner }

abbrev OwnerTold : OfficeFile → List ℕ → ℕ → ℕ → Outcome → Type 0
OwnerTold file name meter instant = Step (For (IsUnknownOwner file name) UnknownAccount) (IsOwner file name) (λ owner r. r ≡ Ok (assignment meter instant owner))

abbrev StartTold : OfficeFile → List ℕ → List ℕ → ℕ → Outcome → Type 0
StartTold file start name meter = Step (WrongStamp start) (λ (t : ℕ). IsUtcOutcome start (Ok t)) (λ t. OwnerTold file name meter t)

abbrev MeterTold : OfficeFile → List ℕ → List ℕ → List ℕ → Outcome → Type 0
MeterTold file id start name = Step (For (IsUnknownId file id) UnknownMeter) (HasId file id) (λ meter. StartTold file start name meter)

abbrev AssignmentTold : OfficeFile → Row → Outcome → Type 0
AssignmentTold file row = Step (For (length row ≡ 3 → ⊥) CsvForm) (λ (f : Three). row ≡ three f) (λ f. MeterTold file f.0 f.1 f.2)

one_owner_told : (file : OfficeFile) → AreNamed file → (name : List ℕ) (meter instant : ℕ) (r s : Outcome)
    → OwnerTold file name meter instant r → OwnerTold file name meter instant s → r ≡ s
one_owner_told file named name meter instant = one_step (For (IsUnknownOwner file name) UnknownAccount) (IsOwner file name) (λ owner r. r ≡ Ok (assignment meter instant owner))
    (one_for (IsUnknownOwner file name) UnknownAccount)
    (λ r owner a b. owner_known file name owner a.0 b)
    (one_owner file named name)
    (λ owner x r s a b. a ∙ sym b)

one_start_told : (file : OfficeFile) → AreNamed file → (start name : List ℕ) (meter : ℕ) (r s : Outcome)
    → StartTold file start name meter r → StartTold file start name meter s → r ≡ s
one_start_told file named start name meter = one_step (WrongStamp start) (λ (t : ℕ). IsUtcOutcome start (Ok t)) (λ t. OwnerTold file name meter t)
    (one_wrong_stamp start)
    (right_stamp start)
    (one_instant start)
    (λ t x. one_owner_told file named name meter t)

one_meter_told : (file : OfficeFile) → AreNamed file → (id start name : List ℕ) (r s : Outcome)
    → MeterTold file id start name r → MeterTold file id start name s → r ≡ s
one_meter_told file named id start name = one_step (For (IsUnknownId file id) UnknownMeter) (HasId file id) (λ meter. StartTold file start name meter)
    (one_for (IsUnknownId file id) UnknownMeter)
    (λ r meter a b. a.0 meter b)
    (one_id file named id)
    (λ meter x. one_start_told file named start name meter)

same_three : (f g : Three) → three f ≡ three g → f ≡ g
same_three f g e =
    let a : f.0 ≡ g.0 = cc in
    let b : f.1 ≡ g.1 = cc in
    let c : f.2 ≡ g.2 = cc in
    λ i. (a i, b i, c i)

one_assignment : (file : OfficeFile) → AreNamed file → (row : Row) (r s : Outcome) → AssignmentTold file row r → AssignmentTold file row s → r ≡ s
one_assignment file named row = one_step (For (length row ≡ 3 → ⊥) CsvForm) (λ (f : Three). row ≡ three f) (λ f. MeterTold file f.0 f.1 f.2)
    (one_for (length row ≡ 3 → ⊥) CsvForm)
    (λ r f a b. a.0 (ap length b))
    (λ f g a b. same_three f g (sym a ∙ b))
    (λ f x. one_meter_told file named f.0 f.1 f.2)

assignment_given : (file : OfficeFile) (row : Row) (e : Entry) → GivesAssignment file row e → AssignmentTold file row (Ok e)
assignment_given file row e x =
    inr ((x.id, x.start, x.account), x.row_is, inr (x.meter, x.meter_is, inr (x.instant, x.start_is, inr (x.owner, x.owner_is, ap given x.entry_is))))

assignment_refused : (file : OfficeFile) (row : Row) (c : Cause) → RefusesAssignment file row c → AssignmentTold file row (Err c)
assignment_refused file row CsvForm x = inl (x, refl)
assignment_refused file row UnknownMeter x = inr ((x.0, x.1, x.2), x.3, inl (x.4, refl))
assignment_refused file row (Instant fault) x = inr ((x.0, x.1, x.2), x.3, inr (x.4.0.0, x.4.0.1, inl (fault, x.4.1, refl)))
assignment_refused file row UnknownAccount x =
    inr ((x.0, x.1, x.2), x.3, inr (x.4.0.0, x.4.0.1, inr (x.4.1.0, x.4.1.1, inl (x.4.2, refl))))
assignment_refused file row _ x = absurd x.4

-- ---- top-ups
abbrev Four : Type 0
Four = List ℕ × List ℕ × List ℕ × List ℕ

abbrev four : Four → Row
four f = f.0 ∷ f.1 ∷ f.2 ∷ f.3 ∷ []

abbrev FourTold : (Four → Outcome → Type 0) → Row → Outcome → Type 0
FourTold told row = Step (For (length row ≡ 4 → ⊥) CsvForm) (λ (f : Four). row ≡ four f) told

abbrev top_up : List ℕ → ℕ → ℕ → ℕ → Entry
top_up reference account cents instant = record { key = key.TopUp reference; content = content.TopUp (record { 0 = account }) cents instant }

abbrev WhenTold : List ℕ → List ℕ → ℕ → ℕ → Outcome → Type 0
WhenTold reference when account cents = Step (WrongStamp when) (λ (t : ℕ). IsUtcOutcome when (Ok t)) (λ t r. r ≡ Ok (top_up reference account cents t))

abbrev AmountTold : List ℕ → List ℕ → List ℕ → ℕ → Outcome → Type 0
AmountTold reference amount when account = Step (For ((cents : ℕ) → IsCents amount cents → ⊥) Cents) (IsCents amount) (λ cents. WhenTold reference when account cents)

abbrev NameTold : OfficeFile → List ℕ → List ℕ → List ℕ → List ℕ → Outcome → Type 0
NameTold file reference name amount when = Step (For (IsUnknownName file name) UnknownAccount) (HasName file name) (λ account. AmountTold reference amount when account)

abbrev ReferenceTold : OfficeFile → List ℕ → List ℕ → List ℕ → List ℕ → Outcome → Type 0
ReferenceTold file reference name amount when =
    Step (For (IsReference reference → ⊥) Reference) (λ (u : Unit {0}). IsReference reference) (λ u. NameTold file reference name amount when)

abbrev TopUpTold : OfficeFile → Row → Outcome → Type 0
TopUpTold file row = FourTold (λ f. ReferenceTold file f.0 f.1 f.2 f.3) row

one_when_told : (reference when : List ℕ) (account cents : ℕ) (r s : Outcome) → WhenTold reference when account cents r → WhenTold reference when account cents s → r ≡ s
one_when_told reference when account cents = one_step (WrongStamp when) (λ (t : ℕ). IsUtcOutcome when (Ok t)) (λ t r. r ≡ Ok (top_up reference account cents t))
    (one_wrong_stamp when)
    (right_stamp when)
    (one_instant when)
    (λ t x r s a b. a ∙ sym b)

one_amount_told : (reference amount when : List ℕ) (account : ℕ) (r s : Outcome) → AmountTold reference amount when account r → AmountTold reference amount when account s → r ≡ s
one_amount_told reference amount when account = one_step (For ((cents : ℕ) → IsCents amount cents → ⊥) Cents) (IsCents amount) (λ cents. WhenTold reference when account cents)
    (one_for ((cents : ℕ) → IsCents amount cents → ⊥) Cents)
    (λ r cents a b. a.0 cents b)
    (λ m n a b. a.value ∙ sym b.value)
    (λ cents x. one_when_told reference when account cents)

one_name_told : (file : OfficeFile) → AreNamed file → (reference name amount when : List ℕ) (r s : Outcome)
    → NameTold file reference name amount when r → NameTold file reference name amount when s → r ≡ s
one_name_told file named reference name amount when = one_step (For (IsUnknownName file name) UnknownAccount) (HasName file name) (λ account. AmountTold reference amount when account)
    (one_for (IsUnknownName file name) UnknownAccount)
    (λ r account a b. a.0 account b)
    (one_name file named name)
    (λ account x. one_amount_told reference amount when account)

one_reference_told : (file : OfficeFile) → AreNamed file → (reference name amount when : List ℕ) (r s : Outcome)
    → ReferenceTold file reference name amount when r → ReferenceTold file reference name amount when s → r ≡ s
one_reference_told file named reference name amount when =
    one_step (For (IsReference reference → ⊥) Reference) (λ (u : Unit {0}). IsReference reference) (λ u. NameTold file reference name amount when)
    (one_for (IsReference reference → ⊥) Reference)
    (λ r u a b. a.0 b)
    (λ u v a b. refl)
    (λ u x. one_name_told file named reference name amount when)

same_four : (f g : Four) → four f ≡ four g → f ≡ g
same_four f g e =
    let a : f.0 ≡ g.0 = cc in
    let b : f.1 ≡ g.1 = cc in
    let c : f.2 ≡ g.2 = cc in
    let d : f.3 ≡ g.3 = cc in
    λ i. (a i, b i, c i, d i)

one_of_four : (told : Four → Outcome → Type 0) → ((f : Four) (r s : Outcome) → told f r → told f s → r ≡ s) → (row : Row) (r s : Outcome)
    → FourTold told row r → FourTold told row s → r ≡ s
one_of_four told one row = one_step (For (length row ≡ 4 → ⊥) CsvForm) (λ (f : Four). row ≡ four f) told
    (one_for (length row ≡ 4 → ⊥) CsvForm)
    (λ r f a b. a.0 (ap length b))
    (λ f g a b. same_four f g (sym a ∙ b))
    (λ f x. one f)

one_top_up : (file : OfficeFile) → AreNamed file → (row : Row) (r s : Outcome) → TopUpTold file row r → TopUpTold file row s → r ≡ s
one_top_up file named = one_of_four (λ f. ReferenceTold file f.0 f.1 f.2 f.3) (λ f. one_reference_told file named f.0 f.1 f.2 f.3)

top_up_given : (file : OfficeFile) (row : Row) (e : Entry) → GivesTopUp file row e → TopUpTold file row (Ok e)
top_up_given file row e x = inr (
  (x.reference, x.name, x.amount, x.when),
  x.row_is,
  inr (tt, x.reference_is, inr (x.account, x.account_is, inr (x.cents, x.cents_are, inr (x.instant, x.instant_is, ap given x.entry_is)))),
)

top_up_refused : (file : OfficeFile) (row : Row) (c : Cause) → RefusesTopUp file row c → TopUpTold file row (Err c)
top_up_refused file row CsvForm x = inl (x, refl)
top_up_refused file row Reference x = inr ((x.0, x.1, x.2, x.3), x.4, inl (x.5, refl))
top_up_refused file row UnknownAccount x = inr ((x.0, x.1, x.2, x.3), x.4, inr (tt, x.5.0, inl (x.5.1, refl)))
top_up_refused file row Cents x = inr ((x.0, x.1, x.2, x.3), x.4, inr (tt, x.5.0, inr (x.5.1.0, x.5.1.1, inl (x.5.2, refl))))
top_up_refused file row (Instant fault) x =
    inr ((x.0, x.1, x.2, x.3), x.4, inr (tt, x.5.0, inr (x.5.1.0, x.5.1.1, inr (x.5.2.0, x.5.2.1, inl (fault, x.5.3, refl)))))
top_up_refused file row _ x = absurd x.5

-- ---- readings
abbrev EnergyTold : List ℕ → ℕ → Register → ℕ → Outcome → Type 0
EnergyTold amount meter register instant =
    Step (For ((wh : ℕ) → IsWattHours amount wh → ⊥) (Value Digits)) (IsWattHours amount) (λ wh r. r ≡ Ok (reading_entry meter register instant wh))

abbrev InstantTold : List ℕ → List ℕ → ℕ → Register → Outcome → Type 0
InstantTold when amount meter register = Step (WrongStamp when) (λ (t : ℕ). IsUtcOutcome when (Ok t)) (λ t. EnergyTold amount meter register t)

abbrev RegisterTold : OfficeFile → List ℕ → List ℕ → List ℕ → ℕ → Outcome → Type 0
RegisterTold file name when amount meter =
    Step (For (IsUnknownRegister file meter name) RegisterName) (HasRegister file meter name) (λ register. InstantTold when amount meter register)

abbrev ReadMeterTold : OfficeFile → List ℕ → List ℕ → List ℕ → List ℕ → Outcome → Type 0
ReadMeterTold file id name when amount = Step (For (IsUnknownId file id) UnknownMeter) (HasId file id) (λ meter. RegisterTold file name when amount meter)

abbrev ReadingTold : OfficeFile → Row → Outcome → Type 0
ReadingTold file row = FourTold (λ f. ReadMeterTold file f.0 f.1 f.2 f.3) row

one_energy_told : (amount : List ℕ) (meter : ℕ) (register : Register) (instant : ℕ) (r s : Outcome)
    → EnergyTold amount meter register instant r → EnergyTold amount meter register instant s → r ≡ s
one_energy_told amount meter register instant =
    one_step (For ((wh : ℕ) → IsWattHours amount wh → ⊥) (Value Digits)) (IsWattHours amount) (λ wh r. r ≡ Ok (reading_entry meter register instant wh))
    (one_for ((wh : ℕ) → IsWattHours amount wh → ⊥) (Value Digits))
    (λ r wh a b. a.0 wh b)
    (λ m n a b. a.value ∙ sym b.value)
    (λ wh x r s a b. a ∙ sym b)

one_instant_told : (when amount : List ℕ) (meter : ℕ) (register : Register) (r s : Outcome) → InstantTold when amount meter register r → InstantTold when amount meter register s → r ≡ s
one_instant_told when amount meter register = one_step (WrongStamp when) (λ (t : ℕ). IsUtcOutcome when (Ok t)) (λ t. EnergyTold amount meter register t)
    (one_wrong_stamp when)
    (right_stamp when)
    (one_instant when)
    (λ t x. one_energy_told amount meter register t)

one_register_told : (file : OfficeFile) (name when amount : List ℕ) (meter : ℕ) (r s : Outcome)
    → RegisterTold file name when amount meter r → RegisterTold file name when amount meter s → r ≡ s
one_register_told file name when amount meter =
    one_step (For (IsUnknownRegister file meter name) RegisterName) (HasRegister file meter name) (λ register. InstantTold when amount meter register)
    (one_for (IsUnknownRegister file meter name) RegisterName)
    (λ r register a b. a.0 register b)
    (λ p q a b. same_Some p q (sym a.0 ∙ b.0))
    (λ register x. one_instant_told when amount meter register)

one_read_meter_told : (file : OfficeFile) → AreNamed file → (id name when amount : List ℕ) (r s : Outcome)
    → ReadMeterTold file id name when amount r → ReadMeterTold file id name when amount s → r ≡ s
one_read_meter_told file named id name when amount = one_step (For (IsUnknownId file id) UnknownMeter) (HasId file id) (λ meter. RegisterTold file name when amount meter)
    (one_for (IsUnknownId file id) UnknownMeter)
    (λ r meter a b. a.0 meter b)
    (one_id file named id)
    (λ meter x. one_register_told file name when amount meter)

one_reading : (file : OfficeFile) → AreNamed file → (row : Row) (r s : Outcome) → ReadingTold file row r → ReadingTold file row s → r ≡ s
one_reading file named = one_of_four (λ f. ReadMeterTold file f.0 f.1 f.2 f.3) (λ f. one_read_meter_told file named f.0 f.1 f.2 f.3)

reading_given : (file : OfficeFile) (row : Row) (e : Entry) → GivesReading file row e → ReadingTold file row (Ok e)
reading_given file row e x = inr (
  (x.id, x.name, x.when, x.amount),
  x.row_is,
  inr (x.meter, x.meter_is, inr (x.register, x.register_is, inr (x.instant, x.instant_is, inr (x.wh, x.wh_are, ap given x.entry_is)))),
)

reading_refused : (file : OfficeFile) (row : Row) (c : Cause) → RefusesReading file row c → ReadingTold file row (Err c)
reading_refused file row CsvForm x = inl (x, refl)
reading_refused file row UnknownMeter x = inr ((x.0, x.1, x.2, x.3), x.4, inl (x.5, refl))
reading_refused file row RegisterName x = inr ((x.0, x.1, x.2, x.3), x.4, inr (x.5.0, x.5.1, inl (x.5.2, refl)))
reading_refused file row (Instant fault) x =
    inr ((x.0, x.1, x.2, x.3), x.4, inr (x.5.0.0, x.5.0.1, inr (x.5.0.2.0, x.5.0.2.1, inl (fault, x.5.1, refl))))
reading_refused file row (Value Digits) x =
    inr ((x.0, x.1, x.2, x.3), x.4, inr (x.5.0.0, x.5.0.1, inr (x.5.0.2.0, x.5.0.2.1, inr (x.5.1.0, x.5.1.1, inl (x.5.2, refl)))))
reading_refused file row _ x = absurd x.5

-- ---- withdrawals
abbrev FieldsTold : OfficeFile → NamedKind → Row → Outcome → Type 0
FieldsTold file of.Reading fields r = ReadingTold file fields r
FieldsTold file of.Assignment fields r = AssignmentTold file fields r
FieldsTold file of.TopUp fields r = TopUpTold file fields r

one_fields : (file : OfficeFile) → AreNamed file → (kind : NamedKind) (fields : Row) (r s : Outcome) → FieldsTold file kind fields r → FieldsTold file kind fields s → r ≡ s
one_fields file named of.Reading fields r s a b = one_reading file named fields r s a b
one_fields file named of.Assignment fields r s a b = one_assignment file named fields r s a b
one_fields file named of.TopUp fields r s a b = one_top_up file named fields r s a b

named_given : (file : OfficeFile) (kind : NamedKind) (fields : Row) (e : Entry) → GivesNamed file kind fields e → FieldsTold file kind fields (Ok e)
named_given file of.Reading fields e x = reading_given file fields e x
named_given file of.Assignment fields e x = assignment_given file fields e x
named_given file of.TopUp fields e x = top_up_given file fields e x

named_refused : (file : OfficeFile) (kind : NamedKind) (fields : Row) (c : Cause) → RefusesNamed file kind fields c → FieldsTold file kind fields (Err c)
named_refused file of.Reading fields c x = reading_refused file fields c x
named_refused file of.Assignment fields c x = assignment_refused file fields c x
named_refused file of.TopUp fields c x = top_up_refused file fields c x

abbrev withdrawal : Named → Entry
withdrawal n = record { key = key.Withdrawal n; content = content.Withdrawal }

-- what comes of the withdrawal of what the fields name
abbrev NamedTold : OfficeFile → NamedKind → Row → Outcome → Type 0
NamedTold file kind fields (Ok e) = (n : Named) × FieldsTold file kind fields (Ok (named_entry n)) × (e ≡ withdrawal n)
NamedTold file kind fields (Err c) = FieldsTold file kind fields (Err c)

same_entries : (a b : Entry) → ◌≡◌ {A = Outcome} (Ok a) (Ok b) → a ≡ b
same_entries a b e = cc

not_given_and_refused : (a : Entry) (c : Cause) → ◌≡◌ {A = Outcome} (Ok a) (Err c) → ⊥
not_given_and_refused a c e = cc

named_back : (n : Named) → named_of (named_entry n).key (named_entry n).content ≡ Some n
named_back (named.Reading m r t w) = refl
named_back (named.Assignment m t o) = refl
named_back (named.TopUp r a c t) = refl

same_names : (m n : Named) → named_entry m ≡ named_entry n → m ≡ n
same_names m n e = same_Some m n (sym (named_back m) ∙ ap (λ (v : Entry). named_of v.key v.content) e ∙ named_back n)

one_named : (file : OfficeFile) → AreNamed file → (kind : NamedKind) (fields : Row) (r s : Outcome) → NamedTold file kind fields r → NamedTold file kind fields s → r ≡ s
one_named file named kind fields (Ok e) (Ok f) a b =
    let same : named_entry a.0 ≡ named_entry b.0 = same_entries (named_entry a.0) (named_entry b.0) (one_fields file named kind fields (Ok (named_entry a.0)) (Ok (named_entry b.0)) a.1 b.1) in
    ap given (a.2 ∙ ap withdrawal (same_names a.0 b.0 same) ∙ sym b.2)
one_named file named kind fields (Ok e) (Err c) a b =
    absurd (not_given_and_refused (named_entry a.0) c (one_fields file named kind fields (Ok (named_entry a.0)) (Err c) a.1 b))
one_named file named kind fields (Err c) (Ok e) a b =
    absurd (not_given_and_refused (named_entry b.0) c (one_fields file named kind fields (Ok (named_entry b.0)) (Err c) b.1 a))
one_named file named kind fields (Err c) (Err d) a b = one_fields file named kind fields (Err c) (Err d) a b

abbrev OfKind : Type 0
OfKind = NamedKind × Row

abbrev of_kind : OfKind → Row
of_kind f = kind_name f.0 ∷ f.1

abbrev WithdrawalTold : OfficeFile → Row → Outcome → Type 0
WithdrawalTold file row = Step (For (HasNoKind row) Kind) (λ (f : OfKind). row ≡ of_kind f) (λ f. NamedTold file f.0 f.1)

-- names of unlike kinds have unlike lengths
lengths : (a b : List ℕ) → a ≡ b → length a ≡ length b
lengths a b e = ap length e

same_kind : (a b : NamedKind) → kind_name a ≡ kind_name b → a ≡ b
same_kind of.Reading of.Reading e = refl
same_kind of.Assignment of.Assignment e = refl
same_kind of.TopUp of.TopUp e = refl
same_kind of.Reading of.Assignment e = absurd (omega (arith, lengths (kind_name of.Reading) (kind_name of.Assignment) e))
same_kind of.Reading of.TopUp e = absurd (omega (arith, lengths (kind_name of.Reading) (kind_name of.TopUp) e))
same_kind of.Assignment of.Reading e = absurd (omega (arith, lengths (kind_name of.Assignment) (kind_name of.Reading) e))
same_kind of.Assignment of.TopUp e = absurd (omega (arith, lengths (kind_name of.Assignment) (kind_name of.TopUp) e))
same_kind of.TopUp of.Reading e = absurd (omega (arith, lengths (kind_name of.TopUp) (kind_name of.Reading) e))
same_kind of.TopUp of.Assignment e = absurd (omega (arith, lengths (kind_name of.TopUp) (kind_name of.Assignment) e))

first_is : (a b : List ℕ) (xs ys : Row) → a ∷ xs ≡ b ∷ ys → a ≡ b
first_is a b xs ys e = cc

rest_is : (a b : List ℕ) (xs ys : Row) → a ∷ xs ≡ b ∷ ys → xs ≡ ys
rest_is a b xs ys e = cc

same_of_kind : (f g : OfKind) → of_kind f ≡ of_kind g → f ≡ g
same_of_kind f g e =
    let a : f.0 ≡ g.0 = same_kind f.0 g.0 (first_is (kind_name f.0) (kind_name g.0) f.1 g.1 e) in
    let b : f.1 ≡ g.1 = rest_is (kind_name f.0) (kind_name g.0) f.1 g.1 e in
    λ i. (a i, b i)

one_withdrawal : (file : OfficeFile) → AreNamed file → (row : Row) (r s : Outcome) → WithdrawalTold file row r → WithdrawalTold file row s → r ≡ s
one_withdrawal file named row = one_step (For (HasNoKind row) Kind) (λ (f : OfKind). row ≡ of_kind f) (λ f. NamedTold file f.0 f.1)
    (one_for (HasNoKind row) Kind)
    (λ r f a b. a.0 f.0 f.1 b)
    (λ f g a b. same_of_kind f g (sym a ∙ b))
    (λ f x. one_named file named f.0 f.1)

withdrawal_given : (file : OfficeFile) (row : Row) (e : Entry) → GivesWithdrawal file row e → WithdrawalTold file row (Ok e)
withdrawal_given file row e x = inr ((x.kind, x.fields), x.row_is, (x.named, named_given file x.kind x.fields (named_entry x.named) x.named_is, x.entry_is))

withdrawal_refused : (file : OfficeFile) (row : Row) (c : Cause) → RefusesWithdrawal file row c → WithdrawalTold file row (Err c)
withdrawal_refused file row c (inl x) = inl (x.0, ap (λ (d : Cause). Err d) x.1)
withdrawal_refused file row c (inr x) = inr ((x.0, x.1), x.2, named_refused file x.0 x.1 c x.3)

-- ---- rows of each kind
abbrev RowTold : OfficeFile → RowKind → Row → Outcome → Type 0
RowTold file Assignment row r = AssignmentTold file row r
RowTold file TopUp row r = TopUpTold file row r
RowTold file Withdrawal row r = WithdrawalTold file row r

one_told : (file : OfficeFile) → AreNamed file → (kind : RowKind) (row : Row) (r s : Outcome) → RowTold file kind row r → RowTold file kind row s → r ≡ s
one_told file named Assignment row r s a b = one_assignment file named row r s a b
one_told file named TopUp row r s a b = one_top_up file named row r s a b
one_told file named Withdrawal row r s a b = one_withdrawal file named row r s a b

row_given : (file : OfficeFile) (kind : RowKind) (row : Row) (e : Entry) → GivesEntry file kind row e → RowTold file kind row (Ok e)
row_given file Assignment row e x = assignment_given file row e x
row_given file TopUp row e x = top_up_given file row e x
row_given file Withdrawal row e x = withdrawal_given file row e x

row_refused : (file : OfficeFile) (kind : RowKind) (row : Row) (c : Cause) → RefusesRow file kind row c → RowTold file kind row (Err c)
row_refused file Assignment row c x = assignment_refused file row c x
row_refused file TopUp row c x = top_up_refused file row c x
row_refused file Withdrawal row c x = withdrawal_refused file row c x

same_causes : (a b : Cause) → ◌≡◌ {A = Outcome} (Err a) (Err b) → a ≡ b
same_causes a b e = cc

pub one_entry : (file : OfficeFile) → AreNamed file → (kind : RowKind) (row : Row) (a b : Entry) → GivesEntry file kind row a → GivesEntry file kind row b → a ≡ b
one_entry file named kind row a b x y = same_entries a b (one_told file named kind row (Ok a) (Ok b) (row_given file kind row a x) (row_given file kind row b y))

pub one_cause : (file : OfficeFile) → AreNamed file → (kind : RowKind) (row : Row) (a b : Cause) → RefusesRow file kind row a → RefusesRow file kind row b → a ≡ b
one_cause file named kind row a b x y = same_causes a b (one_told file named kind row (Err a) (Err b) (row_refused file kind row a x) (row_refused file kind row b y))

pub given_or_refused : (file : OfficeFile) → AreNamed file → (kind : RowKind) (row : Row) (e : Entry) (c : Cause) → GivesEntry file kind row e → RefusesRow file kind row c → ⊥
given_or_refused file named kind row e c x y =
    let told : ◌≡◌ {A = Outcome} (Ok e) (Err c) = one_told file named kind row (Ok e) (Err c) (row_given file kind row e x) (row_refused file kind row c y) in
    cc
