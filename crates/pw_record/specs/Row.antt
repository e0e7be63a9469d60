-- One row of assignments, of top-ups or of withdrawals: the entry that it gives, or why it is refused.
-- (Formats of this project over CSV, RFC 4180.)
use Rattle.std.specs.Prelude.{◌≡◌, ℕ, ◌⊎◌, Option, List, [], ◌∷◌, length, Ok, Err, codes}
use Rattle.pw_obis.specs.declared.reference.Register.{Register}
use Rattle.pw_obis.specs.declared.value.ValueFault.TheVariants.{Digits}
use Rattle.pw_tariff.specs.declared.ids.AccountId.{AccountId}
use Rattle.pw_tariff.specs.Office.{OfficeFile}
use Rattle.pw_time.specs.Outcomes.{IsUtcOutcome}
use Rattle.pw_model.specs.declared.records.Key.TheVariants as key
use Rattle.pw_model.specs.declared.records.Content.TheVariants as content
use Rattle.pw_model.specs.declared.records.Entry.{Entry}
use Rattle.pw_model.specs.declared.records.Named.{Named}
use Rattle.pw_model.specs.Counting.{assignment_key, named_entry}
use Rattle.pw_model.specs.Lists.{reading_entry}
use Rattle.pw_model.specs.References.{IsReference}
use Rattle.pw_record.specs.declared.fault.Cause.{Cause}
use Rattle.pw_record.specs.declared.fault.Cause.TheVariants.{Instant, Value, UnknownMeter, UnknownAccount, CsvForm, Cents, Reference, Kind, RegisterName}
use Rattle.pw_record.specs.declared.row.RowKind.{RowKind}
use Rattle.pw_record.specs.declared.row.RowKind.TheVariants.{Assignment, TopUp, Withdrawal}
use Rattle.pw_record.specs.declared.row.NamedKind.{NamedKind}
use Rattle.pw_record.specs.declared.row.NamedKind.TheVariants as of
use Rattle.pw_record.specs.Names.{HasId, IsUnknownId, HasRegister, IsUnknownRegister, HasName, IsUnknownName, IsOwner, IsUnknownOwner}
use Rattle.pw_record.specs.Cents.{IsCents}
use Rattle.pw_record.specs.WattHours.{IsWattHours}

-- the fields of a row, by their order in the header
abbrev pub Row : Type 0
Row = List (List ℕ)

abbrev pub header_of : RowKind → Row
header_of Assignment = codes "meter" ∷ codes "start" ∷ codes "account" ∷ []
header_of TopUp = codes "reference" ∷ codes "account" ∷ codes "cents" ∷ codes "instant" ∷ []
header_of Withdrawal = codes "kind" ∷ codes "first" ∷ codes "second" ∷ codes "third" ∷ codes "fourth" ∷ []

-- ---- assignments: meter, start, account
pub record GivesAssignment (file : OfficeFile) (row : Row) (entry : Entry) : Type 0 where
  pub id : List ℕ
  pub start : List ℕ
  pub account : List ℕ
  pub meter : ℕ
  pub instant : ℕ
  pub owner : Option AccountId
  pub row_is : row ≡ id ∷ start ∷ account ∷ []
  pub meter_is : HasId file id meter
  pub start_is : IsUtcOutcome start (Ok instant)
  pub owner_is : IsOwner file account owner
  pub entry_is : entry ≡ record { key = assignment_key meter instant; content = content.Assignment owner }

-- what is wrong with the three fields: the meter is told before the start, and the start before the account
abbrev pub IsWrongAssignment : OfficeFile → List ℕ → List ℕ → List ℕ → Cause → Type 0
IsWrongAssignment file id start account UnknownMeter = IsUnknownId file id
IsWrongAssignment file id start account (Instant fault) = ((meter : ℕ) × HasId file id meter) × IsUtcOutcome start (Err fault)
IsWrongAssignment file id start account UnknownAccount =
    ((meter : ℕ) × HasId file id meter) × ((instant : ℕ) × IsUtcOutcome start (Ok instant)) × IsUnknownOwner file account
IsWrongAssignment file id start account _ = ⊥

-- the number of fields is told before what is in them
abbrev pub RefusesAssignment : OfficeFile → Row → Cause → Type 0
RefusesAssignment file row CsvForm = length row ≡ 3 → ⊥
RefusesAssignment file row cause =
    (id : List ℕ) × (start : List ℕ) × (account : List ℕ) × (row ≡ id ∷ start ∷ account ∷ []) × IsWrongAssignment file id start account cause

-- ---- top-ups: reference, account, cents, instant
pub record GivesTopUp (file : OfficeFile) (row : Row) (entry : Entry) : Type 0 where
  pub reference : List ℕ
  pub name : List ℕ
  pub amount : List ℕ
  pub when : List ℕ
  pub account : ℕ
  pub cents : ℕ
  pub instant : ℕ
  pub row_is : row ≡ reference ∷ name ∷ amount ∷ when ∷ []
  pub reference_is : IsReference reference
  pub account_is : HasName file name account
  pub cents_are : IsCents amount cents
  pub instant_is : IsUtcOutcome when (Ok instant)
  pub entry_is : entry ≡ record { key = key.TopUp reference; content = content.TopUp (record { 0 = account }) cents instant }

-- what is wrong with the four fields: the reference is told first, then the account, the cents, and the instant
abbrev pub IsWrongTopUp : OfficeFile → List ℕ → List ℕ → List ℕ → List ℕ → Cause → Type 0
IsWrongTopUp file reference name amount when Reference = IsReference reference → ⊥
IsWrongTopUp file reference name amount when UnknownAccount = IsReference reference × IsUnknownName file name
IsWrongTopUp file reference name amount when Cents =
    IsReference reference × ((account : ℕ) × HasName file name account) × ((cents : ℕ) → IsCents amount cents → ⊥)
IsWrongTopUp file reference name amount when (Instant fault) =
    IsReference reference × ((account : ℕ) × HasName file name account) × ((cents : ℕ) × IsCents amount cents) × IsUtcOutcome when (Err fault)
IsWrongTopUp file reference name amount when _ = ⊥

abbrev pub RefusesTopUp : OfficeFile → Row → Cause → Type 0
RefusesTopUp file row CsvForm = length row ≡ 4 → ⊥
RefusesTopUp file row cause =
    (reference : List ℕ) × (name : List ℕ) × (amount : List ℕ) × (when : List ℕ) × (row ≡ reference ∷ name ∷ amount ∷ when ∷ [])
    × IsWrongTopUp file reference name amount when cause

-- ---- readings, in rows that withdraw them: meter, register, instant, watt-hours
pub record GivesReading (file : OfficeFile) (row : Row) (entry : Entry) : Type 0 where
  pub id : List ℕ
  pub name : List ℕ
  pub when : List ℕ
  pub amount : List ℕ
  pub meter : ℕ
  pub register : Register
  pub instant : ℕ
  pub wh : ℕ
  pub row_is : row ≡ id ∷ name ∷ when ∷ amount ∷ []
  pub meter_is : HasId file id meter
  pub register_is : HasRegister file meter name register
  pub instant_is : IsUtcOutcome when (Ok instant)
  pub wh_are : IsWattHours amount wh
  pub entry_is : entry ≡ reading_entry meter register instant wh

-- the meter has the id, and the register with the name counts for it
abbrev pub HaveMeterAndRegister : OfficeFile → List ℕ → List ℕ → Type 0
HaveMeterAndRegister file id name = (meter : ℕ) × HasId file id meter × ((register : Register) × HasRegister file meter name register)

-- what is wrong with the four fields: the meter is told first, then the register, the instant, and the watt-hours
abbrev pub IsWrongReading : OfficeFile → List ℕ → List ℕ → List ℕ → List ℕ → Cause → Type 0
IsWrongReading file id name when amount UnknownMeter = IsUnknownId file id
IsWrongReading file id name when amount RegisterName = (meter : ℕ) × HasId file id meter × IsUnknownRegister file meter name
IsWrongReading file id name when amount (Instant fault) = HaveMeterAndRegister file id name × IsUtcOutcome when (Err fault)
IsWrongReading file id name when amount (Value Digits) =
    HaveMeterAndRegister file id name × ((instant : ℕ) × IsUtcOutcome when (Ok instant)) × ((wh : ℕ) → IsWattHours amount wh → ⊥)
IsWrongReading file id name when amount _ = ⊥

abbrev pub RefusesReading : OfficeFile → Row → Cause → Type 0
RefusesReading file row CsvForm = length row ≡ 4 → ⊥
RefusesReading file row cause =
    (id : List ℕ) × (name : List ℕ) × (when : List ℕ) × (amount : List ℕ) × (row ≡ id ∷ name ∷ when ∷ amount ∷ [])
    × IsWrongReading file id name when amount cause

-- ---- withdrawals: the kind of the record that is withdrawn, and then its fields
abbrev pub kind_name : NamedKind → List ℕ
kind_name of.Reading = codes "reading"
kind_name of.Assignment = codes "assignment"
kind_name of.TopUp = codes "topup"

-- the record that the fields name: those of an assignment and of a top-up are those of their own rows
abbrev pub GivesNamed : OfficeFile → NamedKind → Row → Entry → Type 0
GivesNamed file of.Reading fields entry = GivesReading file fields entry
GivesNamed file of.Assignment fields entry = GivesAssignment file fields entry
GivesNamed file of.TopUp fields entry = GivesTopUp file fields entry

abbrev pub RefusesNamed : OfficeFile → NamedKind → Row → Cause → Type 0
RefusesNamed file of.Reading fields cause = RefusesReading file fields cause
RefusesNamed file of.Assignment fields cause = RefusesAssignment file fields cause
RefusesNamed file of.TopUp fields cause = RefusesTopUp file fields cause

pub record GivesWithdrawal (file : OfficeFile) (row : Row) (entry : Entry) : Type 0 where
  pub kind : NamedKind
  pub fields : Row
  pub named : Named
  pub row_is : row ≡ kind_name kind ∷ fields
  pub named_is : GivesNamed file kind fields (named_entry named)
  pub entry_is : entry ≡ record { key = key.Withdrawal named; content = content.Withdrawal }

-- the first field is no kind's name, or there is none
abbrev pub HasNoKind : Row → Type 0
HasNoKind row = (kind : NamedKind) (fields : Row) → row ≡ kind_name kind ∷ fields → ⊥

-- the kind is told before the number of fields behind it, and that before what is in them
abbrev pub RefusesWithdrawal : OfficeFile → Row → Cause → Type 0
RefusesWithdrawal file row cause =
    (HasNoKind row × (cause ≡ Kind))
    ⊎ ((kind : NamedKind) × (fields : Row) × (row ≡ kind_name kind ∷ fields) × RefusesNamed file kind fields cause)

-- ---- rows of each kind
abbrev pub GivesEntry : OfficeFile → RowKind → Row → Entry → Type 0
GivesEntry file Assignment row entry = GivesAssignment file row entry
GivesEntry file TopUp row entry = GivesTopUp file row entry
GivesEntry file Withdrawal row entry = GivesWithdrawal file row entry

abbrev pub RefusesRow : OfficeFile → RowKind → Row → Cause → Type 0
RefusesRow file Assignment row cause = RefusesAssignment file row cause
RefusesRow file TopUp row cause = RefusesTopUp file row cause
RefusesRow file Withdrawal row cause = RefusesWithdrawal file row cause
