-- What a row of a table says, as a query shows it: all columns but the rowid.
-- (A format of this project.)
use Rattle.std.specs.Prelude.{◌≡◌, ◌≤◌, ◌<◌, ◌^◌, ⊤, ℕ, zero, suc, ℤ, pos, negsuc, Option, Some, None, List, [], ◌∷◌, map}
use Rattle.std.specs.List.{AllByRecursion}
use Rattle.sqlite.specs.declared.types.Value.{Value}
use Rattle.sqlite.specs.declared.types.Value.TheVariants.{Int, Text}
use Rattle.sqlite.specs.Order.{Row, column}
use Rattle.pw_obis.specs.declared.energy.TheConstants.{LARGEST_WATT_HOURS}
use Rattle.pw_obis.specs.declared.reference.Register.{Register}
use Rattle.pw_obis.specs.declared.reference.Register.TheVariants.{I0, I1, I2, E0, E1, E2}
use Rattle.pw_time.specs.Instants.{IsInstant}
use Rattle.pw_tariff.specs.declared.ids.AccountId.{AccountId}
use Rattle.pw_tariff.specs.declared.ids.Direction.{Direction}
use Rattle.pw_tariff.specs.declared.ids.Direction.TheVariants.{Import, Export}
use Rattle.pw_tariff.specs.Office.{register_place}
use Rattle.pw_model.specs.declared.records.Key.TheVariants as key
use Rattle.pw_model.specs.declared.records.Content.{Content}
use Rattle.pw_model.specs.declared.records.Content.TheVariants as content
use Rattle.pw_model.specs.declared.records.Named.{Named}
use Rattle.pw_model.specs.declared.records.Named.TheVariants as named
use Rattle.pw_model.specs.declared.records.Contents.{Contents}
use Rattle.pw_model.specs.declared.records.Contents.TheVariants.{Nothing, One, Several}
use Rattle.pw_model.specs.declared.records.Entry.{Entry}
use Rattle.pw_model.specs.declared.records.TotalKey.{TotalKey}
use Rattle.pw_model.specs.declared.records.TotalKey.TheVariants.{Energy, TopUps as TotalOfTopUps}
use Rattle.pw_model.specs.Same.{entry_order, direction_place}
use Rattle.pw_model.specs.Lists.{IsInOrder}
use Rattle.pw_schema.specs.declared.kind.RecordKind.{RecordKind}
use Rattle.pw_schema.specs.declared.kind.RecordKind.TheVariants.{Readings, Assignments, TopUps, WithdrawnReadings, WithdrawnAssignments, WithdrawnTopUps}
use Rattle.pw_schema.specs.declared.kind.TotalKind.{TotalKind}
use Rattle.pw_schema.specs.declared.kind.TotalKind.TheVariants.{Energies, Payments}

-- ---- a value of a row
-- a number that isn't negative; 0 for all else
abbrev pub natural : ℤ → ℕ
natural (pos n) = n
natural (negsuc n) = 0

abbrev pub number : Value → ℕ
number (Int n) = natural n
number _ = 0

abbrev pub text : Value → List ℕ
text (Text t) = t
text _ = []

-- the value is a number that isn't negative
abbrev pub IsNumber : Value → Type 0
IsNumber v = v ≡ Int (pos (number v))

-- the register at a place of the order I0, I1, I2, E0, E1, E2; E2 behind its end
abbrev pub register_at : ℕ → Register
register_at zero = I0
register_at (suc zero) = I1
register_at (suc (suc zero)) = I2
register_at (suc (suc (suc zero))) = E0
register_at (suc (suc (suc (suc zero)))) = E1
register_at _ = E2

-- 0 is nobody, else it is one more than the account's position
abbrev pub owner_at : ℕ → Option AccountId
owner_at zero = None
owner_at (suc a) = Some (record { 0 = a })

-- 0 is import, else it is export
abbrev pub direction_at : ℕ → Direction
direction_at zero = Import
direction_at (suc n) = Export

-- the value is the place of a register, of a direction
abbrev pub IsRegister : Value → Type 0
IsRegister v = v ≡ Int (pos (register_place (register_at (number v))))

abbrev pub IsDirection : Value → Type 0
IsDirection v = v ≡ Int (pos (direction_place (direction_at (number v))))

-- ---- records
-- the withdrawal that names a record
abbrev pub withdrawal : Named → Entry
withdrawal n = record { key = key.Withdrawal n; content = content.Withdrawal }

-- of a table of readings: meter, register, instant, Wh; of assignments: meter, start, owner; of top-ups: reference,
-- account, cents, instant; of a table of withdrawn ones the same, each named by a withdrawal
abbrev pub told : RecordKind → Row → Entry
told Readings r = record {
  key = key.Reading (record { 0 = number (column r 0) }) (register_at (number (column r 1))) (number (column r 2));
  content = content.Reading (number (column r 3));
}
told Assignments r = record {
  key = key.Assignment (record { 0 = number (column r 0) }) (number (column r 1));
  content = content.Assignment (owner_at (number (column r 2)));
}
told TopUps r = record {
  key = key.TopUp (text (column r 0));
  content = content.TopUp (record { 0 = number (column r 1) }) (number (column r 2)) (number (column r 3));
}
told WithdrawnReadings r =
    withdrawal (named.Reading (record { 0 = number (column r 0) }) (register_at (number (column r 1))) (number (column r 2)) (number (column r 3)))
told WithdrawnAssignments r =
    withdrawal (named.Assignment (record { 0 = number (column r 0) }) (number (column r 1)) (owner_at (number (column r 2))))
told WithdrawnTopUps r =
    withdrawal (named.TopUp (text (column r 0)) (record { 0 = number (column r 1) }) (number (column r 2)) (number (column r 3)))

-- its values are of the kinds of those of a record
abbrev pub TellsReading : Row → Type 0
TellsReading r = IsNumber (column r 0) × (IsRegister (column r 1) × (IsNumber (column r 2) × IsNumber (column r 3)))

abbrev pub TellsAssignment : Row → Type 0
TellsAssignment r = IsNumber (column r 0) × (IsNumber (column r 1) × IsNumber (column r 2))

abbrev pub TellsTopUp : Row → Type 0
TellsTopUp r =
    (column r 0 ≡ Text (text (column r 0))) × (IsNumber (column r 1) × (IsNumber (column r 2) × IsNumber (column r 3)))

-- so it is of the record that a withdrawal names
abbrev pub Tells : RecordKind → Row → Type 0
Tells Readings r = TellsReading r
Tells Assignments r = TellsAssignment r
Tells TopUps r = TellsTopUp r
Tells WithdrawnReadings r = TellsReading r
Tells WithdrawnAssignments r = TellsAssignment r
Tells WithdrawnTopUps r = TellsTopUp r

-- the records that rows tell, each before the next
pub record ReadsRows (k : RecordKind) (rows : List Row) (found : List Entry) : Type 0 where
  pub are : found ≡ map (told k) rows
  pub kinds : AllByRecursion (Tells k) rows
  pub rising : IsInOrder entry_order found

-- ---- totals
-- of a table of energies: owner, period, band, direction, Wh; of payments: account, cents
abbrev pub told_key : TotalKind → Row → TotalKey
told_key Energies r =
    Energy (owner_at (number (column r 0))) (record { 0 = number (column r 1) }) (record { 0 = number (column r 2) }) (direction_at (number (column r 3)))
told_key Payments r = TotalOfTopUps (record { 0 = number (column r 0) })

abbrev pub told_amount : TotalKind → Row → ℕ
told_amount Energies r = number (column r 4)
told_amount Payments r = number (column r 1)

abbrev pub TellsTotal : TotalKind → Row → Type 0
TellsTotal Energies r =
    IsNumber (column r 0) × (IsNumber (column r 1) × (IsNumber (column r 2) × (IsDirection (column r 3) × IsNumber (column r 4))))
TellsTotal Payments r = IsNumber (column r 0) × IsNumber (column r 1)

-- ---- what is told of a key, from two rows at most
abbrev pub contents_of : List Content → Contents
contents_of [] = Nothing
contents_of (c ∷ []) = One c
contents_of (c ∷ d ∷ more) = Several

-- without the key: of a reading Wh, of an assignment the owner, of a top-up account, cents, instant, of a withdrawal nothing
abbrev pub told_content : RecordKind → Row → Content
told_content Readings r = content.Reading (number (column r 0))
told_content Assignments r = content.Assignment (owner_at (number (column r 0)))
told_content TopUps r = content.TopUp (record { 0 = number (column r 0) }) (number (column r 1)) (number (column r 2))
told_content _ r = content.Withdrawal

-- the row shows such a content: values that fit a record, be it of an office or not; of a withdrawal any row does
abbrev pub ShowsContent : RecordKind → Row → Type 0
ShowsContent Readings r = (wh : ℕ) × (wh ≤ LARGEST_WATT_HOURS) × (column r 0 ≡ Int (pos wh))
ShowsContent Assignments r = (owner : ℕ) × (owner ≤ 2 ^ 16) × (column r 0 ≡ Int (pos owner))
ShowsContent TopUps r =
    ((account : ℕ) × (account < 2 ^ 16) × (column r 0 ≡ Int (pos account)))
    × (((cents : ℕ) × (cents < 2 ^ 32) × (column r 1 ≡ Int (pos cents))) × ((instant : ℕ) × IsInstant instant × (column r 2 ≡ Int (pos instant))))
ShowsContent _ r = ⊤

-- one row, which shows none
abbrev pub ShowsNoContent : RecordKind → List Row → Type 0
ShowsNoContent k rows = (row : Row) × (rows ≡ row ∷ []) × (ShowsContent k row → ⊥)
