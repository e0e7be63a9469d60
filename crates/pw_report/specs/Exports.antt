-- The exports of readings, energies, assignments, top-ups and withdrawals, as CSV (RFC 4180, but that a line ends with LF,
-- and that rows of withdrawals have four or five fields).
-- (Formats of this project.)
use Rattle.std.specs.Prelude.{ℕ, ◌*◌, cond, Option, Some, None, List, [], ◌∷◌, ◌++◌, length, codes, decimal}
use Rattle.std.specs.List.{flat_map}
use Rattle.csv.specs.Writing.{default_writer, row_text}
use Rattle.pw_obis.specs.declared.reference.Register.{Register}
use Rattle.pw_obis.specs.Registers.{register_name, registers}
use Rattle.pw_tariff.specs.declared.ids.AccountId.{AccountId}
use Rattle.pw_tariff.specs.declared.ids.Direction.{Direction}
use Rattle.pw_tariff.specs.declared.ids.Direction.TheVariants.{Import, Export}
use Rattle.pw_tariff.specs.declared.ids.MeterId.{MeterId}
use Rattle.pw_tariff.specs.Ids.{direction_name}
use Rattle.pw_tariff.specs.Office.{OfficeFile, office_of, price_at}
use Rattle.pw_model.specs.declared.records.Key.{Key}
use Rattle.pw_model.specs.declared.records.Key.TheVariants as key
use Rattle.pw_model.specs.declared.records.Content.{Content}
use Rattle.pw_model.specs.declared.records.Content.TheVariants as content
use Rattle.pw_model.specs.declared.records.Entry.{Entry}
use Rattle.pw_model.specs.declared.records.Named.{Named}
use Rattle.pw_model.specs.declared.records.Named.TheVariants as named
use Rattle.pw_model.specs.declared.records.ReadingRow.{ReadingRow}
use Rattle.pw_model.specs.Energy.{account, energy, energy_in_period, over_periods}
use Rattle.pw_record.specs.declared.row.RowKind.{RowKind}
use Rattle.pw_record.specs.Row.{header_of}
use Rattle.pw_report.specs.Layout.{instant_text, listed_below}
use Rattle.pw_report.specs.Names.{account_name, band_name, meter_name, owner_name}

-- fields with commas between them, quoted where they call for it, and LF
unfoldable pub csv_line : List (List ℕ) → List ℕ
csv_line fields = row_text default_writer fields

-- ---- readings
-- w where the reading is withdrawn, else 1 where it counts, else 0
abbrev pub mark : ReadingRow → List ℕ
mark row = cond row.withdrawn (codes "w") (cond row.counted (codes "1") (codes "0"))

abbrev pub readings_header : List (List ℕ)
readings_header = codes "meter" ∷ codes "register" ∷ codes "instant" ∷ codes "wh" ∷ codes "counted" ∷ []

-- of a reading, with its meter's name
abbrev pub reading_line : List ℕ → Register → ReadingRow → List ℕ
reading_line meter register row =
    csv_line (meter ∷ register_name register ∷ instant_text row.instant ∷ decimal row.wh ∷ mark row ∷ [])

-- the readings of a meter's registers, which are given by register
abbrev pub meter_lines : List ℕ → (Register → List ReadingRow) → List ℕ
meter_lines meter rows = flat_map (λ register. flat_map (reading_line meter register) (rows register)) registers

-- the readings are given by meter and register
unfoldable pub readings_text : OfficeFile → (ℕ → Register → List ReadingRow) → List ℕ
readings_text file rows =
    csv_line readings_header ++ listed_below (length file.meters) (λ m. meter_lines (meter_name file m) (rows m))

-- of one meter, by register
unfoldable pub one_meter_text : OfficeFile → ℕ → (Register → List ReadingRow) → List ℕ
one_meter_text file m rows = csv_line readings_header ++ meter_lines (meter_name file m) rows

-- ---- energies
-- the energy of an owner in a band and a direction, in Wh, and what it costs, in nano-euro
pub record EnergyRow : Type 0 where
  pub owner : Option AccountId
  pub band : ℕ
  pub direction : Direction
  pub wh : ℕ
  pub nano : ℕ

-- in each period at its price
unfoldable pub energy_cost : OfficeFile → List Entry → Option AccountId → ℕ → Direction → ℕ
energy_cost file s o b d = over_periods (office_of file) (λ p. price_at file p b d * energy_in_period (office_of file) s o p b d)

abbrev pub energy_row : OfficeFile → List Entry → Option AccountId → ℕ → Direction → EnergyRow
energy_row file s o b d = record { owner = o; band = b; direction = d; wh = energy (office_of file) s o b d; nano = energy_cost file s o b d }

-- of an owner, band by band
unfoldable pub owner_rows : OfficeFile → List Entry → Option AccountId → List EnergyRow
owner_rows file s o = listed_below (length file.bands) (λ b. energy_row file s o b Import ∷ energy_row file s o b Export ∷ [])

-- of nobody, then of each account
unfoldable pub energy_rows : OfficeFile → List Entry → List EnergyRow
energy_rows file s = owner_rows file s None ++ listed_below (length file.accounts) (λ a. owner_rows file s (Some (account a)))

abbrev pub energies_header : List (List ℕ)
energies_header = codes "owner" ∷ codes "band" ∷ codes "direction" ∷ codes "wh" ∷ codes "nano" ∷ []

abbrev pub energy_row_line : OfficeFile → EnergyRow → List ℕ
energy_row_line file row =
    csv_line (owner_name file row.owner ∷ band_name file row.band ∷ direction_name row.direction ∷ decimal row.wh ∷ decimal row.nano ∷ [])

unfoldable pub energies_text : OfficeFile → List Entry → List ℕ
energies_text file s =
    csv_line energies_header ++ flat_map (energy_row_line file) (energy_rows file s)

-- ---- records as the rows of an upload
-- an account's name, nothing for nobody
abbrev pub given_name : OfficeFile → Option AccountId → List ℕ
given_name file None = []
given_name file (Some a) = account_name file a.0

-- of an assignment
abbrev pub assignment_fields : OfficeFile → MeterId → ℕ → Option AccountId → List (List ℕ)
assignment_fields file m t o = meter_name file m.0 ∷ instant_text t ∷ given_name file o ∷ []

-- of a top-up
abbrev pub topup_fields : OfficeFile → List ℕ → AccountId → ℕ → ℕ → List (List ℕ)
topup_fields file r a c t = r ∷ account_name file a.0 ∷ decimal c ∷ instant_text t ∷ []

-- of a withdrawal: the kind of the record that it names, and then its fields
abbrev pub withdrawal_fields : OfficeFile → Named → List (List ℕ)
withdrawal_fields file (named.Reading m r t w) = codes "reading" ∷ meter_name file m.0 ∷ register_name r ∷ instant_text t ∷ decimal w ∷ []
withdrawal_fields file (named.Assignment m t o) = codes "assignment" ∷ assignment_fields file m t o
withdrawal_fields file (named.TopUp r a c t) = codes "topup" ∷ topup_fields file r a c t

-- the row of an assignment, of a top-up and of a withdrawal. (No other record is shown so, and none of an office has a key
-- and a content of two kinds.)
abbrev pub record_fields : OfficeFile → Key → Content → List (List ℕ)
record_fields file (key.Assignment m t) (content.Assignment o) = assignment_fields file m t o
record_fields file (key.TopUp r) (content.TopUp a c t) = topup_fields file r a c t
record_fields file (key.Withdrawal n) content.Withdrawal = withdrawal_fields file n
record_fields file _ _ = []

abbrev pub record_line : OfficeFile → Entry → List ℕ
record_line file e = csv_line (record_fields file e.key e.content)

-- below the header of their upload
unfoldable pub records_text : OfficeFile → RowKind → List Entry → List ℕ
records_text file kind records = csv_line (header_of kind) ++ flat_map (record_line file) records
