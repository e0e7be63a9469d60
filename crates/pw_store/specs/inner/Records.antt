-- A row as it is given to INSERT, and the record of a row. It serves `src/records.rt` and `src/entries.rt`.
-- (A format of this project.)
use Rattle.std.specs.Prelude.{◌≡◌, ℕ, pos, Option, List, [], ◌∷◌}
use Rattle.sqlite.specs.declared.types.Value.TheVariants.{Int, Text}
use Rattle.sqlite.specs.Order.{Row}
use Rattle.pw_obis.specs.declared.reference.Register.{Register}
use Rattle.pw_tariff.specs.declared.ids.AccountId.{AccountId}
use Rattle.pw_tariff.specs.declared.ids.MeterId.{MeterId}
use Rattle.pw_tariff.specs.Cells.{owner_place}
use Rattle.pw_tariff.specs.Office.{register_place}
use Rattle.pw_model.specs.declared.records.Key.TheVariants as key
use Rattle.pw_model.specs.declared.records.Content.TheVariants as content
use Rattle.pw_model.specs.declared.records.Entry.{Entry}
use Rattle.pw_model.specs.declared.records.Named.{Named}
use Rattle.pw_model.specs.declared.records.Named.TheVariants as named
use Rattle.pw_model.specs.Counting.{named_entry}
use Rattle.pw_schema.specs.Rows.{withdrawal}
use Rattle.pw_store.specs.declared.forms.Form.{Form}
use Rattle.pw_store.specs.declared.forms.Form.TheVariants.{Record, Withdrawal}

-- ---- a row as it is given to INSERT
abbrev pub reading_row : ℕ → ℕ → ℕ → ℕ → Row
reading_row meter register instant wh = Int (pos meter) ∷ Int (pos register) ∷ Int (pos instant) ∷ Int (pos wh) ∷ []

abbrev pub assignment_row : ℕ → ℕ → ℕ → Row
assignment_row meter start owner = Int (pos meter) ∷ Int (pos start) ∷ Int (pos owner) ∷ []

abbrev pub topup_row : List ℕ → ℕ → ℕ → ℕ → Row
topup_row reference account cents instant = Text reference ∷ Int (pos account) ∷ Int (pos cents) ∷ Int (pos instant) ∷ []

-- of what is named
abbrev pub named_row : Named → Row
named_row (named.Reading m r t w) = reading_row m.0 (register_place r) t w
named_row (named.Assignment m t o) = assignment_row m.0 t (owner_place o)
named_row (named.TopUp r a c t) = topup_row r a.0 c t

-- the records of the three kinds
abbrev pub reading_entry : MeterId → Register → ℕ → ℕ → Entry
reading_entry meter register instant wh = record { key = key.Reading meter register instant; content = content.Reading wh }

abbrev pub assignment_entry : MeterId → ℕ → Option AccountId → Entry
assignment_entry meter start owner = record { key = key.Assignment meter start; content = content.Assignment owner }

abbrev pub topup_entry : List ℕ → AccountId → ℕ → ℕ → Entry
topup_entry reference account cents instant = record { key = key.TopUp reference; content = content.TopUp account cents instant }

-- ---- what is named, as a record, or as what a withdrawal names
abbrev pub entry_as : Form → Named → Entry
entry_as Record n = named_entry n
entry_as Withdrawal n = withdrawal n

-- neither: its content isn't of its key's kind
abbrev pub IsForeign : Entry → Type 0
IsForeign e = (form : Form) (n : Named) → e ≡ entry_as form n → ⊥
