-- What is asked of a record's key: the text, and what it is given. They serve `src/keys.rt`.
-- (A format of this project.)
use Rattle.std.specs.Prelude.{ℕ, pos, List, [], ◌∷◌, codes}
use Rattle.sqlite.specs.declared.types.Value.TheVariants.{Int, Text}
use Rattle.sqlite.specs.Order.{Row}
use Rattle.pw_tariff.specs.Office.{register_place}
use Rattle.pw_model.specs.declared.records.Key.{Key}
use Rattle.pw_model.specs.declared.records.Key.TheVariants as key
use Rattle.pw_store.specs.declared.keys.RecordKey.{RecordKey}
use Rattle.pw_store.specs.declared.keys.RecordKey.TheVariants.{Reading, Assignment, TopUp}

abbrev pub key_of : RecordKey → Key
key_of (Reading m g t) = key.Reading m g t
key_of (Assignment m t) = key.Assignment m t
key_of (TopUp r) = key.TopUp r

-- two rows at most of its records that no withdrawal names
abbrev pub reading_at_text : List ℕ
reading_at_text = codes "SELECT wh FROM record_reading WHERE meter = ?1 AND register = ?2 AND instant = ?3 AND NOT EXISTS (SELECT 1 FROM withdrawn_reading WHERE withdrawn_reading.meter = record_reading.meter AND withdrawn_reading.register = record_reading.register AND withdrawn_reading.instant = record_reading.instant AND withdrawn_reading.wh = record_reading.wh) LIMIT 2"

abbrev pub assignment_at_text : List ℕ
assignment_at_text = codes "SELECT owner FROM record_assignment WHERE meter = ?1 AND start = ?2 AND NOT EXISTS (SELECT 1 FROM withdrawn_assignment WHERE withdrawn_assignment.meter = record_assignment.meter AND withdrawn_assignment.start = record_assignment.start AND withdrawn_assignment.owner = record_assignment.owner) LIMIT 2"

abbrev pub topup_at_text : List ℕ
topup_at_text = codes "SELECT account, cents, instant FROM record_topup WHERE reference = ?1 AND NOT EXISTS (SELECT 1 FROM withdrawn_topup WHERE withdrawn_topup.reference = record_topup.reference AND withdrawn_topup.account = record_topup.account AND withdrawn_topup.cents = record_topup.cents AND withdrawn_topup.instant = record_topup.instant) LIMIT 2"

abbrev pub at_text : RecordKey → List ℕ
at_text (Reading m g t) = reading_at_text
at_text (Assignment m t) = assignment_at_text
at_text (TopUp r) = topup_at_text

abbrev pub at_row : RecordKey → Row
at_row (Reading m g t) = Int (pos m.0) ∷ Int (pos (register_place g)) ∷ Int (pos t) ∷ []
at_row (Assignment m t) = Int (pos m.0) ∷ Int (pos t) ∷ []
at_row (TopUp r) = Text r ∷ []
