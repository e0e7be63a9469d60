-- What is remembered of a register, so that a later reading of it isn't looked for.
-- (Definitions of this project.)
use Rattle.std.specs.Prelude.{◌≡◌, ◌≤◌, ℕ, Option, Some, None, List}
use Rattle.pw_obis.specs.declared.reference.Register.{Register}
use Rattle.pw_tariff.specs.declared.ids.MeterId.{MeterId}
use Rattle.pw_model.specs.declared.records.Entry.{Entry}
use Rattle.pw_model.specs.declared.records.Key.TheVariants.{Reading}
use Rattle.pw_model.specs.Counting.{Member}
use Rattle.pw_store.specs.declared.frontier.Frontier.{Frontier}

-- no record is a reading of a register from a second on; nothing is known where there is none
abbrev pub NoneFrom : MeterId → Register → Option ℕ → List Entry → Type 0
NoneFrom m r None records = Unit {0}
NoneFrom m r (Some from) records = (e : Entry) (t : ℕ) → Member e records → e.key ≡ Reading m r t → from ≤ t → ⊥

-- what is remembered is so
abbrev pub IsFrontier : Option Frontier → List Entry → Type 0
IsFrontier None records = Unit {0}
IsFrontier (Some f) records = NoneFrom f.meter f.register f.from records
