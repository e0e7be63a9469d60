-- The orders in which a store in memory keeps records, points and starts, as those of their keys in the program. (That of
-- totals is pw_model's.)
-- (Definitions of this project.)
use Rattle.std.specs.Prelude.{ℕ}
use Rattle.std.specs.Ordering.{nat_cmp, ordering_then}
use Rattle.std.specs.declared.cmp.Ordering.{Ordering}
use Rattle.pw_obis.specs.declared.reference.Register.{Register}
use Rattle.pw_obis.specs.contracts.reference.RegisterOrd.TheImpl as register
use Rattle.pw_tariff.specs.declared.ids.MeterId.{MeterId}
use Rattle.pw_model.specs.declared.records.Entry.{Entry}
use Rattle.pw_model.specs.contracts.records.EntryOrd.TheImpl as entry

-- by meter, register and second
abbrev pub point_order : MeterId × Register × ℕ → MeterId × Register × ℕ → Ordering
point_order a b = ordering_then (ordering_then (nat_cmp a.0.0 b.0.0) (register.ghosts.cmp a.1 b.1)) (nat_cmp a.2 b.2)

-- by meter and second
abbrev pub start_order : MeterId × ℕ → MeterId × ℕ → Ordering
start_order a b = ordering_then (nat_cmp a.0.0 b.0.0) (nat_cmp a.1 b.1)

abbrev pub record_order : Entry → Entry → Ordering
record_order = entry.ghosts.cmp
