-- Lists that the reader of an office file holds on its way. It serves `src/table.rt`, `src/bands.rt`, `src/meters.rt`, `src/periods.rt`.
use Rattle.std.specs.Prelude.{ℕ, List, [], ◌∷◌, map, string_bytes, unwrap_or}
use Rattle.toml.specs.Data.{Members, no_members, as_table}
use Rattle.toml.specs.View.{view}
use Rattle.toml.specs.declared.value.Value.{Value}
use Rattle.pw_tariff.specs.declared.office.Band.{Band}
use Rattle.pw_tariff.specs.declared.office.Meter.{Meter}

abbrev pub letters_of : List Band → List (List ℕ)
letters_of bands = map (λ b. b.name ∷ []) bands

abbrev pub ids_of : List Meter → List (List ℕ)
ids_of meters = map (λ m. string_bytes m.id) meters

-- the members of a value that is a table
abbrev pub table_in : Value → Members
table_in v = unwrap_or (as_table (view v)) no_members
