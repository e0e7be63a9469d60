-- Where the records of a register, of a meter and of all top-ups stand in the order. It serves `src/places.rt`.
-- (Definitions of this project.)
use Rattle.std.specs.Prelude.{Bool}
use Rattle.std.specs.Ordering.{is_eq, is_lt}
use Rattle.std.specs.declared.cmp.Ordering.{Ordering}
use Rattle.pw_model.specs.declared.records.Key.{Key}
use Rattle.pw_model.specs.declared.records.Key.TheVariants as key
use Rattle.pw_parts.specs.contracts.place.PlaceOrd.TheImpl as derived_place
use Rattle.pw_parts.specs.declared.place.Place.{Place}
use Rattle.pw_parts.specs.declared.place.Place.TheVariants.{Readings, Assignments, TopUps, Withdrawals}

-- where a key stands
abbrev pub place_of : Key → Place
place_of (key.Reading m r t) = Readings m r
place_of (key.Assignment m t) = Assignments m
place_of (key.TopUp r) = TopUps
place_of (key.Withdrawal n) = Withdrawals

-- the readings by meter and register, then the assignments by meter, then the top-ups, then the withdrawals: the order of the program's places
abbrev pub place_order : Place → Place → Ordering
place_order = derived_place.ghosts.cmp

-- whether a key stands before a place
abbrev pub is_before : Place → Key → Bool
is_before place k = is_lt (place_order (place_of k) place)

-- whether it stands there
abbrev pub is_at : Place → Key → Bool
is_at place k = is_eq (place_order (place_of k) place)
