-- What a new office file says otherwise than the old one. Texts that no rule reads (comments, spaces, the order of the
-- registers of a meter, keys that are ignored) are no change.
-- (Definitions of this project.)
use Rattle.std.specs.Prelude.{◌≡◌, ℕ, ◌<◌, ◌≤◌, Option, Some, List, [], ◌∷◌, length, slice_get, option_map}
use Rattle.std.specs.Cmp.Lexicographic.{slice_cmp}
use Rattle.std.specs.Ordering.{nat_cmp}
use Rattle.std.specs.declared.cmp.Ordering.{Ordering}
use Rattle.pw_tariff.specs.Office.{OfficeFile, band_named, letter, periods_in, period_starts, week_of_period, price_at, counts_at, register_place}
use Rattle.pw_model.specs.Lists.{Lists}
use Rattle.pw_model.specs.Same.{direction_place}
use Rattle.pw_moving.specs.declared.change.Listed.{Listed}
use Rattle.pw_moving.specs.declared.change.Listed.TheVariants.{Accounts, Meters, Bands}
use Rattle.pw_moving.specs.declared.change.Change.{Change}
use Rattle.pw_moving.specs.declared.change.Change.TheVariants as change
use Rattle.pw_moving.specs.Names.{names_in, HasName}
use Rattle.pw_moving.specs.Renaming.{Offices}

-- both are there, and they aren't the same
abbrev pub AreUnlike : {X : Type 0} → Option X → Option X → Type 0
AreUnlike (Some a) (Some b) = a ≡ b → ⊥
AreUnlike _ _ = ⊥

-- a place of the one, which the other hasn't
abbrev pub IsPast : ℕ → ℕ → ℕ → Type 0
IsPast place few many = (few ≤ place) × (place < many)

-- a place of both
abbrev pub IsOfBoth : ℕ → ℕ → ℕ → Type 0
IsOfBoth place m n = (place < m) × (place < n)

-- the place of the band at a weekday and an hour, in the week of a period
abbrev pub band_of_hour : OfficeFile → ℕ → ℕ → ℕ → ℕ
band_of_hour file p day hour = band_named file.bands (letter (week_of_period file p) day hour)

-- the weeks of a period have the same bands, by their places, whatever their letters are
abbrev pub HaveSameWeek : Offices → ℕ → Type 0
HaveSameWeek o p = (day hour : ℕ) → day < 7 → hour < 24 → band_of_hour o.old p day hour ≡ band_of_hour o.new p day hour

-- when there is a change
abbrev pub Differs : Offices → Change → Type 0
-- the new list is longer, and this is a place behind the old one
Differs o (change.Added list place) = IsPast place (length (names_in list o.old)) (length (names_in list o.new))
-- the old list is longer, and this is a place behind the new one
Differs o (change.Gone list place) = IsPast place (length (names_in list o.new)) (length (names_in list o.old))
-- at a place of both stands another name
Differs o (change.Renamed list place) = AreUnlike (slice_get (names_in list o.old) place) (slice_get (names_in list o.new) place)
-- a name of the old list stands at another place of the new one
Differs o (change.Moved list from to) = ((name : List ℕ) × HasName list o.old from name × HasName list o.new to name) × (from ≡ to → ⊥)
-- the clock of a meter tells another time
Differs o (change.Clock m) = AreUnlike (option_map (λ t. t.clock) (slice_get o.old.meters m.0)) (option_map (λ t. t.clock) (slice_get o.new.meters m.0))
-- a register of a meter counts in the one, and not in the other
Differs o (change.Register m r) = IsOfBoth m.0 (length o.old.meters) (length o.new.meters) × (counts_at o.old m.0 r ≡ counts_at o.new m.0 r → ⊥)
-- a period begins otherwise, is new or gone, or has another week, or another price of a band
Differs o (change.Start p) = AreUnlike (slice_get (period_starts o.old) p.0) (slice_get (period_starts o.new) p.0)
Differs o (change.NewPeriod p) = IsPast p.0 (periods_in o.old) (periods_in o.new)
Differs o (change.PeriodGone p) = IsPast p.0 (periods_in o.new) (periods_in o.old)
Differs o (change.Week p) = IsOfBoth p.0 (periods_in o.old) (periods_in o.new) × (HaveSameWeek o p.0 → ⊥)
Differs o (change.Price p b d) =
    (IsOfBoth p.0 (periods_in o.old) (periods_in o.new) × IsOfBoth b.0 (length o.old.bands) (length o.new.bands))
    × (price_at o.old p.0 b.0 d ≡ price_at o.new p.0 b.0 d → ⊥)

-- ---- in the order of the lists, and of the lines of each
abbrev pub list_place : Listed → ℕ
list_place Accounts = 0
list_place Meters = 1
list_place Bands = 2

-- the list that a change is of, periods behind the lists; and its line
abbrev pub list_of : Change → ℕ
list_of (change.Added list place) = list_place list
list_of (change.Gone list place) = list_place list
list_of (change.Renamed list place) = list_place list
list_of (change.Moved list from to) = list_place list
list_of (change.Clock m) = 1
list_of (change.Register m r) = 1
list_of (change.Start p) = 3
list_of (change.NewPeriod p) = 3
list_of (change.PeriodGone p) = 3
list_of (change.Week p) = 3
list_of (change.Price p b d) = 3

abbrev pub line_of : Change → ℕ
line_of (change.Added list place) = place
line_of (change.Gone list place) = place
line_of (change.Renamed list place) = place
line_of (change.Moved list from to) = from
line_of (change.Clock m) = m.0
line_of (change.Register m r) = m.0
line_of (change.Start p) = p.0
line_of (change.NewPeriod p) = p.0
line_of (change.PeriodGone p) = p.0
line_of (change.Week p) = p.0
line_of (change.Price p b d) = p.0

-- what is told of one line, in the order in which it is written above
abbrev pub kind_numbers : Change → List ℕ
kind_numbers (change.Added list place) = 0 ∷ []
kind_numbers (change.Gone list place) = 1 ∷ []
kind_numbers (change.Renamed list place) = 2 ∷ []
kind_numbers (change.Moved list from to) = 3 ∷ to ∷ []
kind_numbers (change.Clock m) = 4 ∷ []
kind_numbers (change.Register m r) = 5 ∷ register_place r ∷ []
kind_numbers (change.Start p) = 0 ∷ []
kind_numbers (change.NewPeriod p) = 1 ∷ []
kind_numbers (change.PeriodGone p) = 2 ∷ []
kind_numbers (change.Week p) = 3 ∷ []
kind_numbers (change.Price p b d) = 4 ∷ b.0 ∷ direction_place d ∷ []

unfoldable pub change_numbers : Change → List ℕ
change_numbers c = list_of c ∷ line_of c ∷ kind_numbers c

abbrev pub change_order : Change → Change → Ordering
change_order c e = slice_cmp nat_cmp (change_numbers c) (change_numbers e)

-- all changes, each once
abbrev pub AreChanges : Offices → List Change → Type 0
AreChanges o = Lists change_order (Differs o)
