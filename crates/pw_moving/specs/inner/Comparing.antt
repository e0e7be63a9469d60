-- The changes up to a place. They serve `src/comparing.rt` and `src/adopting.rt`.
use Rattle.std.specs.Prelude.{◌≡◌, ◌⊎◌, ℕ, ◌<◌, Option, List, ◌++◌}
use Rattle.pw_tariff.specs.declared.ids.BandId.{BandId}
use Rattle.pw_tariff.specs.declared.ids.Direction.{Direction}
use Rattle.pw_tariff.specs.declared.ids.PeriodId.{PeriodId}
use Rattle.pw_tariff.specs.Office.{register_place}
use Rattle.pw_model.specs.Counting.{Member}
use Rattle.pw_model.specs.Lists.{Lists}
use Rattle.pw_moving.specs.declared.change.Respelling.{Respelling}
use Rattle.pw_moving.specs.Adopting.{IsSaid, MayBeAdopted}
use Rattle.pw_moving.specs.declared.change.Listed.{Listed}
use Rattle.pw_moving.specs.declared.change.Change.{Change}
use Rattle.pw_moving.specs.declared.change.Change.TheVariants as change
use Rattle.pw_moving.specs.Renaming.{Offices}
use Rattle.pw_moving.specs.Changes.{Differs, band_of_hour, change_order, line_of, list_of}

-- the changes of a line of a list, in order
abbrev pub AreOfLine : Offices → ℕ → ℕ → List Change → Type 0
AreOfLine o list line = Lists change_order (λ c. Differs o c × (list_of c ≡ list) × (line_of c ≡ line))

-- those of the lines before one
abbrev pub AreOfLines : Offices → ℕ → ℕ → List Change → Type 0
AreOfLines o list lines = Lists change_order (λ c. Differs o c × (list_of c ≡ list) × (line_of c < lines))

-- those of a list, all
abbrev pub AreOfList : Offices → ℕ → List Change → Type 0
AreOfList o list = Lists change_order (λ c. Differs o c × (list_of c ≡ list))

-- some changes are put behind those that were there
abbrev pub Puts : (List Change → Type 0) → List Change → List Change → Type 0
Puts Are before behind = (put : List Change) × (behind ≡ before ++ put) × Are put

-- the name of a line: new, gone or another one, or that it moved
abbrev pub IsOfName : Change → Type 0
IsOfName (change.Added list place) = Unit {0}
IsOfName (change.Gone list place) = Unit {0}
IsOfName (change.Renamed list place) = Unit {0}
IsOfName (change.Moved list from to) = Unit {0}
IsOfName _ = ⊥

-- those of a line's name
abbrev pub AreOfName : Offices → ℕ → ℕ → List Change → Type 0
AreOfName o list line = Lists change_order (λ c. Differs o c × (list_of c ≡ list) × (line_of c ≡ line) × IsOfName c)

-- that a line of the old list is gone, or that another name stands at its place
abbrev pub IsOfPlace : Offices → Listed → ℕ → Change → Type 0
IsOfPlace o list n x = Differs o x × ((x ≡ change.Gone list n) ⊎ (x ≡ change.Renamed list n))

abbrev pub AreOfPlace : Offices → Listed → ℕ → List Change → Type 0
AreOfPlace o list n = Lists change_order (IsOfPlace o list n)

-- those of what a meter is beside its name
abbrev pub AreOfMeter : Offices → ℕ → List Change → Type 0
AreOfMeter o line = Lists change_order (λ c. Differs o c × (list_of c ≡ 1) × (line_of c ≡ line) × (IsOfName c → ⊥))

-- those of registers before a place in their order
abbrev pub IsOfRegister : ℕ → Change → Type 0
IsOfRegister places (change.Register m r) = register_place r < places
IsOfRegister places _ = ⊥

abbrev pub AreOfRegisters : Offices → ℕ → ℕ → List Change → Type 0
AreOfRegisters o line places = Lists change_order (λ c. Differs o c × (line_of c ≡ line) × IsOfRegister places c)

-- those of a period's prices, of the bands before one
abbrev pub IsOfBand : ℕ → Change → Type 0
IsOfBand bands (change.Price p b d) = b.0 < bands
IsOfBand bands _ = ⊥

abbrev pub AreOfBands : Offices → ℕ → ℕ → List Change → Type 0
AreOfBands o line bands = Lists change_order (λ c. Differs o c × (line_of c ≡ line) × IsOfBand bands c)

-- that of one price, if it is one
abbrev pub AreOfPrice : Offices → PeriodId → BandId → Direction → List Change → Type 0
AreOfPrice o p b d = Lists change_order (λ c. Differs o c × (c ≡ change.Price p b d))

-- no name of a place stands at one of the first places of the other list, but at its own
abbrev pub HasNotMoved : Offices → Listed → ℕ → ℕ → Type 0
HasNotMoved o list from places = (to : ℕ) → to < places → Differs o (change.Moved list from to) → ⊥

-- the weeks of a period have the same bands at the first hours of a day, and on the first days
abbrev pub AreSameHours : Offices → ℕ → ℕ → ℕ → Type 0
AreSameHours o p day hours = (hour : ℕ) → hour < hours → band_of_hour o.old p day hour ≡ band_of_hour o.new p day hour

abbrev pub AreSameDays : Offices → ℕ → ℕ → Type 0
AreSameDays o p days = (day : ℕ) → day < days → AreSameHours o p day 24

-- each of the first changes of a list may be adopted
abbrev pub AreAdopted : List Respelling → Option ℕ → Offices → List Change → Type 0
AreAdopted words last o changes = (c : Change) → Member c changes → MayBeAdopted words last o c

-- none of the first changes is what a word says
abbrev pub AreUnsaid : Respelling → Offices → List Change → Type 0
AreUnsaid word o changes = (c : Change) → Member c changes → IsSaid word o c → ⊥
