-- Keys, contents and keys of totals as numbers: the tests by which two are the same, and the order in which they are listed.
-- (Definitions of this project. The registers are those of IEC 62056-6-1, in the order I0, I1, I2, E0, E1, E2.)
use Rattle.std.specs.Prelude.{ℕ, Bool, true, false, ◌==◌, ◌&&◌, Some, None, List, [], ◌∷◌, ◌++◌}
use Rattle.std.specs.Cmp.Lexicographic.{pointwise, slice_cmp}
use Rattle.std.specs.Ordering.{nat_cmp, ordering_then}
use Rattle.std.specs.declared.cmp.Ordering.{Ordering}
use Rattle.pw_obis.specs.declared.reference.Register.{Register}
use Rattle.pw_obis.specs.declared.reference.Register.TheVariants.{I0, I1, I2, E0, E1, E2}
use Rattle.pw_tariff.specs.declared.ids.Direction.{Direction}
use Rattle.pw_tariff.specs.declared.ids.Direction.TheVariants.{Import, Export}
use Rattle.pw_model.specs.declared.records.Key.{Key}
use Rattle.pw_model.specs.declared.records.Key.TheVariants as key
use Rattle.pw_model.specs.declared.records.Named.{Named}
use Rattle.pw_model.specs.declared.records.Named.TheVariants as named
use Rattle.pw_model.specs.declared.records.Content.{Content}
use Rattle.pw_model.specs.declared.records.Content.TheVariants as content
use Rattle.pw_model.specs.declared.records.Entry.{Entry}
use Rattle.pw_model.specs.declared.records.TotalKey.{TotalKey}
use Rattle.pw_model.specs.declared.records.TotalKey.TheVariants.{Energy, TopUps}
use Rattle.pw_model.specs.contracts.records.TotalKeyOrd.TheImpl as derived_total
use Rattle.pw_tariff.specs.Office.{register_place}
use Rattle.pw_tariff.specs.Cells.{owner_place}

abbrev pub direction_of : Register → Direction
direction_of I0 = Import
direction_of I1 = Import
direction_of I2 = Import
direction_of E0 = Export
direction_of E1 = Export
direction_of E2 = Export

abbrev pub same_direction : Direction → Direction → Bool
same_direction Import Import = true
same_direction Export Export = true
same_direction Import Export = false
same_direction Export Import = false

-- a named record: readings first, then assignments, then top-ups; each by its fields in their order, nobody before every
-- account, and a 0 behind the text of a reference, as texts are of many lengths
unfoldable pub named_numbers : Named → List ℕ
named_numbers (named.Reading m r t w) = 0 ∷ m.0 ∷ register_place r ∷ t ∷ w ∷ []
named_numbers (named.Assignment m t o) = 1 ∷ m.0 ∷ t ∷ owner_place o ∷ []
named_numbers (named.TopUp r a c t) = 2 ∷ (r ++ 0 ∷ a.0 ∷ c ∷ t ∷ [])

-- readings first, then assignments, then top-ups, then withdrawals; each by its fields in their order
unfoldable pub key_numbers : Key → List ℕ
key_numbers (key.Reading m r t) = 0 ∷ m.0 ∷ register_place r ∷ t ∷ []
key_numbers (key.Assignment m t) = 1 ∷ m.0 ∷ t ∷ []
key_numbers (key.TopUp r) = 2 ∷ r
key_numbers (key.Withdrawal n) = 3 ∷ named_numbers n

-- nobody stands before every account
unfoldable pub content_numbers : Content → List ℕ
content_numbers (content.Reading w) = 0 ∷ w ∷ []
content_numbers (content.Assignment None) = 1 ∷ []
content_numbers (content.Assignment (Some a)) = 1 ∷ a.0 ∷ []
content_numbers (content.TopUp a c t) = 2 ∷ a.0 ∷ c ∷ t ∷ []
content_numbers content.Withdrawal = 3 ∷ []

abbrev pub same_key : Key → Key → Bool
same_key k l = pointwise ◌==◌ (key_numbers k) (key_numbers l)

abbrev pub same_content : Content → Content → Bool
same_content c d = pointwise ◌==◌ (content_numbers c) (content_numbers d)

abbrev pub same_entry : Entry → Entry → Bool
same_entry e f = same_key e.key f.key && same_content e.content f.content

abbrev pub key_order : Key → Key → Ordering
key_order k l = slice_cmp nat_cmp (key_numbers k) (key_numbers l)

-- of entries: by the key, then by the content
abbrev pub entry_order : Entry → Entry → Ordering
entry_order e f = ordering_then (key_order e.key f.key) (slice_cmp nat_cmp (content_numbers e.content) (content_numbers f.content))

abbrev pub direction_place : Direction → ℕ
direction_place Import = 0
direction_place Export = 1

-- energies first, by owner (nobody first), period, band and direction; then top-ups, by account
unfoldable pub total_numbers : TotalKey → List ℕ
total_numbers (Energy o p b d) = 0 ∷ owner_place o ∷ p.0 ∷ b.0 ∷ direction_place d ∷ []
total_numbers (TopUps a) = 1 ∷ a.0 ∷ []

abbrev pub same_total : TotalKey → TotalKey → Bool
same_total k l = pointwise ◌==◌ (total_numbers k) (total_numbers l)

abbrev pub total_order : TotalKey → TotalKey → Ordering
total_order k l = slice_cmp nat_cmp (total_numbers k) (total_numbers l)

-- the order of the program's maps: the same
abbrev pub total_key_order : TotalKey → TotalKey → Ordering
total_key_order = derived_total.ghosts.cmp
