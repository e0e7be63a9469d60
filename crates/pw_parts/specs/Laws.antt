-- The laws of these definitions. Each is the contract of a function of the module `laws`.
use Rattle.std.specs.Prelude.{◌≡◌, ℕ, ◌<◌, Option, Some, List, ◌↔◌}
use Rattle.pw_obis.specs.declared.reference.Register.{Register}
use Rattle.pw_tariff.specs.declared.ids.AccountId.{AccountId}
use Rattle.pw_tariff.specs.Office.{OfficeRules}
use Rattle.pw_model.specs.declared.records.Content.TheVariants as content
use Rattle.pw_model.specs.declared.records.Entry.{Entry}
use Rattle.pw_model.specs.declared.records.TotalKey.{TotalKey}
use Rattle.pw_model.specs.Counting.{Member, SameMembers, assignment_key}
use Rattle.pw_model.specs.Lists.{reading_entry}
use Rattle.pw_model.specs.Shelf.{ShelfContent, IsTrueContent}
use Rattle.pw_parts.specs.declared.parts.Parts.{Parts}
use Rattle.pw_parts.specs.Parts.{IsPartsOf}

-- the same lists
pub record AreSameParts (a b : Parts) : Type 0 where
  pub points : a.points.items ≡ b.points.items
  pub starts : a.starts.items ≡ b.starts.items
  pub totals : a.totals.items ≡ b.totals.items

-- a set has no two, whatever the order in which its records are listed
abbrev pub PartsAreAtMostOne : Type 0
PartsAreAtMostOne = (office : OfficeRules) (s t : List Entry) (a b : Parts) → SameMembers s t → IsPartsOf office s a → IsPartsOf office t b → AreSameParts a b

abbrev pub assignment_entry : ℕ → ℕ → Option AccountId → Entry
assignment_entry m t o = record { key = assignment_key m t; content = content.Assignment o }

-- a content keeps just the points, starts and totals above 0 that the lists have
pub record IsToldBy (c : ShelfContent) (parts : Parts) : Type 0 where
  pub points : (m : ℕ) (r : Register) (t w : ℕ) → c.point m r t ≡ Some w ↔ Member (reading_entry m r t w) parts.points.items
  pub starts : (m t : ℕ) (o : Option AccountId) → c.start m t ≡ Some o ↔ Member (assignment_entry m t o) parts.starts.items
  pub totals : (k : TotalKey) (n : ℕ) → 0 < n → c.total k ≡ n ↔ Member (k, n) parts.totals.items

-- a content is true exactly where it is told by the parts of its records
abbrev pub TrueExactlyWhereTold : Type 0
TrueExactlyWhereTold = (office : OfficeRules) (c : ShelfContent) (parts : Parts) → IsPartsOf office c.records parts → IsTrueContent office c ↔ IsToldBy c parts
