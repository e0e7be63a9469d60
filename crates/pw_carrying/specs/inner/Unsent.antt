-- Records that weren't sent, one list behind another. It serves `src/held.rt`.
-- (Definitions of this project.)
use Rattle.std.specs.Prelude.{ℕ, ◌<◌, List}
use Rattle.pw_tariff.specs.Office.{OfficeRules}
use Rattle.pw_model.specs.declared.records.Entry.{Entry}
use Rattle.pw_model.specs.Counting.{Member}
use Rattle.pw_model.specs.Lists.{Lists}
use Rattle.pw_model.specs.Office.{AllOfOffice}
use Rattle.pw_model.specs.Same.{entry_order}
use Rattle.pw_book.specs.inner.Places.{key_place}

-- those of the lists before a place
abbrev pub UnsentBefore : OfficeRules → List Entry → List Entry → ℕ → List Entry → Type 0
UnsentBefore office records sent n found = Lists entry_order (λ e. (Member e records × (Member e sent → ⊥)) × (key_place office.meters e.key < n)) found

-- from those before one place to those before another
abbrev pub AddsUnsent : OfficeRules → List Entry → List Entry → ℕ → ℕ → List Entry → List Entry → Type 0
AddsUnsent office records sent from to old new = AllOfOffice office records → UnsentBefore office records sent from old → UnsentBefore office records sent to new
