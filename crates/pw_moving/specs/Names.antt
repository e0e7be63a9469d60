-- The lists of an office file whose lines have names, and where a name stands in another file.
-- (Definitions of this project.)
use Rattle.std.specs.Prelude.{◌≡◌, ℕ, Some, List, [], ◌∷◌, map, slice_get, slice_index_or}
use Rattle.std.specs.List.{position_or_len}
use Rattle.pw_tariff.specs.Office.{OfficeFile, ids}
use Rattle.pw_tariff.specs.Words.{same_text}
use Rattle.pw_moving.specs.declared.change.Listed.{Listed}
use Rattle.pw_moving.specs.declared.change.Listed.TheVariants.{Accounts, Meters, Bands}

-- the names of a list, in the file's order; a band's is its letter
abbrev pub names_in : Listed → OfficeFile → List (List ℕ)
names_in Accounts file = file.accounts
names_in Meters file = ids file.meters
names_in Bands file = map (λ b. b.name ∷ []) file.bands

-- the line at a place of a list has this name
abbrev pub HasName : Listed → OfficeFile → ℕ → List ℕ → Type 0
HasName list file place name = slice_get (names_in list file) place ≡ Some name

-- the place of a name in a list; where it stands nowhere, the length of the list
unfoldable pub place_of : List (List ℕ) → List ℕ → ℕ
place_of names name = position_or_len (λ n. same_text n name) names

-- where the name at a place of one list stands in another
abbrev pub place_in : List (List ℕ) → List (List ℕ) → ℕ → ℕ
place_in old new place = place_of new (slice_index_or old place [])
