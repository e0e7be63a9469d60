-- A listing of a table shows nothing exactly where the table has no rows.
use Rattle.std.proofs.Common.{◌≡◌, List, [], ◌∷◌, map, length, refl, ◌∙◌, arith}
use Rattle.std.specs.List.Sorted.{IsPermutation}
use Rattle.std.proofs.lemmas.List.Sorted.{length_permutation}
use Rattle.std.proofs.lemmas.List.{length-map}
use Rattle.sqlite.specs.Order.{Row}

many : (show : Row → Row) (table rows : List Row) → IsPermutation (map show table) rows → length rows ≡ length table
many show table rows shows = length_permutation (map show table) rows shows ∙ length-map table show

pub none_listed : (show : Row → Row) (table rows : List Row) → IsPermutation (map show table) rows → rows ≡ [] → table ≡ []
none_listed show [] rows shows none = refl
none_listed show (r ∷ table) [] shows none = absurd (let n = many show (r ∷ table) [] shows in omega (arith, n))
none_listed show (r ∷ table) (s ∷ rows) shows none = absurd (let bad : s ∷ rows ≡ [] = none in cc)

pub none_shown : (show : Row → Row) (table rows : List Row) → IsPermutation (map show table) rows → table ≡ [] → rows ≡ []
none_shown show table [] shows none = refl
none_shown show [] (s ∷ rows) shows none = absurd (let n = many show [] (s ∷ rows) shows in omega (arith, n))
none_shown show (r ∷ table) (s ∷ rows) shows none = absurd (let bad : r ∷ table ≡ [] = none in cc)
