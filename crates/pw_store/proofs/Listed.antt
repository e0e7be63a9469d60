-- What a listing of a whole table shows.
use Rattle.std.proofs.Common.{◌≡◌, ℕ, List, [], ◌∷◌, codes, map, refl, sym, subst₂}
use Rattle.std.specs.List.Sorted.{IsPermutation}
use Rattle.sqlite.specs.Order.{Row}
use Rattle.sqlite.specs.Query.{Query, output}
use Rattle.sqlite.specs.State.{State, Shown}
use Rattle.sqlite.specs.Term.{col}
use Rattle.sqlite.specs.Listing.{understood}
use Rattle.sqlite_tied.specs.Compute.{everything}
use Rattle.pw_schema.specs.Tables.{IsOurs}
use Rattle.pw_schema.specs.declared.kind.RecordKind.TheVariants.{Readings, Assignments, TopUps, WithdrawnReadings, WithdrawnAssignments, WithdrawnTopUps}
use Rattle.pw_schema.specs.declared.kind.TotalKind.TheVariants.{Energies, Payments}
use Rattle.pw_store.specs.declared.listings.KeptKind.TheVariants.{Points, Starts}
use Rattle.pw_store.specs.declared.listings.Listing.{Listing}
use Rattle.pw_store.specs.declared.listings.Listing.TheVariants.{Records, Kept, Totals, KeptRowids, EnergyRowids, OldTotals}
use Rattle.pw_store.specs.inner.Listings.{ShowsAll, listed_tree, shown_by, text_of}
use Rattle.pw_store.proofs.Texts.{IsQuery, plain_query, up}
use Rattle.pw_store.proofs.Scans.{outputs}
use Rattle.pw_store.proofs.Lists.{second, seen}

-- ---- the query that it is
-- the places of the columns that it shows: 0 is the rowid
abbrev columns : Listing → List ℕ
columns (Records Readings) = 1 ∷ 2 ∷ 3 ∷ 4 ∷ []
columns (Records Assignments) = 1 ∷ 2 ∷ 3 ∷ []
columns (Records TopUps) = 1 ∷ 2 ∷ 3 ∷ 4 ∷ []
columns (Records WithdrawnReadings) = 1 ∷ 2 ∷ 3 ∷ 4 ∷ []
columns (Records WithdrawnAssignments) = 1 ∷ 2 ∷ 3 ∷ []
columns (Records WithdrawnTopUps) = 1 ∷ 2 ∷ 3 ∷ 4 ∷ []
columns (Kept Points) = 1 ∷ 2 ∷ 3 ∷ 4 ∷ []
columns (Kept Starts) = 1 ∷ 2 ∷ 3 ∷ []
columns (Totals Energies) = 1 ∷ 2 ∷ 3 ∷ 4 ∷ 5 ∷ []
columns (Totals Payments) = 0 ∷ 2 ∷ []
columns (KeptRowids k) = 0 ∷ []
columns EnergyRowids = 0 ∷ []
columns OldTotals = 0 ∷ []

-- of those by which its rows are sorted
abbrev keys : Listing → List ℕ
keys (Records k) = columns (Records k)
keys (Kept Points) = 1 ∷ 2 ∷ 3 ∷ []
keys (Kept Starts) = 1 ∷ 2 ∷ []
keys (Totals Energies) = 1 ∷ 2 ∷ 3 ∷ 4 ∷ []
keys (Totals Payments) = 0 ∷ []
keys (KeptRowids k) = 0 ∷ []
keys EnergyRowids = 0 ∷ []
keys OldTotals = 0 ∷ []

abbrev query_of : Listing → Query
query_of l = record (plain_query (listed_tree l) [] (map (col 1) (columns l))) { order = map (λ at. (col 1 at, up)) (keys l) }

pub is_query : (l : Listing) → IsQuery (text_of l) (query_of l)
unfolding understood everything
is_query (Records Readings) = record { names = codes "meter" ∷ codes "register" ∷ codes "instant" ∷ codes "wh" ∷ []; is = λ checks. refl; unlisted = λ checks. refl; plain = λ checks. (refl, refl) }
is_query (Records Assignments) = record { names = codes "meter" ∷ codes "start" ∷ codes "owner" ∷ []; is = λ checks. refl; unlisted = λ checks. refl; plain = λ checks. (refl, refl) }
is_query (Records TopUps) = record { names = codes "reference" ∷ codes "account" ∷ codes "cents" ∷ codes "instant" ∷ []; is = λ checks. refl; unlisted = λ checks. refl; plain = λ checks. (refl, refl) }
is_query (Records WithdrawnReadings) = record { names = codes "meter" ∷ codes "register" ∷ codes "instant" ∷ codes "wh" ∷ []; is = λ checks. refl; unlisted = λ checks. refl; plain = λ checks. (refl, refl) }
is_query (Records WithdrawnAssignments) = record { names = codes "meter" ∷ codes "start" ∷ codes "owner" ∷ []; is = λ checks. refl; unlisted = λ checks. refl; plain = λ checks. (refl, refl) }
is_query (Records WithdrawnTopUps) = record { names = codes "reference" ∷ codes "account" ∷ codes "cents" ∷ codes "instant" ∷ []; is = λ checks. refl; unlisted = λ checks. refl; plain = λ checks. (refl, refl) }
is_query (Kept Points) = record { names = codes "meter" ∷ codes "register" ∷ codes "instant" ∷ codes "wh" ∷ []; is = λ checks. refl; unlisted = λ checks. refl; plain = λ checks. (refl, refl) }
is_query (Kept Starts) = record { names = codes "meter" ∷ codes "start" ∷ codes "owner" ∷ []; is = λ checks. refl; unlisted = λ checks. refl; plain = λ checks. (refl, refl) }
is_query (Totals Energies) = record { names = codes "owner" ∷ codes "period" ∷ codes "band" ∷ codes "direction" ∷ codes "wh" ∷ []; is = λ checks. refl; unlisted = λ checks. refl; plain = λ checks. (refl, refl) }
is_query (Totals Payments) = record { names = codes "account" ∷ codes "cents" ∷ []; is = λ checks. refl; unlisted = λ checks. refl; plain = λ checks. (refl, refl) }
is_query (KeptRowids Points) = record { names = codes "rowid" ∷ []; is = λ checks. refl; unlisted = λ checks. refl; plain = λ checks. (refl, refl) }
is_query (KeptRowids Starts) = record { names = codes "rowid" ∷ []; is = λ checks. refl; unlisted = λ checks. refl; plain = λ checks. (refl, refl) }
is_query EnergyRowids = record { names = codes "rowid" ∷ []; is = λ checks. refl; unlisted = λ checks. refl; plain = λ checks. (refl, refl) }
is_query OldTotals = record { names = codes "rowid" ∷ []; is = λ checks. refl; unlisted = λ checks. refl; plain = λ checks. (refl, refl) }

-- ---- what it shows
row_shown : (l : Listing) (r : Row) → (output (query_of l) ([] ∷ r ∷ [])).1 ≡ shown_by l r
row_shown (Records Readings) r = refl
row_shown (Records Assignments) r = refl
row_shown (Records TopUps) r = refl
row_shown (Records WithdrawnReadings) r = refl
row_shown (Records WithdrawnAssignments) r = refl
row_shown (Records WithdrawnTopUps) r = refl
row_shown (Kept Points) r = refl
row_shown (Kept Starts) r = refl
row_shown (Totals Energies) r = refl
row_shown (Totals Payments) r = refl
row_shown (KeptRowids k) r = refl
row_shown EnergyRowids r = refl
row_shown OldTotals r = refl

rows_shown : (l : Listing) (rows : List Row) → map second (outputs (query_of l) [] rows) ≡ map (shown_by l) rows
rows_shown l [] = refl
rows_shown l (r ∷ rows) = λ i. row_shown l r i ∷ rows_shown l rows i

pub shows_all : (l : Listing) (old new : State) (rows : List Row) → IsOurs old.now.schema → Shown (text_of l) [] old new rows → ShowsAll l old.now.trees rows
shows_all l old new rows ours h =
    let s = seen (text_of l) (listed_tree l) (query_of l) (is_query l) [] old new rows ours h in
    subst₂ IsPermutation (rows_shown l _) (sym s.2) s.1
