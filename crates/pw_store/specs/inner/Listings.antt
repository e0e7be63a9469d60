-- The listings of whole tables as values: the text of each, the tree that it reads, and what it shows of a row. It serves
-- `src/listings.rt` and `src/sums.rt`.
-- (A format of this project.)
use Rattle.std.specs.Prelude.{ℕ, List, codes, map}
use Rattle.std.specs.List.Sorted.{IsPermutation}
use Rattle.sqlite.specs.Order.{Row}
use Rattle.sqlite.specs.Tree.{Trees}
use Rattle.pw_schema.specs.declared.kind.RecordKind.{RecordKind}
use Rattle.pw_schema.specs.declared.kind.RecordKind.TheVariants.{Readings, Assignments, TopUps, WithdrawnReadings, WithdrawnAssignments, WithdrawnTopUps}
use Rattle.pw_schema.specs.declared.kind.TotalKind.{TotalKind}
use Rattle.pw_schema.specs.declared.kind.TotalKind.TheVariants.{Energies, Payments}
use Rattle.pw_store.specs.declared.listings.KeptKind.{KeptKind}
use Rattle.pw_store.specs.declared.listings.KeptKind.TheVariants.{Points, Starts}
use Rattle.pw_store.specs.declared.listings.Listing.{Listing}
use Rattle.pw_store.specs.declared.listings.Listing.TheVariants.{Records, Kept, Totals, KeptRowids, EnergyRowids, OldTotals}
use Rattle.pw_store.specs.Content.{energy_tree, payment_tree, point_tree, start_tree, total_tree, tree_of}
use Rattle.pw_store.specs.inner.Lists.{shown}
use Rattle.pw_store.specs.inner.Sums.{shown_id, shown_total}

-- a point is kept as a reading is, a start as an assignment
abbrev pub kept_as : KeptKind → RecordKind
kept_as Points = Readings
kept_as Starts = Assignments

-- where they are
abbrev pub kept_tree : KeptKind → ℕ
kept_tree Points = point_tree
kept_tree Starts = start_tree

abbrev pub totals_tree : TotalKind → ℕ
totals_tree Energies = energy_tree
totals_tree Payments = payment_tree

-- ---- of a listing
-- the text that asks for it
abbrev pub text_of : Listing → List ℕ
text_of (Records Readings) = codes "SELECT meter, register, instant, wh FROM record_reading ORDER BY meter, register, instant, wh"
text_of (Records Assignments) = codes "SELECT meter, start, owner FROM record_assignment ORDER BY meter, start, owner"
text_of (Records TopUps) = codes "SELECT reference, account, cents, instant FROM record_topup ORDER BY reference, account, cents, instant"
text_of (Records WithdrawnReadings) = codes "SELECT meter, register, instant, wh FROM withdrawn_reading ORDER BY meter, register, instant, wh"
text_of (Records WithdrawnAssignments) = codes "SELECT meter, start, owner FROM withdrawn_assignment ORDER BY meter, start, owner"
text_of (Records WithdrawnTopUps) = codes "SELECT reference, account, cents, instant FROM withdrawn_topup ORDER BY reference, account, cents, instant"
text_of (Kept Points) = codes "SELECT meter, register, instant, wh FROM point ORDER BY meter, register, instant"
text_of (Kept Starts) = codes "SELECT meter, start, owner FROM start ORDER BY meter, start"
text_of (Totals Energies) = codes "SELECT owner, period, band, direction, wh FROM period_total ORDER BY owner, period, band, direction"
text_of (Totals Payments) = codes "SELECT account, cents FROM total_topup ORDER BY account"
text_of (KeptRowids Points) = codes "SELECT rowid FROM point ORDER BY rowid"
text_of (KeptRowids Starts) = codes "SELECT rowid FROM start ORDER BY rowid"
text_of EnergyRowids = codes "SELECT rowid FROM period_total ORDER BY rowid"
text_of OldTotals = codes "SELECT rowid FROM total ORDER BY rowid"

-- the tree that it reads
abbrev pub listed_tree : Listing → ℕ
listed_tree (Records k) = tree_of k
listed_tree (Kept k) = kept_tree k
listed_tree (Totals k) = totals_tree k
listed_tree (KeptRowids k) = kept_tree k
listed_tree EnergyRowids = energy_tree
listed_tree OldTotals = total_tree

-- what it shows of a row
abbrev pub shown_by : Listing → Row → Row
shown_by (Records k) = shown k
shown_by (Kept k) = shown (kept_as k)
shown_by (Totals k) = shown_total k
shown_by (KeptRowids k) = shown_id
shown_by EnergyRowids = shown_id
shown_by OldTotals = shown_id

-- the rows shown are those of its table, in some order
abbrev pub ShowsAll : Listing → Trees → List Row → Type 0
ShowsAll l db rows = IsPermutation (map (shown_by l) (db (listed_tree l))) rows
