-- What each table's text makes, in the schema in which it is run.
use Rattle.std.proofs.Common.{◌≡◌, ◌<◌, ◌+◌, ℕ, zero, suc, refl, slice_index_or, arith}
use Rattle.sqlite_tied.specs.Compute.{everything}
use Rattle.sqlite.specs.Listing.{understood}
use Rattle.pw_schema.specs.declared.table.StoreTable.{StoreTable}
use Rattle.pw_schema.specs.declared.table.StoreTable.TheVariants.{Office, Readings, Assignments, TopUps, Points, Starts, Totals, TotalTopUps, WithdrawnReadings, WithdrawnAssignments, WithdrawnTopUps, PeriodTotals}
use Rattle.pw_schema.specs.Tables.{first_with, second_with, ours_with, only_one}
use Rattle.pw_schema.specs.inner.Stages.{all_tables, before, behind, place, stage, table_at, text_of, tree_of}
use Rattle.sqlite_catalog.specs.Change.{next_tree}
use Rattle.pw_schema.proofs.Creating.{Makes}

pub makes : (t : StoreTable) → Makes (before t) (text_of t) (table_at t 0)
unfolding understood everything
makes Office = record { command = refl; plain = (refl, refl); text = refl; defined = refl; uncounted = refl }
makes Readings = record { command = refl; plain = (refl, refl); text = refl; defined = refl; uncounted = refl }
makes Assignments = record { command = refl; plain = (refl, refl); text = refl; defined = refl; uncounted = refl }
makes TopUps = record { command = refl; plain = (refl, refl); text = refl; defined = refl; uncounted = refl }
makes Points = record { command = refl; plain = (refl, refl); text = refl; defined = refl; uncounted = refl }
makes Starts = record { command = refl; plain = (refl, refl); text = refl; defined = refl; uncounted = refl }
makes Totals = record { command = refl; plain = (refl, refl); text = refl; defined = refl; uncounted = refl }
makes TotalTopUps = record { command = refl; plain = (refl, refl); text = refl; defined = refl; uncounted = refl }
makes WithdrawnReadings = record { command = refl; plain = (refl, refl); text = refl; defined = refl; uncounted = refl }
makes WithdrawnAssignments = record { command = refl; plain = (refl, refl); text = refl; defined = refl; uncounted = refl }
makes WithdrawnTopUps = record { command = refl; plain = (refl, refl); text = refl; defined = refl; uncounted = refl }
makes PeriodTotals = record { command = refl; plain = (refl, refl); text = refl; defined = refl; uncounted = refl }

-- eight of them are the tables of version 1
pub first_made : stage 8 ≡ first_with only_one
unfolding understood everything
first_made = refl

-- eleven are those of version 2
pub second_made : stage 11 ≡ second_with only_one
unfolding understood everything
second_made = refl

-- all of them are the tables of a store
pub all_made : stage 12 ≡ ours_with only_one
unfolding understood everything
all_made = refl

-- each stands at its own tree
pub tree_is : (t : StoreTable) → next_tree (before t) ≡ tree_of t
tree_is Office = refl
tree_is Readings = refl
tree_is Assignments = refl
tree_is TopUps = refl
tree_is Points = refl
tree_is Starts = refl
tree_is Totals = refl
tree_is TotalTopUps = refl
tree_is WithdrawnReadings = refl
tree_is WithdrawnAssignments = refl
tree_is WithdrawnTopUps = refl
tree_is PeriodTotals = refl

-- behind each comes the next
pub next_stage : (t : StoreTable) → behind t ≡ stage (place t + 1)
next_stage Office = refl
next_stage Readings = refl
next_stage Assignments = refl
next_stage TopUps = refl
next_stage Points = refl
next_stage Starts = refl
next_stage Totals = refl
next_stage TotalTopUps = refl
next_stage WithdrawnReadings = refl
next_stage WithdrawnAssignments = refl
next_stage WithdrawnTopUps = refl
next_stage PeriodTotals = refl

-- the tables by their places
pub place_is : (n : ℕ) (d : StoreTable) → n < 12 → place (slice_index_or all_tables n d) ≡ n
place_is zero d low = refl
place_is (suc zero) d low = refl
place_is (suc (suc zero)) d low = refl
place_is (suc (suc (suc zero))) d low = refl
place_is (suc (suc (suc (suc zero)))) d low = refl
place_is (suc (suc (suc (suc (suc zero))))) d low = refl
place_is (suc (suc (suc (suc (suc (suc zero)))))) d low = refl
place_is (suc (suc (suc (suc (suc (suc (suc zero))))))) d low = refl
place_is (suc (suc (suc (suc (suc (suc (suc (suc zero)))))))) d low = refl
place_is (suc (suc (suc (suc (suc (suc (suc (suc (suc zero))))))))) d low = refl
place_is (suc (suc (suc (suc (suc (suc (suc (suc (suc (suc zero)))))))))) d low = refl
place_is (suc (suc (suc (suc (suc (suc (suc (suc (suc (suc (suc zero))))))))))) d low = refl
place_is (suc (suc (suc (suc (suc (suc (suc (suc (suc (suc (suc (suc n)))))))))))) d low = absurd (omega (arith, low))
