-- What a statement within an upload makes of a store. It serves `src/points.rt`, `src/starts.rt`, `src/total_statements.rt`,
-- `src/fault.rt`, `src/changes.rt`, `src/upload.rt`, `src/records.rt` and `src/entries.rt`.
-- (Definitions of this project.)
use Rattle.std.specs.Prelude.{◌≡◌, ◌<◌, ◌^◌, ℕ, zero, suc, pos, Bool, Option, Some, None, List, [], ◌∷◌, true, false}
use Rattle.sqlite.specs.declared.types.Value.TheVariants.{Null, Int}
use Rattle.sqlite.specs.Order.{Row}
use Rattle.sqlite.specs.Tree.{Trees}
use Rattle.sqlite.specs.Edit.{Applies, edit_of}
use Rattle.sqlite.specs.Rowids.TheVariants.{Chosen}
use Rattle.sqlite.specs.State.{State, Shows, mode_of}
use Rattle.sqlite.specs.declared.error.Error.{Error}
use Rattle.sqlite.specs.declared.error.Error.TheVariants.{SqliteFailure}
use Rattle.sqlite.specs.declared.error.ErrorCode.TheVariants.{ConstraintViolation}
use Rattle.sqlite_schema.specs.declared.schema.Constraint.TheVariants.{Unique}
use Rattle.pw_tariff.specs.declared.ids.AccountId.{AccountId}
use Rattle.pw_tariff.specs.declared.ids.BandId.{BandId}
use Rattle.pw_tariff.specs.declared.ids.Direction.{Direction}
use Rattle.pw_tariff.specs.declared.ids.PeriodId.{PeriodId}
use Rattle.pw_tariff.specs.Cells.{owner_place}
use Rattle.pw_model.specs.declared.records.Entry.{Entry}
use Rattle.pw_model.specs.declared.records.TotalKey.{TotalKey}
use Rattle.pw_model.specs.declared.records.TotalKey.TheVariants as total
use Rattle.pw_model.specs.Same.{direction_place}
use Rattle.pw_model.specs.Shelf.{ShelfContent}
use Rattle.pw_shelf.specs.Changes.{with_point, with_start, with_total}
use Rattle.pw_shelf.specs.State.{IsWithRecord}
use Rattle.pw_schema.specs.Tables.{IsOurs, only_one, ours_with, period_total_at}
use Rattle.pw_store.specs.declared.changes.Change.{Change}
use Rattle.pw_store.specs.declared.changes.Change.TheVariants.{TakePoint, PutPoint, PutFour, TakeStart, PutStart, TakeTotal, SetTotal, PutTotal}
use Rattle.pw_store.specs.Content.{content_of, start_in, energy_told, payment_told, start_tree, energy_tree, payment_tree}
use Rattle.pw_store.specs.Kept.{IsStore}
use Rattle.pw_store.specs.Left.{Keeps}
use Rattle.pw_store.specs.Waiting.{with_waiting}

-- whatever the old trees keep, the new ones do
abbrev pub StillKeeps : Trees → Trees → Type 0
StillKeeps old new = (before : Trees) → Keeps before old → Keeps before new

-- it stays a store, with this content, and keeps what it has kept; and the upload goes on
pub record Makes (made : ShelfContent → ShelfContent) (old new : State) : Type 0 where
  pub store : IsStore new.now
  pub keeps : StillKeeps old.now.trees new.now.trees
  pub content : content_of new.now.trees ≡ made (content_of old.now.trees)
  pub shows : Shows old new new.now old.committed true

-- so it does with a record more
pub record Adds (entry : Entry) (old new : State) : Type 0 where
  pub store : IsStore new.now
  pub keeps : StillKeeps old.now.trees new.now.trees
  pub content : IsWithRecord (content_of old.now.trees) entry (content_of new.now.trees)
  pub shows : Shows old new new.now old.committed true

-- ---- changes
-- the new content, where so many rows were changed; the old one, where none was
abbrev pub where_any : ℕ → ShelfContent → ShelfContent → ShelfContent
where_any zero old new = old
where_any (suc n) old new = new

-- what a change makes of a content, where its statement has changed so many rows
abbrev pub changed : Change → ℕ → ShelfContent → ShelfContent
changed (TakePoint m r t) n c = with_point c m.0 r t None
changed (PutPoint p) n c = where_any n c (with_waiting (p ∷ []) c)
changed (PutFour p q r s) n c = where_any n c (with_waiting (p ∷ q ∷ r ∷ s ∷ []) c)
changed (TakeStart m t) n c = with_start c m.0 t None
changed (PutStart m t o) n c = with_start c m.0 t (Some o)
changed (TakeTotal k) n c = with_total c k 0
changed (SetTotal k a) n c = where_any n c (with_total c k a)
changed (PutTotal k a) n c = with_total c k a

-- the amount of the row of a total, if it has one
abbrev pub total_told : Trees → TotalKey → Option ℕ
total_told db (total.Energy o p b d) = energy_told (db energy_tree) (total.Energy o p b d)
total_told db (total.TopUps a) = payment_told (db payment_tree) (total.TopUps a)

-- no row has the key of what is to be put
abbrev pub IsFree : Change → Trees → Type 0
IsFree (PutStart m t o) db = start_in (db start_tree) m.0 t ≡ None
IsFree (PutTotal k a) db = total_told db k ≡ None
IsFree _ db = Unit {0}

-- no row has the key of what was taken, or was to be set where no row was changed
abbrev pub IsTaken : Change → ℕ → Trees → Type 0
IsTaken (TakeStart m t) n db = start_in (db start_tree) m.0 t ≡ None
IsTaken (SetTotal k a) n db = n ≡ 0 → total_told db k ≡ None
IsTaken _ n db = Unit {0}

-- an amount is above 0, and fits a column
abbrev pub Fits : Change → Type 0
Fits (SetTotal k a) = (0 < a) × (a < 2 ^ 63)
Fits (PutTotal k a) = (0 < a) × (a < 2 ^ 63)
Fits _ = Unit {0}

-- the engine has refused a row because another has its key
abbrev pub refuses_key : Error → Bool
refuses_key (SqliteFailure (ConstraintViolation Unique)) = true
refuses_key _ = false

-- ---- what a statement on a total is: its text, by whether the total is of energy or of top-ups
abbrev pub text_by : TotalKey → List ℕ → List ℕ → List ℕ
text_by (total.Energy o p b d) energy topups = energy
text_by (total.TopUps a) energy topups = topups

-- ---- what it is given
-- its key, and then something more
abbrev pub total_with : TotalKey → Row → Row
total_with (total.Energy o p b d) more = Int (pos (owner_place o)) ∷ Int (pos p.0) ∷ Int (pos b.0) ∷ Int (pos (direction_place d)) ∷ more
total_with (total.TopUps a) more = Int (pos a.0) ∷ more

-- its key, and an amount if there is one
abbrev pub total_row : TotalKey → Option ℕ → Row
total_row k None = total_with k []
total_row k (Some v) = total_with k (Int (pos v) ∷ [])

-- one of energy, as it is given to INSERT
abbrev pub energy_row : Option AccountId → PeriodId → BandId → Direction → ℕ → Row
energy_row o p b d v = total_row (total.Energy o p b d) (Some v)

-- ---- a row of a total of energy that is put, whatever rows there are

-- it was put into their table, with a rowid of its own, and no row of another table is changed; and the upload goes on
pub record PutsEnergy (given : Row) (old new : State) : Type 0 where
  pub ours : IsOurs new.now.schema
  pub applied : Applies (ours_with only_one) (mode_of old).keys old.now.trees (edit_of old.now.trees (period_total_at energy_tree) [] Chosen 0 ((Null ∷ given) ∷ [])) new.now.trees
  pub shows : Shows old new new.now old.committed true
