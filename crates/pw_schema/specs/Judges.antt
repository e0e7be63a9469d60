-- What a judge is behind the rows that it took, one at a time.
-- (Definitions of this project.)
use Rattle.std.specs.Prelude.{◌≡◌, ℕ, ℤ, Bool, nat_lt, List, [], ◌∷◌, ◌++◌, map, filter, Option, Some, None, option_map}
use Rattle.std.specs.List.{AllByRecursion}
use Rattle.std.specs.Option.{option_copied}
use Rattle.std.specs.Ordering.{int_cmp}
use Rattle.sqlite.specs.Order.{Row, column}
use Rattle.pw_tariff.specs.Office.{office_of}
use Rattle.pw_model.specs.declared.records.Entry.{Entry}
use Rattle.pw_model.specs.declared.records.TotalKey.{TotalKey}
use Rattle.pw_model.specs.Lists.{IsInOrder}
use Rattle.pw_schema.specs.declared.kept.KeptEntries.{KeptEntries}
use Rattle.pw_schema.specs.declared.kept.KeptTotals.{KeptTotals}
use Rattle.pw_schema.specs.declared.records.Records.{Records}
use Rattle.pw_schema.specs.declared.rowids.Rowids.{Rowids}
use Rattle.pw_schema.specs.Judging.{AreRowids, IsRecord, IsTotal, by_key, by_total, id_of, told_total}
use Rattle.pw_schema.specs.Rows.{ReadsRows, told}

-- the last of a list, if it has one
abbrev pub IsLast : {X : Type 0} → Option X → List X → Type 0
IsLast None xs = xs ≡ []
IsLast {X} (Some x) xs = (front : List X) × (xs ≡ front ++ x ∷ [])

-- ---- records, each kept
-- of the office and the kind that it had at first: the rows are records of them, those found are theirs, in this order
pub record HasRead (first : Records) (rows : List Row) (judge : Records) : Type 0 where
  pub same_office : judge.office.now ≡ first.office.now
  pub same_kind : judge.kind ≡ first.kind
  pub read : ReadsRows judge.kind rows judge.found.items
  pub behind : IsLast judge.last judge.found.items
  pub each : AllByRecursion (IsRecord (office_of judge.office.now) judge.kind) rows

-- ---- rowids, of which the last is kept alone
abbrev pub ids_in : List Row → List ℤ
ids_in = map (λ r. id_of (column r 0))

-- the rows show rowids, none of them twice, since they rise
pub record HasRisen (first : Rowids) (rows : List Row) (judge : Rowids) : Type 0 where
  pub are : AreRowids rows
  pub rising : IsInOrder int_cmp (ids_in rows)
  pub behind : IsLast judge.last (ids_in rows)

-- ---- points, starts and totals, each compared with a list and not kept
-- what is left of a list behind these; nothing where it doesn't begin with them
abbrev pub IsRest : {X : Type 0} → Option (List X) → List X → Option (List X) → Type 0
IsRest None front rest = rest ≡ None
IsRest (Some all) front (Some rest) = all ≡ front ++ rest
IsRest {X} (Some all) front None = (tail : List X) → all ≡ front ++ tail → ⊥

-- the key of the last of a list, if it has one
abbrev pub IsLastKey : {X K : Type 0} → (X → K) → Option K → List X → Type 0
IsLastKey f None xs = xs ≡ []
IsLastKey {X} f (Some k) xs = (front : List X) × (x : X) × (f x ≡ k) × (xs ≡ front ++ x ∷ [])

-- of the office and the kind that it had at first: the rows are records of them, whose keys rise, and the list is left
-- behind them
pub record HasCompared (first : KeptEntries) (rows : List Row) (judge : KeptEntries) : Type 0 where
  pub same_office : judge.office.now ≡ first.office.now
  pub same_kind : judge.kind ≡ first.kind
  pub each : AllByRecursion (IsRecord (office_of judge.office.now) judge.kind) rows
  pub rising : IsInOrder by_key (map (told judge.kind) rows)
  pub behind : IsLastKey (λ (e : Entry). e.key) (option_map (λ (e : Entry). e.key) judge.last) (map (told judge.kind) rows)
  pub left : IsRest (option_copied first.rest) (map (told judge.kind) rows) (option_copied judge.rest)

-- totals of 0 stand in no list
abbrev pub is_above_zero : TotalKey × ℕ → Bool
is_above_zero t = nat_lt 0 t.1

pub record HasSummed (first : KeptTotals) (rows : List Row) (judge : KeptTotals) : Type 0 where
  pub same_office : judge.office.now ≡ first.office.now
  pub same_kind : judge.kind ≡ first.kind
  pub each : AllByRecursion (IsTotal (office_of judge.office.now) judge.kind) rows
  pub rising : IsInOrder by_total (map (told_total judge.kind) rows)
  pub behind : IsLastKey (λ (t : TotalKey × ℕ). t.0) judge.last (map (told_total judge.kind) rows)
  pub left : IsRest (option_copied first.rest) (filter is_above_zero (map (told_total judge.kind) rows)) (option_copied judge.rest)
