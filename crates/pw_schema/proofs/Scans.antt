-- What a query over one table gives.
use Rattle.std.proofs.Common.{◌≡◌, ℕ, pos, negsuc, List, [], ◌∷◌, ◌++◌, map, Bool, true, false, cond, None, refl, ap, subst, ◌∙◌}
use Rattle.std.specs.List.{list_all, filter, flat_map}
use Rattle.std.specs.List.Sorted.{IsPermutation, IsSorted}
use Rattle.sqlite.specs.declared.types.Value.TheVariants.{Int}
use Rattle.sqlite.specs.Order.{Row}
use Rattle.sqlite.specs.Term.{Term, holds, lit}
use Rattle.sqlite.specs.Query.{Query, inner, end, IsAnswer, Output, output, output_cmp, page}
use Rattle.sqlite.specs.Tree.{Trees}

-- the rows of the table that pass WHERE
abbrev pub passing : Row → List Term → List Row → List Row
passing params tests rows = filter (λ r. list_all (holds (params ∷ r ∷ [])) tests) rows

one_slot : (params : Row) (p : Row → Bool) (rows : List Row) → flat_map (λ r. cond (p r) ((params ∷ r ∷ []) ∷ []) []) rows ≡ map (λ r. params ∷ r ∷ []) (filter p rows)
one_slot params p [] = refl
one_slot params p (r ∷ rows) = elim (p r) as (λ b. (cond b ((params ∷ r ∷ []) ∷ []) [] ++ flat_map (λ r. cond (p r) ((params ∷ r ∷ []) ∷ []) []) rows) ≡ map (λ r. params ∷ r ∷ []) (cond b (r ∷ filter p rows) (filter p rows))) [
  | true ↦ ap (λ xs. (params ∷ r ∷ []) ∷ xs) (one_slot params p rows)
  | false ↦ one_slot params p rows
]

-- all rows of one table that pass, as they stand
abbrev pub plain_query : ℕ → List Term → List Term → Query
plain_query tree tests shown = record {
  from = inner tree end;
  filter = tests;
  group = None;
  project = shown;
  distinct = false;
  collations = [];
  order = [];
  limit = lit (Int (negsuc 0));
  offset = lit (Int (pos 0));
}

-- what each row that passes is sorted by and shows
abbrev pub outputs : Query → Row → List Row → List Output
outputs q params rows = map (output q) (map (λ r. params ∷ r ∷ []) (passing params q.filter rows))

pub record IsScan (q : Query) (params : Row) (table rows : List Row) : Type 0 where
  pub ordered : List Output
  pub same : IsPermutation (outputs q params table) ordered
  pub sorted : IsSorted (output_cmp q) ordered
  pub shown : rows ≡ page q params (map (λ o. o.1) ordered)

abbrev pub scan_of : ℕ → Query → Query
scan_of tree q = record q { from = inner tree end; group = None; distinct = false }

pub scans : (tree : ℕ) (q : Query) (db : Trees) (params : Row) (rows : List Row) → IsAnswer (scan_of tree q) db params rows → IsScan (scan_of tree q) params (db tree) rows
scans tree q db params rows a =
    let staged = a.grouped ∙ one_slot params (λ r. list_all (holds (params ∷ r ∷ [])) q.filter) (db tree) in
    let kept = a.distinct ∙ ap (map (output (scan_of tree q))) staged in
    record { ordered = a.ordered; same = subst (λ k. IsPermutation k a.ordered) kept a.same; sorted = a.sorted; shown = a.shown }
