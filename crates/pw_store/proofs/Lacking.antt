-- What a query over one table with NOT EXISTS over another gives.
use Rattle.std.proofs.Common.{◌≡◌, ℕ, zero, suc, pos, min, List, [], ◌∷◌, ◌++◌, map, length, Bool, true, false, cond, None, refl, ap, subst, ◌∙◌, arith}
use Rattle.std.specs.List.{list_all, filter, flat_map}
use Rattle.std.specs.List.Sorted.{IsPermutation}
use Rattle.std.proofs.lemmas.List.{length-map}
use Rattle.std.proofs.lemmas.List.Sorted.{IsPermutation-map}
use Rattle.sqlite.specs.declared.types.Value.TheVariants.{Null, Int}
use Rattle.sqlite.specs.Order.{Row}
use Rattle.sqlite.specs.Ops.{unary, is_true}
use Rattle.sqlite_sql.specs.declared.ops.UnaryOp.TheVariants.{Not}
use Rattle.sqlite.specs.Term.{Term, Env, holds}
use Rattle.sqlite.specs.Query.{Query, IsAnswer, Output, output, matches, page, inner, end}
use Rattle.sqlite.specs.Program.{overlay}
use Rattle.sqlite.specs.Tree.{Trees}
use Rattle.sqlite.specs.State.{State, Shown}
use Rattle.sqlite.specs.Command.TheVariants.{Select}
use Rattle.sqlite.proofs.Callers.{reads_as}
use Rattle.pw_schema.specs.Tables.{IsOurs, only_one, ours_with}
use Rattle.pw_store.proofs.Texts.{IsQuery, lacking}

pub one_slot : (env_of : Row → Env) (p : Row → Bool) (rows : List Row) → flat_map (λ r. cond (p r) (env_of r ∷ []) []) rows ≡ map env_of (filter p rows)
one_slot env_of p [] = refl
one_slot env_of p (r ∷ rows) = elim (p r) as (λ b. (cond b (env_of r ∷ []) [] ++ flat_map (λ r. cond (p r) (env_of r ∷ []) []) rows) ≡ map env_of (cond b (r ∷ filter p rows) (filter p rows))) [
  | true ↦ ap (λ xs. env_of r ∷ xs) (one_slot env_of p rows)
  | false ↦ one_slot env_of p rows
]

-- ---- the row counted
abbrev pub is_none : ℕ → Bool
is_none zero = true
is_none (suc n) = false

pub none_counted : (n : ℕ) → is_true (unary Not (Int (pos (min 1 n)))) ≡ is_none n
unfolding unary
none_counted zero = refl
none_counted (suc n) = let one : min 1 (suc n) ≡ 1 = omega arith in rw one refl

module _ (db : Trees) (other : ℕ) (ties : List Term) (params : Row) where
  -- how many of the other table a row is tied to
  abbrev pub tied_to : Row → Row → Bool
  tied_to r w = list_all (holds (params ∷ r ∷ w ∷ [])) ties

  abbrev pub found : Row → ℕ
  found r = length (matches db ties (inner other end) (params ∷ r ∷ []))

  abbrev pub env_of : Row → Env
  env_of r = params ∷ r ∷ (Int (pos (min 1 (found r))) ∷ []) ∷ []

  abbrev pub passes : List Term → Row → Bool
  passes tests r = list_all (holds (env_of r)) tests

  pub found_is : (r : Row) → found r ≡ length (filter (tied_to r) (db other))
  found_is r = ap length (one_slot (λ w. params ∷ r ∷ w ∷ []) (tied_to r) (db other)) ∙ length-map (filter (tied_to r) (db other)) (λ w. params ∷ r ∷ w ∷ [])

-- what is shown of the rows that pass, in some order
pub record IsLacking (tree other : ℕ) (ties : List Term) (q : Query) (db : Trees) (params : Row) (rows : List Row) : Type 0 where
  pub ordered : List Row
  pub same : IsPermutation (map (λ (o : Output). o.1) (map (output q) (map (env_of db other ties params) (filter (passes db other ties params q.filter) (db tree))))) ordered
  pub shown : rows ≡ page q params ordered

module _ (tree other : ℕ) (ties : List Term) (q : Query) where
  abbrev pub whole : Query
  whole = record (lacking tree other ties q) { group = None; distinct = false }

  pub lacks : (db : Trees) (params : Row) (rows : List Row) → IsAnswer whole db params rows → IsLacking tree other ties whole db params rows
  lacks db params rows a =
      let staged = a.grouped ∙ one_slot (env_of db other ties params) (passes db other ties params q.filter) (db tree) in
      let kept = a.distinct ∙ ap (map (output whole)) staged in
      record {
        ordered = map (λ (o : Output). o.1) a.ordered;
        same = IsPermutation-map (λ (o : Output). o.1) _ _ (subst (λ k. IsPermutation k a.ordered) kept a.same);
        shown = a.shown;
      }

  pub seen : (text : List ℕ) → IsQuery text whole → (params : Row) (old new : State) (rows : List Row) → IsOurs old.now.schema → Shown text params old new rows
      → IsLacking tree other ties whole (overlay old.now.trees []) params rows
  seen text it params old new rows ours h =
      lacks (overlay old.now.trees []) params rows
      ((reads_as text params old new (ours_with only_one) ours (Select (record { lets = []; body = whole }) it.names) (it.is only_one) (it.plain only_one) (it.unlisted only_one) rows h).answer Null)
