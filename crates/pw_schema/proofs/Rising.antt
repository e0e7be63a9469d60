-- Rowids that are read one by one.
use Rattle.std.proofs.Common.{◌≡◌, ◌++◌, ℤ, Bool, true, false, is_some, not, List, [], ◌∷◌, Option, Some, None, IfSome, refl, sym, ap, subst, ◌∙◌, Equal}
use Rattle.std.proofs.lemmas.List.{map-append}
use Rattle.std.specs.Ordering.{int_cmp}
use Rattle.std.proofs.lemmas.Cmp.{int_cmp_total, tied_itself}
use Rattle.std.specs.declared.cmp.Ordering.TheVariants.{Less}
use Rattle.sqlite.specs.declared.types.Value.TheVariants.{Int}
use Rattle.sqlite.specs.Order.{Row, column}
use Rattle.pw_model.specs.Counting.{EachOnce}
use Rattle.pw_model.specs.Lists.{IsInOrder}
use Rattle.pw_model.proofs.InOrder.{before-member}
use Rattle.pw_schema.specs.Judging.{id_of}
use Rattle.pw_schema.specs.Judges.{ids_in, HasRisen}
use Rattle.pw_schema.specs.declared.rowids.Rowids.{Rowids}
use Rattle.pw_schema.proofs.Pushed.{all_push, behind_push}

pub ids_push : (rows more : List Row) (row : Row) (e : ℤ) → e ≡ id_of (column row 0) → more ≡ rows ++ row ∷ [] → ids_in more ≡ ids_in rows ++ e ∷ []
ids_push rows more row e one is = ap ids_in is ∙ map-append (λ r. id_of (column r 0)) rows (row ∷ []) ∙ ap (λ x. ids_in rows ++ x ∷ []) (sym one)

pub ids_once : (xs : List ℤ) → IsInOrder int_cmp xs → EachOnce xs
ids_once [] h = tt
ids_once (x ∷ xs) h = (
  λ m. (let less = before-member int_cmp x x xs h.0 m in let tie = tied_itself int_cmp_total x in absurd (let bad : Less ≡ Equal = sym less ∙ tie in cc)),
  ids_once xs h.1,
)

abbrev IsIdRow : Row → Type 0
IsIdRow r = column r 0 ≡ Int (id_of (column r 0))

-- one more row, whose rowid stands behind the last
pub rises : (first old : Rowids) (next : Option ℤ) (rows : List Row) (row : Row) → (next ≡ None → ⊥) → HasRisen first rows old → IfSome next (λ id. column row 0 ≡ Int id) → IfSome next (λ id. IfSome old.last (λ l. int_cmp l id ≡ Less)) → HasRisen first (rows ++ row ∷ []) (record { last = next })
rises first old None rows row some so shown above = absurd (some refl)
rises first old (Some id) rows row some so shown above =
    let one : id_of (column row 0) ≡ id = ap id_of shown in
    let ids = ids_push rows (rows ++ row ∷ []) row id (sym one) refl in
    let rising = subst (IsInOrder int_cmp) (sym ids) (behind_push int_cmp int_cmp_total.trans old.last (ids_in rows) id so.rising so.behind above) in record {
      are = record { each = all_push IsIdRow row rows so.are.each (shown ∙ ap Int (sym one)); once = ids_once _ rising };
      rising = rising;
      behind = (ids_in rows, ids);
    }

pub not_none : (o : Option ℤ) (b : Bool) → is_some o ≡ not b → b ≡ false → o ≡ None → ⊥
not_none None b is down e = let bad : false ≡ true = is ∙ ap not down in cc
not_none (Some x) b is down e = cc
