-- The elements of a TOML list, one after another.
use Rattle.std.proofs.Common.{◌≡◌, ℕ, zero, suc, ◌+◌, ◌<◌, List, [], ◌∷◌, ◌++◌, length, drop, get_or, Option, Some, None, is_some, option_map, refl, sym, ap, ◌∙◌, arith}
use Rattle.std.proofs.lemmas.List.{append_assoc}
use Rattle.std.proofs.lemmas.Option.{none-some}
use Rattle.toml.specs.Data.{Members, as_str, as_table}
use Rattle.toml.specs.View.{view, items_view}
use Rattle.toml.specs.declared.value.Value.{Value}
use Rattle.toml.proofs.Views.{items_view-drop}
use Rattle.pw_tariff.specs.inner.Held.{table_in}
use Rattle.pw_tariff.specs.Text.{texts_of, tables_of, put_before}

-- these put_before the others
abbrev pub after : {A : Type 0} → List A → Option (List A) → Option (List A)
after found rest = option_map (λ ts. found ++ ts) rest

pub after-none : {A : Type 0} (r : Option (List A)) → after [] r ≡ r
after-none None = refl
after-none (Some ts) = refl

pub after-text : {A : Type 0} (found : List A) (t : A) (r : Option (List A)) → after found (put_before (Some t) r) ≡ after (found ++ t ∷ []) r
after-text found t None = refl
after-text found t (Some ts) = ap Some (sym (append_assoc found (t ∷ []) ts))

pub texts-step : (vs : List Value) (i : ℕ) (d : Value) → i < length vs → texts_of (items_view (drop i vs)) ≡ put_before (as_str (view (get_or vs i d))) (texts_of (items_view (drop (i + 1) vs)))
texts-step vs i d h = rw (items_view-drop vs i d h) refl

pub tables-step : (vs : List Value) (i : ℕ) (d : Value) → i < length vs → tables_of (items_view (drop i vs)) ≡ put_before (as_table (view (get_or vs i d))) (tables_of (items_view (drop (i + 1) vs)))
tables-step vs i d h = rw (items_view-drop vs i d h) refl

no-list : {A : Type 0} (o : Option A) → put_before o None ≡ None
no-list None = refl
no-list (Some x) = refl

-- where one element isn't a table
pub not-tables : (vs : List Value) (i : ℕ) (d : Value) → i < length vs → as_table (view (get_or vs i d)) ≡ None → tables_of (items_view vs) ≡ None
not-tables [] i d l h = absurd (omega arith)
not-tables (v ∷ vs) zero d l h = rw h refl
not-tables (v ∷ vs) (suc i) d l h = let n : tables_of (items_view vs) ≡ None = not-tables vs i d (omega arith) h in rw n (no-list (as_table (view v)))

pub one-table : (vs : List Value) (i : ℕ) (d : Value) (ts : List Members) → i < length vs → d ≡ get_or vs i d → tables_of (items_view vs) ≡ Some ts → None ≡ as_table (view d) → ⊥
one-table vs i d ts l e s h =
    let n : tables_of (items_view vs) ≡ None = not-tables vs i d l (rw (← e) (sym h)) in
    none-some ts (sym n ∙ s)

pub table-read : (v : Value) (t : Members) → Some t ≡ as_table (view v) → table_in v ≡ t
table-read v t h = rw (← h) refl

pub some-mapped : {A B : Type 0} (f : A → B) (o : Option A) → is_some (option_map f o) ≡ is_some o
some-mapped f None = refl
some-mapped f (Some a) = refl
