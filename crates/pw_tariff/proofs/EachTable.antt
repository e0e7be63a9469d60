-- The tables of a list, read one after another, each with the names of those before it.
use Rattle.std.proofs.Common.{◌≡◌, ℕ, ◌+◌, ◌<◌, ◌≤◌, Some, None, List, [], ◌∷◌, ◌++◌, length, map, take, get_or, sym, ◌∙◌, ap, subst}
use Rattle.toml.specs.Data.{Members, as_table}
use Rattle.toml.specs.View.{view, items_view}
use Rattle.toml.specs.declared.value.Value.{Value}
use Rattle.pw_tariff.specs.declared.fault.OfficeFault.{OfficeFault}
use Rattle.pw_tariff.specs.Checks.{Check, each_in_turn}
use Rattle.pw_tariff.specs.inner.Checks.{IsRefusal, Passes}
use Rattle.pw_tariff.specs.inner.Held.{table_in}
use Rattle.pw_tariff.specs.Text.{tables_of}
use Rattle.pw_tariff.proofs.Listed.{one-table, table-read}
use Rattle.pw_tariff.proofs.Order.{ComesTo, turn-refused, turn-passed, turn-ended, all-taken, held-more, held-names}

-- a list of tables has no other element
pub no-other : (whole vs : List Value) (i : ℕ) (v : Value) → vs ≡ whole → tables_of (items_view whole) ≡ Some (map table_in whole) →
    i < length vs → v ≡ get_or vs i v → None ≡ as_table (view v) → ⊥
no-other whole vs i v same all l is none =
    one-table whole i v (map table_in whole) (subst (λ xs. i < length xs) same l) (subst (λ xs. v ≡ get_or xs i v) same is) all none

-- the checks of all tables, each with the names of those before it
abbrev pub all_checks : (Members → List ℕ) → (List (List ℕ) → Members → List Check) → List Value → List Check
all_checks name checks vs = each_in_turn name checks [] (map table_in vs)

-- those behind what is held come to those from place i on
abbrev pub Remain : {X : Type 0} → (X → List ℕ) → (Members → List ℕ) → (List (List ℕ) → Members → List Check) → List X → List Value → ℕ → Type 0
Remain f name checks held vs i = ComesTo (all_checks name checks vs) name checks table_in (map f held) vs i

-- where one table is refused
pub refused-at : {X : Type 0} (f : X → List ℕ) (name : Members → List ℕ) (checks : List (List ℕ) → Members → List Check) (held : List X) (whole vs : List Value) (i : ℕ) (v : Value) (t : Members) (e : OfficeFault) →
    vs ≡ whole → i < length vs → v ≡ get_or vs i v → Some t ≡ as_table (view v) → Remain f name checks held vs i → IsRefusal (checks (map f held) t) e → IsRefusal (all_checks name checks whole) e
refused-at f name checks held whole vs i v t e same l is one remain r =
    subst (λ xs. IsRefusal (all_checks name checks xs) e) same
    (turn-refused (all_checks name checks vs) name checks table_in (map f held) vs i v e l is remain
    (subst (λ m. IsRefusal (checks (map f held) m) e) (sym (table-read v t one)) r))

-- where one more is read
pub read-more : {X T : Type 0} (f : X → List ℕ) (name : Members → List ℕ) (checks : List (List ℕ) → Members → List Check) (h : X → T) (p : Members → T) (held : List X) (b : X) (vs : List Value) (i : ℕ) (v : Value) (t : Members) →
    i < length vs → v ≡ get_or vs i v → Some t ≡ as_table (view v) → Remain f name checks held vs i → map h held ≡ map p (map table_in (take i vs)) →
    Passes (checks (map f held) t) × (h b ≡ p t) × (name t ≡ f b) →
    Remain f name checks (held ++ b ∷ []) vs (i + 1) × (map h (held ++ b ∷ []) ≡ map p (map table_in (take (i + 1) vs)))
read-more f name checks h p held b vs i v t l is one remain so read =
    let e : table_in v ≡ t = table-read v t one in (
      turn-passed (all_checks name checks vs) name checks table_in (map f held) (map f (held ++ b ∷ [])) vs i v l is
          (held-names f name table_in held b v t e read.2) remain (subst (λ m. Passes (checks (map f held) m)) (sym e) read.0),
      held-more h p table_in held b vs i v l is so (read.1 ∙ ap p (sym e)),
    )

-- where all are
pub all-read : {X T : Type 0} (f : X → List ℕ) (name : Members → List ℕ) (checks : List (List ℕ) → Members → List Check) (h : X → T) (p : Members → T) (held : List X) (whole vs : List Value) (i : ℕ) →
    vs ≡ whole → length vs ≤ i → Remain f name checks held vs i → map h held ≡ map p (map table_in (take i vs)) →
    Passes (all_checks name checks whole) × (map h held ≡ map p (map table_in whole))
all-read f name checks h p held whole vs i same l remain so =
    subst (λ xs. Passes (all_checks name checks xs) × (map h held ≡ map p (map table_in xs))) same (
      turn-ended (all_checks name checks vs) name checks table_in (map f held) vs i l remain,
      so ∙ ap (λ xs. map p (map table_in xs)) (all-taken vs i l),
    )
