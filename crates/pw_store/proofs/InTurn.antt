-- Seconds that are read one by one, and what a question finds behind a statement that changes nothing.
use Rattle.std.proofs.Common.{◌≡◌, ◌<◌, ◌≤◌, ◌↔◌, ℕ, List, [], ◌∷◌, ◌++◌, map, length, Option, Some, None, Vec, Result, Ok, Err, IfOk, IfSome, sym, ap, subst, ◌∙◌, arith}
use Rattle.std.proofs.lemmas.List.{map-append}
use Rattle.std.specs.Cmp.{ranked, nat_cmp_is}
use Rattle.std.specs.declared.cmp.Ordering.TheVariants.{Less}
use Rattle.sqlite.specs.Order.{Row}
use Rattle.sqlite.specs.Tree.{Trees}
use Rattle.sqlite.specs.Effect.{Database}
use Rattle.sqlite.specs.State.{State, IsUnchanged}
use Rattle.pw_model.specs.Counting.{Member}
use Rattle.pw_model.specs.Lists.{IsInOrder}
use Rattle.pw_shelf.specs.Seconds.{by_second, ListsSeconds, ListsSecondsWithin}
use Rattle.pw_schema.proofs.Pushed.{first_push, last_push}
use Rattle.pw_store.specs.Content.{records_of}
use Rattle.pw_store.specs.inner.Seconds.{first_amount, first_point}

-- the last second of a list, if it has one
abbrev pub IsLastSecond : {X : Type 0} → Option ℕ → List (ℕ × X) → Type 0
IsLastSecond None xs = xs ≡ []
IsLastSecond {X} (Some t) xs = (front : List (ℕ × X)) × (a : X) × (xs ≡ front ++ (t, a) ∷ [])

module _ {X : Type 0} where
  earlier : (x y : ℕ × X) → by_second x y ≡ Less → x.0 < y.0
  earlier x y e = ranked x.0 y.0 Less (sym e)

  in_time : (x y : ℕ × X) → x.0 < y.0 → by_second x y ≡ Less
  in_time x y l = sym (nat_cmp_is x.0 y.0 Less l)

  in_turn : (x y z : ℕ × X) → by_second x y ≡ Less → by_second y z ≡ Less → by_second x z ≡ Less
  in_turn x y z a b = in_time x z (let near = earlier x y a in let far = earlier y z b in omega (arith, near, far))

  second_push : (last : Option ℕ) (found : List (ℕ × X)) (e : ℕ × X) → IsInOrder by_second found → IsLastSecond last found → IfSome last (λ l. l < e.0) → IsInOrder by_second (found ++ e ∷ [])
  second_push None found e rising is low = first_push by_second in_turn found e is
  second_push (Some t) found e rising is low = last_push by_second in_turn found is.0 (t, is.1) e is.2 rising (in_time (t, is.1) e low)

  told_push : (told : Row → ℕ × X) (rows more : List Row) (row : Row) (found new : List (ℕ × X)) (e : ℕ × X) → found ≡ map told rows → e ≡ told row → new ≡ found ++ e ∷ [] → more ≡ rows ++ row ∷ [] → new ≡ map told more
  told_push told rows more row found new e so one is more_is =
      is ∙ ap (λ xs. xs ++ e ∷ []) so ∙ ap (λ x. map told rows ++ x ∷ []) one ∙ sym (map-append told rows (row ∷ [])) ∙ ap (map told) (sym more_is)

  -- a row more, which tells a second behind the last
  pub row_push : (told : Row → ℕ × X) (rows more : List Row) (row : Row) (last : Option ℕ) (found new : List (ℕ × X)) (e : ℕ × X) → found ≡ map told rows → IsInOrder by_second found → IsLastSecond last found → IfSome last (λ l. l < e.0) →
      e ≡ told row → new ≡ found ++ e ∷ [] → more ≡ rows ++ row ∷ [] → (new ≡ map told more) × IsInOrder by_second new × IsLastSecond (Some e.0) new
  row_push told rows more row last found new e so rising is low one put more_is = (
    told_push told rows more row found new e so one put more_is,
    subst (IsInOrder by_second) (sym put) (second_push last found e rising is low),
    (found, e.1, put),
  )

-- ---- behind a statement that changes nothing
pub trees_same : (old new : State) → IsUnchanged old new → new.now.trees ≡ old.now.trees
trees_same old new u = ap (λ (d : Database). d.trees) u.0.now_is

-- as many records as before
pub counted_on : (old new : State) (n : ℕ) → IsUnchanged old new → length (records_of old.now.trees) ≡ n → length (records_of new.now.trees) ≡ n
counted_on old new n u e = ap (λ (db : Trees). length (records_of db)) (trees_same old new u) ∙ e

pub one_if : {F : Type 0} (r : Result (Option (ℕ × ℕ)) F) (P : Trees → Option (ℕ × ℕ) → Type 0) (before after : Trees) (shown rows : List Row) → shown ≡ rows → after ≡ before → P after (first_point rows)
    → IfOk r (λ found. found ≡ first_point shown) → IfOk r (λ found. P before found)
one_if (Err f) P before after shown rows is same h told = tt
one_if (Ok found) P before after shown rows is same h told = subst (λ db. P db found) same (subst (P after) (sym (told ∙ ap first_point is)) h)

pub amount_if : {F : Type 0} (r : Result ℕ F) (sum : Trees → ℕ) (before after : Trees) (shown rows : List Row) → shown ≡ rows → after ≡ before → (length rows ≤ 1 → first_amount rows ≡ sum after)
    → IfOk r (λ n. length shown ≤ 1) → IfOk r (λ n. first_amount shown ≡ n) → IfOk r (λ n. n ≡ sum before)
amount_if (Err f) sum before after shown rows is same h few told = tt
amount_if (Ok n) sum before after shown rows is same h few told =
    sym told ∙ ap first_amount is ∙ h (subst (λ xs. length xs ≤ 1) is few) ∙ ap sum same

pub list_if : {X Z F : Type 0} (r : Result (Vec (ℕ × X) Z) F) (told : Row → ℕ × X) (P : Trees → ℕ × X → Type 0) (before after : Trees) (shown rows : List Row) → shown ≡ rows → after ≡ before
    → ((x : ℕ × X) → Member x (map told rows) ↔ P after x)
    → IfOk r (λ found. found.items ≡ map told shown) → IfOk r (λ found. IsInOrder by_second found.items) → IfOk r (λ found. IsInOrder by_second found.items × ((x : ℕ × X) → Member x found.items ↔ P before x))
list_if (Err f) told P before after shown rows is same h told_is rising = tt
list_if {X} (Ok found) told P before after shown rows is same h told_is rising = (
  rising,
  subst (λ db. (x : ℕ × X) → Member x found.items ↔ P db x) same (subst (λ xs. (x : ℕ × X) → Member x xs ↔ P after x) (sym (told_is ∙ ap (map told) is)) h),
)

pub lists_within : {Z F : Type 0} (r : Result (Vec (ℕ × ℕ) Z) F) (from to : ℕ) (told : ℕ → Option ℕ)
    → IfOk r (λ found. IsInOrder by_second found.items × ((x : ℕ × ℕ) → Member x found.items ↔ ((from ≤ x.0) × (x.0 ≤ to) × (told x.0 ≡ Some x.1)))) → IfOk r (λ found. ListsSecondsWithin from to told found.items)
lists_within (Err f) from to told h = tt
lists_within (Ok found) from to told h = record { rising = h.0; members = h.1 }

pub lists_seconds : {X Z F : Type 0} (r : Result (Vec (ℕ × X) Z) F) (told : ℕ → Option X)
    → IfOk r (λ found. IsInOrder by_second found.items × ((x : ℕ × X) → Member x found.items ↔ (told x.0 ≡ Some x.1))) → IfOk r (λ found. ListsSeconds told found.items)
lists_seconds (Err f) told h = tt
lists_seconds (Ok found) told h = record { rising = h.0; members = h.1 }
