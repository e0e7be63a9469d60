-- What the queries for one total give.
use Rattle.std.proofs.Common.{◌≡◌, ◌≤◌, ℕ, List, [], ◌∷◌, map, find, length, Bool, true, false, cond, Option, option_map, unwrap_or, Some, None, Ok, Err, Result, Vec, IfOk, refl, sym, ap, subst₂, ◌∙◌, arith}
use Rattle.std.specs.List.{filter}
use Rattle.std.specs.List.Sorted.{IsPermutation}
use Rattle.std.proofs.lemmas.List.Sorted.{length_permutation}
use Rattle.std.proofs.lemmas.List.{length-map}
use Rattle.sqlite.specs.declared.error.Error.{Error}
use Rattle.sqlite.specs.Order.{Row, column}
use Rattle.sqlite.specs.Query.{Output, output}
use Rattle.sqlite.specs.State.{State, Shown}
use Rattle.sqlite.proofs.Callers.{one_permutation}
use Rattle.sqlite_trees.proofs.ListLemmas.{filter_same, all_weaker}
use Rattle.pw_tariff.specs.declared.ids.AccountId.{AccountId}
use Rattle.pw_tariff.specs.declared.ids.BandId.{BandId}
use Rattle.pw_tariff.specs.declared.ids.Direction.{Direction}
use Rattle.pw_tariff.specs.declared.ids.PeriodId.{PeriodId}
use Rattle.pw_model.specs.declared.records.TotalKey.TheVariants as total
use Rattle.pw_schema.specs.Rows.{number}
use Rattle.pw_store.specs.Content.{total_in}
use Rattle.pw_store.specs.Keyed.{IsEnergyRow, IsPaymentRow}
use Rattle.pw_store.specs.Kept.{IsStore}
use Rattle.pw_store.specs.inner.Seconds.{first_amount}
use Rattle.pw_store.proofs.KeptTexts.{total_text, total_query, total_is, payment_text, payment_query, payment_is}
use Rattle.pw_store.proofs.Scans.{scan_of}
use Rattle.pw_store.proofs.Lists.{seen}
use Rattle.pw_store.proofs.EnergyRows as energy
use Rattle.pw_store.proofs.PaymentRows as payment

abbrev head : List Row → Option Row
head [] = None
head (r ∷ rows) = Some r

find_head : (p : Row → Bool) (rows : List Row) → find p rows ≡ head (filter p rows)
find_head p [] = refl
find_head p (r ∷ rows) = go (find_head p rows) (p r)
  where
    go : find p rows ≡ head (filter p rows) → (b : Bool) → cond b (Some r) (find p rows) ≡ head (cond b (r ∷ filter p rows) (filter p rows))
    go more true = refl
    go more false = more

module _ (show : Row → Row) (value : Row → ℕ) (is : (r : Row) → number (column (show r) 0) ≡ value r) where
  many : (xs rows : List Row) → IsPermutation (map show xs) rows → length rows ≡ length xs
  many xs rows h = length_permutation (map show xs) rows h ∙ length-map xs show

  pub one_amount : (xs rows : List Row) → IsPermutation (map show xs) rows → length rows ≤ 1 → first_amount rows ≡ unwrap_or (option_map value (head xs)) 0
  one_amount [] [] h few = refl
  one_amount (x ∷ xs) [] h few = absurd (let n = many (x ∷ xs) [] h in omega (arith, n))
  one_amount [] (r ∷ rows) h few = absurd (let n = many [] (r ∷ rows) h in omega (arith, n))
  one_amount (x ∷ []) (r ∷ rows) h few = ap first_amount (one_permutation (show x) (r ∷ rows) h) ∙ is x
  one_amount (x ∷ y ∷ xs) (r ∷ rows) h few = absurd (let n = many (x ∷ y ∷ xs) (r ∷ rows) h in omega (arith, n, few))

-- ---- of energy
module _ (o : Option AccountId) (p : PeriodId) (b : BandId) (d : Direction) where
  energies_shown : (rows : List Row) → map (λ (x : Output). x.1) (map (output (scan_of 20 total_query)) (map (λ r. energy.params o p b d ∷ r ∷ []) rows)) ≡ map (λ r. column r 5 ∷ []) rows
  energies_shown [] = refl
  energies_shown (r ∷ rows) = ap (λ xs. (column r 5 ∷ []) ∷ xs) (energies_shown rows)

pub energy_if : {Z : Type 0} (old new : State) (o : Option AccountId) (p : PeriodId) (b : BandId) (d : Direction) (out : Result (Vec Row Z) Error) → IsStore old.now → IfOk out (λ rows. Shown total_text (energy.params o p b d) old new rows.items)
    → IfOk out (λ rows. length rows.items ≤ 1 → first_amount rows.items ≡ total_in old.now.trees (total.Energy o p b d))
energy_if old new o p b d (Err e) store h = tt
energy_if old new o p b d (Ok rows) store h = λ few.
    let table = old.now.trees 20 in
    let s = seen total_text 20 total_query total_is (energy.params o p b d) old new rows.items store.ours h in
    let same = filter_same (energy.passes o p b d) (energy.at_key o p b d) table (all_weaker IsEnergyRow (λ row. energy.passes o p b d row ≡ energy.at_key o p b d row) (energy.passes_at o p b d) table store.energies.each) in
    let perm : IsPermutation (map (λ r. column r 5 ∷ []) (filter (energy.at_key o p b d) table)) rows.items = subst₂ IsPermutation (energies_shown o p b d (filter (energy.passes o p b d) table) ∙ ap (map (λ r. column r 5 ∷ [])) same) (sym s.2) s.1 in
    one_amount (λ r. column r 5 ∷ []) (λ r. number (column r 5)) (λ r. refl) (filter (energy.at_key o p b d) table) rows.items perm few
    ∙ ap (λ r. unwrap_or (option_map (λ x. number (column x 5)) r) 0) (sym (find_head (energy.at_key o p b d) table))

-- ---- of top-ups
module _ (a : AccountId) where
  payments_shown : (rows : List Row) → map (λ (x : Output). x.1) (map (output (scan_of 13 payment_query)) (map (λ r. payment.params a ∷ r ∷ []) rows)) ≡ map (λ r. column r 2 ∷ []) rows
  payments_shown [] = refl
  payments_shown (r ∷ rows) = ap (λ xs. (column r 2 ∷ []) ∷ xs) (payments_shown rows)

pub payment_if : {Z : Type 0} (old new : State) (a : AccountId) (out : Result (Vec Row Z) Error) → IsStore old.now → IfOk out (λ rows. Shown payment_text (payment.params a) old new rows.items)
    → IfOk out (λ rows. length rows.items ≤ 1 → first_amount rows.items ≡ total_in old.now.trees (total.TopUps a))
payment_if old new a (Err e) store h = tt
payment_if old new a (Ok rows) store h = λ few.
    let table = old.now.trees 13 in
    let s = seen payment_text 13 payment_query payment_is (payment.params a) old new rows.items store.ours h in
    let same = filter_same (payment.passes a) (payment.at_key a) table (all_weaker IsPaymentRow (λ row. payment.passes a row ≡ payment.at_key a row) (payment.passes_at a) table store.payments.each) in
    let perm : IsPermutation (map (λ r. column r 2 ∷ []) (filter (payment.at_key a) table)) rows.items = subst₂ IsPermutation (payments_shown a (filter (payment.passes a) table) ∙ ap (map (λ r. column r 2 ∷ [])) same) (sym s.2) s.1 in
    one_amount (λ r. column r 2 ∷ []) (λ r. number (column r 2)) (λ r. refl) (filter (payment.at_key a) table) rows.items perm few
    ∙ ap (λ r. unwrap_or (option_map (λ x. number (column x 2)) r) 0) (sym (find_head (payment.at_key a) table))
