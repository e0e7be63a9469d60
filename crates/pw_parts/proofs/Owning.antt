-- The owners of a meter, told by a list of its starts.
use Rattle.std.proofs.Common.{◌≡◌, ◌==◌, ℕ, zero, suc, ◌+◌, ◌<◌, true, false, Option, Some, List, [], ◌∷◌, ap, sym, ◌∙◌, inl, inr, arith}
use Rattle.std.proofs.lemmas.Bool.{cases_eq, eq-eqb, ne_eqb}
use Rattle.std.proofs.lemmas.Option.{none-some, same_Some}
use Rattle.pw_flow.proofs.Points.{option-cases, last-same}
use Rattle.pw_tariff.specs.declared.ids.AccountId.{AccountId}
use Rattle.pw_tariff.specs.Owners.{StartsIncrease, start_at, owner_from, owner_by_starts}
use Rattle.pw_model.specs.declared.records.Key.{Key}
use Rattle.pw_model.specs.declared.records.Contents.{Contents}
use Rattle.pw_model.specs.Counting.{Member, start}
use Rattle.pw_model.specs.Energy.{owner_at as owner_told}
use Rattle.pw_model.specs.Lists.{IsInOrder}
use Rattle.pw_model.specs.Seconds.{ListsSeconds, by_second}
use Rattle.pw_parts.proofs.Chart.{less-is}
use Rattle.pw_model.proofs.InOrder.{before-member}

abbrev Start : Type 0
Start = ℕ × Option AccountId

start-back : (xs : List Start) (s : ℕ) (o : Option AccountId) → start_at xs s ≡ Some o → Member (s, o) xs
unfolding start_at
start-back [] s o e = absurd (none-some o e)
start-back (x ∷ xs) s o e = elim (cases_eq x.0 s) [
  | inl i ↦ (let q : x.0 == s ≡ true = eq-eqb x.0 s i in
      let v : Some x.1 ≡ Some o = rw q at e in
      inl (λ k. (sym i k, sym (same_Some x.1 o v) k)))
  | inr d ↦ (let q : x.0 == s ≡ false = ne_eqb x.0 s d in
      let v : start_at xs s ≡ Some o = rw q at e in
      inr (start-back xs s o v))
]

start-there : (xs : List Start) (s : ℕ) (o : Option AccountId) → IsInOrder by_second xs → Member (s, o) xs → start_at xs s ≡ Some o
unfolding start_at
start-there [] s o r m = absurd m
start-there (x ∷ xs) s o r (inl i) =
    let a : x.0 ≡ s = ap (λ (p : Start). p.0) (sym i) in
    let b : x.1 ≡ o = ap (λ (p : Start). p.1) (sym i) in
    rw (eq-eqb x.0 s a) (ap (λ (v : Option AccountId). Some v) b)
start-there (x ∷ xs) s o r (inr m) =
    let l : x.0 < s = less-is x.0 s (before-member by_second x (s, o) xs r.0 m) in
    rw (ne_eqb x.0 s (λ e. absurd (omega (arith, l, e)))) (start-there xs s o r.1 m)

starts-told : (told : ℕ → Option (Option AccountId)) (xs : List Start) → ListsSeconds told xs → (s : ℕ) → start_at xs s ≡ told s
starts-told told xs l s = elim (option-cases (told s)) [
  | inl n ↦ elim (option-cases (start_at xs s)) [
    | inl k ↦ k ∙ sym n
    | inr w ↦ absurd (none-some w.0 (sym n ∙ (l.members (s, w.0)).0 (start-back xs s w.0 w.1)))
  ]
  | inr w ↦ start-there xs s w.0 l.rising ((l.members (s, w.0)).1 w.1) ∙ sym w.1
]

pub owners-told : (at : Key → Contents) (m : ℕ) (xs : List Start) → ListsSeconds (start at m) xs → (t : ℕ) → owner_by_starts xs t ≡ owner_told at m t
unfolding owner_by_starts owner_told
owners-told at m xs l t = ap owner_from (last-same (start_at xs) (start at m) t (λ s k. starts-told (start at m) xs l s))

pub starts-rise : (xs : List Start) → IsInOrder by_second xs → StartsIncrease xs
starts-rise [] r k l = absurd (omega arith)
starts-rise (x ∷ []) r k l = absurd (omega arith)
starts-rise (x ∷ y ∷ xs) r zero l = less-is x.0 y.0 r.0.0
starts-rise (x ∷ y ∷ xs) r (suc k) l = let e : suc k + 1 ≡ suc (k + 1) = omega arith in rw e (starts-rise (y ∷ xs) r.1 k (omega (arith, l)))
