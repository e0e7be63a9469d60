-- The points of a register over an interval, with a neighbour at both sides: their pairs give the energy of each part.
use Rattle.std.proofs.Common.{◌≡◌, ◌⊎◌, ℕ, suc, ◌+◌, ◌<◌, ◌≤◌, Bool, Option, Some, None, List, [], ◌∷◌, ◌++◌, refl, ap, inl, inr, arith}
use Rattle.std.proofs.lemmas.Bool.{cases_lt}
use Rattle.pw_time.specs.declared.instant.TheConstants.{END_SECOND}
use Rattle.pw_flow.specs.Energy.{cell, register_energy}
use Rattle.pw_flow.specs.Pairs.{Chain, last_of, pairs_sum}
use Rattle.pw_flow.proofs.Kept.{cell-alike}
use Rattle.pw_model.specs.Lists.{IsInOrder}
use Rattle.pw_model.specs.Seconds.{by_second}
use Rattle.pw_shelf.specs.Seconds.{IsBefore, IsBehind, ListsSecondsWithin}
use Rattle.pw_book.specs.inner.Settling.{EndsBefore}
use Rattle.pw_book.specs.Listed.{point_listed}
use Rattle.pw_book.proofs.WindowPairs.{Runs, chain-last, chain-order, last-of_all, last-pushed, no-energy, runs-chain, runs-listed, runs-lower}
use Rattle.pw_months.specs.Window.{Spans, kept_in}
use Rattle.pw_months.proofs.Windows.{pairs-are_enough}
use Rattle.pw_bills.specs.inner.Flows.{Covers}

module _ (told : ℕ → Option ℕ) (x until : ℕ) (rising : x ≤ until) where
  ends-there : (a : ℕ × ℕ) (ps : List (ℕ × ℕ)) (after : Option (ℕ × ℕ)) → Runs told (suc a.0) until ps → IsBehind told until after →
      let qs : List (ℕ × ℕ) = ps ++ point_listed after [] in
      (until + 1 ≤ (last_of a qs).0) ⊎ ((s : ℕ) → (last_of a qs).0 < s → told s ≡ None)
  ends-there a ps None k n = inr (last-of_all told until a ps k n)
  ends-there a ps (Some b) k n =
      let q : (last_of a (ps ++ b ∷ [])).0 ≡ b.0 = ap (λ (p : ℕ × ℕ). p.0) (last-pushed a b ps) in
      let f = n.behind in
      inl (omega (arith, q, f))

  pub covers : (before : Option (ℕ × ℕ)) (within : List (ℕ × ℕ)) (after : Option (ℕ × ℕ)) → IsBefore told x before → ListsSecondsWithin x until told within → IsBehind told until after →
      Covers told x (until + 1) (point_listed before (within ++ point_listed after []))
  covers (Some a) within after b l n =
      let f = b.before in
      let k : Runs told (suc a.0) until within = runs-lower told (suc a.0) x until within (omega (arith, f)) (λ s c d. b.between s (omega (arith, c)) d) (runs-listed told x until within l) in
      record {
        chain = runs-chain told until a within after b.here (omega (arith, f, rising)) k n;
        begins = inl (omega (arith, f));
        ends = ends-there a within after k n;
      }
  covers None (a ∷ ps) after b l n =
      let k = runs-listed told x until (a ∷ ps) l in
      record {
        chain = runs-chain told until a ps after k.2 k.1 k.4 n;
        begins = inr (λ s c. elim (cases_lt s x) [ inl d ↦ b s d | inr d ↦ k.3 s d c ]);
        ends = ends-there a ps after k.4 n;
      }
  covers None [] (Some a) b l n =
      let k = runs-listed told x until [] l in
      let f = n.behind in
      record {
        chain = n.here;
        begins = inr (λ s c. elim (cases_lt s x) [ inl d ↦ b s d | inr d ↦ elim (cases_lt until s) [ inl g ↦ n.between s g c | inr g ↦ k s d g ] ]);
        ends = inl (omega (arith, f));
      }
  covers None [] None b l n =
      let k = runs-listed told x until [] l in
      λ s. elim (cases_lt s x) [ inl d ↦ b s d | inr d ↦ elim (cases_lt until s) [ inl g ↦ n s g | inr g ↦ k s d g ] ]

pub covered-order : (told : ℕ → Option ℕ) (x y : ℕ) (ps : List (ℕ × ℕ)) → Covers told x y ps → IsInOrder by_second ps
covered-order told x y [] h = tt
covered-order told x y (a ∷ ps) h = chain-order told a ps h.chain

-- ---- a part of the interval
part-spanned : (told : ℕ → Option ℕ) (x y u v : ℕ) (a : ℕ × ℕ) (ps : List (ℕ × ℕ)) → x ≤ u → v ≤ y → Spans told x y a ps → Spans told u v a ps
part-spanned told x y u v a ps l m h = record {
  chain = h.chain;
  begins = elim h.begins [ inl b ↦ inl (omega (arith, b, l)) | inr n ↦ inr n ];
  ends = elim h.ends [ inl b ↦ inl (omega (arith, b, m)) | inr n ↦ inr n ];
}

pub covered-energy : (keeps : ℕ → Bool) (told : ℕ → Option ℕ) (x y u v : ℕ) (ps : List (ℕ × ℕ)) → EndsBefore END_SECOND told → x ≤ u → v ≤ y → Covers told x y ps →
    register_energy (kept_in u v keeps) told END_SECOND ≡ pairs_sum (kept_in u v keeps) ps
covered-energy keeps told x y u v [] e l m h = no-energy (kept_in u v keeps) told END_SECOND h
covered-energy keeps told x y u v (a ∷ ps) e l m h =
    let b : ℕ × ℕ = last_of a ps in
    pairs-are_enough keeps told END_SECOND u v a ps (part-spanned told x y u v a ps l m h) (e b.0 b.1 (chain-last told a ps h.chain))

-- ---- where the same seconds are kept
chain-alike : (k l : ℕ → Bool) (end : ℕ) (told : ℕ → Option ℕ) (a : ℕ × ℕ) (ps : List (ℕ × ℕ)) → ((t : ℕ) → t < end → k t ≡ l t) → EndsBefore end told → Chain told a ps →
    pairs_sum k (a ∷ ps) ≡ pairs_sum l (a ∷ ps)
chain-alike k l end told a [] h e c = refl
chain-alike k l end told a (b ∷ ps) h e c =
    let f = e b.0 b.1 c.0.second in
    let here : cell k a b ≡ cell l a b = cell-alike k l a.0 a.1 b.0 b.1 (λ t m n. h t (omega (arith, n, f))) in
    let rest = chain-alike k l end told b ps h e c.1 in
    omega (arith, here, rest)

pub pairs-alike : (k l : ℕ → Bool) (told : ℕ → Option ℕ) (x y : ℕ) (ps : List (ℕ × ℕ)) → ((t : ℕ) → t < END_SECOND → k t ≡ l t) → EndsBefore END_SECOND told → Covers told x y ps →
    pairs_sum k ps ≡ pairs_sum l ps
pairs-alike k l told x y [] h e c = refl
pairs-alike k l told x y (a ∷ ps) h e c = chain-alike k l END_SECOND told a ps h e c.chain
