-- The flow of a second is that of the neighbours round it.
use Rattle.std.proofs.Common.{◌≡◌, ℕ, ◌-◌, ◌<◌, ◌≤◌, Option, Some, None, refl, ◌∙◌, arith, inl, inr}
use Rattle.std.proofs.lemmas.Bool.{cases_lt}
use Rattle.pw_flow.specs.Time.{last, next, sum_over}
use Rattle.pw_flow.specs.Flow.{AreNeighbours, IsSpanned, pair_flow, flow, flow_between}
use Rattle.pw_flow.specs.Laws.{FlowIsLevelRise, FlowsAddUp}
use Rattle.pw_flow.specs.Changes.{NeighboursAreFound}
use Rattle.pw_flow.proofs.Sums.{sum-same}
use Rattle.pw_flow.proofs.Level.{level-up, pair_flow-is, pair_flow-fall, pieces-add, pair-adds}
use Rattle.pw_flow.proofs.Points.{NextIs, next-tells, last-is, last-none, last-cases, next-is, next-none, next-cases}

-- between neighbours the first is the latest and the second the next
pub flow-spanned : (p : ℕ → Option ℕ) (end t x w y v : ℕ) → IsSpanned p end t x w y v → flow p end t ≡ pair_flow (x, w) (y, v) t
unfolding flow
flow-spanned p end t x w y v h =
    let n = h.neighbours in
    let f : last p t ≡ Some (x, w) = last-is p t x w (record { holds = n.first; early = h.begun; none = λ s a b. n.between s a (omega arith) }) in
    let g : next p t (end - t) ≡ Some (y, v) = next-is p t (end - t) y v (record { holds = n.second; late = h.under_way; early = omega arith; none = λ s a b. n.between s (omega arith) b }) in
    rw (f, g)

-- the second of two neighbours is what `next` finds behind the first
pub next-neighbour : (p : ℕ → Option ℕ) (end x w y v : ℕ) → AreNeighbours p x w y v → y ≤ end → next p x (end - x) ≡ Some (y, v)
next-neighbour p end x w y v n h = next-is p x (end - x) y v (record { holds = n.second; late = n.earlier; early = omega (arith, n.earlier); none = λ s a b. n.between s a b })

-- and what it finds there is its neighbour
pub neighbour-next : (p : ℕ → Option ℕ) (end x w y v : ℕ) → p x ≡ Some w → next p x (end - x) ≡ Some (y, v) → AreNeighbours p x w y v
neighbour-next p end x w y v h e =
    let n : NextIs p x (end - x) (Some (y, v)) = next-tells p x (end - x) (Some (y, v)) e in
    record { earlier = n.late; first = h; second = n.holds; between = n.none }

pub neighbours-found : NeighboursAreFound
neighbours-found p end x w y v = record {
  found = next-neighbour p end x w y v;
  neighbours = neighbour-next p end x w y v;
  seen = λ e. let n : NextIs p x (end - x) (Some (y, v)) = next-tells p x (end - x) (Some (y, v)) e in omega (arith, n.late, n.early);
}

flow-nothing : (a : Option (ℕ × ℕ)) (t : ℕ) → flow_between a None t ≡ 0
flow-nothing None t = refl
flow-nothing (Some a) t = refl

-- where no neighbours stand round it, a second carries nothing
pub flow-unspanned : (p : ℕ → Option ℕ) (end t : ℕ) → ((x w y v : ℕ) → IsSpanned p end t x w y v → ⊥) → flow p end t ≡ 0
unfolding flow
flow-unspanned p end t h =
    elim (last-cases p t) [
      | inl n ↦ rw (last-none p t n)
      | inr f ↦ elim (next-cases p t (end - t)) [
        | inl m ↦ rw (next-none p t (end - t) m) (flow-nothing (last p t) t)
        | inr g ↦ absurd (h f.0 f.1 g.0 g.1 (record {
          neighbours = record {
            earlier = omega (arith, f.2.early, g.2.late);
            first = f.2.holds;
            second = g.2.holds;
            between = λ s a b. elim (cases_lt t s) [ inl l ↦ g.2.none s l b | inr l ↦ f.2.none s a l ];
          };
          seen = omega (arith, g.2.early, g.2.late);
          begun = f.2.early;
          under_way = g.2.late;
        }))
      ]
    ]

pub flow-rises : FlowIsLevelRise
flow-rises p end t = record {
  rising = λ x w y v h i. flow-spanned p end t x w y v h ∙ pair_flow-is x w y v t i;
  falling = λ x w y v h i. flow-spanned p end t x w y v h ∙ pair_flow-fall x w y v t i;
  unspanned = flow-unspanned p end t;
}

-- over a piece of the span the flow is that of the pair
flow-piece : (p : ℕ → Option ℕ) (end x w y v a b : ℕ) → AreNeighbours p x w y v → y ≤ end → x ≤ a → a ≤ b → b ≤ y → sum_over (flow p end) a (b - a) ≡ sum_over (pair_flow (x, w) (y, v)) a (b - a)
flow-piece p end x w y v a b n h i j k =
    sum-same _ _ a (b - a) (λ t c d. flow-spanned p end t x w y v (record { neighbours = n; seen = h; begun = omega arith; under_way = omega arith }))

pub pieces-of : FlowsAddUp
pieces-of p end x w y v n h i = record {
  rising = λ a b j. level-up x w y v a b n.earlier j;
  piece = λ a b j k l. flow-piece p end x w y v a b n h j k l ∙ pieces-add x w y v a b n.earlier i k;
  whole = let l : x < y = n.earlier in flow-piece p end x w y v x y n h (omega arith) (omega arith) (omega arith) ∙ pair-adds x w y v l i;
}
