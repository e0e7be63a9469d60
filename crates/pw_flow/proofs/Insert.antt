-- One more point: what changes is the pair that it stands in.
use Rattle.std.proofs.Common.{◌≡◌, ℕ, ◌+◌, ◌-◌, ◌<◌, ◌≤◌, Option, Some, None, Bool, cond, refl, sym, ◌∙◌, ap, arith, zero-add, inl, inr}
use Rattle.std.proofs.lemmas.Bool.{cases_eq}
use Rattle.pw_flow.specs.Time.{IsLast, last, next, sum_over}
use Rattle.pw_flow.specs.Flow.{flow, flow_between}
use Rattle.pw_flow.specs.Energy.{kept, register_energy, cell}
use Rattle.pw_flow.specs.Pairs.{StandAround}
use Rattle.pw_flow.specs.Pairs.{IsMore}
use Rattle.pw_flow.specs.Pairs.{cell_between}
use Rattle.pw_flow.proofs.Sums.{sum-split, sum-same, sum-none, kept-nothing}
use Rattle.pw_flow.proofs.Points.{LastIs, NextIs, last-tells, next-tells, last-told, last-is, next-is, last-same, last-same_from, next-same, next-same_to, last-steady, next-steady}

-- where the span of a pair begins and ends
abbrev pub start_of : Option (ℕ × ℕ) → ℕ
start_of (Some a) = a.0
start_of None = 0

abbrev pub end_of : ℕ → Option (ℕ × ℕ) → ℕ
end_of end (Some b) = b.0
end_of end None = end

-- what two functions that agree over a span keep of it
pub kept-same : (k : ℕ → Bool) (f g : ℕ → ℕ) (x n : ℕ) → ((t : ℕ) → x ≤ t → t < x + n → f t ≡ g t) → sum_over (kept k f) x n ≡ sum_over (kept k g) x n
kept-same k f g x n h = sum-same (kept k f) (kept k g) x n (λ t a b. ap (λ v. cond (k t) v 0) (h t a b))

-- the sum over the span of a pair is the pair's cell
pub span-cell : (k : ℕ → Bool) (end : ℕ) (below above : Option (ℕ × ℕ)) → sum_over (kept k (flow_between below above)) (start_of below) (end_of end above - start_of below) ≡ cell_between k below above
unfolding cell
span-cell k end (Some a) (Some b) = refl
span-cell k end (Some a) None = sum-none _ _ _ (λ t l m. kept-nothing (k t) 0 refl)
span-cell k end None above = sum-none _ _ _ (λ t l m. kept-nothing (k t) 0 refl)

-- nothing stands between the latest and z
none-below : (p : ℕ → Option ℕ) (z t s : ℕ) (below : Option (ℕ × ℕ)) → LastIs p z below → start_of below ≤ t → t < s → s ≤ z → p s ≡ None
none-below p z t s None h a b c = h s c
none-below p z t s (Some x) h a b c = h.none s (omega arith) c

-- nor between z and the next
none-above : (p : ℕ → Option ℕ) (end z s : ℕ) (above : Option (ℕ × ℕ)) → z < end → NextIs p z (end - z) above → z < s → s < end_of end above → p s ≡ None
none-above p end z s None i h a b = h s a (omega arith)
none-above p end z s (Some y) i h a b = h.none s a b

-- the latest before z stands before it
start-below : (p : ℕ → Option ℕ) (z : ℕ) (x : ℕ) (w : ℕ) → p z ≡ None → IsLast p z x w → x < z
start-below p z x w f h =
    elim (cases_eq x z) [ inl e ↦ (let b : p z ≡ Some w = rw e at h.holds in absurd (cc)) | inr d ↦ omega (arith, h.early) ]

-- the span of a latest is at most z, that of a next begins behind it
pub start-le : (p : ℕ → Option ℕ) (z : ℕ) (below : Option (ℕ × ℕ)) → LastIs p z below → start_of below ≤ z
start-le p z None h = omega arith
start-le p z (Some a) h = h.early

pub end-gt : (p : ℕ → Option ℕ) (end z : ℕ) (above : Option (ℕ × ℕ)) → z < end → NextIs p z (end - z) above → (z < end_of end above) × (end_of end above ≤ end)
end-gt p end z None i h = (i, omega arith)
end-gt p end z (Some b) i h = (h.late, omega (arith, h.early))

-- ---- the four spans
flow-before : (p q : ℕ → Option ℕ) (end z u t : ℕ) (below : Option (ℕ × ℕ)) → IsMore p q z u → LastIs p z below → t < start_of below → flow p end t ≡ flow q end t
unfolding flow
flow-before p q end z u t None m h l = absurd (omega arith)
flow-before p q end z u t (Some a) m h l =
    let b : a.0 < z = start-below p z a.0 a.1 m.free h in
    let e : last p t ≡ last q t = last-same p q t (λ s c. m.same s (λ i. omega arith)) in
    let n : next p t (end - t) ≡ next q t (end - t) = next-same_to p q a.0 t (end - t) a.1 h.holds l (λ s c. m.same s (λ i. omega arith)) in
    rw (e, n)

flow-behind : (p q : ℕ → Option ℕ) (end z u t : ℕ) (above : Option (ℕ × ℕ)) → IsMore p q z u → NextIs p z (end - z) above → end_of end above ≤ t → t < end → flow p end t ≡ flow q end t
unfolding flow
flow-behind p q end z u t None m h l g = absurd (omega arith)
flow-behind p q end z u t (Some b) m h l g =
    let a : z < b.0 = h.late in
    let e : last p t ≡ last q t = last-same_from p q b.0 t b.1 h.holds l (λ s c. m.same s (λ i. omega arith)) in
    let n : next p t (end - t) ≡ next q t (end - t) = next-same p q t (end - t) (λ s c. m.same s (λ i. omega arith)) in
    rw (e, n)

-- in the gap below z
record InLow (p q : ℕ → Option ℕ) (end z u t : ℕ) (below above : Option (ℕ × ℕ)) : Type 0 where
  old : flow p end t ≡ flow_between below above t
  new : flow q end t ≡ flow_between below (Some (z, u)) t

flow-low : (p q : ℕ → Option ℕ) (end z u t : ℕ) (below above : Option (ℕ × ℕ)) → IsMore p q z u → LastIs p z below → next p z (end - z) ≡ above → z < end → start_of below ≤ t → t < z → InLow p q end z u t below above
unfolding flow
flow-low p q end z u t below above m h g i a b =
    let clear : (s : ℕ) → t < s → s ≤ z → p s ≡ None = λ s c d. none-below p z t s below h a c d in
    let l : last p t ≡ below = sym (last-steady p t z (omega arith) clear) ∙ last-told p z below h in
    let l2 : last q t ≡ below = sym (last-same p q t (λ s c. m.same s (λ j. omega arith))) ∙ l in
    let e1 : (z - t) + (end - z) ≡ end - t = omega arith in
    let e2 : t + (z - t) ≡ z = omega arith in
    let st : next p t ((z - t) + (end - z)) ≡ next p (t + (z - t)) (end - z) = next-steady p t (z - t) (end - z) (λ s c d. clear s c (omega arith)) in
    let n : next p t (end - t) ≡ above = rw (e1, e2) at st ∙ g in
    let n2 : next q t (end - t) ≡ Some (z, u) = next-is q t (end - t) z u (record { holds = m.here; late = b; early = omega arith; none = λ s c d. sym (m.same s (λ j. omega arith)) ∙ clear s c (omega arith) }) in
    record { old = rw (l, n); new = rw (l2, n2) }

record InHigh (p q : ℕ → Option ℕ) (end z u t : ℕ) (below above : Option (ℕ × ℕ)) : Type 0 where
  old : flow p end t ≡ flow_between below above t
  new : flow q end t ≡ flow_between (Some (z, u)) above t

flow-high : (p q : ℕ → Option ℕ) (end z u t : ℕ) (below above : Option (ℕ × ℕ)) → IsMore p q z u → last p z ≡ below → NextIs p z (end - z) above → next p z (end - z) ≡ above → z < end → z ≤ t → t < end_of end above → end_of end above ≤ end → InHigh p q end z u t below above
unfolding flow
flow-high p q end z u t below above m g h k i a b j =
    let clear : (s : ℕ) → z < s → s ≤ t → p s ≡ None = λ s c d. none-above p end z s above i h c (omega arith) in
    let l : last p t ≡ below = last-steady p z t a clear ∙ g in
    let l2 : last q t ≡ Some (z, u) = last-is q t z u (record { holds = m.here; early = a; none = λ s c d. sym (m.same s (λ e. omega arith)) ∙ clear s c d }) in
    let e1 : (t - z) + (end - t) ≡ end - z = omega arith in
    let e2 : z + (t - z) ≡ t = omega arith in
    let st : next p z ((t - z) + (end - t)) ≡ next p (z + (t - z)) (end - t) = next-steady p z (t - z) (end - t) (λ s c d. clear s c (omega arith)) in
    let n : next p t (end - t) ≡ above = sym (rw (e1, e2) at st) ∙ k in
    let n2 : next q t (end - t) ≡ above = sym (next-same p q t (end - t) (λ s c. m.same s (λ e. omega arith))) ∙ n in
    record { old = rw (l, n); new = rw (l2, n2) }

-- a sum over four spans
pub four-spans : (f : ℕ → ℕ) (a z b end : ℕ) → a ≤ z → z ≤ b → b ≤ end → sum_over f 0 end ≡ sum_over f 0 a + (sum_over f a (z - a) + sum_over f z (b - z)) + sum_over f b (end - b)
four-spans f a z b end h i j =
    let e1 : a + (end - a) ≡ end = omega arith in
    let e2 : (z - a) + (end - z) ≡ end - a = omega arith in
    let e3 : (b - z) + (end - b) ≡ end - z = omega arith in
    let e4 : a + (z - a) ≡ z = omega arith in
    let e5 : z + (b - z) ≡ b = omega arith in
    let s1 : sum_over f 0 end ≡ sum_over f 0 a + sum_over f a (end - a) = rw (e1, zero-add) at (sum-split f 0 a (end - a)) in
    let s2 : sum_over f a (end - a) ≡ sum_over f a (z - a) + sum_over f z (end - z) = rw (e2, e4) at (sum-split f a (z - a) (end - z)) in
    let s3 : sum_over f z (end - z) ≡ sum_over f z (b - z) + sum_over f b (end - b) = rw (e3, e5) at (sum-split f z (b - z) (end - b)) in
    omega arith

-- THE LEMMA: one more point takes the pair that it stands in away, and brings two
pub energy-more : (k : ℕ → Bool) (p q : ℕ → Option ℕ) (end z u : ℕ) (below above : Option (ℕ × ℕ)) → IsMore p q z u → StandAround p end z below above →
    register_energy k q end + cell_between k below above ≡ register_energy k p end + (cell_between k below (Some (z, u)) + cell_between k (Some (z, u)) above)
unfolding register_energy
energy-more k p q end z u below above m g =
    let L : LastIs p z below = last-tells p z below g.last_is in
    let N : NextIs p z (end - z) above = next-tells p z (end - z) above g.next_is in
    let a = start_of below in
    let b = end_of end above in
    let i : a ≤ z = start-le p z below L in
    let j : (z < b) × (b ≤ end) = end-gt p end z above g.inside N in
    let F : ℕ → ℕ = kept k (flow p end) in
    let G : ℕ → ℕ = kept k (flow q end) in
    let sp : sum_over F 0 end ≡ sum_over F 0 a + (sum_over F a (z - a) + sum_over F z (b - z)) + sum_over F b (end - b) = four-spans F a z b end i (omega arith) j.1 in
    let sq : sum_over G 0 end ≡ sum_over G 0 a + (sum_over G a (z - a) + sum_over G z (b - z)) + sum_over G b (end - b) = four-spans G a z b end i (omega arith) j.1 in
    let s1 : sum_over F 0 a ≡ sum_over G 0 a = kept-same k (flow p end) (flow q end) 0 a (λ t c d. flow-before p q end z u t below m L (omega arith)) in
    let s4 : sum_over F b (end - b) ≡ sum_over G b (end - b) = kept-same k (flow p end) (flow q end) b (end - b) (λ t c d. flow-behind p q end z u t above m N c (omega arith)) in
    let lowp : sum_over F a (z - a) ≡ sum_over (kept k (flow_between below above)) a (z - a) = kept-same k (flow p end) (flow_between below above) a (z - a) (λ t c d. (flow-low p q end z u t below above m L g.next_is g.inside c (omega arith)).old) in
    let highp : sum_over F z (b - z) ≡ sum_over (kept k (flow_between below above)) z (b - z) = kept-same k (flow p end) (flow_between below above) z (b - z) (λ t c d. (flow-high p q end z u t below above m g.last_is N g.next_is g.inside c (omega arith) j.1).old) in
    let lowq : sum_over G a (z - a) ≡ sum_over (kept k (flow_between below (Some (z, u)))) a (z - a) = kept-same k (flow q end) (flow_between below (Some (z, u))) a (z - a) (λ t c d. (flow-low p q end z u t below above m L g.next_is g.inside c (omega arith)).new) in
    let highq : sum_over G z (b - z) ≡ sum_over (kept k (flow_between (Some (z, u)) above)) z (b - z) = kept-same k (flow q end) (flow_between (Some (z, u)) above) z (b - z) (λ t c d. (flow-high p q end z u t below above m g.last_is N g.next_is g.inside c (omega arith) j.1).new) in
    let e1 : (z - a) + (b - z) ≡ b - a = omega arith in
    let e2 : a + (z - a) ≡ z = omega arith in
    let whole : sum_over (kept k (flow_between below above)) a (b - a) ≡ sum_over (kept k (flow_between below above)) a (z - a) + sum_over (kept k (flow_between below above)) z (b - z) = rw (e1, e2) at (sum-split (kept k (flow_between below above)) a (z - a) (b - z)) in
    let c1 : sum_over (kept k (flow_between below above)) a (b - a) ≡ cell_between k below above = span-cell k end below above in
    let c2 : sum_over (kept k (flow_between below (Some (z, u)))) a (z - a) ≡ cell_between k below (Some (z, u)) = span-cell k end below (Some (z, u)) in
    let c3 : sum_over (kept k (flow_between (Some (z, u)) above)) z (b - z) ≡ cell_between k (Some (z, u)) above = span-cell k end (Some (z, u)) above in
    omega arith
