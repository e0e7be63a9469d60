-- All the flow of a register is all the rises of its neighbours.
use Rattle.std.proofs.Common.{◌≡◌, ℕ, zero, suc, ◌+◌, ◌-◌, ◌<◌, ◌≤◌, Option, Some, None, cond, refl, arith, zero-add, add-one, inl, inr}
use Rattle.std.specs.Prelude.{nat_le}
use Rattle.std.proofs.lemmas.Bool.{le-leb, lt-leb, cases_lt}
use Rattle.pw_flow.specs.Time.{last, next, sum_over}
use Rattle.pw_flow.specs.Flow.{level, pair_flow, flow, flow_between, rise_between, rise_at, rises}
use Rattle.pw_flow.proofs.Level.{level-up, level-start, level-end}
use Rattle.pw_flow.proofs.Points.{LastIs, NextIs, last-tells, next-tells, option-cases, last-is}

-- what a pair has yet to carry from a second on
abbrev pub left_between : Option (ℕ × ℕ) → Option (ℕ × ℕ) → ℕ → ℕ
left_between (Some a) (Some b) t = cond (nat_le a.1 b.1) (b.1 - level a.0 a.1 b.0 b.1 t) 0
left_between (Some a) None t = 0
left_between None b t = 0

-- a point that is there stands at t or before, the next one behind t
abbrev pub Before : Option (ℕ × ℕ) → ℕ → Type 0
Before None t = Unit {0}
Before (Some a) t = a.0 ≤ t

abbrev pub Behind : Option (ℕ × ℕ) → ℕ → Type 0
Behind None t = Unit {0}
Behind (Some b) t = t < b.0

before-last : (p : ℕ → Option ℕ) (t : ℕ) (a : Option (ℕ × ℕ)) → LastIs p t a → Before a t
before-last p t None h = tt
before-last p t (Some a) h = h.early

behind-next : (p : ℕ → Option ℕ) (t n : ℕ) (b : Option (ℕ × ℕ)) → NextIs p t n b → Behind b t
behind-next p t n None h = tt
behind-next p t n (Some b) h = h.late

nothing-left : (a : Option (ℕ × ℕ)) (t : ℕ) → left_between a None t ≡ 0
nothing-left None t = refl
nothing-left (Some a) t = refl

-- one second carries what is then no longer left
left-step : (a b : Option (ℕ × ℕ)) (t : ℕ) → Before a t → Behind b t → flow_between a b t + left_between a b (t + 1) ≡ left_between a b t
unfolding pair_flow
left-step None b t h i = refl
left-step (Some a) None t h i = refl
left-step (Some a) (Some b) t h i =
    elim (cases_lt b.1 a.1) [
      | inl l ↦ rw (lt-leb a.1 b.1 l)
      | inr g ↦ (
          let x : a.0 < b.0 = omega arith in
          let up : level a.0 a.1 b.0 b.1 t ≤ level a.0 a.1 b.0 b.1 (t + 1) = level-up a.0 a.1 b.0 b.1 t (t + 1) x (omega arith) in
          let top : level a.0 a.1 b.0 b.1 (t + 1) ≤ level a.0 a.1 b.0 b.1 b.0 = level-up a.0 a.1 b.0 b.1 (t + 1) b.0 x (omega arith) in
          let e : level a.0 a.1 b.0 b.1 b.0 ≡ b.1 = level-end a.0 a.1 b.0 b.1 x g in
          rw (le-leb a.1 b.1 g) (omega arith))
    ]

-- nothing is left where the pair ends
left-end : (a : Option (ℕ × ℕ)) (m w : ℕ) → Before a m → left_between a (Some (suc m, w)) (suc m) ≡ 0
left-end None m w h = refl
left-end (Some a) m w h =
    elim (cases_lt w a.1) [
      | inl l ↦ rw (lt-leb a.1 w l)
      | inr g ↦ (let e : level a.0 a.1 (suc m) w (suc m) ≡ w = level-end a.0 a.1 (suc m) w (omega arith) g in rw (le-leb a.1 w g, e) (omega arith))
    ]

-- all is left where it begins
left-start : (t w : ℕ) (b : Option (ℕ × ℕ)) → left_between (Some (t, w)) b t ≡ rise_between (Some w) b
left-start t w None = refl
left-start t w (Some b) =
    let e : level t w b.0 b.1 t ≡ w = level-start t w b.0 b.1 in
    elim (cases_lt b.1 w) [
      | inl l ↦ rw (lt-leb w b.1 l) (omega arith)
      | inr g ↦ rw (le-leb w b.1 g, e)
    ]

-- what is left behind the first n seconds
abbrev pub left_over : (ℕ → Option ℕ) → ℕ → ℕ → ℕ
left_over p end zero = 0
left_over p end (suc m) = left_between (last p m) (next p m (end - m)) (suc m)

at-second : (p : ℕ → Option ℕ) (end t : ℕ) → flow p end t + left_over p end (suc t) ≡ left_between (last p t) (next p t (end - t)) t
unfolding flow
at-second p end t =
    let s : flow_between (last p t) (next p t (end - t)) t + left_between (last p t) (next p t (end - t)) (t + 1) ≡ left_between (last p t) (next p t (end - t)) t = left-step (last p t) (next p t (end - t)) t (before-last p t _ (last-tells p t _ refl)) (behind-next p t (end - t) _ (next-tells p t (end - t) _ refl)) in
    rw add-one at s

-- where a point stands, its whole rise is left; where none does, nothing begins
begins : (p : ℕ → Option ℕ) (end t w : ℕ) → p t ≡ Some w → left_between (last p t) (next p t (end - t)) t ≡ rise_at p end t
begins p end t w h =
    let l : last p t ≡ Some (t, w) = last-is p t t w (record { holds = h; early = omega arith; none = λ s a b. absurd (omega arith) }) in
    rw (l, h) (left-start t w (next p t (end - t)))

no-rise : (p : ℕ → Option ℕ) (end t : ℕ) → p t ≡ None → rise_at p end t ≡ 0
no-rise p end t h = rw h

-- at each second: what was left and what begins is what flows and what is left then
one-second : (p : ℕ → Option ℕ) (end t : ℕ) → t < end → left_over p end t + rise_at p end t ≡ flow p end t + left_over p end (suc t)
unfolding last next
one-second p end zero l =
    let s : flow p end 0 + left_over p end 1 ≡ left_between (last p 0) (next p 0 (end - 0)) 0 = at-second p end 0 in
    elim (option-cases (p 0)) [
      | inl e ↦ (
          let n : left_between (last p 0) (next p 0 (end - 0)) 0 ≡ 0 = rw e in
          let z : rise_at p end 0 ≡ 0 = no-rise p end 0 e in
          omega (arith, s))
      | inr w ↦ (let b : left_between (last p 0) (next p 0 (end - 0)) 0 ≡ rise_at p end 0 = begins p end 0 w.0 w.1 in omega (arith, s))
    ]
one-second p end (suc m) l =
    let s : flow p end (suc m) + left_over p end (suc (suc m)) ≡ left_between (last p (suc m)) (next p (suc m) (end - suc m)) (suc m) = at-second p end (suc m) in
    let more : end - m ≡ suc (end - suc m) = omega arith in
    elim (option-cases (p (suc m))) [
      | inl e ↦ (
          let n : left_between (last p (suc m)) (next p (suc m) (end - suc m)) (suc m) ≡ left_over p end (suc m) = rw (more, e) in
          let z : rise_at p end (suc m) ≡ 0 = no-rise p end (suc m) e in
          omega (arith, s))
      | inr w ↦ (
          let b : left_between (last p (suc m)) (next p (suc m) (end - suc m)) (suc m) ≡ rise_at p end (suc m) = begins p end (suc m) w.0 w.1 in
          let z : left_over p end (suc m) ≡ 0 = rw (more, w.1) (left-end (last p m) m w.0 (before-last p m _ (last-tells p m _ refl))) in
          omega (arith, s))
    ]

up-to : (p : ℕ → Option ℕ) (end n : ℕ) → n ≤ end → sum_over (rise_at p end) 0 n ≡ sum_over (flow p end) 0 n + left_over p end n
unfolding sum_over
up-to p end zero l = refl
up-to p end (suc n) l =
    let e : sum_over (rise_at p end) 0 n ≡ sum_over (flow p end) 0 n + left_over p end n = up-to p end n (omega arith) in
    let o : left_over p end n + rise_at p end n ≡ flow p end n + left_over p end (suc n) = one-second p end n (omega arith) in
    let z : 0 + n ≡ n = zero-add n in
    rw z (omega arith)

-- nothing is left at the end
ended : (p : ℕ → Option ℕ) (end : ℕ) → left_over p end end ≡ 0
unfolding next
ended p zero = refl
ended p (suc m) =
    let one : suc m - m ≡ suc 0 = omega arith in
    elim (option-cases (p (suc m))) [
      | inl e ↦ rw (one, e) (nothing-left (last p m) (suc m))
      | inr w ↦ rw (one, w.1) (left-end (last p m) m w.0 (before-last p m _ (last-tells p m _ refl)))
    ]

-- THE LEMMA: all that flows is what neighbours that don't fall rise by
pub flow-whole : (p : ℕ → Option ℕ) (end : ℕ) → sum_over (flow p end) 0 end ≡ rises p end
unfolding rises
flow-whole p end = let e = up-to p end end (omega arith) in let z : left_over p end end ≡ 0 = ended p end in omega (arith, e)
