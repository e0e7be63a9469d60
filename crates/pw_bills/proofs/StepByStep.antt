-- What is gathered step by step.
use Rattle.std.proofs.Common.{◌≡◌, ℕ, zero, suc, ◌+◌, ◌<◌, true, false, List, length, Result, OnOk, refl, sym, subst, inl, inr, arith}
use Rattle.std.proofs.lemmas.Result.{on_ok_weaker}
use Rattle.pw_obis.specs.declared.reference.Register.{Register}
use Rattle.pw_tariff.specs.Office.{counts_at, register_place}
use Rattle.pw_bills.specs.inner.Gathering.{AreNamed, Pass, IsGathered, IsOfAccount, IsSoundPass, MeterAdds, MeterStep, RegisterStep, RegistersAdd, Steps}
use Rattle.pw_bills.specs.inner.Naming.{OwnerStart}

module _ {T : Type 0} (step : ℕ → T → T → Type 0) where
  pub steps-none : (old : T) → Steps step 0 old old
  unfolding Steps
  steps-none old = refl

  pub steps-more : (n : ℕ) (old mid new : T) → Steps step n old mid → step n mid new → Steps step (n + 1) old new
  unfolding Steps
  steps-more n old mid new h s =
      let e : suc n ≡ n + 1 = omega arith in
      let P : ℕ → Type 0 = λ k. Steps step k old new in
      subst P e (mid, h, s)

  -- what each step keeps, they all keep
  pub steps-keep : (P : ℕ → T → Type 0) (n : ℕ) (old new : T) → ((i : ℕ) (mid next : T) → i < n → P i mid → step i mid next → P (i + 1) next) → P 0 old → Steps step n old new → P n new
  unfolding Steps
  steps-keep P zero old new f p h = subst (P 0) (sym h) p
  steps-keep P (suc n) old new f p h =
      let e : n + 1 ≡ suc n = omega arith in
      let Q : ℕ → Type 0 = λ k. P k new in
      subst Q e (f n h.0 new (omega arith) (steps-keep P n old h.0 (λ i mid next l q s. f i mid next (omega (arith, l)) q s) p h.1) h.2)

-- ---- meters and their registers
module _ {T : Type 0} (adds : Pass → ℕ → Register → T → T → Type 0) (q : Pass) (P : ℕ → ℕ → T → Type 0)
    (one : (m : ℕ) (r : Register) (mid next : T) → m < length q.file.meters → IsOfAccount q m → counts_at q.file m r ≡ true → adds q m r mid next → P m (register_place r) mid → P m (register_place r + 1) next)
    (none : (m : ℕ) (r : Register) (mid : T) → counts_at q.file m r ≡ false → P m (register_place r) mid → P m (register_place r + 1) mid)
    (over : (m : ℕ) (mid : T) → P m 6 mid → P (m + 1) 0 mid)
    (left : (m : ℕ) (mid : T) → ¬ (IsOfAccount q m) → P m 0 mid → P (m + 1) 0 mid) where
  register-kept : (m : ℕ) → m < length q.file.meters → IsOfAccount q m → (i : ℕ) (mid next : T) → i < 6 → P m i mid → RegisterStep adds q m i mid next → P m (i + 1) next
  register-kept m l o i mid next b h s =
      let r : Register = s.0 in
      let Q : ℕ → Type 0 = λ k. P m k mid in
      let R : ℕ → Type 0 = λ k. P m (k + 1) next in
      let here : P m (register_place r) mid = subst Q (sym s.1) h in
      subst R s.1 (elim s.2 [
        | inl a ↦ one m r mid next l o a.0 a.1 here
        | inr e ↦ subst (P m (register_place r + 1)) (sym e.1) (none m r mid e.0 here)
      ])

  meter-kept : (m : ℕ) (mid next : T) → m < length q.file.meters → P m 0 mid → MeterStep adds q m mid next → P (m + 1) 0 next
  meter-kept m mid next l h (inl s) = over m next (steps-keep (RegisterStep adds q m) (P m) 6 mid next (register-kept m l s.0) h s.1)
  meter-kept m mid next l h (inr s) = subst (P (m + 1) 0) (sym s.1) (left m mid s.0 h)

  pub gathered-keep : (old new : T) → P 0 0 old → IsGathered adds q old new → P (length q.file.meters) 0 new
  gathered-keep old new h g = steps-keep (MeterStep adds q) (λ m x. P m 0 x) (length q.file.meters) old new meter-kept h g.steps

-- what the registers of the account's meter add, the meter does
pub meter-adds : {T E : Type 0} (answer : Result Unit E) (adds : Pass → ℕ → Register → T → T → Type 0) (q : Pass) (m : ℕ) (owners : List OwnerStart) (old new : T) → (IsSoundPass q → IsOfAccount q m × AreNamed q m owners) →
    OnOk answer (RegistersAdd adds q m owners old new) → OnOk answer (MeterAdds adds q m old new)
meter-adds answer adds q m owners old new o h = on_ok_weaker answer (λ s sound. inl ((o sound).0, s sound (o sound).1)) h
