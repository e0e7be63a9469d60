-- The orders of a store in memory tell the keys of its points, starts and totals apart, as the model's tests do.
use Rattle.std.proofs.Common.{◌≡◌, ℕ, refl, sym, ap, ◌∙◌}
use Rattle.std.specs.Cmp.{IsTotalOrder}
use Rattle.std.specs.Ordering.{is_eq, nat_cmp, ordering_then}
use Rattle.std.specs.declared.cmp.Ordering.{Ordering}
use Rattle.std.specs.declared.cmp.Ordering.TheVariants.{Less, Equal, Greater}
use Rattle.std.proofs.lemmas.Cmp.{nat_cmp_total, on_total, then_total, tied_itself}
use Rattle.pw_obis.specs.declared.reference.Register.{Register}
use Rattle.pw_obis.specs.contracts.reference.RegisterOrd.TheImpl as register
use Rattle.pw_obis.specs.contracts.reference.RegisterOrd.TheImpl.Laws as register_laws
use Rattle.pw_tariff.specs.declared.ids.MeterId.{MeterId}
use Rattle.pw_model.specs.declared.records.Key.TheVariants as key
use Rattle.pw_model.specs.contracts.records.KeyOrd.TheImpl.Laws as key_laws
use Rattle.pw_model.specs.Counting.{assignment_key, reading_key}
use Rattle.pw_model.specs.Same.{same_key}
use Rattle.pw_model.proofs.Alike.{keys-alike}
use Rattle.pw_shelf.specs.Orders.{point_order, start_order}
use Rattle.pw_shelf.specs.Standing.{meter_id}
use Rattle.pw_shelf.proofs.AtKey.{key_exact}

then-apart : (o p q : Ordering) → ordering_then (ordering_then o p) q ≡ ordering_then o (ordering_then p q)
then-apart Less p q = refl
then-apart Equal p q = refl
then-apart Greater p q = refl

-- ---- the model's tests
pub point-tested : (m : ℕ) (r : Register) (t n : ℕ) (s : Register) (u : ℕ) →
    is_eq (point_order (meter_id m, r, t) (meter_id n, s, u)) ≡ same_key (reading_key m r t) (reading_key n s u)
point-tested m r t n s u =
    ap is_eq (then-apart (nat_cmp m n) (register.ghosts.cmp r s) (nat_cmp t u))
    ∙ sym (key_laws.matches_eq-law (reading_key m r t) (reading_key n s u))
    ∙ keys-alike (reading_key m r t) (reading_key n s u)

pub start-tested : (m t n u : ℕ) → is_eq (start_order (meter_id m, t) (meter_id n, u)) ≡ same_key (assignment_key m t)
    (assignment_key n u)
start-tested m t n u = sym (key_laws.matches_eq-law (assignment_key m t) (assignment_key n u))
    ∙ keys-alike (assignment_key m t) (assignment_key n u)

-- ---- the orders' laws
-- by meter and register
abbrev pub register_order : MeterId × Register × ℕ → MeterId × Register × ℕ → Ordering
register_order a b = ordering_then (nat_cmp a.0.0 b.0.0) (register.ghosts.cmp a.1 b.1)

registers-total : IsTotalOrder register_order
registers-total = then_total (on_total (λ (k : MeterId × Register × ℕ). k.0.0) nat_cmp_total)
    (on_total (λ (k : MeterId × Register × ℕ). k.1) register_laws.total-law)

pub points-total : IsTotalOrder point_order
points-total = then_total registers-total (on_total (λ (k : MeterId × Register × ℕ). k.2) nat_cmp_total)

pub starts-total : IsTotalOrder start_order
starts-total = then_total (on_total (λ (k : MeterId × ℕ). k.0.0) nat_cmp_total)
    (on_total (λ (k : MeterId × ℕ). k.1) nat_cmp_total)

pub points-exact : (a b : MeterId × Register × ℕ) → point_order a b ≡ Equal → a ≡ b
points-exact a b h =
    let e : key.Reading a.0 a.1 a.2 ≡ key.Reading b.0 b.1 b.2 =
    key_exact (key.Reading a.0 a.1 a.2) (key.Reading b.0 b.1 b.2)
    (sym (then-apart (nat_cmp a.0.0 b.0.0) (register.ghosts.cmp a.1 b.1) (nat_cmp a.2 b.2)) ∙ h) in
    let m : a.0 ≡ b.0 = cc in
    let r : a.1 ≡ b.1 = cc in
    let t : a.2 ≡ b.2 = cc in
    λ i. (m i, r i, t i)

-- points of one register stand by their seconds
pub register-seconds : (m : MeterId) (r : Register) (s t : ℕ) → point_order (m, r, s) (m, r, t) ≡ nat_cmp s t
register-seconds m r s t = ap (λ (o : Ordering). ordering_then o (nat_cmp s t)) (tied_itself registers-total (m, r, 0))

pub one-register : (a b : MeterId × Register × ℕ) → register_order a b ≡ Equal → (a.0 ≡ b.0) × (a.1 ≡ b.1)
one-register a b h =
    let tied : nat_cmp a.2 a.2 ≡ Equal = tied_itself nat_cmp_total a.2 in
    let e : a ≡ (b.0, b.1, a.2) = points-exact a (b.0, b.1, a.2)
    (ap (λ (o : Ordering). ordering_then o (nat_cmp a.2 a.2)) h ∙ tied) in
    (ap (λ (k : MeterId × Register × ℕ). k.0) e, ap (λ (k : MeterId × Register × ℕ). k.1) e)

pub starts-exact : (a b : MeterId × ℕ) → start_order a b ≡ Equal → a ≡ b
starts-exact a b h =
    let e : key.Assignment a.0 a.1 ≡ key.Assignment b.0 b.1 =
    key_exact (key.Assignment a.0 a.1) (key.Assignment b.0 b.1) h in
    let m : a.0 ≡ b.0 = cc in
    let t : a.1 ≡ b.1 = cc in
    λ i. (m i, t i)

-- starts of one meter stand by their seconds
pub meter-seconds : (m : MeterId) (s t : ℕ) → start_order (m, s) (m, t) ≡ nat_cmp s t
meter-seconds m s t = ap (λ (o : Ordering). ordering_then o (nat_cmp s t)) (tied_itself nat_cmp_total m.0)
