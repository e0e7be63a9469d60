-- Totals that change one after the other.
use Rattle.std.proofs.Common.{◌≡◌, ℕ, ◌+◌, ◌<◌, ◌≤◌, ◌⊎◌, Bool, IsTrue, true, cond, Option, Some, None, refl, ap, sym, subst, ◌∙◌, arith, inl, inr, ◌↔◌}
use Rattle.pw_tariff.specs.declared.ids.AccountId.{AccountId}
use Rattle.pw_tariff.specs.declared.ids.BandId.{BandId}
use Rattle.pw_tariff.specs.declared.ids.PeriodId.{PeriodId}
use Rattle.pw_tariff.specs.declared.ids.Direction.{Direction}
use Rattle.pw_tariff.specs.declared.ids.Direction.TheVariants.{Import, Export}
use Rattle.pw_tariff.specs.Office.{OfficeRules}
use Rattle.pw_model.specs.declared.records.TotalKey.{TotalKey}
use Rattle.pw_model.specs.declared.records.TotalKey.TheVariants.{Energy, TopUps}
use Rattle.pw_model.specs.Office.{HasOwner}
use Rattle.pw_model.specs.Shelf.{ShelfContent}
use Rattle.pw_model.specs.Same.{same_total}
use Rattle.pw_shelf.specs.Changes.{with_total}
use Rattle.pw_book.specs.inner.Moves.{MovesTotals, InDirection, OfOwner, OfOwners, most_total}
use Rattle.pw_model.proofs.TotalKeys.{same_total-decides, total-apart}

-- none is changed
pub moves-none : (these : TotalKey → Type 0) (more less : TotalKey → ℕ) (c d : ShelfContent) → d ≡ c → ((k : TotalKey) → these k → more k ≡ less k) → MovesTotals these more less c d
moves-none these more less c d q e =
    let P : ShelfContent → Type 0 = λ x. MovesTotals these more less c x in
    subst P (sym q) (record {
      records = refl;
      point = refl;
      start = refl;
      here = λ k t n s b. (let h = e k t in omega (arith, h, s));
      elsewhere = λ k t. refl;
    })

-- one is
pub moves-one : (key : TotalKey) (more less amount total : ℕ) (c d e : ShelfContent) → d ≡ c → e ≡ with_total d key amount → total ≡ c.total key →
    ((n : ℕ) → total + more ≡ n + less → n ≤ most_total → amount ≡ n) → MovesTotals (λ k. k ≡ key) (λ k. more) (λ k. less) c e
moves-one key more less amount total c d e q w t s =
    let P : ShelfContent → Type 0 = λ x. MovesTotals (λ k. k ≡ key) (λ k. more) (λ k. less) c x in
    let v : e ≡ with_total c key amount = w ∙ ap (λ (x : ShelfContent). with_total x key amount) q in
    subst P (sym v) (record {
      records = refl;
      point = refl;
      start = refl;
      here = λ k i n h b. (
          let same : same_total key k ≡ true = (same_total-decides key k).1 (sym i) in
          let old : c.total k ≡ total = ap (λ x. c.total x) i ∙ sym t in
          ap (λ z. cond z amount (c.total k)) same ∙ s n (omega (arith, h, old)) b);
      elsewhere = λ k i. ap (λ z. cond z amount (c.total k)) (total-apart key k (λ x. i (sym x)));
    })

-- some, and then others
pub moves-then : (these those : TotalKey → Type 0) (more less : TotalKey → ℕ) (c d e : ShelfContent) → ((k : TotalKey) → these k → those k → ⊥) →
    MovesTotals these more less c d → MovesTotals those more less d e → MovesTotals (λ k. these k ⊎ those k) more less c e
moves-then these those more less c d e apart f g = record {
  records = g.records ∙ f.records;
  point = g.point ∙ f.point;
  start = g.start ∙ f.start;
  here = λ k t n h b. elim t [
    | inl i ↦ g.elsewhere k (apart k i) ∙ f.here k i n h b
    | inr j ↦ (let s : d.total k ≡ c.total k = f.elsewhere k (λ i. apart k i j) in g.here k j n (omega (arith, h, s)) b)
  ];
  elsewhere = λ k t. g.elsewhere k (λ j. t (inr j)) ∙ f.elsewhere k (λ i. t (inl i));
}

-- the same ones, told otherwise
pub moves-told : (these those : TotalKey → Type 0) (more less : TotalKey → ℕ) (c d : ShelfContent) → ((k : TotalKey) → these k ↔ those k) → MovesTotals these more less c d → MovesTotals those more less c d
moves-told these those more less c d t f = record {
  records = f.records;
  point = f.point;
  start = f.start;
  here = λ k i. f.here k ((t k).1 i);
  elsewhere = λ k i. f.elsewhere k (λ j. i ((t k).0 j));
}

-- with the amounts at the key that is meant
pub moves-at : (key : TotalKey) (more less : TotalKey → ℕ) (a b : ℕ) (c d : ShelfContent) → a ≡ more key → b ≡ less key →
    MovesTotals (λ k. k ≡ key) (λ k. a) (λ k. b) c d → MovesTotals (λ k. k ≡ key) more less c d
moves-at key more less a b c d p q f = record {
  records = f.records;
  point = f.point;
  start = f.start;
  here = λ k i n h m. (
      let x : more k ≡ a = ap more i ∙ sym p in
      let y : less k ≡ b = ap less i ∙ sym q in
      f.here k i n (omega (arith, h, x, y)) m);
  elsewhere = f.elsewhere;
}

-- ---- which totals are moved
pub in-office : (office : OfficeRules) (o : Option AccountId) (p : PeriodId) (b : BandId) (d : Direction) → HasOwner office o → p.0 < office.periods → b.0 < office.bands → OfOwners office.periods office.bands office.accounts (Energy o p b d)
in-office office None p b Import h l m = inl (inl (p, b, l, m, refl))
in-office office None p b Export h l m = inl (inr (p, b, l, m, refl))
in-office office (Some a) p b Import h l m = inr (a, h, inl (p, b, l, m, refl))
in-office office (Some a) p b Export h l m = inr (a, h, inr (p, b, l, m, refl))

-- an energy key that moves is one of the office
abbrev pub is-energy : TotalKey → ℕ
is-energy (Energy o p b d) = 1
is-energy (TopUps a) = 0

abbrev pub period_in : TotalKey → ℕ
period_in (Energy o p b d) = p.0
period_in (TopUps a) = 0

abbrev pub band_in : TotalKey → ℕ
band_in (Energy o p b d) = b.0
band_in (TopUps a) = 0

abbrev pub owner_in : TotalKey → Option AccountId
owner_in (Energy o p b d) = o
owner_in (TopUps a) = None

owner-direction : (periods bands : ℕ) (o : Option AccountId) (d : Direction) (k : TotalKey) → InDirection o d periods bands k → (is-energy k ≡ 1) × (period_in k < periods) × (band_in k < bands) × (owner_in k ≡ o)
owner-direction periods bands o d k i = (
  ap is-energy i.4,
  (let e = ap period_in i.4 in let l = i.2 in omega (arith, e, l)),
  (let e = ap band_in i.4 in let l = i.3 in omega (arith, e, l)),
  ap owner_in i.4,
)

of-owner : (periods bands : ℕ) (o : Option AccountId) (k : TotalKey) → OfOwner periods bands o k → (is-energy k ≡ 1) × (period_in k < periods) × (band_in k < bands) × (owner_in k ≡ o)
of-owner periods bands o k (inl i) = owner-direction periods bands o Import k i
of-owner periods bands o k (inr i) = owner-direction periods bands o Export k i

pub of-owners : (office : OfficeRules) (k : TotalKey) → OfOwners office.periods office.bands office.accounts k → (is-energy k ≡ 1) × (period_in k < office.periods) × (band_in k < office.bands) × HasOwner office (owner_in k)
of-owners office k (inl i) = (let r = of-owner office.periods office.bands None k i in (r.0, r.1, r.2, subst (HasOwner office) (sym r.3) tt))
of-owners office k (inr i) = (let r = of-owner office.periods office.bands (Some i.0) k i.2 in (r.0, r.1, r.2, subst (HasOwner office) (sym r.3) i.1))

-- whether an energy is one of the office is told by its owner, its period and its band
pub energy-told : (office : OfficeRules) (k : TotalKey) (o : Option AccountId) (p : PeriodId) (b : BandId) (d : Direction) (known : Bool) → k ≡ Energy o p b d →
    IsTrue known ↔ (HasOwner office o × (p.0 < office.periods) × (b.0 < office.bands)) → IsTrue known ↔ OfOwners office.periods office.bands office.accounts k
energy-told office k o p b d known e h =
    let P : TotalKey → Type 0 = λ x. IsTrue known ↔ OfOwners office.periods office.bands office.accounts x in
    subst P (sym e) (
      λ t. (let g = h.0 t in in-office office o p b d g.0 g.1 g.2),
      λ i. (let g = of-owners office (Energy o p b d) i in h.1 (g.3, g.1, g.2)),
    )
