-- An account that the new office hasn't has nothing in the old one.
use Rattle.std.proofs.Common.{◌≡◌, ◌==◌, ◌&&◌, ℕ, ◌*◌, ◌<◌, ◌≤◌, Bool, false, cond, Option, Some, None, List, length, refl, ap, subst, ◌∙◌, mul-zero, inl, inr, arith}
use Rattle.std.proofs.lemmas.Bool.{ne_eqb}
use Rattle.pw_tariff.specs.declared.ids.AccountId.{AccountId}
use Rattle.pw_tariff.specs.declared.ids.Direction.{Direction}
use Rattle.pw_tariff.specs.Office.{OfficeRules, office_of}
use Rattle.pw_tariff.specs.Owners.{same_owner}
use Rattle.pw_flow.specs.Time.{sum_over}
use Rattle.pw_flow.proofs.Sums.{sum-none}
use Rattle.pw_flow.proofs.Points.{last-is, last-none, last-cases}
use Rattle.pw_model.specs.declared.records.Content.TheVariants as content
use Rattle.pw_model.specs.declared.records.Contents.{Contents}
use Rattle.pw_model.specs.declared.records.Contents.TheVariants.{Nothing, One, Several}
use Rattle.pw_model.specs.declared.records.Entry.{Entry}
use Rattle.pw_model.specs.Same.{same_key}
use Rattle.pw_model.specs.Counting.{contents_at, start, owner_of, assignment_key}
use Rattle.pw_model.specs.Energy.{owner_at, energy_where, of_band, of_class, cost}
use Rattle.pw_model.specs.Payments.{keys, cents_for, topped_up}
use Rattle.pw_model.proofs.Foreign.{none-asked}
use Rattle.pw_model.proofs.Once.{once-zero}
use Rattle.pw_moving.specs.Renaming.{Offices, by_names}
use Rattle.pw_moving.specs.Laws.{GoneAccountsHaveNothing}
use Rattle.pw_moving.proofs.Carried.{OwnerIn, ContentsIn, AllIn, contents-in, IsMeterOfBoth, IsAccountOfBoth, all-both}

-- the owner that what is told at a key gives
abbrev StartIn : (ℕ → Type 0) → Option (Option AccountId) → Type 0
StartIn A None = Unit {0}
StartIn A (Some q) = OwnerIn A q

start-in : (A : ℕ → Type 0) (r : Contents) → ContentsIn A r → StartIn A (owner_of r)
start-in A Nothing h = tt
start-in A Several h = tt
start-in A (One (content.Reading w)) h = tt
start-in A (One (content.Assignment q)) h = h
start-in A (One (content.TopUp a c t)) h = tt
start-in A (One content.Withdrawal) h = tt

module _ (o : Offices) (s : List Entry) (all : AllIn (IsMeterOfBoth o) (IsAccountOfBoth o) s) (a : AccountId) (gone : length o.new.accounts ≤ (by_names o).account a.0) where
  abbrev A : ℕ → Type 0
  A = IsAccountOfBoth o

  -- each owner is one of both offices
  owner-known : (m t : ℕ) → OwnerIn A (owner_at (contents_at s) m t)
  unfolding owner_at
  owner-known m t = elim (last-cases (start (contents_at s) m) t) [
    | inl n ↦ rw (last-none (start (contents_at s) m) t n) tt
    | inr f ↦ (
        let P : Option (Option AccountId) → Type 0 = StartIn A in
        let x : OwnerIn A f.1 = subst P f.2.holds (start-in A (contents_at s (assignment_key m f.0)) (contents-in (IsMeterOfBoth o) A s (assignment_key m f.0) all)) in
        rw (last-is (start (contents_at s) m) t f.0 f.1 f.2) x)
  ]

  not-gone : (n : ℕ) → A n → (n == a.0) ≡ false
  not-gone n h = ne_eqb n a.0 (λ e.
      let P : ℕ → Type 0 = λ x. (by_names o).account x < length o.new.accounts in
      let l : (by_names o).account a.0 < length o.new.accounts = subst P e h.1 in
      absurd (omega (arith, gone, l)))

  other-owner : (q : Option AccountId) (b : Bool) → OwnerIn A q → (same_owner q (Some a) && b) ≡ false
  other-owner None b h = refl
  other-owner (Some c) b h = rw (not-gone c.0 h) refl

  -- ---- so it has no energy
  no-energy : (n : ℕ) (d : Direction) → energy_where (office_of o.old) (contents_at s) d (of_band (office_of o.old) (Some a) n) ≡ 0
  no-energy n d = none-asked (office_of o.old) (contents_at s) d (of_band (office_of o.old) (Some a) n)
      (λ m t. other-owner (owner_at (contents_at s) m t) ((office_of o.old).band t == n) (owner-known m t))

  no-energy_in : (p n : ℕ) (d : Direction) → energy_where (office_of o.old) (contents_at s) d (of_class (office_of o.old) (Some a) p n) ≡ 0
  no-energy_in p n d = none-asked (office_of o.old) (contents_at s) d (of_class (office_of o.old) (Some a) p n)
      (λ m t. other-owner (owner_at (contents_at s) m t) (((office_of o.old).period t == p) && ((office_of o.old).band t == n)) (owner-known m t))

  no-cost : (d : Direction) → cost (office_of o.old) (contents_at s) (Some a) d ≡ 0
  unfolding cost
  no-cost d =
      let office : OfficeRules = office_of o.old in
      sum-none (λ p. sum_over (λ n. office.price p n d * energy_where office (contents_at s) d (of_class office (Some a) p n)) 0 office.bands) 0 office.periods
      (λ p x y. sum-none (λ n. office.price p n d * energy_where office (contents_at s) d (of_class office (Some a) p n)) 0 office.bands
      (λ n u v. ap (λ (k : ℕ). office.price p n d * k) (no-energy_in p n d) ∙ mul-zero (office.price p n d)))

  -- ---- and no top-up
  no-cents : (r : Contents) → ContentsIn A r → cents_for a.0 r ≡ 0
  no-cents Nothing h = refl
  no-cents Several h = refl
  no-cents (One (content.Reading w)) h = refl
  no-cents (One (content.Assignment q)) h = refl
  no-cents (One content.Withdrawal) h = refl
  no-cents (One (content.TopUp b c t)) h = ap (λ (x : Bool). cond x c 0) (not-gone b.0 h)

  no-top_up : topped_up s a.0 ≡ 0
  unfolding topped_up
  no-top_up = once-zero same_key (λ k. cents_for a.0 (contents_at s k)) (keys s) (λ k m. no-cents (contents_at s k) (contents-in (IsMeterOfBoth o) A s k all))

pub gone-nothing : GoneAccountsHaveNothing
gone-nothing o s ours can a gone =
    let all : AllIn (IsMeterOfBoth o) (IsAccountOfBoth o) s = all-both o s ours can in
    record {
      energies = no-energy o s all a gone;
      costs = no-cost o s all a gone;
      topped = no-top_up o s all a gone;
    }
