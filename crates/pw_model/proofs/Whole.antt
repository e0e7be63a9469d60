-- Conservation: nothing of what the neighbours rise by is lost.
use Rattle.std.proofs.Common.{◌≡◌, ℕ, zero, suc, ◌+◌, ◌<◌, Bool, true, false, cond, ◌&&◌, ◌==◌, Option, Some, None, List, refl, ap, subst, ◌∙◌, arith, inl, inr}
use Rattle.std.proofs.lemmas.Bool.{lt-ltb}
use Rattle.pw_tariff.specs.declared.ids.AccountId.{AccountId}
use Rattle.pw_obis.specs.declared.reference.Register.{Register}
use Rattle.pw_obis.specs.declared.reference.Register.TheVariants.{I0, I1, I2, E0, E1, E2}
use Rattle.pw_tariff.specs.declared.ids.Direction.{Direction}
use Rattle.pw_tariff.specs.declared.ids.Direction.TheVariants.{Import, Export}
use Rattle.pw_model.specs.declared.records.Content.TheVariants as content
use Rattle.pw_model.specs.declared.records.Contents.{Contents}
use Rattle.pw_model.specs.declared.records.Contents.TheVariants.{Nothing, One, Several}
use Rattle.pw_model.specs.declared.records.Entry.{Entry}
use Rattle.pw_tariff.specs.Owners.{same_owner}
use Rattle.pw_model.specs.Counting.{contents_at, point, start, owner_of, assignment_key}
use Rattle.pw_tariff.specs.Office.{OfficeRules}
use Rattle.pw_model.specs.Office.{HasBands, AllOfOffice, IsOfOffice, HasOwner}
use Rattle.pw_model.specs.Energy.{asked_seconds, owner_at, over_registers, share_of, meter_share, energy_where, of_band, account, over_owners, over_bands, register_rises, all_rises}
use Rattle.pw_model.specs.Laws.{NothingIsLost}
use Rattle.pw_model.proofs.Counting.{one-stands, standing-part, entry}
use Rattle.pw_flow.specs.Time.{sum_over}
use Rattle.pw_flow.specs.Energy.{kept, register_energy}
use Rattle.pw_flow.specs.Flow.{flow, rises}
use Rattle.pw_flow.proofs.Sums.{sum-same, sum-none}
use Rattle.pw_flow.proofs.Points.{last-is, last-none, last-cases}
use Rattle.pw_flow.proofs.Shares.{sum-add, sum-pick}
use Rattle.pw_flow.proofs.Whole.{flow-whole}

-- over all owners with nobody, and all bands
abbrev all : OfficeRules → (Option AccountId → ℕ → ℕ) → ℕ
all office f = over_owners office (λ o. over_bands office (λ b. f o b))

all-same : (office : OfficeRules) (f g : Option AccountId → ℕ → ℕ) → ((o : Option AccountId) (b : ℕ) → f o b ≡ g o b) → all office f ≡ all office g
all-same office f g h = λ i. all office (λ o b. h o b i)

owners-add : (office : OfficeRules) (f g : Option AccountId → ℕ) → over_owners office (λ o. f o + g o) ≡ over_owners office f + over_owners office g
owners-add office f g =
    let e : sum_over (λ a. f (Some (account a)) + g (Some (account a))) 0 office.accounts ≡ sum_over (λ a. f (Some (account a))) 0 office.accounts + sum_over (λ a. g (Some (account a))) 0 office.accounts
    = sum-add (λ a. f (Some (account a))) (λ a. g (Some (account a))) 0 office.accounts in
    omega (arith, e)

all-add : (office : OfficeRules) (f g : Option AccountId → ℕ → ℕ) → all office (λ o b. f o b + g o b) ≡ all office f + all office g
all-add office f g =
    let e : over_owners office (λ o. over_bands office (λ b. f o b + g o b)) ≡ over_owners office (λ o. over_bands office (f o) + over_bands office (g o))
    = λ i. over_owners office (λ o. sum-add (f o) (g o) 0 office.bands i) in
    e ∙ owners-add office (λ o. over_bands office (f o)) (λ o. over_bands office (g o))

owners-none : (office : OfficeRules) (f : Option AccountId → ℕ) → ((o : Option AccountId) → f o ≡ 0) → over_owners office f ≡ 0
owners-none office f h =
    let a : f None ≡ 0 = h None in
    let b : sum_over (λ a. f (Some (account a))) 0 office.accounts ≡ 0 = sum-none _ 0 office.accounts (λ t l m. h (Some (account t))) in
    omega (arith, a, b)

all-none : (office : OfficeRules) → all office (λ o b. 0) ≡ 0
all-none office = owners-none office _ (λ o. sum-none _ 0 office.bands (λ t l m. refl))

-- sums change places
all-sum : (office : OfficeRules) (f : Option AccountId → ℕ → ℕ → ℕ) (x n : ℕ) → all office (λ o b. sum_over (f o b) x n) ≡ sum_over (λ t. all office (λ o b. f o b t)) x n
unfolding sum_over
all-sum office f x zero = all-none office
all-sum office f x (suc n) =
    all-add office (λ o b. sum_over (f o b) x n) (λ o b. f o b (x + n)) ∙ ap (λ s. s + all office (λ o b. f o b (x + n))) (all-sum office f x n)

all-cond : (office : OfficeRules) (c : Bool) (f : Option AccountId → ℕ → ℕ) → all office (λ o b. cond c (f o b) 0) ≡ cond c (all office f) 0
all-cond office true f = refl
all-cond office false f = all-none office

all-registers : (office : OfficeRules) (d : Direction) (f : Option AccountId → ℕ → Register → ℕ) → all office (λ o b. over_registers d (f o b)) ≡ over_registers d (λ r. all office (λ o b. f o b r))
all-registers office Import f =
    all-add office (λ o b. f o b I0 + f o b I1) (λ o b. f o b I2) ∙ ap (λ s. s + all office (λ o b. f o b I2)) (all-add office (λ o b. f o b I0) (λ o b. f o b I1))
all-registers office Export f =
    all-add office (λ o b. f o b E0 + f o b E1) (λ o b. f o b E2) ∙ ap (λ s. s + all office (λ o b. f o b E2)) (all-add office (λ o b. f o b E0) (λ o b. f o b E1))

-- one owner and one band alone have a second's flow
bands-pick : (office : OfficeRules) (c : Bool) (b v : ℕ) → b < office.bands → over_bands office (λ k. cond (c && (b == k)) v 0) ≡ cond c v 0
bands-pick office true b v l = sum-pick b v office.bands ∙ rw (lt-ltb b office.bands l)
bands-pick office false b v l = sum-none _ 0 office.bands (λ t x y. refl)

owners-pick : (office : OfficeRules) (o : Option AccountId) (v : ℕ) → HasOwner office o → over_owners office (λ q. cond (same_owner o q) v 0) ≡ v
owners-pick office None v h = let e : sum_over (λ (a : ℕ). 0) 0 office.accounts ≡ 0 = sum-none _ 0 office.accounts (λ t l m. refl) in omega (arith, e)
owners-pick office (Some a) v h =
    let e : sum_over (λ i. cond (a.0 == i) v 0) 0 office.accounts ≡ v = sum-pick a.0 v office.accounts ∙ rw (lt-ltb a.0 office.accounts h) in
    omega (arith, e)

all-pick : (office : OfficeRules) (o : Option AccountId) (b v : ℕ) → HasOwner office o → b < office.bands → all office (λ q k. cond (same_owner o q && (b == k)) v 0) ≡ v
all-pick office o b v h l =
    let e : all office (λ q k. cond (same_owner o q && (b == k)) v 0) ≡ over_owners office (λ q. cond (same_owner o q) v 0)
    = λ i. over_owners office (λ q. bands-pick office (same_owner o q) b v l i) in
    e ∙ owners-pick office o v h

-- the owners that counting assignments give are the office's
abbrev OwnerFits : OfficeRules → Option (Option AccountId) → Type 0
OwnerFits office None = Unit {0}
OwnerFits office (Some o) = HasOwner office o

contents-fit : (office : OfficeRules) (s : List Entry) (m t : ℕ) (r : Contents) → AllOfOffice office s → contents_at s (assignment_key m t) ≡ r → OwnerFits office (owner_of r)
contents-fit office s m t Nothing h e = tt
contents-fit office s m t Several h e = tt
contents-fit office s m t (One (content.Reading w)) h e = tt
contents-fit office s m t (One (content.TopUp a c i)) h e = tt
contents-fit office s m t (One content.Withdrawal) h e = tt
contents-fit office s m t (One (content.Assignment o)) h e =
    let f : Entry = entry (assignment_key m t) (content.Assignment o) in
    let i : IsOfOffice office f = h f (standing-part s f (one-stands s (assignment_key m t) (content.Assignment o) e)) in
    i.2

start-fits : (office : OfficeRules) (s : List Entry) (m t : ℕ) → AllOfOffice office s → OwnerFits office (start (contents_at s) m t)
start-fits office s m t h = contents-fit office s m t (contents_at s (assignment_key m t)) h refl

pub owner-fits : (office : OfficeRules) (s : List Entry) (m t : ℕ) → AllOfOffice office s → HasOwner office (owner_at (contents_at s) m t)
unfolding owner_at
owner-fits office s m t h =
    elim (last-cases (start (contents_at s) m) t) [
      | inl n ↦ rw (last-none (start (contents_at s) m) t n) tt
      | inr f ↦ (
          let P : Option (Option AccountId) → Type 0 = OwnerFits office in
          let x : OwnerFits office (Some f.1) = subst P f.2.holds (start-fits office s m f.0 h) in
          rw (last-is (start (contents_at s) m) t f.0 f.1 f.2) x)
    ]

-- one register's energies are its rises
register-whole : (office : OfficeRules) (s : List Entry) (m : ℕ) (p : ℕ → Option ℕ) → HasBands office → AllOfOffice office s →
    all office (λ o b. register_energy (asked_seconds (contents_at s) (of_band office o b) m) p office.end) ≡ rises p office.end
unfolding register_energy
register-whole office s m p i h =
    all-sum office (λ o b. kept (asked_seconds (contents_at s) (of_band office o b) m) (flow p office.end)) 0 office.end
    ∙ sum-same _ (flow p office.end) 0 office.end (λ t l g. all-pick office (owner_at (contents_at s) m t) (office.band t) (flow p office.end t) (owner-fits office s m t h) (i t))
    ∙ flow-whole p office.end

share-whole : (office : OfficeRules) (s : List Entry) (m : ℕ) (r : Register) → HasBands office → AllOfOffice office s →
    all office (λ o b. share_of office (contents_at s) (of_band office o b) m r) ≡ register_rises office (contents_at s) m r
share-whole office s m r i h =
    all-cond office (office.counts m r) (λ o b. register_energy (asked_seconds (contents_at s) (of_band office o b) m) (point (contents_at s) m r) office.end)
    ∙ ap (λ n. cond (office.counts m r) n 0) (register-whole office s m (point (contents_at s) m r) i h)

pub nothing-is_lost : NothingIsLost
unfolding energy_where all_rises
nothing-is_lost office s d i h =
    let one : (m : ℕ) → all office (λ o b. meter_share office (contents_at s) d (of_band office o b) m) ≡ over_registers d (register_rises office (contents_at s) m)
    = λ m. all-registers office d (λ o b. share_of office (contents_at s) (of_band office o b) m) ∙ (λ j. over_registers d (λ r. share-whole office s m r i h j)) in
    all-sum office (λ o b. meter_share office (contents_at s) d (of_band office o b)) 0 office.meters
    ∙ sum-same _ _ 0 office.meters (λ m l g. one m)
