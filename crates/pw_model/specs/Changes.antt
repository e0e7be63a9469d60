-- Laws on what one more record changes. They serve the proofs of a book, and are the contracts of functions of the module
-- `laws`.
use Rattle.std.specs.Prelude.{◌≡◌, ℕ, ◌+◌, ◌<◌, ◌≤◌, true, false, cond, Option, Some, None, List, ◌∷◌, ◌⊎◌}
use Rattle.pw_obis.specs.declared.reference.Register.{Register}
use Rattle.pw_tariff.specs.declared.ids.AccountId.{AccountId}
use Rattle.pw_tariff.specs.declared.ids.Direction.{Direction}
use Rattle.pw_flow.specs.Energy.{register_energy}
use Rattle.pw_flow.specs.Pairs.{StandAround, last_of, Chain, cell_between, pairs_sum}
use Rattle.pw_model.specs.declared.records.Key.{Key}
use Rattle.pw_model.specs.declared.records.Contents.{Contents}
use Rattle.pw_model.specs.declared.records.Entry.{Entry}
use Rattle.pw_model.specs.Same.{same_direction, direction_of}
use Rattle.pw_model.specs.Counting.{IsInserted, withdraws, is_withdrawn, joined, contents_at, point, start}
use Rattle.pw_tariff.specs.Office.{OfficeRules}
use Rattle.pw_model.specs.Energy.{Asked, owner_at, share_of, over_registers, asked_seconds, energy_where}
use Rattle.pw_model.specs.Payments.{topped_up, cents_for}

-- of this meter, register and second old has no reading that counts and new has this one; the other readings that count are
-- the same, and so are the assignments that count
pub record IsOneMoreReading (old new : Key → Contents) (m : ℕ) (r : Register) (z w : ℕ) : Type 0 where
  pub free : point old m r z ≡ None
  pub here : point new m r z ≡ Some w
  pub elsewhere : (n : ℕ) (q : Register) (t : ℕ) → (n ≡ m → q ≡ r → t ≡ z → ⊥) → point old n q t ≡ point new n q t
  pub starts : start old ≡ start new

-- n where the register is one of the direction
abbrev pub in_direction : Direction → Register → ℕ → ℕ
in_direction d r n = cond (same_direction (direction_of r) d) n 0

-- one more counting reading brings the cells of its two pairs, in its register's direction alone, and takes that of the pair
-- that it parts; read from right to left, this is one reading less
abbrev pub OneMoreReading : Type 0
OneMoreReading = (office : OfficeRules) (old new : Key → Contents) (m : ℕ) (r : Register) (z w : ℕ) (below above : Option (ℕ × ℕ)) →
    IsOneMoreReading old new m r z w → StandAround (point old m r) office.end z below above → m < office.meters → office.counts m r ≡ true →
    (asked : Asked) (d : Direction) →
    let seconds = asked_seconds old asked m in
    energy_where office new d asked + in_direction d r (cell_between seconds below above)
    ≡ energy_where office old d asked + in_direction d r (cell_between seconds below (Some (z, w)) + cell_between seconds (Some (z, w)) above)

-- the contents at its key alone change
pub record ChangesAtOneKey (s t : List Entry) (e : Entry) : Type 0 where
  pub here : contents_at t e.key ≡ joined e.content (contents_at s e.key)
  pub elsewhere : (k : Key) → (k ≡ e.key → ⊥) → contents_at t k ≡ contents_at s k

-- one more record that withdraws none, and that none withdraws, changes the contents at its key alone
abbrev pub OneMoreRecord : Type 0
OneMoreRecord = (s t : List Entry) (e : Entry) → ((x : Entry) → withdraws x e.key ≡ false) → is_withdrawn s e ≡ false → IsInserted e s t → ChangesAtOneKey s t e

-- whatever record comes that withdraws none, what is topped up changes by what counts at its key
abbrev pub OneMorePayment : Type 0
OneMorePayment = (s t : List Entry) (e : Entry) → ((x : Entry) → withdraws x e.key ≡ false) → IsInserted e s t → (a : ℕ) →
    topped_up t a + cents_for a (contents_at s e.key) ≡ topped_up s a + cents_for a (contents_at t e.key)

-- of this meter another assignment may count from this second on; the other assignments that count are the same, and so are
-- the readings that count
pub record IsOtherStart (old new : Key → Contents) (m z : ℕ) : Type 0 where
  pub points : point old ≡ point new
  pub elsewhere : (n t : ℕ) → (n ≡ m → t ≡ z → ⊥) → start old n t ≡ start new n t

-- its owners change from that second up to the next counting start alone, and the energies by what its registers change
pub record HaveOtherOwners (office : OfficeRules) (old new : Key → Contents) (m z : ℕ) : Type 0 where
  pub before : (t : ℕ) → t < z → owner_at old m t ≡ owner_at new m t
  pub behind : (y t : ℕ) (o : Option AccountId) → start old m y ≡ Some o → z < y → y ≤ t → owner_at old m t ≡ owner_at new m t
  pub others : (n t : ℕ) → (n ≡ m → ⊥) → owner_at old n t ≡ owner_at new n t
  pub points : (n : ℕ) (r : Register) → point old n r ≡ point new n r
  pub energies : (asked : Asked) (d : Direction) (taken given : Register → ℕ) → m < office.meters →
      ((r : Register) → share_of office new asked m r + taken r ≡ share_of office old asked m r + given r) →
      energy_where office new d asked + over_registers d taken ≡ energy_where office old d asked + over_registers d given

abbrev pub OneMoreAssignment : Type 0
OneMoreAssignment = (office : OfficeRules) (old new : Key → Contents) (m z : ℕ) → IsOtherStart old new m z → HaveOtherOwners office old new m z

-- a chain of a register's points takes in all that another assignment at second z can change: it begins at z or before,
-- or with the first point, and ends at the next counting start or behind it, or with the last point
pub record TakesIn (old : Key → Contents) (m : ℕ) (r : Register) (z : ℕ) (a : ℕ × ℕ) (ps : List (ℕ × ℕ)) : Type 0 where
  pub chain : Chain (point old m r) a ps
  pub begins : (a.0 ≤ z) ⊎ ((s : ℕ) → s < a.0 → point old m r s ≡ None)
  pub ends : ((y : ℕ) × (o : Option AccountId) × (start old m y ≡ Some o) × (z < y) × (y ≤ (last_of a ps).0))
      ⊎ ((s : ℕ) → (last_of a ps).0 < s → point old m r s ≡ None)

-- another assignment changes what the pairs of that chain give, and nothing else
abbrev pub OtherStartWindow : Type 0
OtherStartWindow = (office : OfficeRules) (old new : Key → Contents) (m z : ℕ) → IsOtherStart old new m z → (r : Register) (asked : Asked) (a : ℕ × ℕ) (ps : List (ℕ × ℕ)) →
    TakesIn old m r z a ps → (last_of a ps).0 < office.end →
    register_energy (asked_seconds old asked m) (point old m r) office.end + pairs_sum (asked_seconds new asked m) (a ∷ ps)
    ≡ register_energy (asked_seconds new asked m) (point new m r) office.end + pairs_sum (asked_seconds old asked m) (a ∷ ps)
