-- Energies of seconds that are shared out among two.
use Rattle.std.proofs.Common.{◌≡◌, ℕ, zero, suc, ◌+◌, ◌<◌, ◌≤◌, nat_le, nat_lt, Bool, true, false, cond, ◌&&◌, ◌==◌, Option, refl, sym, ap, ◌∙◌, arith, inl, inr, ◌⊎◌, zero-add, List, [], ◌∷◌}
use Rattle.std.proofs.lemmas.Bool.{cases_Bool, cases_eq, cases_lt, eq-eqb, ne_eqb, le-leb, lt-leb, lt-ltb, le-ltb}
use Rattle.pw_tariff.specs.declared.ids.AccountId.{AccountId}
use Rattle.pw_tariff.specs.declared.ids.Direction.{Direction}
use Rattle.pw_tariff.specs.declared.ids.Direction.TheVariants.{Import, Export}
use Rattle.pw_tariff.specs.Office.{OfficeRules}
use Rattle.pw_obis.specs.declared.reference.Register.{Register}
use Rattle.pw_obis.specs.declared.reference.Register.TheVariants.{I0, I1, I2, E0, E1, E2}
use Rattle.pw_flow.specs.Time.{sum_over}
use Rattle.pw_flow.specs.Flow.{flow}
use Rattle.pw_flow.specs.Energy.{kept, register_energy}
use Rattle.pw_flow.proofs.Sums.{sum-same}
use Rattle.pw_flow.proofs.Shares.{sum-add}
use Rattle.pw_model.specs.declared.records.Key.{Key}
use Rattle.pw_model.specs.declared.records.Contents.{Contents}
use Rattle.pw_model.specs.Counting.{point}
use Rattle.pw_model.specs.Energy.{Asked, asked_seconds, energy_where, meter_share, over_registers, owner_at, share_of}
use Rattle.pw_model.proofs.Foreign.{none-asked}
use Rattle.pw_months.specs.Between.{between, lies_in}
use Rattle.pw_months.specs.Bills.{AreCuts, last_cut}
use Rattle.pw_months.specs.Laws.{ClassesOfTimeAddUp, PiecesOfTimeAddUp}

-- what one second carries is shared out among two
abbrev pub IsShared : Bool → Bool → Bool → Type 0
IsShared k l m = (n : ℕ) → cond k n 0 ≡ cond l n 0 + cond m n 0

-- so are all seconds before end
abbrev pub AreShared : ℕ → Asked → Asked → Asked → Type 0
AreShared end asked one two = (o : Option AccountId) (t : ℕ) → t < end → IsShared (asked o t) (one o t) (two o t)

cond-add : (c : Bool) (a b : ℕ) → cond c (a + b) 0 ≡ cond c a 0 + cond c b 0
cond-add true a b = refl
cond-add false a b = refl

energy-halves : (k l m : ℕ → Bool) (p : ℕ → Option ℕ) (end : ℕ) → ((t : ℕ) → t < end → IsShared (k t) (l t) (m t)) →
    register_energy k p end ≡ register_energy l p end + register_energy m p end
unfolding register_energy
energy-halves k l m p end h =
    sum-same (kept k (flow p end)) (λ t. kept l (flow p end) t + kept m (flow p end) t) 0 end (λ t a b. h t (omega arith) (flow p end t))
    ∙ sum-add (kept l (flow p end)) (kept m (flow p end)) 0 end

share-halves : (office : OfficeRules) (at : Key → Contents) (asked one two : Asked) →
    AreShared office.end asked one two →
    (m : ℕ) (r : Register) → share_of office at asked m r ≡ share_of office at one m r + share_of office at two m r
share-halves office at asked one two h m r =
    ap (λ n. cond (office.counts m r) n 0)
    (energy-halves (asked_seconds at asked m) (asked_seconds at one m) (asked_seconds at two m) (point at m r) office.end
    (λ t l. h (owner_at at m t) t l))
    ∙ cond-add (office.counts m r) (register_energy (asked_seconds at one m) (point at m r) office.end)
    (register_energy (asked_seconds at two m) (point at m r) office.end)

registers-halves : (d : Direction) (f g h : Register → ℕ) → ((r : Register) → f r ≡ g r + h r) →
    over_registers d f ≡ over_registers d g + over_registers d h
registers-halves Import f g h e = let a = e I0 in let b = e I1 in let c = e I2 in omega arith
registers-halves Export f g h e = let a = e E0 in let b = e E1 in let c = e E2 in omega arith

pub energy-shared : (office : OfficeRules) (at : Key → Contents) (d : Direction) (asked one two : Asked) →
    AreShared office.end asked one two →
    energy_where office at d asked ≡ energy_where office at d one + energy_where office at d two
unfolding energy_where
energy-shared office at d asked one two h =
    sum-same (meter_share office at d asked) (λ m. meter_share office at d one m + meter_share office at d two m) 0 office.meters
    (λ m a b. registers-halves d (share_of office at asked m) (share_of office at one m) (share_of office at two m)
    (share-halves office at asked one two h m))
    ∙ sum-add (meter_share office at d one) (meter_share office at d two) 0 office.meters

-- ---- where two ask for the same
pub registers-alike : (d : Direction) (f g : Register → ℕ) → ((r : Register) → f r ≡ g r) →
    over_registers d f ≡ over_registers d g
registers-alike d f g e = λ i. over_registers d (λ r. e r i)

-- each second carries the same of each register that counts
abbrev pub CarryTheSame : OfficeRules → (Key → Contents) → (Key → Contents) → Asked → Asked → Type 0
CarryTheSame office at bt asked other =
    (m : ℕ) (r : Register) → m < office.meters → office.counts m r ≡ true → (t : ℕ) → t < office.end →
    kept (asked_seconds at asked m) (flow (point at m r) office.end) t
    ≡ kept (asked_seconds bt other m) (flow (point bt m r) office.end) t

share-told : (office : OfficeRules) (at bt : Key → Contents) (asked other : Asked) →
    CarryTheSame office at bt asked other →
    (m : ℕ) (r : Register) → m < office.meters → share_of office at asked m r ≡ share_of office bt other m r
unfolding register_energy
share-told office at bt asked other h m r l =
    elim (cases_Bool (office.counts m r)) [
      | inr c ↦ rw c refl
      | inl c ↦ rw c (
          sum-same (kept (asked_seconds at asked m) (flow (point at m r) office.end))
          (kept (asked_seconds bt other m) (flow (point bt m r) office.end)) 0 office.end
          (λ t a b. h m r l c t (omega arith)))
    ]

pub where-told : (office : OfficeRules) (at bt : Key → Contents) (d : Direction) (asked other : Asked) →
    CarryTheSame office at bt asked other → energy_where office at d asked ≡ energy_where office bt d other
unfolding energy_where
where-told office at bt d asked other h =
    sum-same (meter_share office at d asked) (meter_share office bt d other) 0 office.meters
    (λ m a b. registers-alike d (share_of office at asked m) (share_of office bt other m)
    (λ r. share-told office at bt asked other h m r (omega arith)))

pub where-alike : (office : OfficeRules) (at : Key → Contents) (d : Direction) (asked other : Asked) →
    ((o : Option AccountId) (t : ℕ) → t < office.end → asked o t ≡ other o t) →
    energy_where office at d asked ≡ energy_where office at d other
where-alike office at d asked other h =
    where-told office at at d asked other
    (λ m r l c t e. ap (λ (b : Bool). cond b (flow (point at m r) office.end t) 0) (h (owner_at at m t) t e))

-- ---- intervals
pub lies-shared : (from cut to t : ℕ) (b : Bool) → from ≤ cut → cut ≤ to →
    IsShared (lies_in from to t && b) (lies_in from cut t && b) (lies_in cut to t && b)
lies-shared from cut to t b l r n =
    elim (cases_lt t cut) [
      | inl a ↦ (
          let h : t < to = omega arith in
          let x : nat_lt t cut ≡ true = lt-ltb t cut a in
          let y : nat_lt t to ≡ true = lt-ltb t to h in
          let z : nat_le cut t ≡ false = lt-leb cut t a in
          rw (x, y, z) (omega arith))
      | inr a ↦ (
          let h : from ≤ t = omega arith in
          let x : nat_lt t cut ≡ false = le-ltb t cut a in
          let y : nat_le from t ≡ true = le-leb from t h in
          let z : nat_le cut t ≡ true = le-leb cut t a in
          rw (x, y, z) (omega arith))
    ]

-- the energy of an interval is that of its two parts
pub between-shared : (office : OfficeRules) (at : Key → Contents) (d : Direction) (asked : Asked) (from cut to : ℕ) →
    from ≤ cut → cut ≤ to →
    energy_where office at d (between from to asked)
    ≡ energy_where office at d (between from cut asked) + energy_where office at d (between cut to asked)
between-shared office at d asked from cut to l r =
    energy-shared office at d (between from to asked) (between from cut asked) (between cut to asked)
    (λ o t e. lies-shared from cut to t (asked o t) l r)

-- no second before an interval or behind it lies in it
pub lies-outside : (from to t : ℕ) (b : Bool) → (t < from) ⊎ (to ≤ t) → (lies_in from to t && b) ≡ false
lies-outside from to t b far =
    elim far [
      | inl a ↦ (let z : nat_le from t ≡ false = lt-leb from t a in rw z)
      | inr a ↦ (
          let x : nat_lt t to ≡ false = le-ltb t to a in
          elim (cases_Bool (nat_le from t)) [ inl e ↦ rw (x, e) | inr e ↦ rw (x, e) ])
    ]

pub lies-nowhere : (from t : ℕ) (b : Bool) → (lies_in from from t && b) ≡ false
lies-nowhere from t b = lies-outside from from t b (cases_lt t from)

-- an interval with no second has nothing
pub between-empty : (office : OfficeRules) (at : Key → Contents) (d : Direction) (asked : Asked) (from : ℕ) →
    energy_where office at d (between from from asked) ≡ 0
between-empty office at d asked from =
    none-asked office at d (between from from asked) (λ m t. lies-nowhere from t (asked (owner_at at m t) t))

pub lies-everywhere : (to t : ℕ) (b : Bool) → t < to → (lies_in 0 to t && b) ≡ b
lies-everywhere to t b l =
    let x : nat_lt t to ≡ true = lt-ltb t to l in
    let y : nat_le 0 t ≡ true = le-leb 0 t (omega arith) in
    rw (x, y)

-- and one of all seconds all
pub between-all : (office : OfficeRules) (at : Key → Contents) (d : Direction) (asked : Asked) (to : ℕ) →
    office.end ≤ to →
    energy_where office at d (between 0 to asked) ≡ energy_where office at d asked
between-all office at d asked to l =
    where-alike office at d (between 0 to asked) asked (λ o t e. lies-everywhere to t (asked o t) (omega arith))

pub cuts-rise : (from : ℕ) (cuts : List ℕ) → AreCuts from cuts → from ≤ last_cut from cuts
cuts-rise from [] h = omega arith
cuts-rise from (c ∷ cuts) h = let r = cuts-rise c cuts h.1 in let l = h.0 in omega arith

pub pieces-of_time_add_up : PiecesOfTimeAddUp
pieces-of_time_add_up office at d asked from [] h = sym (between-empty office at d asked from)
pieces-of_time_add_up office at d asked from (c ∷ cuts) h =
    let rest = pieces-of_time_add_up office at d asked c cuts h.1 in
    let whole = between-shared office at d asked from c (last_cut c cuts) h.0 (cuts-rise c cuts h.1) in
    omega arith

-- ---- classes
abbrev of_number : (ℕ → ℕ) → ℕ → Asked → Asked
of_number class i asked o t = (class t == i) && asked o t

abbrev of_numbers_below : (ℕ → ℕ) → ℕ → Asked → Asked
of_numbers_below class n asked o t = nat_lt (class t) n && asked o t

number-shared : (c n : ℕ) (b : Bool) → IsShared (nat_lt c (suc n) && b) (nat_lt c n && b) ((c == n) && b)
number-shared c n b k =
    elim (cases_eq c n) [
      | inl i ↦ (
          let h : c < suc n = omega arith in
          let g : n ≤ c = omega arith in
          let x : nat_lt c (suc n) ≡ true = lt-ltb c (suc n) h in
          let y : nat_lt c n ≡ false = le-ltb c n g in
          let z : (c == n) ≡ true = eq-eqb c n i in
          rw (x, y, z) (omega arith))
      | inr e ↦ (
          let z : (c == n) ≡ false = ne_eqb c n e in
          elim (cases_lt c n) [
            | inl a ↦ (
                let h : c < suc n = omega arith in
                let x : nat_lt c (suc n) ≡ true = lt-ltb c (suc n) h in
                let y : nat_lt c n ≡ true = lt-ltb c n a in
                rw (x, y, z) (omega arith))
            | inr a ↦ (
                let h : suc n ≤ c = omega arith in
                let x : nat_lt c (suc n) ≡ false = le-ltb c (suc n) h in
                let y : nat_lt c n ≡ false = le-ltb c n a in
                rw (x, y, z) (omega arith))
          ])
    ]

classes-so_far : (office : OfficeRules) (at : Key → Contents) (d : Direction) (asked : Asked) (class : ℕ → ℕ) (n : ℕ) →
    sum_over (λ i. energy_where office at d (of_number class i asked)) 0 n
    ≡ energy_where office at d (of_numbers_below class n asked)
unfolding sum_over
classes-so_far office at d asked class zero =
    sym (none-asked office at d (of_numbers_below class 0 asked) (λ m t. rw (le-ltb (class t) 0 (omega arith))))
classes-so_far office at d asked class (suc n) =
    let rest = classes-so_far office at d asked class n in
    let more = energy-shared office at d (of_numbers_below class (suc n) asked) (of_numbers_below class n asked)
    (of_number class n asked) (λ o t l. number-shared (class t) n (asked o t)) in
    let z : 0 + n ≡ n = zero-add n in
    rw z (omega arith)

pub classes-of_time_add_up : ClassesOfTimeAddUp
classes-of_time_add_up office at d asked class count h =
    classes-so_far office at d asked class count
    ∙ where-alike office at d (of_numbers_below class count asked) asked (λ o t l. rw (lt-ltb (class t) count (h t l)))
