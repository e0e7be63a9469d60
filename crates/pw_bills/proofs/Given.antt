-- What registers, meters and an office give to stretches of time.
use Rattle.std.proofs.Common.{◌≡◌, ◌==◌, ◌&&◌, ℕ, ◌+◌, ◌<◌, nat_le, nat_lt, Bool, true, false, cond, Option, Some, None, List, length, take, get_or, refl, ap, sym, ◌∙◌, inl, inr, arith}
use Rattle.std.specs.List.{sum_by}
use Rattle.std.proofs.lemmas.Bool.{and_parts, cases_Bool, leb-true, ltb-true}
use Rattle.pw_obis.specs.Registers.{registers}
use Rattle.pw_obis.specs.declared.reference.Register.{Register}
use Rattle.pw_obis.specs.declared.reference.Register.TheVariants.{I0, I1, I2, E0, E1, E2}
use Rattle.pw_time.specs.declared.instant.TheConstants.{END_SECOND}
use Rattle.pw_flow.specs.Energy.{register_energy}
use Rattle.pw_flow.specs.Flow.{flow}
use Rattle.pw_flow.specs.Pairs.{pairs_sum}
use Rattle.pw_flow.specs.Time.{sum_over}
use Rattle.pw_flow.proofs.Kept.{kept-none}
use Rattle.pw_flow.proofs.Sums.{kept-nothing}
use Rattle.pw_tariff.specs.declared.ids.AccountId.{AccountId}
use Rattle.pw_tariff.specs.declared.ids.Direction.{Direction}
use Rattle.pw_tariff.specs.declared.ids.Direction.TheVariants.{Import, Export}
use Rattle.pw_tariff.specs.Office.{OfficeFile, OfficeRules, band_at, counts_at, office_of, period_at, register_place}
use Rattle.pw_tariff.specs.Owners.{same_owner}
use Rattle.pw_tariff.specs.Shares.{class_seconds}
use Rattle.pw_model.specs.declared.records.Key.{Key}
use Rattle.pw_model.specs.declared.records.Contents.{Contents}
use Rattle.pw_model.specs.declared.records.TotalKey.{TotalKey}
use Rattle.pw_model.specs.declared.records.TotalKey.TheVariants.{Energy, TopUps}
use Rattle.pw_model.specs.Counting.{contents_at, point}
use Rattle.pw_model.specs.Energy.{Asked, account, asked_seconds, energy_where, of_class, over_registers, owner_at, share_of}
use Rattle.pw_model.specs.Same.{direction_of, same_direction}
use Rattle.pw_model.proofs.PlainEnergy.{sum-next}
use Rattle.pw_parts.specs.Changes.{gathered, pairs_for}
use Rattle.pw_parts.specs.declared.changes.Side.TheVariants.{Gains}
use Rattle.pw_book.specs.inner.Settling.{EndsBefore}
use Rattle.pw_months.specs.Between.{lies_in}
use Rattle.pw_months.specs.Window.{kept_in}
use Rattle.pw_bills.specs.declared.energies.SharedOut.{SharedOut}
use Rattle.pw_bills.specs.ReadUpTo.{IsAccountsIn}
use Rattle.pw_bills.specs.Stretches.{end_of, first_of}
use Rattle.pw_bills.specs.inner.Flows.{AddsEnergy, Covers, IsOfStretch, all_between, meter_between, of_stretch, register_between}
use Rattle.pw_bills.specs.inner.Gathering.{Pass, IsGathered, IsOfAccount}
use Rattle.pw_bills.specs.inner.Naming.{NamesStretches, OwnerStart}
use Rattle.pw_bills.proofs.Covered.{covered-energy, pairs-alike}
use Rattle.pw_bills.proofs.Named.{Rises, begin-least, ends-most}
use Rattle.pw_bills.proofs.NamedStarts.{account-is}
use Rattle.pw_bills.proofs.StepByStep.{gathered-keep}

and-assoc : (l s c : Bool) → ((l && s) && c) ≡ (l && (s && c))
and-assoc true s c = refl
and-assoc false s c = refl

-- ---- a register
-- the seconds under a stretch's number are the account's in the stretch
stretch-seconds : (file : OfficeFile) (at : Key → Contents) (m : ℕ) (a : AccountId) (begins : List ℕ) (end : ℕ) (named : List OwnerStart) → NamesStretches at m a begins end named →
    (i p b t : ℕ) → i < length begins → t < END_SECOND →
    class_seconds file named (Some (account i)) p b t ≡ kept_in (get_or begins i 0) (end_of begins end i) (asked_seconds at (of_class (office_of file) (Some a) p b) m) t
stretch-seconds file at m a begins end named h i p b t l e =
    let tariff : Bool = (period_at file t == p) && (band_at file t == b) in
    ap (λ (s : Bool). s && tariff) (h i l t e) ∙ and-assoc (lies_in (get_or begins i 0) (end_of begins end i) t) (same_owner (owner_at at m t) (Some a)) tariff

module _ (file : OfficeFile) (at : Key → Contents) (m : ℕ) (r : Register) (a : AccountId) (begins : List ℕ) (end : ℕ) where
  pub register-given : (named : List OwnerStart) (ps : List (ℕ × ℕ)) (way : Direction) → counts_at file m r ≡ true → way ≡ direction_of r → EndsBefore END_SECOND (point at m r) → Rises begins end →
      Covers (point at m r) (first_of begins end) end ps → NamesStretches at m a begins end named → (k : TotalKey) → IsOfStretch begins k →
      pairs_for file named way ps k ≡ register_between (office_of file) at a begins end m k r
  register-given named ps way c w e g h n (Energy None p b d) s = absurd s
  register-given named ps way c w e g h n (TopUps o) s = absurd s
  register-given named ps way c w e g h n (Energy (Some i) p b d) s =
      let u : ℕ = get_or begins i.0 0 in
      let v : ℕ = end_of begins end i.0 in
      let told : ℕ → Option ℕ = point at m r in
      let keeps : ℕ → Bool = asked_seconds at (of_class (office_of file) (Some a) p.0 b.0) m in
      let x : pairs_sum (class_seconds file named (Some i) p.0 b.0) ps ≡ pairs_sum (kept_in u v keeps) ps
      = pairs-alike (class_seconds file named (Some i) p.0 b.0) (kept_in u v keeps) told (first_of begins end) end ps (λ t l. stretch-seconds file at m a begins end named n i.0 p.0 b.0 t s l) e h in
      let y : register_energy (kept_in u v keeps) told END_SECOND ≡ pairs_sum (kept_in u v keeps) ps
      = covered-energy keeps told (first_of begins end) end u v ps e (begin-least begins end i.0 g s) (ends-most begins end i.0 g s) h in
      let z : share_of (office_of file) at (of_stretch (office_of file) a begins end i.0 p.0 b.0) m r ≡ register_energy (kept_in u v keeps) told END_SECOND
      = ap (λ (q : Bool). cond q (register_energy (kept_in u v keeps) told END_SECOND) 0) c in
      let whole : pairs_sum (class_seconds file named (Some i) p.0 b.0) ps ≡ share_of (office_of file) at (of_stretch (office_of file) a begins end i.0 p.0 b.0) m r = x ∙ sym y ∙ sym z in
      λ j. cond (same_direction (w j) d) (whole j) 0

  register-uncounted : counts_at file m r ≡ false → (k : TotalKey) → register_between (office_of file) at a begins end m k r ≡ 0
  register-uncounted c (Energy None p b d) = refl
  register-uncounted c (TopUps o) = refl
  register-uncounted c (Energy (Some i) p b d) =
      let asked : Asked = of_stretch (office_of file) a begins end i.0 p.0 b.0 in
      let z : share_of (office_of file) at asked m r ≡ 0 = ap (λ (q : Bool). cond q (register_energy (asked_seconds at asked m) (point at m r) END_SECOND) 0) c in
      kept-nothing (same_direction (direction_of r) d) (share_of (office_of file) at asked m r) z

-- ---- a meter
module _ (office : OfficeRules) (at : Key → Contents) (m : ℕ) (a : AccountId) (begins : List ℕ) (end : ℕ) where
  registers-between : (k : TotalKey) → sum_by (register_between office at a begins end m k) registers ≡ meter_between office at a begins end k m
  registers-between (Energy None p b d) = refl
  registers-between (TopUps o) = refl
  registers-between (Energy (Some i) p b Import) = omega arith
  registers-between (Energy (Some i) p b Export) = omega arith

energy-none : (keeps : ℕ → Bool) (told : ℕ → Option ℕ) (end : ℕ) → ((t : ℕ) → t < end → keeps t ≡ false) → register_energy keeps told end ≡ 0
unfolding register_energy
energy-none keeps told end h = kept-none keeps (flow told end) 0 end (λ t x y. h t (omega (arith, y)))

over-none : (d : Direction) (f : Register → ℕ) → ((r : Register) → f r ≡ 0) → over_registers d f ≡ 0
over-none Import f h = let a = h I0 in let b = h I1 in let c = h I2 in omega (arith, a, b, c)
over-none Export f h = let a = h E0 in let b = h E1 in let c = h E2 in omega (arith, a, b, c)

-- a meter that is never the account's gives nothing
module _ (file : OfficeFile) (at : Key → Contents) (m : ℕ) (a : AccountId) (begins : List ℕ) (end : ℕ) (rising : Rises begins end) (never : ¬ (IsAccountsIn at a (first_of begins end) end m)) where
  -- no second of a stretch is the account's
  second-none : (i t : ℕ) → i < length begins → (lies_in (get_or begins i 0) (end_of begins end i) t && same_owner (owner_at at m t) (Some a)) ≡ false
  second-none i t l = elim (cases_Bool (lies_in (get_or begins i 0) (end_of begins end i) t && same_owner (owner_at at m t) (Some a))) [
    | inr n ↦ n
    | inl y ↦ (
        let both = and_parts (lies_in (get_or begins i 0) (end_of begins end i) t) (same_owner (owner_at at m t) (Some a)) y in
        let here = and_parts (nat_le (get_or begins i 0) t) (nat_lt t (end_of begins end i)) both.0 in
        let b = leb-true (get_or begins i 0) t here.0 in
        let e = ltb-true t (end_of begins end i) here.1 in
        let f = begin-least begins end i rising l in
        let g = ends-most begins end i rising l in
        absurd (never (t, (omega (arith, b, f), omega (arith, e, g)), account-is (owner_at at m t) a both.1)))
  ]

  nothing-given : (k : TotalKey) → IsOfStretch begins k → meter_between (office_of file) at a begins end k m ≡ 0
  nothing-given (Energy None p b d) s = refl
  nothing-given (TopUps o) s = refl
  nothing-given (Energy (Some i) p b d) s =
      let asked : Asked = of_stretch (office_of file) a begins end i.0 p.0 b.0 in
      let none : (t : ℕ) → t < END_SECOND → asked_seconds at asked m t ≡ false = λ t l. (
      let tariff : Bool = (period_at file t == p.0) && (band_at file t == b.0) in
      sym (and-assoc (lies_in (get_or begins i.0 0) (end_of begins end i.0) t) (same_owner (owner_at at m t) (Some a)) tariff)
      ∙ ap (λ (c : Bool). c && tariff) (second-none i.0 t s)) in
      over-none d (share_of (office_of file) at asked m) (λ r. (
      let e : register_energy (asked_seconds at asked m) (point at m r) END_SECOND ≡ 0 = energy-none (asked_seconds at asked m) (point at m r) END_SECOND none in
      kept-nothing (counts_at file m r) (register_energy (asked_seconds at asked m) (point at m r) END_SECOND) e))

-- ---- all meters
meters-all : (office : OfficeRules) (at : Key → Contents) (a : AccountId) (begins : List ℕ) (end new : ℕ) (k : TotalKey) → IsOfStretch begins k →
    new ≡ sum_over (meter_between office at a begins end k) 0 office.meters → new ≡ all_between office at a begins end k
unfolding energy_where
meters-all office at a begins end new (Energy None p b d) s e = absurd s
meters-all office at a begins end new (TopUps o) s e = absurd s
meters-all office at a begins end new (Energy (Some i) p b d) s e = e

sum-at : (f : Register → ℕ) (r : Register) → sum_by f (take (register_place r + 1) registers) ≡ sum_by f (take (register_place r) registers) + f r
sum-at f I0 = refl
sum-at f I1 = refl
sum-at f I2 = refl
sum-at f E0 = refl
sum-at f E1 = refl
sum-at f E2 = refl

sum-none : (f : ℕ → ℕ) → sum_over f 0 0 ≡ 0
unfolding sum_over
sum-none f = refl

-- what is gathered of an office
module _ (q : Pass) where
  abbrev UpTo : ℕ → ℕ → SharedOut → Type 0
  UpTo m i e = (k : TotalKey) → IsOfStretch q.begins k →
      gathered Gains e.changes.rows k
      ≡ sum_over (meter_between (office_of q.file) (contents_at q.content.records) q.account q.begins q.end k) 0 m
      + sum_by (register_between (office_of q.file) (contents_at q.content.records) q.account q.begins q.end m k) (take i registers)

  register-up_to : (m : ℕ) (r : Register) (mid next : SharedOut) → AddsEnergy q m r mid next → UpTo m (register_place r) mid → UpTo m (register_place r + 1) next
  register-up_to m r mid next f h = λ k s.
      let x = f k s in
      let y = h k s in
      let z = sum-at (register_between (office_of q.file) (contents_at q.content.records) q.account q.begins q.end m k) r in
      omega (arith, x, y, z)

  uncounted-up_to : (m : ℕ) (r : Register) (mid : SharedOut) → counts_at q.file m r ≡ false → UpTo m (register_place r) mid → UpTo m (register_place r + 1) mid
  uncounted-up_to m r mid n h = λ k s.
      let x = register-uncounted q.file (contents_at q.content.records) m r q.account q.begins q.end n k in
      let y = h k s in
      let z = sum-at (register_between (office_of q.file) (contents_at q.content.records) q.account q.begins q.end m k) r in
      omega (arith, x, y, z)

  meter-up_to : (m : ℕ) (mid : SharedOut) → UpTo m 6 mid → UpTo (m + 1) 0 mid
  meter-up_to m mid h = λ k s.
      let x = h k s in
      let y = registers-between (office_of q.file) (contents_at q.content.records) m q.account q.begins q.end k in
      let z = sum-next (meter_between (office_of q.file) (contents_at q.content.records) q.account q.begins q.end k) m in
      omega (arith, x, y, z)

  others-up_to : (m : ℕ) (mid : SharedOut) → Rises q.begins q.end → ¬ (IsOfAccount q m) → UpTo m 0 mid → UpTo (m + 1) 0 mid
  others-up_to m mid w n h = λ k s.
      let x = h k s in
      let y = nothing-given q.file (contents_at q.content.records) m q.account q.begins q.end w n k s in
      let z = sum-next (meter_between (office_of q.file) (contents_at q.content.records) q.account q.begins q.end k) m in
      omega (arith, x, y, z)

  pub all-given : (old new : SharedOut) → Rises q.begins q.end → ((k : TotalKey) → gathered Gains old.changes.rows k ≡ 0) → IsGathered AddsEnergy q old new → (k : TotalKey) → IsOfStretch q.begins k →
      gathered Gains new.changes.rows k ≡ all_between (office_of q.file) (contents_at q.content.records) q.account q.begins q.end k
  all-given old new w z h = λ k s.
      let first : UpTo 0 0 old = λ t l. (let x = z t in let y = sum-none (meter_between (office_of q.file) (contents_at q.content.records) q.account q.begins q.end t) in omega (arith, x, y)) in
      let all : UpTo (length q.file.meters) 0 new
      = gathered-keep AddsEnergy q UpTo (λ m r mid next l o y f u. register-up_to m r mid next f u) uncounted-up_to meter-up_to (λ m mid n u. others-up_to m mid w n u) old new first h in
      let e = all k s in
      meters-all (office_of q.file) (contents_at q.content.records) q.account q.begins q.end (gathered Gains new.changes.rows k) k s (omega (arith, e))
