-- What registers, meters and top-ups give to each total.
use Rattle.std.proofs.Common.{◌≡◌, ◌==◌, ◌&&◌, ℕ, ◌+◌, ◌^◌, ◌<◌, Bool, true, false, cond, Option, List, length, drop, get_or, refl, sym, ap, subst, ◌∙◌, arith}
use Rattle.std.specs.List.{filter_map}
use Rattle.std.proofs.lemmas.List.Sums.{sum_by-drop_more}
use Rattle.pw_flow.specs.Energy.{register_energy}
use Rattle.pw_flow.specs.Pairs.{pairs_sum}
use Rattle.pw_flow.specs.Time.{sum_over}
use Rattle.pw_flow.proofs.Pairs.{energy-pairs}
use Rattle.pw_flow.proofs.Sums.{sum-none}
use Rattle.pw_obis.specs.declared.reference.Register.{Register}
use Rattle.pw_time.specs.declared.instant.TheConstants.{END_SECOND}
use Rattle.pw_tariff.specs.declared.ids.AccountId.{AccountId}
use Rattle.pw_tariff.specs.declared.ids.Direction.{Direction}
use Rattle.pw_tariff.specs.declared.ids.Direction.TheVariants.{Import, Export}
use Rattle.pw_tariff.specs.declared.ids.MeterId.{MeterId}
use Rattle.pw_tariff.specs.Office.{OfficeFile, OfficeRules, office_of}
use Rattle.pw_tariff.specs.Owners.{owner_by_starts}
use Rattle.pw_tariff.specs.Shares.{class_seconds}
use Rattle.pw_model.specs.declared.records.Key.{Key}
use Rattle.pw_model.specs.declared.records.Content.TheVariants as content
use Rattle.pw_model.specs.declared.records.Entry.{Entry}
use Rattle.pw_model.specs.declared.records.TotalKey.{TotalKey}
use Rattle.pw_model.specs.declared.records.TotalKey.TheVariants.{Energy, TopUps}
use Rattle.pw_model.specs.Counting.{Counts, Member, contents_at, point, start}
use Rattle.pw_model.specs.Energy.{owner_at as owner_told, energy_where, of_class, share_of}
use Rattle.pw_model.specs.Office.{AllOfOffice}
use Rattle.pw_model.specs.Same.{direction_of, same_total, total_numbers}
use Rattle.pw_model.proofs.Counting.{standing-part}
use Rattle.pw_model.proofs.PlainEnergy.{sum-next, sum-to}
use Rattle.pw_parts.specs.Shown.{shown}
use Rattle.pw_model.specs.Seconds.{ListsSeconds}
use Rattle.pw_parts.specs.Changes.{pairs_for}
use Rattle.pw_parts.specs.inner.Counted.{ListsCounting, given}
use Rattle.pw_parts.specs.inner.Given.{in_way, register_given, registers_given, meter_given, energies_given, payment_given, AreCounted}
use Rattle.pw_model.specs.Kinds.{ListsHeld, IsReadingOf, IsAssignmentOf}
use Rattle.pw_parts.proofs.Chart.{listed}
use Rattle.pw_parts.proofs.Seconds.{seconds-given, seconds-shown}
use Rattle.pw_parts.proofs.Sharing.{points-end, counted-share, uncounted-share}

-- where all records count, those of a kind are those of the kind that count
pub all-count : (Of : Key → Type 0) (records found : List Entry) → ((e : Entry) → Member e records → Counts records e) → ListsHeld Of records found → ListsCounting Of records found
all-count Of records found c l = record {
  rising = l.rising;
  members = λ e. (
    λ m. (let a = (l.members e).0 m in (c e a.0, a.1)),
    λ a. (l.members e).1 (standing-part records e a.0.0, a.1),
  );
}

-- ---- a register
way-none : (d e : Direction) → in_way d e 0 ≡ 0
way-none Import Import = refl
way-none Import Export = refl
way-none Export Import = refl
way-none Export Export = refl

module _ (file : OfficeFile) (s : List Entry) (m : ℕ) (r : Register) where
  pub register-none : (office_of file).counts m r ≡ false → (k : TotalKey) → register_given (office_of file) s m r k ≡ 0
  register-none c (Energy o p b e) = ap (λ n. in_way (direction_of r) e n) (sym (uncounted-share file s (of_class (office_of file) o p.0 b.0) m r c)) ∙ way-none (direction_of r) e
  register-none c (TopUps a) = refl

  pub register-is : (owners : List (ℕ × Option AccountId)) (d : Direction) (ps : List (ℕ × ℕ)) → d ≡ direction_of r → AllOfOffice (office_of file) s →
      ((t : ℕ) → owner_by_starts owners t ≡ owner_told (contents_at s) m t) → (office_of file).counts m r ≡ true → ListsSeconds (point (contents_at s) m r) ps →
      (k : TotalKey) → pairs_for file owners d ps k ≡ register_given (office_of file) s m r k
  register-is owners d ps i h w c l (Energy o p b e) =
      let told = point (contents_at s) m r in
      let asked = class_seconds file owners o p.0 b.0 in
      let pairs : register_energy asked told END_SECOND ≡ pairs_sum asked ps = energy-pairs asked told END_SECOND ps (listed told END_SECOND ps l (points-end (office_of file) s m r h)) in
      let share = counted-share file owners s m r o p.0 b.0 (pairs_sum asked ps) w c (sym pairs) in
      ap (λ n. in_way d e n) share ∙ ap (λ (x : Direction). in_way x e (share_of (office_of file) (contents_at s) (of_class (office_of file) o p.0 b.0) m r)) i
  register-is owners d ps i h w c l (TopUps a) = refl

-- ---- some registers
pub registers-more : (office : OfficeRules) (s : List Entry) (m : ℕ) (rs : List Register) (i : ℕ) (d : Register) (k : TotalKey) → i < length rs →
    registers_given office s m (drop i rs) k ≡ register_given office s m (get_or rs i d) k + registers_given office s m (drop (i + 1) rs) k
registers-more office s m rs i d k l = sum_by-drop_more (λ (r : Register). register_given office s m r k) rs i d l

-- ---- all meters
pub meters-all : (office : OfficeRules) (s : List Entry) (n : ℕ) (k : TotalKey) → n ≡ office.meters → sum_over (λ m. meter_given office s m k) 0 n ≡ energies_given office s k
unfolding energy_where
meters-all office s n (Energy o p b d) e = ap (sum_over (λ m. meter_given office s m (Energy o p b d)) 0) e
meters-all office s n (TopUps a) e = sum-none (λ m. 0) 0 n (λ t x y. refl)

pub meter-room : (office : OfficeRules) (s : List Entry) (m : ℕ) (k : TotalKey) (old now : ℕ) → m < office.meters → now ≡ old + sum_over (λ i. meter_given office s i k) 0 m → old + energies_given office s k < 2 ^ 64 →
    now + meter_given office s m k < 2 ^ 64
meter-room office s m k old now l e h =
    let f : ℕ → ℕ = λ i. meter_given office s i k in
    let a = sum-next f m in
    let b = sum-to f (m + 1) office.meters (omega arith) in
    let c = meters-all office s office.meters k refl in
    omega (arith, a, b, c, e, h)

pub meter-next : (office : OfficeRules) (s : List Entry) (m : ℕ) (k : TotalKey) (old now new : ℕ) → now ≡ old + sum_over (λ i. meter_given office s i k) 0 m → new ≡ now + meter_given office s m k →
    new ≡ old + sum_over (λ i. meter_given office s i k) 0 (m + 1)
meter-next office s m k old now new e h =
    let f : ℕ → ℕ = λ i. meter_given office s i k in
    let a = sum-next f m in
    omega (arith, a, e, h)

pub meters-none : (office : OfficeRules) (s : List Entry) (k : TotalKey) (n : ℕ) → n ≡ n + sum_over (λ i. meter_given office s i k) 0 0
unfolding sum_over
meters-none office s k n = omega arith

-- ---- a top-up
and-true : (b : Bool) → (b && true) ≡ b
and-true true = refl
and-true false = refl

pub paid-is : (e : Entry) (a : AccountId) (n p t : ℕ) (k : TotalKey) → e.content ≡ content.TopUp a n t → p ≡ n → let n : ℕ = cond (same_total (TopUps a) k) p 0 in n ≡ payment_given e k
unfolding total_numbers
paid-is e a n p t (Energy o q b d) i j = refl
paid-is e a n p t (TopUps b) i j = rw (i, j) (ap (λ x. cond x n 0) (and-true (a.0 == b.0)))

-- ---- what a list of readings or assignments tells
pub points-told : (office : OfficeRules) (records readings : List Entry) (m : MeterId) (r : Register) (items ps : List (ℕ × ℕ)) → AreCounted office records → ListsHeld (IsReadingOf m r) records readings →
    items ≡ filter_map shown readings → ps ≡ items → ListsSeconds (point (contents_at records) m.0 r) ps
points-told office records readings m r items ps c l e f =
    let P : List (ℕ × ℕ) → Type 0 = ListsSeconds (point (contents_at records) m.0 r) in
    subst P (sym (f ∙ e)) (seconds-shown m r records readings (all-count (IsReadingOf m r) records readings c.counting l))

pub starts-told : (office : OfficeRules) (records assignments : List Entry) (m : MeterId) (items : List (ℕ × Option AccountId)) → AreCounted office records → ListsHeld (IsAssignmentOf m) records assignments →
    items ≡ filter_map given assignments → ListsSeconds (start (contents_at records) m.0) items
starts-told office records assignments m items c l e =
    let P : List (ℕ × Option AccountId) → Type 0 = ListsSeconds (start (contents_at records) m.0) in
    subst P (sym e) (seconds-given m records assignments (all-count (IsAssignmentOf m) records assignments c.counting l))
