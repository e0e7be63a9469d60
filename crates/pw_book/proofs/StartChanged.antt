-- Energies where another start of a meter counts.
use Rattle.std.proofs.Common.{◌≡◌, ◌==◌, ℕ, zero, suc, ◌+◌, ◌*◌, ◌<◌, ◌≤◌, cond, Option, List, length, take, get_or, refl, ap, sym, subst, ◌∙◌, inl, inr, arith}
use Rattle.std.specs.List.{sum_by}
use Rattle.std.proofs.lemmas.Bool.{cases_eq, eq-eqb, ne_eqb}
use Rattle.pw_obis.specs.Registers.{registers}
use Rattle.pw_obis.specs.declared.reference.Register.{Register}
use Rattle.pw_time.specs.declared.instant.TheConstants.{END_SECOND}
use Rattle.pw_tariff.specs.declared.ids.AccountId.{AccountId}
use Rattle.pw_tariff.specs.declared.ids.BandId.{BandId}
use Rattle.pw_tariff.specs.declared.ids.PeriodId.{PeriodId}
use Rattle.pw_tariff.specs.declared.ids.Direction.{Direction}
use Rattle.pw_tariff.specs.declared.ids.Direction.TheVariants.{Import, Export}
use Rattle.pw_tariff.specs.Office.{OfficeRules}
use Rattle.pw_tariff.specs.Owners.{StartsIncrease, owner_by_starts}
use Rattle.pw_model.specs.declared.records.Contents.{Contents}
use Rattle.pw_model.specs.declared.records.Key.{Key}
use Rattle.pw_model.specs.declared.records.TotalKey.{TotalKey}
use Rattle.pw_model.specs.declared.records.TotalKey.TheVariants.{Energy, TopUps}
use Rattle.pw_model.specs.Changes.{IsOtherStart}
use Rattle.pw_model.specs.Counting.{point, start}
use Rattle.pw_model.specs.Energy.{Asked, of_class, over_registers, owner_at, share_of}
use Rattle.pw_model.specs.Shelf.{ShelfContent}
use Rattle.pw_model.proofs.Assignments.{one-more_assignment}
use Rattle.pw_shelf.specs.Changes.{starts_with, with_start}
use Rattle.pw_model.specs.Seconds.{ListsSeconds}
use Rattle.pw_book.specs.inner.Moves.{MovesTotals, OfOwners}
use Rattle.pw_book.specs.Cost.{HasStarts}
use Rattle.pw_book.specs.inner.Settling.{EndsBefore, EndsBeforeNext, HavePoints, IsSettled, IsStartChanged, ListsUpToNextStart, register_told}
use Rattle.pw_book.specs.inner.Sums.{energy_told}
use Rattle.pw_book.proofs.Following.{Differ}
use Rattle.pw_parts.proofs.Owning.{owners-told, starts-rise}

-- ---- one register more
pub registers-more : (f : Register → ℕ) (i : ℕ) (d : Register) → i < 6 → sum_by f (take (i + 1) registers) ≡ sum_by f (take i registers) + f (get_or registers i d)
registers-more f zero d l = refl
registers-more f (suc zero) d l = refl
registers-more f (suc (suc zero)) d l = refl
registers-more f (suc (suc (suc zero))) d l = refl
registers-more f (suc (suc (suc (suc zero)))) d l = refl
registers-more f (suc (suc (suc (suc (suc zero))))) d l = refl
registers-more f (suc (suc (suc (suc (suc (suc i)))))) d l = absurd (omega (arith, l))

pub moved-more : (f h : Register → ℕ) (i : ℕ) (d : Register) (given taken was_given was_taken : ℕ) → i < 6 → was_given + sum_by f (take i registers) ≡ was_taken + sum_by h (take i registers) →
    given + was_taken + f (get_or registers i d) ≡ taken + was_given + h (get_or registers i d) → given + sum_by f (take (i + 1) registers) ≡ taken + sum_by h (take (i + 1) registers)
moved-more f h i d given taken was_given was_taken l a b =
    let x = registers-more f i d l in
    let y = registers-more h i d l in
    omega (arith, a, b, x, y)

pub tally-more : (points : Register → ℕ) (i : ℕ) (d : Register) (was mid now : ℕ) → i < 6 → mid ≤ was + 5 * i + sum_by points (take i registers) → now ≤ mid + 5 + points (get_or registers i d) →
    now ≤ was + 5 * (i + 1) + sum_by points (take (i + 1) registers)
tally-more points i d was mid now l a b =
    let x = registers-more points i d l in
    omega (arith, a, b, x)

part-of_all : (points : Register → ℕ) (i : ℕ) → i ≤ 6 → sum_by points (take i registers) ≤ over_registers Import points + over_registers Export points
part-of_all points zero l = omega arith
part-of_all points (suc zero) l = omega arith
part-of_all points (suc (suc zero)) l = omega arith
part-of_all points (suc (suc (suc zero))) l = omega arith
part-of_all points (suc (suc (suc (suc zero)))) l = omega arith
part-of_all points (suc (suc (suc (suc (suc zero))))) l = omega arith
part-of_all points (suc (suc (suc (suc (suc (suc zero)))))) l = omega arith
part-of_all points (suc (suc (suc (suc (suc (suc (suc i))))))) l = absurd (omega (arith, l))

pub tally-all : (points : Register → ℕ) (i was now : ℕ) → i ≤ 6 → now ≤ was + 5 * i + sum_by points (take i registers) → now ≤ was + 30 + (over_registers Import points + over_registers Export points)
tally-all points i was now l a = let p = part-of_all points i l in omega (arith, a, l, p)

-- what a register's call counts, in a content that is the same
pub tally-there : (c d : ShelfContent) (m z until : ℕ) (r : Register) (points : Register → ℕ) (was now : ℕ) → d ≡ c →
    ((most : ℕ) → EndsBeforeNext (d.start m) z until → ((ps : List (ℕ × ℕ)) → ListsUpToNextStart d m r z ps → length ps ≤ most) → now ≤ was + 5 + most) →
    EndsBeforeNext (c.start m) z until → HavePoints c m z points → now ≤ was + 5 + points r
tally-there c d m z until r points was now e t w h =
    let P : ShelfContent → Type 0 = λ x. EndsBeforeNext (x.start m) z until in
    let Q : ShelfContent → Type 0 = λ x. (ps : List (ℕ × ℕ)) → ListsUpToNextStart x m r z ps → length ps ≤ points r in
    t (points r) (subst P (sym e) w) (subst Q (sym e) (h r))

pub changed-there : (c d : ShelfContent) (was is : Key → Contents) (m z until : ℕ) (owners others : List (ℕ × Option AccountId)) → d ≡ c → IsStartChanged c was is m z until owners others → IsStartChanged d was is m z until owners others
changed-there c d was is m z until owners others e h = let P : ShelfContent → Type 0 = λ x. IsStartChanged x was is m z until owners others in subst P (sym e) h

-- ---- all registers
registers-told : (office : OfficeRules) (at : Key → Contents) (m : ℕ) (o : Option AccountId) (p : PeriodId) (b : BandId) (d : Direction) → sum_by (register_told office at m (Energy o p b d)) registers ≡ over_registers d (share_of office at (of_class office o p.0 b.0) m)
registers-told office at m o p b Import = omega arith
registers-told office at m o p b Export = omega arith

pub all-moved : (office : OfficeRules) (was is : Key → Contents) (m z i : ℕ) (less more : TotalKey → ℕ) → IsOtherStart was is m z → m < office.meters → 6 ≤ i → i ≤ 6 →
    ((k : TotalKey) → more k + sum_by (register_told office was m k) (take i registers) ≡ less k + sum_by (register_told office is m k) (take i registers)) → Differ office was is less more
all-moved office was is m z i less more o l f g h (TopUps a) =
    let e : i ≡ 6 = omega (arith, f, g) in
    let x = ap (λ (n : ℕ). sum_by (register_told office was m (TopUps a)) (take n registers)) e in
    let y = ap (λ (n : ℕ). sum_by (register_told office is m (TopUps a)) (take n registers)) e in
    let t = h (TopUps a) in
    omega (arith, x, y, t)
all-moved office was is m z i less more o l f g h (Energy q p b d) =
    let e : i ≡ 6 = omega (arith, f, g) in
    let x = ap (λ (n : ℕ). sum_by (register_told office was m (Energy q p b d)) (take n registers)) e ∙ registers-told office was m q p b d in
    let y = ap (λ (n : ℕ). sum_by (register_told office is m (Energy q p b d)) (take n registers)) e ∙ registers-told office is m q p b d in
    let t = h (Energy q p b d) in
    let asked : Asked = of_class office q p.0 b.0 in
    let law = (one-more_assignment office was is m z o).energies asked d (share_of office was asked m) (share_of office is asked m) l (λ r. omega arith) in
    omega (arith, x, y, t, law)

-- ---- the starts before and after
told-otherwise : (told others : ℕ → Option (Option AccountId)) (xs : List (ℕ × Option AccountId)) → ((t : ℕ) → told t ≡ others t) → ListsSeconds told xs → ListsSeconds others xs
told-otherwise told others xs e l = record {
  rising = l.rising;
  members = λ x. (λ m. sym (e x.0) ∙ (l.members x).0 m, λ p. (l.members x).1 (e x.0 ∙ p));
}

starts-after : (was is : Key → Contents) (told : ℕ → Option (Option AccountId)) (m z : ℕ) (owner : Option (Option AccountId)) → IsOtherStart was is m z → start is m z ≡ owner → told ≡ start was m →
    (t : ℕ) → cond (t == z) owner (told t) ≡ start is m t
starts-after was is told m z owner o h e t = elim (cases_eq t z) [
  | inl i ↦ rw (eq-eqb t z i) (sym h ∙ ap (start is m) (sym i))
  | inr n ↦ rw (ne_eqb t z n) (ap (λ (f : ℕ → Option (Option AccountId)). f t) e ∙ o.elsewhere m t (λ _. n))
]

-- owners that are those of a list of starts, as far as the starts rise
pub owners-of : (at : Key → Contents) (m : ℕ) (owners lent xs : List (ℕ × Option AccountId)) → (StartsIncrease lent → owners ≡ lent) → lent ≡ xs → ListsSeconds (start at m) xs → (t : ℕ) → owner_by_starts owners t ≡ owner_at at m t
owners-of at m owners lent xs f e l t =
    let P : List (ℕ × Option AccountId) → Type 0 = λ ys. StartsIncrease ys in
    let q : owners ≡ xs = f (subst P (sym e) (starts-rise xs l.rising)) ∙ e in
    ap (λ (ys : List (ℕ × Option AccountId)). owner_by_starts ys t) q ∙ owners-told at m xs l t

pub start-changed : (c d : ShelfContent) (was is : Key → Contents) (m z until : ℕ) (owner : Option (Option AccountId)) (owners others old_lent new_lent old_starts new_starts : List (ℕ × Option AccountId)) → d ≡ c →
    c.point ≡ point was → c.start ≡ start was → IsOtherStart was is m z → start is m z ≡ owner → ((r : Register) → EndsBefore END_SECOND (point was m r)) →
    ListsSeconds (c.start m) old_starts → EndsBeforeNext (c.start m) z until → ListsSeconds (λ t. cond (t == z) owner (c.start m t)) new_starts →
    (StartsIncrease old_lent → owners ≡ old_lent) → old_lent ≡ old_starts → (StartsIncrease new_lent → others ≡ new_lent) → new_lent ≡ new_starts → IsStartChanged d was is m z until owners others
start-changed c d was is m z until owner owners others old_lent new_lent old_starts new_starts q p s o h e l w n f a g b =
    let sm : c.start m ≡ start was m = ap (λ (x : ℕ → ℕ → Option (Option AccountId)). x m) s in
    let W : (ℕ → Option (Option AccountId)) → Type 0 = λ told. EndsBeforeNext told z until in
    let L : (ℕ → Option (Option AccountId)) → Type 0 = λ told. ListsSeconds told old_starts in
    changed-there c d was is m z until owners others q (record {
      other = o;
      window = subst W sm w;
      before = owners-of was m owners old_lent old_starts f a (subst L sm l);
      after = owners-of is m others new_lent new_starts g b (told-otherwise (λ t. cond (t == z) owner (c.start m t)) (start is m) new_starts (starts-after was is (c.start m) m z owner o h sm) n);
      points = λ r. ap (λ (x : ℕ → Register → ℕ → Option ℕ). x m r) p;
      ended = e;
    })

-- ---- totals and the start changed
pub start-settled : (office : OfficeRules) (was is : Key → Contents) (b c d e f : ShelfContent) (less more : TotalKey → ℕ) (m z : ℕ) (owner : Option (Option AccountId)) → c ≡ b → d ≡ c → Differ office was is less more →
    MovesTotals (OfOwners office.periods office.bands office.accounts) more less d e → f ≡ with_start e m z owner → IsSettled office was is b f
start-settled office was is b c d e f less more m z owner x y differ moves q =
    let p = y ∙ x in
    record {
      records = ap (λ (s : ShelfContent). s.records) q ∙ moves.records ∙ ap (λ (s : ShelfContent). s.records) p;
      energies = λ k t h l. (
          let old : d.total k ≡ energy_told office was k = ap (λ (s : ShelfContent). s.total k) p ∙ h in
          let change = differ k in
          ap (λ (s : ShelfContent). s.total k) q ∙ moves.here k t (energy_told office is k) (omega (arith, old, change)) l);
      elsewhere = λ k t. ap (λ (s : ShelfContent). s.total k) q ∙ moves.elsewhere k t ∙ ap (λ (s : ShelfContent). s.total k) p;
    }

pub start-kept : (these : TotalKey → Type 0) (more less : TotalKey → ℕ) (b c d e f : ShelfContent) (m z : ℕ) (owner : Option (Option AccountId)) → c ≡ b → d ≡ c → MovesTotals these more less d e → f ≡ with_start e m z owner →
    (f.point ≡ b.point) × (f.start ≡ starts_with b.start m z owner)
start-kept these more less b c d e f m z owner x y moves q = (
  ap (λ (s : ShelfContent). s.point) q ∙ moves.point ∙ ap (λ (s : ShelfContent). s.point) (y ∙ x),
  ap (λ (s : ShelfContent). s.start) q ∙ ap (λ (s : ℕ → ℕ → Option (Option AccountId)). starts_with s m z owner) (moves.start ∙ ap (λ (s : ShelfContent). s.start) (y ∙ x)),
)

-- ---- how much is read
-- the starts, and the points up to the next
pub window-counted : (c d : ShelfContent) (m z until starts rows : ℕ) (points : Register → ℕ) (lent again xs : List (ℕ × Option AccountId)) (was mid now : ℕ) → d ≡ c → ListsSeconds (c.start m) xs → length lent ≡ rows → lent ≡ xs → again ≡ xs →
    ((told : ℕ → Option (Option AccountId)) → ListsSeconds told again → EndsBeforeNext told z until) → mid ≡ was + 1 + rows →
    ((most : Register → ℕ) → EndsBeforeNext (d.start m) z until → HavePoints d m z most → now ≤ mid + 30 + (over_registers Import most + over_registers Export most)) →
    HasStarts c m starts → HavePoints c m z points → now ≤ was + (31 + starts) + (over_registers Import points + over_registers Export points)
window-counted c d m z until starts rows points lent again xs was mid now e l n f a u t w h p =
    let R : List (ℕ × Option AccountId) → Type 0 = λ ys. ListsSeconds (c.start m) ys in
    let P : ShelfContent → Type 0 = λ x. EndsBeforeNext (x.start m) z until in
    let Q : ShelfContent → Type 0 = λ x. HavePoints x m z points in
    let read = w points (subst P (sym e) (u (c.start m) (subst R (sym a) l))) (subst Q (sym e) p) in
    let few = h xs l in
    let same = ap (λ (ys : List (ℕ × Option AccountId)). length ys) f in
    omega (arith, t, read, few, n, same)
