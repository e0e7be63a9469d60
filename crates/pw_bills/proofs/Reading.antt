-- How much is read, and what one call behind another leaves.
use Rattle.std.proofs.Common.{◌≡◌, ◌&&◌, ◌||◌, ℕ, zero, suc, ◌+◌, ◌*◌, ◌<◌, ◌≤◌, Bool, true, false, cond, Option, Some, None, List, [], ◌∷◌, ◌++◌, length, take, get_or, All, refl, ap, sym, subst, ◌∙◌, arith}
use Rattle.std.specs.List.{slice_get, sum_by}
use Rattle.std.proofs.lemmas.Bool.{or_parts, true≢false}
use Rattle.std.proofs.lemmas.Option.{none-some, same_Some}
use Rattle.std.proofs.lemmas.List.{get_or_default}
use Rattle.std.proofs.lemmas.List.Elements.{All-head, All-tail}
use Rattle.pw_obis.specs.Registers.{registers}
use Rattle.pw_obis.specs.declared.reference.Register.{Register}
use Rattle.pw_obis.specs.declared.reference.Register.TheVariants.{I0, I1, I2, E0, E1, E2}
use Rattle.pw_flow.specs.Time.{sum_over}
use Rattle.pw_tariff.specs.declared.ids.AccountId.{AccountId}
use Rattle.pw_tariff.specs.declared.ids.Direction.TheVariants.{Import, Export}
use Rattle.pw_tariff.specs.Office.{IsSound, MeterText, OfficeFile, counts_at, counts_for, has_register, overlap}
use Rattle.pw_model.specs.Energy.{over_registers}
use Rattle.pw_model.specs.Seconds.{ListsSeconds}
use Rattle.pw_model.specs.Shelf.{ShelfContent}
use Rattle.pw_model.proofs.PlainEnergy.{sum-next, sum-to}
use Rattle.pw_shelf.specs.declared.shelf.Shelf.{Ghosts}
use Rattle.pw_shelf.specs.Rows.{rows_found}
use Rattle.pw_shelf.specs.Seconds.{IsBefore, IsBehind, ListsSecondsWithin}
use Rattle.pw_book.specs.Asking.{IsOnlyAsked}
use Rattle.pw_book.specs.Cost.{HasPoints, HasPointsAt}
use Rattle.pw_book.specs.Listed.{point_listed}
use Rattle.pw_book.proofs.StartChanged.{registers-more}
use Rattle.pw_book.proofs.WindowPairs.{tally-five}
use Rattle.pw_bills.specs.Reads.{IsBetween, IsEnoughFor, IsOwned}
use Rattle.pw_bills.specs.Stretches.{AreStretches, first_of}
use Rattle.pw_bills.specs.ReadUpTo.{IsEnoughToRead}
use Rattle.pw_bills.specs.inner.Flows.{Covers}
use Rattle.pw_bills.specs.inner.Gathering.{Pass, IsEnoughToGather, PointsAreRead, counted_reads, first_second, meter_reads}
use Rattle.pw_bills.specs.inner.LastReadings.{ThreeAreRead}
use Rattle.pw_bills.proofs.Covered.{covers}
use Rattle.pw_bills.proofs.Named.{end-most, rises}

-- ---- where stretches begin
pub stretches-within : (begins : List ℕ) (end : ℕ) → AreStretches begins end → first_of begins end < end
stretches-within [] end w = let s = w.some in absurd (omega (arith, s))
stretches-within (b ∷ begins) end w =
    let r = rises (b ∷ begins) end w.rising in
    let q = r.0 in
    let e = end-most begins end r.1 in
    omega (arith, q, e)

pub stretches-begin : (begins : List ℕ) (last : ℕ) → AreStretches begins (last + 1) → first_of begins (last + 1) ≤ last
stretches-begin begins last w = let q = stretches-within begins (last + 1) w in omega (arith, q)

-- the first begin, whatever is told where there is none
pub first-read : (begins : List ℕ) (end other : ℕ) → AreStretches begins end → get_or begins 0 other ≡ first_of begins end
first-read begins end other w = let s = w.some in get_or_default begins 0 other end (omega (arith, s))

-- ---- the points of a register
points-few : (told : ℕ → Option ℕ) (x until most : ℕ) (within : List (ℕ × ℕ)) → ListsSecondsWithin x until told within → HasPointsAt (IsBetween x (until + 1)) told most → length within ≤ most
points-few told x until most within l h = h within l.rising (λ a m. (let q = (l.members a).0 m in let k = q.1 in ((q.0, omega (arith, k)), q.2)))

-- told by contents that are the same
pub points-told : (c d e : ShelfContent) (m : ℕ) (r : Register) (x from until : ℕ) (before : Option (ℕ × ℕ)) (within lent : List (ℕ × ℕ)) (after : Option (ℕ × ℕ)) (points : List (ℕ × ℕ)) → d ≡ c → e ≡ d → from ≡ x → x ≤ until →
    IsBefore (c.point m r) from before → IsBehind (d.point m r) until after → ListsSecondsWithin from until (e.point m r) within → lent ≡ within →
    points ≡ point_listed before (lent ++ point_listed after []) → Covers (c.point m r) x (until + 1) points
points-told c d e m r x from until before within lent after points p q f u b a l v w =
    let told : ℕ → Option ℕ = c.point m r in
    let B : ℕ → Type 0 = λ s. IsBefore told s before in
    let A : (ℕ → Option ℕ) → Type 0 = λ t. IsBehind t until after in
    let L : (ℕ → Option ℕ) → Type 0 = λ t. ListsSecondsWithin from until t within in
    let M : ℕ → Type 0 = λ s. ListsSecondsWithin s until told within in
    let P : List (ℕ × ℕ) → Type 0 = λ ps. Covers told x (until + 1) ps in
    let dp : d.point m r ≡ told = ap (λ (o : ShelfContent). o.point m r) p in
    let ep : e.point m r ≡ told = ap (λ (o : ShelfContent). o.point m r) (q ∙ p) in
    let whole : points ≡ point_listed before (within ++ point_listed after []) = w ∙ ap (λ (xs : List (ℕ × ℕ)). point_listed before (xs ++ point_listed after [])) v in
    subst P (sym whole) (covers told x until u before within after (subst B f b) (subst M f (subst L ep l)) (subst A dp a))

pub points-read : {S : Type 0} (shelf : Ghosts S) (o p u v : S) (x from m : ℕ) (r : Register) (until most : ℕ) (before : Option (ℕ × ℕ)) (within : List (ℕ × ℕ)) (after : Option (ℕ × ℕ)) (listed : ℕ) → from ≡ x →
    IsOnlyAsked shelf 0 o p → IsOnlyAsked shelf 0 p u → IsOnlyAsked shelf 0 u v → shelf.clean v → (shelf.clean v → ListsSecondsWithin from until ((shelf.state u).content.point m r) within) →
    HasPointsAt (IsBetween x (until + 1)) ((shelf.state o).content.point m r) most → listed ≡ length within →
    (shelf.state p).tally ≡ (shelf.state o).tally + 1 + rows_found before → (shelf.state u).tally ≡ (shelf.state p).tally + 1 + rows_found after → (shelf.state v).tally ≡ (shelf.state u).tally + 1 + listed →
    (shelf.state v).tally ≤ (shelf.state o).tally + 5 + most
points-read shelf o p u v x from m r until most before within after listed f first second third k l h e a b g =
    let told : ℕ → Option ℕ = (shelf.state o).content.point m r in
    let late = third.kept.clean k in
    let same : (shelf.state u).content ≡ (shelf.state o).content = second.content late ∙ first.content (second.kept.clean late) in
    let L : ShelfContent → Type 0 = λ c. ListsSecondsWithin from until (c.point m r) within in
    let M : ℕ → Type 0 = λ s. ListsSecondsWithin s until told within in
    let few = points-few told x until most within (subst M f (subst L same (l k))) h in
    tally-five (shelf.state o).tally (shelf.state p).tally (shelf.state u).tally (shelf.state v).tally before after listed (length within) most a b g e few

-- as many as are enough for its points
pub points-counted : (q : Pass) (m : ℕ) (r : Register) (most was now : ℕ) → PointsAreRead q m r most →
    ((n : ℕ) → HasPointsAt (IsBetween (first_second q) q.end) (q.content.point m r) n → now ≤ was + 5 + n) → now ≤ was + most
points-counted q m r most was now h f = let x = f h.0 h.1 in let g = h.2 in omega (arith, x, g)

-- ---- the registers of a meter
three-few : (a b c : Bool) → (a && (b || c)) ≡ false → cond a 5 0 + cond b 5 0 + cond c 5 0 ≤ 10
three-few true true c e = absurd (true≢false e)
three-few true false true e = absurd (true≢false e)
three-few true false false e = omega arith
three-few false true true e = omega arith
three-few false true false e = omega arith
three-few false false true e = omega arith
three-few false false false e = omega arith

four-count : (rs : List Register) → overlap rs ≡ false →
    cond (has_register rs I0) 5 0 + cond (has_register rs I1) 5 0 + cond (has_register rs I2) 5 0 + cond (has_register rs E0) 5 0 + cond (has_register rs E1) 5 0 + cond (has_register rs E2) 5 0 ≤ 20
four-count rs h =
    let imported : Bool = has_register rs I0 && (has_register rs I1 || has_register rs I2) in
    let exported : Bool = has_register rs E0 && (has_register rs E1 || has_register rs E2) in
    let both = or_parts imported exported h in
    let i = three-few (has_register rs I0) (has_register rs I1) (has_register rs I2) both.0 in
    let e = three-few (has_register rs E0) (has_register rs E1) (has_register rs E2) both.1 in
    omega (arith, i, e)

all-got : (P : MeterText → Type 0) (ms : List MeterText) (k : ℕ) (x : MeterText) → All P ms → slice_get ms k ≡ Some x → P x
all-got P [] k x a e = absurd (none-some x e)
all-got P (y ∷ ys) zero x a e = subst P (same_Some y x e) (All-head P y ys a)
all-got P (y ∷ ys) (suc k) x a e = all-got P ys k x (All-tail P y ys a) e

four-for : (o : Option MeterText) → ((x : MeterText) → o ≡ Some x → overlap x.registers ≡ false) →
    cond (counts_for o I0) 5 0 + cond (counts_for o I1) 5 0 + cond (counts_for o I2) 5 0 + cond (counts_for o E0) 5 0 + cond (counts_for o E1) 5 0 + cond (counts_for o E2) 5 0 ≤ 20
four-for None h = omega arith
four-for (Some x) h = four-count x.registers (h x refl)

-- four registers of a meter count at most
four-counted : (file : OfficeFile) (m : ℕ) → IsSound file →
    cond (counts_at file m I0) 5 0 + cond (counts_at file m I1) 5 0 + cond (counts_at file m I2) 5 0 + cond (counts_at file m E0) 5 0 + cond (counts_at file m E1) 5 0 + cond (counts_at file m E2) 5 0 ≤ 20
four-counted file m s = four-for (slice_get file.meters m) (λ x e. all-got (λ t. overlap t.registers ≡ false) file.meters m x s.totals e)

five-more : (b : Bool) (n : ℕ) → cond b (5 + n) 0 ≤ cond b 5 0 + n
five-more true n = omega arith
five-more false n = omega arith

pub registers-five : (file : OfficeFile) (m : ℕ) (each : Register → ℕ) → IsSound file → sum_by (counted_reads file m (λ r. 5 + each r)) registers ≤ 20 + (over_registers Import each + over_registers Export each)
registers-five file m each s =
    let h = four-counted file m s in
    let a = five-more (counts_at file m I0) (each I0) in
    let b = five-more (counts_at file m I1) (each I1) in
    let c = five-more (counts_at file m I2) (each I2) in
    let d = five-more (counts_at file m E0) (each E0) in
    let e = five-more (counts_at file m E1) (each E1) in
    let f = five-more (counts_at file m E2) (each E2) in
    omega (arith, h, a, b, c, d, e, f)

three-for : (b : Bool) → 5 * cond b 3 0 ≡ 3 * cond b 5 0
three-for true = refl
three-for false = refl

pub registers-three : (file : OfficeFile) (m : ℕ) → IsSound file → sum_by (counted_reads file m (λ r. 3)) registers ≤ 12
registers-three file m s =
    let h = four-counted file m s in
    let a = three-for (counts_at file m I0) in
    let b = three-for (counts_at file m I1) in
    let c = three-for (counts_at file m I2) in
    let d = three-for (counts_at file m E0) in
    let e = three-for (counts_at file m E1) in
    let f = three-for (counts_at file m E2) in
    omega (arith, h, a, b, c, d, e, f)

pub register-counted : (file : OfficeFile) (m : ℕ) (each : Register → ℕ) (r : Register) (was now : ℕ) → counts_at file m r ≡ true → now ≤ was + each r → now ≤ was + counted_reads file m each r
register-counted file m each r was now y h =
    let reads : Bool → ℕ = λ b. cond b (each r) 0 in
    let q : reads (counts_at file m r) ≡ reads true = ap reads y in
    omega (arith, q, h)

pub register-read : (f : Register → ℕ) (i : ℕ) (r : Register) (was mid new : ℕ) → i < 6 → mid ≤ was + sum_by f (take i registers) → new ≤ mid + f (get_or registers i r) → new ≤ was + sum_by f (take (i + 1) registers)
register-read f i r was mid new l a b = let x = registers-more f i r l in omega (arith, a, b, x)

pub registers-read : (f : Register → ℕ) (i was now : ℕ) → 6 ≤ i → i ≤ 6 → now ≤ was + sum_by f (take i registers) → now ≤ was + sum_by f registers
registers-read f i was now l g h =
    let q : i ≡ 6 = omega (arith, l, g) in
    let x : sum_by f (take i registers) ≡ sum_by f registers = ap (λ (n : ℕ). sum_by f (take n registers)) q in
    omega (arith, h, x)

registers-less : (f : Register → ℕ) (i : ℕ) → i ≤ 6 → sum_by f (take i registers) ≤ sum_by f registers
registers-less f zero l = omega arith
registers-less f (suc zero) l = omega arith
registers-less f (suc (suc zero)) l = omega arith
registers-less f (suc (suc (suc zero))) l = omega arith
registers-less f (suc (suc (suc (suc zero)))) l = omega arith
registers-less f (suc (suc (suc (suc (suc zero))))) l = omega arith
registers-less f (suc (suc (suc (suc (suc (suc zero)))))) l = omega arith
registers-less f (suc (suc (suc (suc (suc (suc (suc i))))))) l = absurd (omega (arith, l))

-- a fault on the way
pub register-failed : (f : Register → ℕ) (i : ℕ) (r : Register) (was mid new : ℕ) → i < 6 → mid ≤ was + sum_by f (take i registers) → new ≤ mid + f (get_or registers i r) → new ≤ was + sum_by f registers
register-failed f i r was mid new l a b =
    let x = register-read f i r was mid new l a b in
    let y = registers-less f (i + 1) (omega (arith, l)) in
    omega (arith, x, y)

-- ---- a meter
module _ (reads : Pass → ℕ → Register → ℕ → Type 0) (q : Pass) (m most : ℕ) (h : IsEnoughToGather reads q m most) where
  pub meter-failed : (was now : ℕ) → now ≤ was + 1 → now ≤ was + most
  meter-failed was now e = let g = h.asked in omega (arith, e, g)

  -- one call, and its starts
  pub meter-asked : (was now listed : ℕ) (starts : List (ℕ × Option AccountId)) → ListsSeconds (q.content.start m) starts → listed ≡ length starts → now ≤ was + 1 + listed → now ≤ was + most
  meter-asked was now listed starts l v e =
      let f = h.few starts l in
      let g = h.asked in
      omega (arith, e, v, f, g)

  -- and its registers, where it is the account's
  pub meter-owned : (was mid now listed : ℕ) (starts : List (ℕ × Option AccountId)) → IsOwned q.content q.account.0 (first_second q) q.end m → ListsSeconds (q.content.start m) starts → listed ≡ length starts → mid ≡ was + 1 + listed →
      ((each : Register → ℕ) → ((r : Register) → reads q m r (each r)) → now ≤ mid + meter_reads q.file m each) → now ≤ was + most
  meter-owned was mid now listed starts o l v e f =
      let w = h.owned o in
      let r = f w.0 w.1 in
      let k = h.few starts l in
      let g = w.2 in
      omega (arith, e, v, k, g, r)

-- so much is enough where the points of the time are read, or three calls and rows for each register that counts
pub points-enough : (q : Pass) (m most : ℕ) → IsSound q.file → IsEnoughFor q.content q.account.0 (first_second q) q.end m most → IsEnoughToGather PointsAreRead q m most
points-enough q m most s h = record {
  starts = h.starts;
  few = h.few;
  asked = h.asked;
  owned = λ o.
      let w = h.owned o in
      let points : HasPoints (IsBetween (first_second q) q.end) q.content m w.0 = w.1 in
      let all = points.all in
      let five = registers-five q.file m points.each s in
      let g = w.2 in
      (λ r. 5 + points.each r, λ r. (points.each r, points.few r, omega arith), omega (arith, all, five, g));
}

pub three-enough : (q : Pass) (m most : ℕ) → IsSound q.file → IsEnoughToRead q.content q.account.0 (first_second q) q.end m most → IsEnoughToGather ThreeAreRead q m most
three-enough q m most s h = record {
  starts = h.starts;
  few = h.few;
  asked = h.asked;
  owned = λ o. (let g = h.owned o in let three = registers-three q.file m s in (λ r. 3, λ r. omega arith, omega (arith, three, g)));
}

-- ---- all meters
pub meter-read : (most : ℕ → ℕ) (m was mid new : ℕ) → mid ≤ was + sum_over most 0 m → new ≤ mid + most m → new ≤ was + sum_over most 0 (m + 1)
meter-read most m was mid new a b = let s = sum-next most m in omega (arith, a, b, s)

pub meters-read : (most : ℕ → ℕ) (m all was now : ℕ) → m ≤ all → now ≤ was + sum_over most 0 m → now ≤ was + sum_over most 0 all
meters-read most m all was now l a = let s = sum-to most m all l in omega (arith, a, s)
