-- Up to when meters are read: one register after another.
use Rattle.std.proofs.Common.{◌≡◌, ℕ, ◌+◌, ◌*◌, ◌-◌, ◌<◌, ◌≤◌, true, false, Option, Some, None, List, [], ◌∷◌, ◌++◌, length, Less, refl, sym, subst, ◌∙◌, inl, inr, arith}
use Rattle.std.specs.Cmp.{nat_cmp_is}
use Rattle.std.specs.List.{slice_get}
use Rattle.std.proofs.lemmas.Bool.{cases_lt, true≢false}
use Rattle.std.proofs.lemmas.Option.{none-some}
use Rattle.pw_obis.specs.declared.reference.Register.{Register}
use Rattle.pw_flow.specs.Time.{last}
use Rattle.pw_flow.proofs.Points.{last-is, last-none}
use Rattle.pw_tariff.specs.declared.ids.AccountId.{AccountId}
use Rattle.pw_tariff.specs.declared.ids.MeterId.{MeterId}
use Rattle.pw_tariff.specs.Office.{OfficeRules, office_of, register_place}
use Rattle.pw_model.specs.Counting.{contents_at, point}
use Rattle.pw_model.specs.Lists.{Lists}
use Rattle.pw_model.specs.Shelf.{ShelfContent}
use Rattle.pw_model.proofs.Places.{member-left, member-right, push-to}
use Rattle.pw_model.proofs.Same.{register-one}
use Rattle.pw_parts.proofs.Chart.{less-is}
use Rattle.pw_parts.proofs.Groups.{rising-push}
use Rattle.pw_shelf.specs.Seconds.{IsBefore, ListsSecondsWithin}
use Rattle.pw_book.proofs.Segments.{place-few}
use Rattle.pw_bills.specs.declared.readings.LastReading.{LastReading}
use Rattle.pw_bills.specs.declared.readings.LastReadings.{LastReadings}
use Rattle.pw_bills.specs.ReadUpTo.{AreLastReadings, IsAccountsIn, IsLastReading, reading_order, register_number}
use Rattle.pw_bills.specs.inner.Gathering.{Pass, IsGathered, IsOfAccount, first_second}
use Rattle.pw_bills.specs.inner.LastReadings.{AddsLatest, AreReadBefore, latest_reading}
use Rattle.pw_bills.proofs.StepByStep.{gathered-keep}

-- ---- the latest point of a register
here-told : (told : ℕ → Option ℕ) (t : ℕ) (a : ℕ × ℕ) → t ≤ a.0 → a.0 ≤ t → told a.0 ≡ Some a.1 → last told t ≡ Some a
here-told told t a l r h = last-is told t a.0 a.1 (record { holds = h; early = r; none = λ s x y. absurd (omega (arith, l, x, y)) })

pub first-told : (told : ℕ → Option ℕ) (t : ℕ) (ps : List (ℕ × ℕ)) (a : ℕ × ℕ) → ListsSecondsWithin t t told ps → slice_get ps 0 ≡ Some a → Some a ≡ last told t
first-told told t [] a l e = absurd (none-some a e)
first-told told t (p ∷ ps) a l e =
    let h = (l.members p).0 (inl refl) in
    sym e ∙ sym (here-told told t p h.0 h.1 h.2)

none-at : (told : ℕ → Option ℕ) (t : ℕ) (ps : List (ℕ × ℕ)) → ListsSecondsWithin t t told ps → slice_get ps 0 ≡ None → (w : Option ℕ) → w ≡ told t → told t ≡ None
none-at told t (p ∷ ps) l e w h = absurd (none-some p (sym e))
none-at told t [] l e None h = sym h
none-at told t [] l e (Some v) h = absurd ((l.members (t, v)).1 (omega arith, omega arith, sym h))

pub before-told : (told : ℕ → Option ℕ) (t : ℕ) (ps : List (ℕ × ℕ)) (found : Option (ℕ × ℕ)) → ListsSecondsWithin t t told ps → slice_get ps 0 ≡ None → IsBefore told t found → found ≡ last told t
before-told told t ps None l e h =
    let here = none-at told t ps l e (told t) refl in
    sym (last-none told t (λ s k. elim (cases_lt s t) [
      | inl x ↦ h s x
      | inr x ↦ (let q : t ≡ s = omega (arith, x, k) in subst (λ (z : ℕ). told z ≡ None) q here)
    ]))
before-told told t ps (Some a) l e h =
    let here = none-at told t ps l e (told t) refl in
    let before = h.before in
    sym (last-is told t a.0 a.1 (record {
      holds = h.here;
      early = omega (arith, before);
      none = λ s x y. elim (cases_lt s t) [
        | inl z ↦ h.between s x z
        | inr z ↦ (let q : t ≡ s = omega (arith, z, y) in subst (λ (n : ℕ). told n ≡ None) q here)
      ];
    }))

-- of one second there is one point at most
pub one-few : (told : ℕ → Option ℕ) (t : ℕ) (ps : List (ℕ × ℕ)) → ListsSecondsWithin t t told ps → length ps ≤ 1
one-few told t [] l = omega arith
one-few told t (p ∷ []) l = omega arith
one-few told t (p ∷ q ∷ ps) l =
    let a = (l.members p).0 (inl refl) in
    let b = (l.members q).0 (inr (inl refl)) in
    let x = less-is p.0 q.0 l.rising.0.0 in
    let y = a.0 in
    let z = b.1 in
    absurd (omega (arith, x, y, z))

-- the one call, or two
pub latest-few : (told : ℕ → Option ℕ) (t : ℕ) (ps : List (ℕ × ℕ)) (listed was now : ℕ) → ListsSecondsWithin t t told ps → listed ≡ length ps → now ≡ was + 1 + listed → now ≤ was + 2
latest-few told t ps listed was now l v e = let x = one-few told t ps l in omega (arith, e, v, x)

-- ---- one register after another
module _ (office : OfficeRules) (c : ShelfContent) (a : AccountId) (from end : ℕ) where
  abbrev IsRead : LastReading → Type 0
  IsRead = IsLastReading office (contents_at c.records) a from end

  read-none : AreReadBefore office c a from end 0 []
  read-none = record { rising = tt; members = λ row. (λ m. absurd m, λ p. absurd (let k = p.1 in omega (arith, k))) }

  -- none of the registers in between is told
  read-passed : (n k : ℕ) (rows : List LastReading) → n ≤ k → ((row : LastReading) → IsRead row → n ≤ register_number row → register_number row < k → ⊥) → AreReadBefore office c a from end n rows → AreReadBefore office c a from end k rows
  read-passed n k rows l h r = record {
    rising = r.rising;
    members = λ row. (
      λ m. (let p = (r.members row).0 m in let x = p.1 in (p.0, omega (arith, x, l))),
      λ p. elim (cases_lt (register_number row) n) [
        | inl x ↦ (r.members row).1 (p.0, x)
        | inr x ↦ absurd (h row p.0 x p.1)
      ],
    );
  }

  -- two that tell of one register are one
  same-register : (row other : LastReading) → register_number row ≡ register_number other → (row.meter.0 ≡ other.meter.0) × (row.register ≡ other.register)
  same-register row other e =
      let x = place-few row.register in
      let y = place-few other.register in
      let m : row.meter.0 ≡ other.meter.0 = omega (arith, x, y, e) in
      (m, register-one row.register other.register (omega (arith, x, y, e, m)))

  made : MeterId → Register → Option (ℕ × ℕ) → LastReading
  made m r o = record { meter = m; register = r; last = o }

  same-reading : (row other : LastReading) → IsRead row → IsRead other → register_number row ≡ register_number other → row ≡ other
  unfolding made
  same-reading row other p q e =
      let s = same-register row other e in
      let m = s.0 in
      let r = s.1 in
      let l : row.last ≡ other.last = p.latest ∙ (λ i. last (point (contents_at c.records) (m i) (r i)) (end - 1)) ∙ sym q.latest in
      λ i. made (record { 0 = m i }) (r i) (l i)

  read-more : (n k : ℕ) (row : LastReading) (rows more : List LastReading) → IsRead row → register_number row ≡ n → k ≡ n + 1 → more ≡ rows ++ row ∷ [] → AreReadBefore office c a from end n rows → AreReadBefore office c a from end k more
  read-more n k row rows more p e f q r =
      let R : List LastReading → Type 0 = λ xs. AreReadBefore office c a from end k xs in
      subst R (sym q) (record {
        rising = rising-push reading_order rows row r.rising (λ other m. (let x = ((r.members other).0 m).1 in sym (nat_cmp_is (register_number other) (register_number row) Less (omega (arith, x, e)))));
        members = λ other. (
          λ m. elim (push-to rows row other m) [
            | inl x ↦ (let y = (r.members other).0 x in let z = y.1 in (y.0, omega (arith, z, f)))
            | inr x ↦ (let P : LastReading → Type 0 = λ o. IsRead o × (register_number o < k) in subst P (sym x) (p, omega (arith, e, f)))
          ],
          λ h. elim (cases_lt (register_number other) n) [
            | inl x ↦ member-left other rows (row ∷ []) ((r.members other).1 (h.0, x))
            | inr x ↦ (let y = h.1 in member-right other rows (row ∷ []) (inl (same-reading other row h.0 p (omega (arith, x, y, e, f)))))
          ],
        );
      })

  -- a register that counts
  register-read_up : (m : ℕ) (r : Register) (rows more : List LastReading) → m < office.meters → office.counts m r ≡ true → c.point ≡ point (contents_at c.records) → IsAccountsIn (contents_at c.records) a from end m →
      more ≡ rows ++ latest_reading c end m r ∷ [] → AreReadBefore office c a from end (6 * m + register_place r) rows → AreReadBefore office c a from end (6 * m + (register_place r + 1)) more
  register-read_up m r rows more w y t o q b =
      read-more (6 * m + register_place r) (6 * m + (register_place r + 1)) (latest_reading c end m r) rows more
      (record { meter = w; accounts = o; counts = y; latest = λ i. last (t i m r) (end - 1) }) refl (omega arith) q b

  -- one that doesn't
  register-left : (m : ℕ) (r : Register) (rows : List LastReading) → office.counts m r ≡ false → AreReadBefore office c a from end (6 * m + register_place r) rows → AreReadBefore office c a from end (6 * m + (register_place r + 1)) rows
  register-left m r rows n b =
      read-passed (6 * m + register_place r) (6 * m + (register_place r + 1)) rows (omega arith)
      (λ row p x y. (
      let s = same-register row (latest_reading c end m r) (omega (arith, x, y)) in
      true≢false (sym p.counts ∙ (λ i. office.counts (s.0 i) (s.1 i)) ∙ n)))
      b

  -- a meter that isn't the account's
  meter-left : (m : ℕ) (rows : List LastReading) → (IsAccountsIn (contents_at c.records) a from end m → ⊥) → AreReadBefore office c a from end (6 * m) rows → AreReadBefore office c a from end (6 * (m + 1)) rows
  meter-left m rows n b =
      read-passed (6 * m) (6 * (m + 1)) rows (omega arith)
      (λ row p x y. (
      let f = place-few row.register in
      let e : row.meter.0 ≡ m = omega (arith, x, y, f) in
      n (subst (IsAccountsIn (contents_at c.records) a from end) e p.accounts)))
      b

  -- all meters
  all-read : (n : ℕ) (rows : List LastReading) → n ≡ office.meters → AreReadBefore office c a from end (6 * n) rows → Lists reading_order IsRead rows
  all-read n rows e b = record {
    rising = b.rising;
    members = λ row. (
      λ m. ((b.members row).0 m).0,
      λ p. (b.members row).1 (p, (let x = p.meter in let f = place-few row.register in omega (arith, x, f, e))),
    );
  }

-- all that is gathered of an office
pub readings-told : (q : Pass) (old new : LastReadings) → old.rows.items ≡ [] → IsGathered AddsLatest q old new → AreLastReadings (office_of q.file) q.content.records q.account (first_second q) q.end new.rows.items
readings-told q old new e h =
    let office : OfficeRules = office_of q.file in
    let y : ℕ = first_second q in
    let Read : ℕ → List LastReading → Type 0 = λ n rows. AreReadBefore office q.content q.account y q.end n rows in
    let UpTo : ℕ → ℕ → LastReadings → Type 0 = λ m i g. Read (6 * m + i) g.rows.items in
    let over : (m : ℕ) (g : LastReadings) → UpTo m 6 g → UpTo (m + 1) 0 g = λ m g b. (
    let k : 6 * m + 6 ≡ 6 * (m + 1) + 0 = omega arith in
    let P : ℕ → Type 0 = λ n. Read n g.rows.items in
    subst P k b) in
    let left : (m : ℕ) (g : LastReadings) → ¬ (IsOfAccount q m) → UpTo m 0 g → UpTo (m + 1) 0 g = λ m g n b. (
    let k : 6 * m + 0 ≡ 6 * m = omega arith in
    let l : 6 * (m + 1) ≡ 6 * (m + 1) + 0 = omega arith in
    let P : ℕ → Type 0 = λ n. Read n g.rows.items in
    subst P l (meter-left office q.content q.account y q.end m g.rows.items n (subst P k b))) in
    let all : UpTo (length q.file.meters) 0 new
    = gathered-keep AddsLatest q UpTo
    (λ m r mid next l o c f b. register-read_up office q.content q.account y q.end m r mid.rows.items next.rows.items l c h.content.truth.points o f b)
    (λ m r mid n b. register-left office q.content q.account y q.end m r mid.rows.items n b) over left old new (subst (Read 0) (sym e) (read-none office q.content q.account y q.end)) h in
    let k : 6 * length q.file.meters + 0 ≡ 6 * length q.file.meters = omega arith in
    let P : ℕ → Type 0 = λ n. Read n new.rows.items in
    all-read office q.content q.account y q.end (length q.file.meters) new.rows.items refl (subst P k all)
