-- Each month that there is has its seconds and its days, and how far meters are read in it is one list.
use Rattle.std.proofs.Common.{◌≡◌, ◌⊎◌, ℕ, zero, suc, ◌+◌, ◌-◌, ◌*◌, ◌<◌, ◌≤◌, Bool, cond, Option, Some, List, [], ◌∷◌, ◌++◌, length, pos, refl, sym, ap, subst, ◌∙◌, arith, inl, inr, lt-ltb, le-ltb}
use Rattle.std.specs.Prelude.{slice_index}
use Rattle.std.specs.Cmp.{IsTotalOrder}
use Rattle.std.specs.Ordering.{MatchOrdering, nat_cmp}
use Rattle.std.specs.declared.cmp.Ordering.{Ordering}
use Rattle.std.specs.declared.cmp.Ordering.TheVariants.{Equal}
use Rattle.std.proofs.lemmas.Bool.{cases_Bool, cases_lt, true≢false}
use Rattle.std.proofs.lemmas.Cmp.{nat_cmp_total, on_total, ranked}
use Rattle.std.proofs.lemmas.Int.{ints}
use Rattle.jiff_core.specs.Calendar.{days_in_month}
use Rattle.pw_obis.specs.declared.reference.Register.{Register}
use Rattle.pw_time.specs.declared.instant.TheConstants.{FIRST_SECOND, END_SECOND}
use Rattle.pw_time.specs.Days.{BeginsAt, IsBound, IsLocalDate, IsLocalMonth, IsMonth, day_behind_month, day_number}
use Rattle.pw_time.specs.Instants.{IsInstant}
use Rattle.pw_time.specs.Summer.{civil_offset}
use Rattle.pw_time.proofs.CalendarFacts.{short_year_days}
use Rattle.pw_time.proofs.DayFacts.{begins, begins_2100, begins_first, begins_once, first_date}
use Rattle.pw_flow.specs.Time.{last}
use Rattle.pw_tariff.specs.declared.ids.AccountId.{AccountId}
use Rattle.pw_tariff.specs.declared.ids.MeterId.{MeterId}
use Rattle.pw_tariff.specs.Office.{OfficeRules}
use Rattle.pw_model.specs.declared.records.Key.{Key}
use Rattle.pw_model.specs.declared.records.Contents.{Contents}
use Rattle.pw_model.specs.Counting.{point}
use Rattle.pw_model.specs.Energy.{owner_at}
use Rattle.pw_model.specs.Lists.{Lists}
use Rattle.pw_model.proofs.EntryOrder.{total-strict}
use Rattle.pw_model.proofs.InOrder.{lists-one}
use Rattle.pw_model.proofs.Same.{register-one}
use Rattle.pw_book.proofs.Segments.{place-few}
use Rattle.pw_bills.specs.declared.readings.LastReading.{LastReading}
use Rattle.pw_bills.specs.ReadUpTo.{IsAccountsIn, IsLastReading, reading_order, register_number}
use Rattle.pw_report.specs.declared.months.Month.{Month}
use Rattle.pw_report.specs.Months.{AreDays, IsSpan, IsThere}
use Rattle.pw_report.proofs.Gathering.{Gives, all-gathered}
use Rattle.pw_report.proofs.MonthDays.{AreSome, days-are, month_later, no_day_32, one-day-more}
use Rattle.pw_report.proofs.Runs.{all_seconds, owner-known, second-there}

-- ---- where a day of the century begins
day-begun : (d : ℕ) → 10_957 ≤ d → d ≤ 47_481 → (x : ℕ) × IsInstant x × BeginsAt d x
day-begun d low high =
    let m : ℕ = d * 86_400 in
    let within : IsInstant m = (omega (arith, low), omega (arith, high)) in
    let x : ℕ = m - civil_offset (m - 3600) in
    let at : BeginsAt d x = begins d m refl within in
    elim (cases_lt x FIRST_SECOND) [
      | inl l ↦ (FIRST_SECOND, (omega arith, omega arith), begins_first d x l at)
      | inr l ↦ (x, (l, omega (arith, high)), at)
    ]

date-begun : (y m d : ℕ) → IsLocalDate y m d → (x : ℕ) × IsInstant x × BeginsAt (day_number y m d) x
date-begun y m d h =
    let e = short_year_days y m d h.0 h.1 in
    day-begun (day_number y m d) (omega (arith, ints, e.0)) (omega (arith, ints, e.0, e.1))

pub begun-bound : (x : ℕ) → IsInstant x → IsBound x
begun-bound x i = (i.0, (let l = i.1 in omega (arith, l)))

month-ended : (y m : ℕ) → IsLocalMonth y m → (u : ℕ) × BeginsAt (day_behind_month y m) u × IsBound u
month-ended y m h =
    elim (cases_lt m 12) [
      | inl l ↦ (
          let b = date-begun y (m + 1) 1 (first_date y (m + 1) (h.0, omega arith, omega (arith, l))) in
          let P : Bool → Type 0 = λ c. BeginsAt (cond c (day_number y (m + 1) 1) (day_number (y + 1) 1 1)) b.0 in
          (b.0, subst P (sym (lt-ltb m 12 l)) b.2, begun-bound b.0 b.1))
      | inr l ↦ (
          let P : ℕ → Bool → Type 0 = λ u c. BeginsAt (cond c (day_number y (m + 1) 1) (day_number (y + 1) 1 1)) u in
          elim (cases_lt (y + 1) 2100) [
            | inl k ↦ (
                let b = date-begun (y + 1) 1 1 (first_date (y + 1) 1 ((let s = h.0 in (omega (arith, s), omega (arith, k))), omega arith, omega arith)) in
                (b.0, subst (P b.0) (sym (le-ltb m 12 l)) b.2, begun-bound b.0 b.1))
            | inr k ↦ (
                let e : y + 1 ≡ 2100 = (let s = h.0 in omega (arith, s, k)) in
                (END_SECOND, subst (P END_SECOND) (sym (le-ltb m 12 l)) (begins_2100 (y + 1) 1 e refl), (omega arith, omega arith)))
          ])
    ]

pub span-there : (m : Month) → IsThere m → (from : ℕ) × (until : ℕ) × IsSpan m from until
span-there m h =
    let b = date-begun m.year m.month 1 (first_date m.year m.month h) in
    let e = month-ended m.year m.month h in
    let is : IsMonth m.year m.month b.0 e.0 = record { begins = b.2; ends = e.1; bound = e.2 } in
    (b.0, e.0, record { first = b.1; later = month_later m.year m.month b.0 e.0 h b.1 is; month = is })

pub span-one : (m : Month) (x u y v : ℕ) → IsSpan m x u → IsSpan m y v → (x ≡ y) × (u ≡ v)
span-one m x u y v h g = (
  begins_once (day_number m.year m.month 1) x y (begun-bound x h.first) (begun-bound y g.first) h.month.begins g.month.begins,
  begins_once (day_behind_month m.year m.month) u v h.month.bound g.month.bound h.month.ends g.month.ends,
)

-- ---- its days
date-known : (y m d : ℕ) → IsLocalMonth y m → 1 ≤ d → IsLocalDate y m d ⊎ (IsLocalDate y m d → ⊥)
date-known y m d h some =
    elim (cases_lt (days_in_month (pos y) m) d) [
      | inl l ↦ inr (λ k. (let few = k.1.2.1 in omega (arith, ints, l, few)))
      | inr l ↦ inl (
          let first = first_date y m h in
          (h.0, (first.1.0, first.1.1, (omega (arith, ints, some), omega (arith, ints, l)))))
    ]

days-from : (m : Month) (from until : ℕ) → IsThere m → IsSpan m from until → (k n : ℕ) (begins : List ℕ) → n + k ≡ 31 → AreSome m begins n →
    (all : List ℕ) × AreDays m all until
days-from m from until h span zero n begins e some =
    let P : ℕ → Type 0 = λ i. IsLocalDate m.year m.month i → ⊥ in
    let last : 32 ≡ n + 1 = omega (arith, e) in
    (begins, days-are m begins n from until some (subst P last (no_day_32 m.year m.month)) span)
days-from m from until h span (suc k) n begins e some =
    elim (date-known m.year m.month (n + 1) h (omega arith)) [
      | inr n0 ↦ (begins, days-are m begins n from until some n0 span)
      | inl date ↦ (
          let b = date-begun m.year m.month (n + 1) date in
          days-from m from until h span k (n + 1) (begins ++ b.0 ∷ []) (omega (arith, e))
          (one-day-more m begins (begins ++ b.0 ∷ []) n b.0 some date b.1 b.2 refl))
    ]

pub days-there : (m : Month) → IsThere m → (begins : List ℕ) × (end : ℕ) × AreDays m begins end
days-there m h =
    let s = span-there m h in
    let d = days-from m s.0 s.1 h s.2 31 0 [] (omega arith) (record { count = refl; each = λ i l. absurd (omega (arith, l)) }) in
    (d.0, s.1, d.1)

fewer-days : (m : Month) (xs ys : List ℕ) (u v : ℕ) → AreDays m xs u → AreDays m ys v → length xs < length ys → ⊥
fewer-days m xs ys u v h g l =
    let date : IsLocalDate m.year m.month (length xs + 1) = (g.dates (length xs + 1)).1 (omega arith, omega (arith, l)) in
    let few = ((h.dates (length xs + 1)).0 date).1 in
    omega (arith, few)

same-items : (xs ys : List ℕ) → length xs ≡ length ys → ((i : ℕ) → i < length xs → slice_index xs i ≡ slice_index ys i) → xs ≡ ys
same-items [] [] e h = refl
same-items [] (y ∷ ys) e h = absurd (omega (arith, e))
same-items (x ∷ xs) [] e h = absurd (omega (arith, e))
same-items (x ∷ xs) (y ∷ ys) e h =
    let first : x ≡ y = h 0 (omega arith) in
    let rest = same-items xs ys (omega (arith, e)) (λ i l. h (suc i) (omega (arith, l))) in
    λ i. first i ∷ rest i

pub days-one : (m : Month) (xs ys : List ℕ) (u v : ℕ) → AreDays m xs u → AreDays m ys v → (xs ≡ ys) × (u ≡ v)
days-one m xs ys u v h g =
    let count : length xs ≡ length ys = elim (cases_lt (length xs) (length ys)) [
      | inl l ↦ absurd (fewer-days m xs ys u v h g l)
      | inr k ↦ elim (cases_lt (length ys) (length xs)) [
        | inl l ↦ absurd (fewer-days m ys xs v u g h l)
        | inr l ↦ omega (arith, k, l)
      ]
    ] in (
      same-items xs ys count (λ i l. (
          let k : i < length ys = omega (arith, l, count) in
          begins_once (day_number m.year m.month (i + 1)) (slice_index xs i) (slice_index ys i) (begun-bound _ (h.first i l)) (begun-bound _ (g.first i k))
          (h.begin i l) (g.begin i k))),
      begins_once (day_behind_month m.year m.month) u v h.bound g.bound h.last g.last,
    )

-- ---- how far meters are read
accounts-from : (at : Key → Contents) (a : AccountId) (from to m n s : ℕ) → to ≡ s + n → from ≤ s →
    ((t : ℕ) → from ≤ t → t < s → owner_at at m t ≡ Some a → ⊥) → IsAccountsIn at a from to m ⊎ (IsAccountsIn at a from to m → ⊥)
accounts-from at a from to m zero s e l none = inr (λ h. (let g = h.1.1 in none h.0 h.1.0 (omega (arith, g, e)) h.2))
accounts-from at a from to m (suc n) s e l none =
    elim (owner-known a.0 (owner_at at m s)) [
      | inl o ↦ inl (s, (l, omega (arith, e)), o)
      | inr n0 ↦ accounts-from at a from to m n (s + 1) (omega (arith, e)) (omega (arith, l))
          (λ t g k o. elim (cases_lt t s) [
            | inl f ↦ none t g f o
            | inr f ↦ (let q : t ≡ s = omega (arith, k, f) in n0 (ap (λ (i : ℕ). owner_at at m i) (sym q) ∙ o))
          ])
    ]

accounts-known : (at : Key → Contents) (a : AccountId) (from to m : ℕ) → IsAccountsIn at a from to m ⊎ (IsAccountsIn at a from to m → ⊥)
accounts-known at a from to m =
    elim (cases_lt to from) [
      | inl l ↦ inr (λ h. (let g = h.1.0 in let k = h.1.1 in omega (arith, g, k, l)))
      | inr l ↦ accounts-from at a from to m (to - from) from (omega (arith, l)) (omega arith) (λ t g k. absurd (omega (arith, g, k)))
    ]

module _ (office : OfficeRules) (at : Key → Contents) (a : AccountId) (from to : ℕ) where
  abbrev IsRead : LastReading → Type 0
  IsRead = IsLastReading office at a from to

  abbrev Of : ℕ × Register × ℕ → LastReading → Type 0
  Of c row = (row.meter.0 ≡ c.0) × (row.register ≡ c.1)

  abbrev made : MeterId → Register → Option (ℕ × ℕ) → LastReading
  made m r o = record { meter = m; register = r; last = o }

  read-one : (row other : LastReading) → IsRead row → IsRead other → row.meter.0 ≡ other.meter.0 → row.register ≡ other.register → row ≡ other
  read-one row other p q m r =
      let l : row.last ≡ other.last = p.latest ∙ (λ i. last (point at (m i) (r i)) (to - 1)) ∙ sym q.latest in
      λ i. made (record { 0 = m i }) (r i) (l i)

  read-known : (c : ℕ × Register × ℕ) → Gives IsRead Of c
  read-known c =
      elim (cases_lt c.0 office.meters) [
        | inr n ↦ inr (λ v h o. (let i = h.meter in let e = o.0 in omega (arith, n, i, e)))
        | inl own ↦ elim (cases_Bool (office.counts c.0 c.1)) [
          | inr n ↦ inr (λ v h o. true≢false (sym h.counts ∙ (λ i. office.counts (o.0 i) (o.1 i)) ∙ n))
          | inl counting ↦ elim (accounts-known at a from to c.0) [
            | inr n ↦ inr (λ v h o. n (subst (IsAccountsIn at a from to) o.0 h.accounts))
            | inl is ↦ (
                let row : LastReading = made (record { 0 = c.0 }) c.1 (last (point at c.0 c.1) (to - 1)) in
                let p : IsRead row = record { meter = own; accounts = is; counts = counting; latest = refl } in
                inl (row, p, (refl, refl), λ v h o. read-one v row h p o.0 o.1))
          ]
        ]
      ]

  number-tie : (m n : ℕ) → nat_cmp m n ≡ Equal → m ≡ n
  number-tie m n e =
      let P : Ordering → Type 0 = λ o. MatchOrdering o (m < n) (m ≡ n) (n < m) in
      subst P e (ranked m n (nat_cmp m n) refl)

  read-tie : (row other : LastReading) → IsRead row → IsRead other → reading_order row other ≡ Equal → row ≡ other
  read-tie row other p q e =
      let n = number-tie (register_number row) (register_number other) e in
      let x = place-few row.register in
      let y = place-few other.register in
      let m : row.meter.0 ≡ other.meter.0 = omega (arith, x, y, n) in
      read-one row other p q m (register-one row.register other.register (omega (arith, x, y, n, m)))

  reading-total : IsTotalOrder reading_order
  reading-total = on_total register_number nat_cmp_total

  pub reads-there : (rows : List LastReading) × Lists reading_order (IsLastReading office at a from to) rows
  reads-there =
      all-gathered reading_order reading-total IsRead Of read-tie read-known (all_seconds office.meters 1)
      (λ v p. ((v.meter.0, v.register, 0), second-there office.meters 1 v.meter.0 v.register 0 p.meter (omega arith), (refl, refl)))

  pub reads-one : (rows others : List LastReading) → Lists reading_order (IsLastReading office at a from to) rows →
      Lists reading_order (IsLastReading office at a from to) others → rows ≡ others
  reads-one rows others h g = lists-one reading_order (total-strict reading_order reading-total) IsRead IsRead (λ v. (λ w. w, λ w. w)) rows others h g
