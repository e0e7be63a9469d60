-- The latest of seconds that are told one part behind another.
use Rattle.std.proofs.Common.{◌≡◌, ◌⊎◌, ◌↔◌, ℕ, ◌+◌, ◌<◌, ◌≤◌, nat_lt, not, Bool, true, false, Option, Some, None, List, [], ◌∷◌, take, get_or, refl, ap, sym, subst, ◌∙◌, inl, inr, arith}
use Rattle.std.proofs.lemmas.Bool.{cases_lt, cases_Bool, ltb-true, ltb-false, true≢false}
use Rattle.pw_obis.specs.declared.reference.Register.{Register}
use Rattle.pw_obis.specs.Registers.{registers}
use Rattle.pw_tariff.specs.Office.{OfficeRules, register_place}
use Rattle.pw_model.specs.declared.records.Entry.{Entry}
use Rattle.pw_model.specs.declared.records.ReadingRow.{ReadingRow}
use Rattle.pw_model.specs.Counting.{Member, standing}
use Rattle.pw_model.specs.Lists.{AreReadings, reading_entry}
use Rattle.pw_model.specs.Office.{AllOfOffice}
use Rattle.pw_model.specs.Shelf.{ShelfContent}
use Rattle.pw_model.specs.inner.Search.{IsAt}
use Rattle.pw_model.proofs.Counting.{counts-known, standing-member, standing-part, standing-told}
use Rattle.pw_model.proofs.Places.{member-left, member-right, push-to, take-at}
use Rattle.pw_model.proofs.Same.{register-one}
use Rattle.pw_book.proofs.Segments.{place-at, place-few}
use Rattle.pw_moving.specs.Adopting.{IsUpTo}
use Rattle.pw_carrying.specs.LastReading.{IsLastReading, IsSuch}
use Rattle.pw_carrying.specs.inner.Latest.{IsLastOf, IsReadAmong, IsReadOf, IsReadOfMeter, later}

-- ---- the later of two
up-later : (a b : Option ℕ) (t : ℕ) → IsUpTo a t ⊎ IsUpTo b t → IsUpTo (later a b) t
up-later None b t (inl h) = absurd h
up-later None b t (inr h) = h
up-later (Some x) None t (inl h) = h
up-later (Some x) None t (inr h) = absurd h
up-later (Some x) (Some y) t h =
    elim (cases_Bool (nat_lt x y)) [
      | inl e ↦ (let l : x < y = ltb-true x y e in rw e (elim h [ inl k ↦ omega (arith, k, l) | inr k ↦ k ]))
      | inr e ↦ (let l : y ≤ x = ltb-false x y e in rw e (elim h [ inl k ↦ k | inr k ↦ omega (arith, k, l) ]))
    ]

such-later : (P : ℕ → Type 0) (a b : Option ℕ) → IsSuch P a → IsSuch P b → IsSuch P (later a b)
such-later P None b p q = q
such-later P (Some x) None p q = p
such-later P (Some x) (Some y) p q = elim (cases_Bool (nat_lt x y)) [ inl e ↦ rw e q | inr e ↦ rw e p ]

such-also : (P Q : ℕ → Type 0) (a : Option ℕ) → ((t : ℕ) → P t → Q t) → IsSuch P a → IsSuch Q a
such-also P Q None h p = tt
such-also P Q (Some x) h p = h x p

-- of what either tells
pub last-later : (P Q R : ℕ → Type 0) (a b : Option ℕ) → ((t : ℕ) → R t ↔ (P t ⊎ Q t)) → IsLastOf P a → IsLastOf Q b → IsLastOf R (later a b)
last-later P Q R a b h p q = record {
  up_to = λ t r. up-later a b t (elim ((h t).0 r) [ inl x ↦ inl (p.up_to t x) | inr y ↦ inr (q.up_to t y) ]);
  there = such-later R a b (such-also P R a (λ t x. (h t).1 (inl x)) p.there) (such-also Q R b (λ t y. (h t).1 (inr y)) q.there);
}

pub last-none : (P : ℕ → Type 0) → ((t : ℕ) → P t → ⊥) → IsLastOf P None
last-none P h = record { up_to = λ t p. absurd (h t p); there = tt }

pub last-also : (P Q : ℕ → Type 0) (a : Option ℕ) → ((t : ℕ) → P t ↔ Q t) → IsLastOf P a → IsLastOf Q a
last-also P Q a h p = record { up_to = λ t q. p.up_to t ((h t).1 q); there = such-also P Q a (λ t x. (h t).0 x) p.there }

-- ---- one row after another
row-next : (rows : List ReadingRow) (i : ℕ) (row : ReadingRow) (t : ℕ) → IsAt rows i row → IsReadAmong (take (i + 1) rows) t → IsReadAmong (take i rows) t ⊎ ((row.withdrawn ≡ false) × (row.instant ≡ t))
row-next rows i row t a (other, among, stays, at) =
    let M : List ReadingRow → Type 0 = λ l. Member other l in
    elim (push-to (take i rows) row other (subst M (take-at rows i row a) among)) [
      | inl m ↦ inl (other, m, stays, at)
      | inr e ↦ inr (sym (ap (λ (x : ReadingRow). x.withdrawn) e) ∙ stays, sym (ap (λ (x : ReadingRow). x.instant) e) ∙ at)
    ]

row-yet : (rows : List ReadingRow) (i : ℕ) (row : ReadingRow) (t : ℕ) → IsAt rows i row → IsReadAmong (take i rows) t → IsReadAmong (take (i + 1) rows) t
row-yet rows i row t a (other, among, stays, at) =
    let M : List ReadingRow → Type 0 = λ l. Member other l in
    (other, subst M (sym (take-at rows i row a)) (member-left other (take i rows) (row ∷ []) among), stays, at)

row-here : (rows : List ReadingRow) (i : ℕ) (row : ReadingRow) → IsAt rows i row → row.withdrawn ≡ false → IsReadAmong (take (i + 1) rows) row.instant
row-here rows i row a stays =
    let M : List ReadingRow → Type 0 = λ l. Member row l in
    (row, subst M (sym (take-at rows i row a)) (member-right row (take i rows) (row ∷ []) (inl refl)), stays, refl)

-- what is told of it
pub stands-is : (w b : Bool) → b ≡ not w → b ≡ true → w ≡ false
stands-is false b e h = refl
stands-is true b e h = absurd (true≢false (sym h ∙ e))

pub gone-is : (w b : Bool) → b ≡ not w → b ≡ false → w ≡ true
gone-is true b e h = refl
gone-is false b e h = absurd (true≢false (sym e ∙ h))

-- one that isn't withdrawn
pub last-more : (rows : List ReadingRow) (i : ℕ) (row : ReadingRow) (last : Option ℕ) → IsAt rows i row → row.withdrawn ≡ false → IsLastOf (IsReadAmong (take i rows)) last → IsLastOf (IsReadAmong (take (i + 1) rows)) (later last (Some row.instant))
last-more rows i row last a stays h =
    last-later (IsReadAmong (take i rows)) (λ t. row.instant ≡ t) (IsReadAmong (take (i + 1) rows)) last (Some row.instant)
    (λ t. (
      λ r. elim (row-next rows i row t a r) [ inl x ↦ inl x | inr y ↦ inr y.1 ],
      λ r. elim r [ inl x ↦ row-yet rows i row t a x | inr e ↦ subst (IsReadAmong (take (i + 1) rows)) e (row-here rows i row a stays) ],
    ))
    h (record { up_to = λ t e. omega (arith, e); there = refl })

-- one that is
pub last-passed : (rows : List ReadingRow) (i : ℕ) (row : ReadingRow) (last : Option ℕ) → IsAt rows i row → row.withdrawn ≡ true → IsLastOf (IsReadAmong (take i rows)) last → IsLastOf (IsReadAmong (take (i + 1) rows)) last
last-passed rows i row last a gone h =
    last-also (IsReadAmong (take i rows)) (IsReadAmong (take (i + 1) rows)) last
    (λ t. (
      λ x. row-yet rows i row t a x,
      λ r. elim (row-next rows i row t a r) [ inl x ↦ x | inr y ↦ absurd (true≢false (sym gone ∙ y.0)) ],
    )) h

-- ---- of a register's rows
row-of : (s : List Entry) (m : ℕ) (r : Register) (rows : List ReadingRow) (t w : ℕ) → AreReadings s m r rows → Member (reading_entry m r t w) (standing s) → IsReadAmong rows t
row-of s m r rows t w h i =
    let e : Entry = reading_entry m r t w in
    let told = standing-told s e i in
    elim (counts-known s e) [
      | inl c ↦ (
          let row : ReadingRow = record { instant = t; wh = w; counted = true; withdrawn = false } in
          (row, (h.members row).1 (record { held = told.0; counted = (λ k. c, λ k. refl); withdrawn = sym told.1 }), refl, refl))
      | inr n ↦ (
          let row : ReadingRow = record { instant = t; wh = w; counted = false; withdrawn = false } in
          (row, (h.members row).1 (record { held = told.0; counted = (λ k. absurd (true≢false (sym k)), λ k. absurd (n k)); withdrawn = sym told.1 }), refl, refl))
    ]

of-row : (s : List Entry) (m : ℕ) (r : Register) (rows : List ReadingRow) (t : ℕ) → AreReadings s m r rows → IsReadAmong rows t → IsReadOf s m r t
of-row s m r rows t h (row, among, stays, at) =
    let is = (h.members row).0 among in
    let here : Member (reading_entry m r row.instant row.wh) (standing s) = standing-member s (reading_entry m r row.instant row.wh) is.held (sym is.withdrawn ∙ stays) in
    let P : ℕ → Type 0 = λ u. Member (reading_entry m r u row.wh) (standing s) in
    (row.wh, subst P at here)

pub rows-told : (s : List Entry) (m : ℕ) (r : Register) (rows : List ReadingRow) (t : ℕ) → AreReadings s m r rows → IsReadAmong rows t ↔ IsReadOf s m r t
rows-told s m r rows t h = (λ a. of-row s m r rows t h a, λ b. row-of s m r rows t b.0 h b.1)

-- ---- no reading of a register that doesn't count
pub none-uncounted : (office : OfficeRules) (s : List Entry) (m : ℕ) (r : Register) (t : ℕ) → AllOfOffice office s → office.counts m r ≡ false → IsReadOf s m r t → ⊥
none-uncounted office s m r t o n h = true≢false (sym (o (reading_entry m r t h.0) (standing-part s (reading_entry m r t h.0) h.1)).1 ∙ n)

-- ---- of the registers of a meter, and of meters
abbrev pub IsReadBelow : List Entry → ℕ → ℕ → ℕ → Type 0
IsReadBelow s m n t = (r : Register) × (register_place r < n) × IsReadOf s m r t

abbrev pub IsReadOfMeters : List Entry → ℕ → ℕ → Type 0
IsReadOfMeters s n t = (m : ℕ) × (m < n) × IsReadOfMeter s m t

pub meters-all : (office : OfficeRules) (s : List Entry) (last : Option ℕ) → AllOfOffice office s → IsLastOf (IsReadOfMeters s office.meters) last → IsLastReading s last
meters-all office s last o h = record {
  up_to = λ m r t w i. h.up_to t (m, (o (reading_entry m r t w) (standing-part s (reading_entry m r t w) i)).0, (r, (w, i)));
  there = such-also (IsReadOfMeters s office.meters) _ last (λ t p. (p.0, p.2.0, p.2.1.0, p.2.1.1)) h.there;
}

-- one register more of a meter
pub register-next : (s : List Entry) (m i j : ℕ) (r : Register) (a b : Option ℕ) → register_place r ≡ i → j ≡ i + 1 → IsLastOf (IsReadBelow s m i) a → IsLastOf (IsReadOf s m r) b → IsLastOf (IsReadBelow s m j) (later a b)
register-next s m i j r a b e f p q =
    last-later (IsReadBelow s m i) (IsReadOf s m r) (IsReadBelow s m j) a b
    (λ t. (
      λ h. elim (cases_lt (register_place h.0) i) [
        | inl l ↦ inl (h.0, l, h.2)
        | inr l ↦ (
            let k = h.1 in
            let same : h.0 ≡ r = register-one h.0 r (omega (arith, k, l, e, f)) in
            let P : Register → Type 0 = λ x. IsReadOf s m x t in
            inr (subst P same h.2))
      ],
      λ h. elim h [ inl x ↦ (x.0, (let l = x.1 in omega (arith, l, f)), x.2) | inr y ↦ (r, omega (arith, e, f), y) ],
    )) p q

pub registers-all : (s : List Entry) (m i : ℕ) (a : Option ℕ) → 6 ≤ i → IsLastOf (IsReadBelow s m i) a → IsLastOf (IsReadOfMeter s m) a
registers-all s m i a l h =
    last-also (IsReadBelow s m i) (IsReadOfMeter s m) a (λ t. (λ x. (x.0, x.2), λ y. (y.0, (let k = place-few y.0 in omega (arith, k, l)), y.1))) h

-- one meter more
pub meter-next : (s : List Entry) (m : ℕ) (a b : Option ℕ) → IsLastOf (IsReadOfMeters s m) a → IsLastOf (IsReadOfMeter s m) b → IsLastOf (IsReadOfMeters s (m + 1)) (later a b)
meter-next s m a b p q =
    last-later (IsReadOfMeters s m) (IsReadOfMeter s m) (IsReadOfMeters s (m + 1)) a b
    (λ t. (
      λ h. elim (cases_lt h.0 m) [
        | inl l ↦ inl (h.0, l, h.2)
        | inr l ↦ (
            let k = h.1 in
            let same : h.0 ≡ m = omega (arith, k, l) in
            let P : ℕ → Type 0 = λ x. IsReadOfMeter s x t in
            inr (subst P same h.2))
      ],
      λ h. elim h [ inl x ↦ (x.0, (let l = x.1 in omega (arith, l)), x.2) | inr y ↦ (m, omega arith, y) ],
    )) p q

-- likewise, where the content was only asked in between
pub register-step : (c e : ShelfContent) (m i : ℕ) (d : Register) (a b : Option ℕ) → e ≡ c → i < 6 → IsLastOf (IsReadBelow c.records m i) a → IsLastOf (IsReadOf e.records m (get_or registers i d)) b →
    IsLastOf (IsReadBelow c.records m (i + 1)) (later a b)
register-step c e m i d a b same l p q =
    let O : ShelfContent → Type 0 = λ x. IsLastOf (IsReadOf x.records m (get_or registers i d)) b in
    register-next c.records m i (i + 1) (get_or registers i d) a b (place-at i d l) refl p (subst O same q)

pub registers-none : (s : List Entry) (m : ℕ) → IsLastOf (IsReadBelow s m 0) None
registers-none s m = last-none (IsReadBelow s m 0) (λ t h. let l = h.1 in absurd (omega (arith, l)))
