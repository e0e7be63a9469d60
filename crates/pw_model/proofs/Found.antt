-- What is found among all records is what the definitions name.
use Rattle.std.proofs.Common.{◌≡◌, ◌⊎◌, true, false, ℕ, ◌+◌, ◌<◌, ◌≤◌, Option, Some, None, List, [], ◌∷◌, length, take, refl, ap, sym, subst, ◌∙◌, arith, inl, inr}
use Rattle.std.proofs.lemmas.Bool.{cases_Bool, cases_lt, true≢false}
use Rattle.std.proofs.lemmas.Bool.Decides.{leb_tells}
use Rattle.pw_obis.specs.declared.reference.Register.{Register}
use Rattle.pw_tariff.specs.declared.ids.AccountId.{AccountId}
use Rattle.pw_model.specs.declared.records.Key.{Key}
use Rattle.pw_model.specs.declared.records.Key.TheVariants as key
use Rattle.pw_model.specs.declared.records.Content.TheVariants as content
use Rattle.pw_model.specs.declared.records.Contents.{Contents}
use Rattle.pw_model.specs.declared.records.Contents.TheVariants.{Nothing, One, Several}
use Rattle.pw_model.specs.declared.records.Entry.{Entry}
use Rattle.pw_model.specs.Counting.{Member, SameMembers, withdraws, is_withdrawn, standing_among, joined, contents_among, contents_at, wh_of, owner_of, point, start, reading_key, assignment_key}
use Rattle.pw_tariff.specs.Owners.{owner_from}
use Rattle.pw_model.specs.Energy.{owner_at}
use Rattle.pw_model.specs.inner.Search.{IsAt, IsLatestAmong, IsStartIn, later_of, NoPoint, IsEarliestAmong, IsPointIn, earlier_of}
use Rattle.pw_model.specs.Same.{same_key}
use Rattle.pw_model.proofs.Same.{same_key-decides}
use Rattle.pw_model.proofs.Counting.{entry, inserted-same, among-same, among-here, among-elsewhere, standing-to, standing-back, standing-part, withdrawn-to, withdrawn-back, one-stands}
use Rattle.pw_model.proofs.Places.{at-member, taken-to, taken-whole, taken-inserted}
use Rattle.pw_flow.proofs.Points.{LastIs, option-cases, last-told}

by_contents : (P : Contents → Type 0) → P Nothing → P Several → ((w : ℕ) → P (One (content.Reading w))) → ((o : Option AccountId) → P (One (content.Assignment o)))
    → ((a : AccountId) (c i : ℕ) → P (One (content.TopUp a c i))) → P (One content.Withdrawal) → (c : Contents) → P c
by_contents P nothing several reading assignment topup withdrawal Nothing = nothing
by_contents P nothing several reading assignment topup withdrawal Several = several
by_contents P nothing several reading assignment topup withdrawal (One (content.Reading w)) = reading w
by_contents P nothing several reading assignment topup withdrawal (One (content.Assignment o)) = assignment o
by_contents P nothing several reading assignment topup withdrawal (One (content.TopUp a c i)) = topup a c i
by_contents P nothing several reading assignment topup withdrawal (One content.Withdrawal) = withdrawal

owner-back : (c : Contents) (o : Option AccountId) → owner_of c ≡ Some o → c ≡ One (content.Assignment o)
owner-back c o = by_contents (λ c. owner_of c ≡ Some o → c ≡ One (content.Assignment o)) (λ e. cc) (λ e. cc) (λ w e. cc) (λ p e. cc) (λ a d i e. cc) (λ e. cc) c

pub wh-back : (c : Contents) (w : ℕ) → wh_of c ≡ Some w → c ≡ One (content.Reading w)
wh-back c w = by_contents (λ c. wh_of c ≡ Some w → c ≡ One (content.Reading w)) (λ e. cc) (λ e. cc) (λ v e. cc) (λ p e. cc) (λ a d i e. cc) (λ e. cc) c

-- a counting start or reading is a member
start-member : (s : List Entry) (m t : ℕ) (o : Option AccountId) → start (contents_at s) m t ≡ Some o → Member (entry (assignment_key m t) (content.Assignment o)) s
start-member s m t o e =
    let here : Entry = entry (assignment_key m t) (content.Assignment o) in
    standing-part s here (one-stands s (assignment_key m t) (content.Assignment o) (owner-back (contents_at s (assignment_key m t)) o e))

pub point-member : (s : List Entry) (m : ℕ) (r : Register) (t w : ℕ) → point (contents_at s) m r t ≡ Some w → Member (entry (reading_key m r t) (content.Reading w)) s
point-member s m r t w e =
    let here : Entry = entry (reading_key m r t) (content.Reading w) in
    standing-part s here (one-stands s (reading_key m r t) (content.Reading w) (wh-back (contents_at s (reading_key m r t)) w e))

-- where no record is a counting reading, none stands
pub no-point : (s : List Entry) (m : ℕ) (r : Register) (x y t : ℕ) → NoPoint (contents_at s) m r x y s → x ≤ t → t < y → point (contents_at s) m r t ≡ None
no-point s m r x y t h l k =
    elim (option-cases (point (contents_at s) m r t)) [
      | inl n ↦ n
      | inr f ↦ h (entry (reading_key m r t) (content.Reading f.0)) (point-member s m r t f.0 f.1) t refl l k
    ]

-- no counting start stands between second t and second z
abbrev pub NoStart : List Entry → ℕ → ℕ → ℕ → Type 0
NoStart s m t z = (y : ℕ) → t < y → y ≤ z → start (contents_at s) m y ≡ None

-- the second up to which a counting start is looked for: behind it none stands up to second z
pub record IsLookedFor (s : List Entry) (m t z : ℕ) : Type 0 where
  pub within : t ≤ z
  pub none : NoStart s m t z

pub looked-first : (s : List Entry) (m z : ℕ) → IsLookedFor s m z z
looked-first s m z = record { within = omega arith; none = λ y l k. absurd (omega arith) }

-- where records assign up to second a at the latest, no counting start stands behind it
none-behind : (s : List Entry) (m t z a : ℕ) → IsLookedFor s m t z → IsLatestAmong m t s (Some a) → (y : ℕ) → a < y → y ≤ z → start (contents_at s) m y ≡ None
none-behind s m t z a h l y g k =
    elim (cases_lt t y) [
      | inl b ↦ h.none y b k
      | inr b ↦ elim (option-cases (start (contents_at s) m y)) [
        | inl n ↦ n
        | inr f ↦ absurd (let q = l.1 (entry (assignment_key m y) (content.Assignment f.0)) (start-member s m y f.0 f.1) y refl b in omega (arith, q))
      ]
    ]

pub owner-here : (s : List Entry) (m t z a : ℕ) (c : Contents) (o : Option AccountId) → IsLookedFor s m t z → IsLatestAmong m t s (Some a) → c ≡ contents_at s (assignment_key m a) →
    Some o ≡ owner_of c → o ≡ owner_at (contents_at s) m z
unfolding owner_at
owner-here s m t z a c o h l e q =
    let told : LastIs (start (contents_at s) m) z (Some (a, o)) = record {
      holds = ap owner_of (sym e) ∙ sym q;
      early = (let w = h.within in let v = l.0 in omega (arith, w, v));
      none = none-behind s m t z a h l;
    } in
    sym (ap owner_from (last-told (start (contents_at s) m) z (Some (a, o)) told))

pub owner-none : (s : List Entry) (m t z : ℕ) → IsLookedFor s m t z → IsLatestAmong m t s None → None ≡ owner_at (contents_at s) m z
unfolding owner_at
owner-none s m t z h l =
    let told : LastIs (start (contents_at s) m) z None = λ y k. elim (cases_lt t y) [
      | inl b ↦ h.none y b k
      | inr b ↦ elim (option-cases (start (contents_at s) m y)) [
        | inl n ↦ n
        | inr f ↦ absurd (l (entry (assignment_key m y) (content.Assignment f.0)) (start-member s m y f.0 f.1) y refl b)
      ]
    ] in
    sym (ap owner_from (last-told (start (contents_at s) m) z None told))

-- where the latest doesn't count, those before it are looked for
pub looked-next : (s : List Entry) (m t z a b : ℕ) (c : Contents) → IsLookedFor s m t z → IsLatestAmong m t s (Some a) → c ≡ contents_at s (assignment_key m a) →
    None ≡ owner_of c → b + 1 ≡ a → IsLookedFor s m b z
looked-next s m t z a b c h l e n q = record {
  within = (let w = h.within in let v = l.0 in omega (arith, w, v));
  none = λ y g k. elim (cases_lt a y) [
    | inl behind ↦ none-behind s m t z a h l y behind k
    | inr here ↦ (
        let i : a ≡ y = omega arith in
        let P : ℕ → Type 0 = λ v. start (contents_at s) m v ≡ None in
        subst P i (ap owner_of (sym e) ∙ sym n))
  ];
}

-- ---- one record more
-- the second in a key
abbrev pub second_of : Key → ℕ
second_of (key.Reading m r t) = t
second_of (key.Assignment m t) = t
second_of (key.TopUp r) = 0
second_of (key.Withdrawal n) = 0

-- the second from which a key assigns the meter
assigned-one : (k : Key) (m a b : ℕ) → k ≡ assignment_key m a → k ≡ assignment_key m b → a ≡ b
assigned-one k m a b p q = ap second_of (sym p ∙ q)

-- of some records, and of one more
latest-more : (m t : ℕ) (e : Entry) (some : List Entry) (found here : Option ℕ) → IsLatestAmong m t some found → IsStartIn m t e here → IsLatestAmong m t (e ∷ some) (later_of found here)
latest-more m t e some None None h i = λ f mem s k l. elim mem [ inl j ↦ i s (ap (λ (g : Entry). g.key) (sym j) ∙ k) l | inr n ↦ h f n s k l ]
latest-more m t e some (Some a) None h i =
    (h.0, λ f mem s k l. elim mem [ inl j ↦ absurd (i s (ap (λ (g : Entry). g.key) (sym j) ∙ k) l) | inr n ↦ h.1 f n s k l ])
latest-more m t e some None (Some b) h i = (
  i.1,
  λ f mem s k l. elim mem [
    | inl j ↦ (let q = assigned-one e.key m s b (ap (λ (g : Entry). g.key) (sym j) ∙ k) i.0 in omega (arith, q))
    | inr n ↦ absurd (h f n s k l)
  ],
)
latest-more m t e some (Some a) (Some b) h i =
    elim (leb_tells a b) [
      | inl y ↦ rw y.0 (
        i.1,
        λ f mem s k l. elim mem [
          | inl j ↦ (let q = assigned-one e.key m s b (ap (λ (g : Entry). g.key) (sym j) ∙ k) i.0 in omega (arith, q))
          | inr n ↦ (let q = h.1 f n s k l in let v = y.1 in omega (arith, q, v))
        ],
      )
      | inr y ↦ rw y.0 (
        h.0,
        λ f mem s k l. elim mem [
          | inl j ↦ (let q = assigned-one e.key m s b (ap (λ (g : Entry). g.key) (sym j) ∙ k) i.0 in let v = y.1 in omega (arith, q, v))
          | inr n ↦ h.1 f n s k l
        ],
      )
    ]

latest-same : (m t : ℕ) (some other : List Entry) (found : Option ℕ) → ((e : Entry) → Member e other → Member e some) → IsLatestAmong m t some found → IsLatestAmong m t other found
latest-same m t some other None p h = λ f mem s k l. h f (p f mem) s k l
latest-same m t some other (Some a) p h = (h.0, λ f mem s k l. h.1 f (p f mem) s k l)

pub latest-turn : (m t : ℕ) (all : List Entry) (i : ℕ) (e : Entry) (found here result : Option ℕ) → IsAt all i e → result ≡ later_of found here →
    IsLatestAmong m t (take i all) found → IsStartIn m t e here → IsLatestAmong m t (take (i + 1) all) result
latest-turn m t all i e found here result a r h g =
    let Q : Option ℕ → Type 0 = λ o. IsLatestAmong m t (take (i + 1) all) o in
    subst Q (sym r) (latest-same m t (e ∷ take i all) (take (i + 1) all) (later_of found here) (λ f mem. elim (taken-to all i e f a mem) [ inl o ↦ inr o | inr n ↦ inl n ])
    (latest-more m t e (take i all) found here h g))

pub latest-none : (m t : ℕ) → IsLatestAmong m t [] None
latest-none m t = λ e mem. absurd mem

pub latest-all : (m t : ℕ) (all : List Entry) (i : ℕ) (found : Option ℕ) → length all ≤ i → IsLatestAmong m t (take i all) found → IsLatestAmong m t all found
latest-all m t all i found l h = latest-same m t (take i all) all found (λ f mem. taken-whole all i f l mem) h

no-point-more : (at : Key → Contents) (m : ℕ) (r : Register) (x y : ℕ) (e : Entry) (some : List Entry) → ((s : ℕ) → e.key ≡ reading_key m r s → x ≤ s → s < y → point at m r s ≡ None) → NoPoint at m r x y some → NoPoint at m r x y (e ∷ some)
no-point-more at m r x y e some here h f mem s i l k =
    elim mem [ inl j ↦ here s (ap (λ (g : Entry). g.key) (sym j) ∙ i) l k | inr n ↦ h f n s i l k ]

no-point-to : (at : Key → Contents) (m : ℕ) (r : Register) (x y z : ℕ) (some : List Entry) → z ≤ y → NoPoint at m r x y some → NoPoint at m r x z some
no-point-to at m r x y z some l h = λ f n s i j k. h f n s i j (omega arith)

pub earliest-more : (at : Key → Contents) (m : ℕ) (r : Register) (x y : ℕ) (e : Entry) (some : List Entry) (found here : Option (ℕ × ℕ)) →
    IsEarliestAmong at m r x y some found → IsPointIn at m r x y e here → IsEarliestAmong at m r x y (e ∷ some) (earlier_of found here)
earliest-more at m r x y e some None None h i = no-point-more at m r x y e some i h
earliest-more at m r x y e some (Some a) None h i = (h.0, h.1, h.2, no-point-more at m r x a.0 e some (λ s j l k. i s j l (omega (arith, h.2))) h.3)
earliest-more at m r x y e some None (Some b) h i =
    (i.3, i.1, i.2, no-point-more at m r x b.0 e some (λ s j l k. absurd (let q : s ≡ b.0 = ap second_of (sym j ∙ i.0) in omega arith)) (no-point-to at m r x y b.0 some (omega (arith, i.2)) h))
earliest-more at m r x y e some (Some a) (Some b) h i =
    elim (leb_tells a.0 b.0) [
      | inl z ↦ (
          let l : a.0 ≤ b.0 = z.1 in
          rw z.0 (h.0, h.1, h.2, no-point-more at m r x a.0 e some (λ s j g k. absurd (let q : s ≡ b.0 = ap second_of (sym j ∙ i.0) in omega arith)) h.3))
      | inr n ↦ (
          let l : b.0 < a.0 = n.1 in
          rw n.0 (i.3, i.1, i.2, no-point-more at m r x b.0 e some (λ s j g k. absurd (let q : s ≡ b.0 = ap second_of (sym j ∙ i.0) in omega arith)) (no-point-to at m r x a.0 b.0 some (omega arith) h.3)))
    ]

-- ---- what the records up to a place contain, of those that stand
among-next : (s : List Entry) (i : ℕ) (e : Entry) → IsAt s i e → SameMembers (standing_among s (take (i + 1) s)) (standing_among s (e ∷ take i s))
among-next s i e a x =
    let same = inserted-same (take i s) (take (i + 1) s) e (taken-inserted s i e a) in (
      λ m. let r = standing-to s (take (i + 1) s) x m in standing-back s (e ∷ take i s) x ((same x).0 r.0) r.1,
      λ m. let r = standing-to s (e ∷ take i s) x m in standing-back s (take (i + 1) s) x ((same x).1 r.0) r.1,
    )

pub contents-next : (s : List Entry) (i : ℕ) (e : Entry) (k : Key) → IsAt s i e → same_key e.key k ≡ true → is_withdrawn s e ≡ false →
    contents_among (standing_among s (take (i + 1) s)) k ≡ joined e.content (contents_among (standing_among s (take i s)) k)
contents-next s i e k a t n =
    let q : e.key ≡ k = (same_key-decides e.key k).0 t in
    let rest : List Entry = standing_among s (take i s) in
    let next : contents_among (standing_among s (take (i + 1) s)) ≡ contents_among (standing_among s (e ∷ take i s)) = among-same _ _ (among-next s i e a) in
    let here : standing_among s (e ∷ take i s) ≡ e ∷ rest = rw n in
    let P : Key → Type 0 = λ v. contents_among (e ∷ rest) v ≡ joined e.content (contents_among rest v) in
    ap (λ (at : Key → Contents). at k) next ∙ ap (λ l. contents_among l k) here ∙ subst P q (among-here rest e)

-- another key's record, or one that is withdrawn, changes nothing
pub contents-pass : (s : List Entry) (i : ℕ) (e : Entry) (k : Key) → IsAt s i e → (same_key e.key k ≡ false) ⊎ (is_withdrawn s e ≡ true) →
    contents_among (standing_among s (take (i + 1) s)) k ≡ contents_among (standing_among s (take i s)) k
contents-pass s i e k a h =
    let rest : List Entry = standing_among s (take i s) in
    let next : contents_among (standing_among s (take (i + 1) s)) ≡ contents_among (standing_among s (e ∷ take i s)) = among-same _ _ (among-next s i e a) in
    let here : contents_among (standing_among s (e ∷ take i s)) k ≡ contents_among rest k = elim (cases_Bool (is_withdrawn s e)) [
      | inl w ↦ rw w
      | inr n ↦ elim h [
        | inr w ↦ absurd (true≢false (sym w ∙ n))
        | inl f ↦ rw n (among-elsewhere rest e k (λ q. true≢false (sym ((same_key-decides e.key k).1 (sym q)) ∙ f)))
      ]
    ] in
    ap (λ (at : Key → Contents). at k) next ∙ here

-- ---- whether a record is withdrawn
pub withdrawn-one : (s : List Entry) (i : ℕ) (e f : Entry) → IsAt s i f → withdraws e f.key ≡ true → is_withdrawn s e ≡ true
withdrawn-one s i e f a w = withdrawn-back s e f (at-member s i f a) w

pub withdrawn-next : (s : List Entry) (i : ℕ) (e f : Entry) → IsAt s i f → is_withdrawn (take i s) e ≡ false → withdraws e f.key ≡ false → is_withdrawn (take (i + 1) s) e ≡ false
withdrawn-next s i e f a n w = elim (cases_Bool (is_withdrawn (take (i + 1) s) e)) [
  | inr q ↦ q
  | inl t ↦ absurd (
      let r = withdrawn-to (take (i + 1) s) e t in
      elim (taken-to s i f r.0 a r.1.0) [
        | inl m ↦ true≢false (sym (withdrawn-back (take i s) e r.0 m r.1.1) ∙ n)
        | inr q ↦ true≢false (sym r.1.1 ∙ ap (λ (x : Entry). withdraws e x.key) q ∙ w)
      ])
]
