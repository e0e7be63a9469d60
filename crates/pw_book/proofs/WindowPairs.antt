-- The pairs of a register that overlap the time from a start up to the next.
use Rattle.std.proofs.Common.{◌≡◌, ℕ, suc, ◌+◌, ◌<◌, ◌≤◌, ◌⊎◌, Bool, true, ◌==◌, ◌&&◌, Option, Some, None, List, [], ◌∷◌, ◌++◌, length, refl, ap, sym, subst, ◌∙◌, inl, inr, arith, Less}
use Rattle.std.specs.Cmp.{nat_cmp_is}
use Rattle.std.proofs.lemmas.Bool.{cases_Bool, cases_lt}
use Rattle.std.proofs.lemmas.Option.{none-some}
use Rattle.pw_obis.specs.declared.reference.Register.{Register}
use Rattle.pw_time.specs.declared.instant.TheConstants.{END_SECOND, LAST_SECOND}
use Rattle.pw_flow.specs.Energy.{register_energy}
use Rattle.pw_flow.specs.Pairs.{Chain, last_of, pairs_sum}
use Rattle.pw_flow.proofs.Pairs.{energy-pairs}
use Rattle.pw_flow.proofs.Points.{option-cases}
use Rattle.pw_tariff.specs.declared.ids.AccountId.{AccountId}
use Rattle.pw_tariff.specs.declared.ids.Direction.{Direction}
use Rattle.pw_tariff.specs.Office.{OfficeFile, OfficeRules, band_at, counts_at, office_of, period_at}
use Rattle.pw_tariff.specs.Owners.{owner_by_starts, same_owner}
use Rattle.pw_tariff.specs.Shares.{class_seconds}
use Rattle.pw_model.specs.declared.records.Key.{Key}
use Rattle.pw_model.specs.declared.records.Contents.{Contents}
use Rattle.pw_model.specs.declared.records.TotalKey.{TotalKey}
use Rattle.pw_model.specs.declared.records.TotalKey.TheVariants.{Energy, TopUps}
use Rattle.pw_model.specs.Changes.{IsOtherStart, TakesIn}
use Rattle.pw_model.specs.Counting.{Member, point, start}
use Rattle.pw_model.specs.Energy.{Asked, asked_seconds, of_class, owner_at}
use Rattle.pw_model.specs.Lists.{IsInOrder}
use Rattle.pw_model.specs.Same.{direction_of, same_direction}
use Rattle.pw_model.specs.Shelf.{ShelfContent}
use Rattle.pw_model.proofs.Windows.{other-window}
use Rattle.pw_shelf.specs.Rows.{rows_found}
use Rattle.pw_shelf.specs.Seconds.{IsBefore, IsBehind, ListsSecondsWithin}
use Rattle.pw_model.specs.Seconds.{by_second}
use Rattle.pw_book.specs.inner.Settling.{EndsBefore, EndsBeforeNext, IsOver, IsStartChanged, ListsUpToNextStart, register_told}
use Rattle.pw_parts.specs.Changes.{pairs_for}
use Rattle.pw_book.specs.Listed.{point_listed}
use Rattle.pw_parts.proofs.Chart.{less-is}
use Rattle.pw_model.proofs.InOrder.{before-member}
use Rattle.pw_model.proofs.EntryOrder.{before-all}

-- ---- the points from one second up to another
-- each of them, in order
abbrev pub Runs : (ℕ → Option ℕ) → ℕ → ℕ → List (ℕ × ℕ) → Type 0
Runs told from until [] = (s : ℕ) → from ≤ s → s ≤ until → told s ≡ None
Runs told from until (a ∷ ps) = (from ≤ a.0) × (a.0 ≤ until) × (told a.0 ≡ Some a.1) × ((s : ℕ) → from ≤ s → s < a.0 → told s ≡ None) × Runs told (suc a.0) until ps

runs-from : (told : ℕ → Option ℕ) (from until : ℕ) (ps : List (ℕ × ℕ)) → IsInOrder by_second ps → ((a : ℕ × ℕ) → Member a ps → (told a.0 ≡ Some a.1) × (from ≤ a.0) × (a.0 ≤ until)) →
    ((t w : ℕ) → from ≤ t → t ≤ until → told t ≡ Some w → Member (t, w) ps) → Runs told from until ps
runs-from told from until [] r h k = λ s l g. elim (option-cases (told s)) [
  | inl n ↦ n
  | inr w ↦ absurd (k s w.0 l g w.1)
]
runs-from told from until (a ∷ ps) r h k =
    let here = h a (inl refl) in (
      here.1,
      here.2,
      here.0,
      λ s l m. elim (option-cases (told s)) [
        | inl n ↦ n
        | inr w ↦ (let q = here.2 in absurd (elim (k s w.0 l (omega (arith, m, q)) w.1) [
          | inl i ↦ (let e : s ≡ a.0 = ap (λ (p : ℕ × ℕ). p.0) i in omega (arith, e, m))
          | inr b ↦ (let e : a.0 < s = less-is a.0 s (before-member by_second a (s, w.0) ps r.0 b) in omega (arith, e, m))
        ]))
      ],
      runs-from told (suc a.0) until ps r.1
          (λ b m. (let g = h b (inr m) in let q : a.0 < b.0 = less-is a.0 b.0 (before-member by_second a b ps r.0 m) in (g.0, omega (arith, q), g.2)))
          (λ t w l u e. elim (k t w (let f = here.1 in omega (arith, l, f)) u e) [
            | inl i ↦ absurd (let q : t ≡ a.0 = ap (λ (p : ℕ × ℕ). p.0) i in omega (arith, l, q))
            | inr m ↦ m
          ]),
    )

pub runs-listed : (told : ℕ → Option ℕ) (from until : ℕ) (ps : List (ℕ × ℕ)) → ListsSecondsWithin from until told ps → Runs told from until ps
runs-listed told from until ps l = runs-from told from until ps l.rising
    (λ a m. (let h = (l.members a).0 m in (h.2, h.0, h.1)))
    (λ t w f u e. (l.members (t, w)).1 (f, u, e))

-- from an earlier second on, where nothing stands between
pub runs-lower : (told : ℕ → Option ℕ) (low from until : ℕ) (ps : List (ℕ × ℕ)) → low ≤ from → ((s : ℕ) → low ≤ s → s < from → told s ≡ None) → Runs told from until ps → Runs told low until ps
runs-lower told low from until [] l n r = λ s a b. elim (cases_lt s from) [ inl c ↦ n s a c | inr c ↦ r s c b ]
runs-lower told low from until (a ∷ ps) l n r =
    let f = r.0 in
    (omega (arith, l, f), r.1, r.2, λ s b c. elim (cases_lt s from) [ inl d ↦ n s b d | inr d ↦ r.3 s d c ], r.4)

-- ---- one point behind another
pub runs-chain : (told : ℕ → Option ℕ) (until : ℕ) (a : ℕ × ℕ) (ps : List (ℕ × ℕ)) (after : Option (ℕ × ℕ)) → told a.0 ≡ Some a.1 → a.0 ≤ until → Runs told (suc a.0) until ps → IsBehind told until after →
    Chain told a (ps ++ point_listed after [])
runs-chain told until a [] None h l r n = h
runs-chain told until a [] (Some b) h l r n = (
  record {
    earlier = let g = n.behind in omega (arith, l, g);
    first = h;
    second = n.here;
    between = λ s c d. elim (cases_lt until s) [ inl e ↦ n.between s e d | inr e ↦ r s (omega (arith, c)) e ];
  },
  n.here,
)
runs-chain told until a (b ∷ ps) after h l r n = (
  record {
    earlier = let g = r.0 in omega (arith, g);
    first = h;
    second = r.2;
    between = λ s c d. r.3 s (omega (arith, c)) d;
  },
  runs-chain told until b ps after r.2 r.1 r.4 n,
)

-- nothing stands behind the last, where nothing stands behind all
pub last-of_all : (told : ℕ → Option ℕ) (until : ℕ) (a : ℕ × ℕ) (ps : List (ℕ × ℕ)) → Runs told (suc a.0) until ps → ((s : ℕ) → until < s → told s ≡ None) →
    (s : ℕ) → (last_of a (ps ++ [])).0 < s → told s ≡ None
last-of_all told until a [] r n s l = elim (cases_lt until s) [ inl e ↦ n s e | inr e ↦ r s (omega (arith, l)) e ]
last-of_all told until a (b ∷ ps) r n s l = last-of_all told until b ps r.4 n s l

pub last-pushed : (a b : ℕ × ℕ) (ps : List (ℕ × ℕ)) → last_of a (ps ++ b ∷ []) ≡ b
last-pushed a b [] = refl
last-pushed a b (c ∷ ps) = last-pushed c b ps

pub chain-last : (told : ℕ → Option ℕ) (a : ℕ × ℕ) (ps : List (ℕ × ℕ)) → Chain told a ps → told (last_of a ps).0 ≡ Some (last_of a ps).1
chain-last told a [] h = h
chain-last told a (b ∷ ps) h = chain-last told b ps h.1

pub chain-order : (told : ℕ → Option ℕ) (a : ℕ × ℕ) (ps : List (ℕ × ℕ)) → Chain told a ps → IsInOrder by_second (a ∷ ps)
chain-order told a [] h = (tt, tt)
chain-order told a (b ∷ ps) h =
    let r = chain-order told b ps h.1 in
    let l = h.0.earlier in (
      before-all by_second a (b ∷ ps) (λ c m. sym (nat_cmp_is a.0 c.0 Less (elim m [
        | inl i ↦ (let e : c.0 ≡ b.0 = ap (λ (p : ℕ × ℕ). p.0) i in omega (arith, e, l))
        | inr n ↦ (let k = less-is b.0 c.0 (before-member by_second b c ps r.0 n) in omega (arith, k, l))
      ]))),
      r,
    )

-- ---- all that another start can change
-- no point at all, or a chain that takes in what changes
abbrev pub IsTaken : (Key → Contents) → ℕ → Register → ℕ → List (ℕ × ℕ) → Type 0
IsTaken old m r z [] = (s : ℕ) → point old m r s ≡ None
IsTaken old m r z (a ∷ ps) = TakesIn old m r z a ps

-- a chain ends behind the window
ends-behind : (old : Key → Contents) (m : ℕ) (r : Register) (z until : ℕ) (a b : ℕ × ℕ) (ps : List (ℕ × ℕ)) → EndsBeforeNext (start old m) z until → EndsBefore END_SECOND (point old m r) →
    until < b.0 → point old m r b.0 ≡ Some b.1 → last_of a ps ≡ b →
    ((y : ℕ) × (o : Option AccountId) × (start old m y ≡ Some o) × (z < y) × (y ≤ (last_of a ps).0)) ⊎ ((s : ℕ) → (last_of a ps).0 < s → point old m r s ≡ None)
ends-behind old m r z until a b ps w e l t q =
    let p : (last_of a ps).0 ≡ b.0 = ap (λ (x : ℕ × ℕ). x.0) q in
    elim w.next [
      | inl n ↦ inl (until + 1, n.0, n.1, (let k = w.rises in omega (arith, k)), omega (arith, l, p))
      | inr u ↦ absurd (let f = e b.0 b.1 t in omega (arith, l, u, f))
    ]

ends-of : (old : Key → Contents) (m : ℕ) (r : Register) (z until : ℕ) (a : ℕ × ℕ) (ps : List (ℕ × ℕ)) (after : Option (ℕ × ℕ)) → EndsBeforeNext (start old m) z until → EndsBefore END_SECOND (point old m r) →
    Runs (point old m r) (suc a.0) until ps → IsBehind (point old m r) until after →
    let qs : List (ℕ × ℕ) = ps ++ point_listed after [] in
    ((y : ℕ) × (o : Option AccountId) × (start old m y ≡ Some o) × (z < y) × (y ≤ (last_of a qs).0)) ⊎ ((s : ℕ) → (last_of a qs).0 < s → point old m r s ≡ None)
ends-of old m r z until a ps None w e k n = inr (last-of_all (point old m r) until a ps k n)
ends-of old m r z until a ps (Some b) w e k n = ends-behind old m r z until a b (ps ++ b ∷ []) w e n.behind n.here (last-pushed a b ps)

pub taken : (old : Key → Contents) (m : ℕ) (r : Register) (z until : ℕ) (before : Option (ℕ × ℕ)) (within : List (ℕ × ℕ)) (after : Option (ℕ × ℕ)) → EndsBeforeNext (start old m) z until → EndsBefore END_SECOND (point old m r) →
    IsBefore (point old m r) z before → ListsSecondsWithin z until (point old m r) within → IsBehind (point old m r) until after →
    IsTaken old m r z (point_listed before (within ++ point_listed after []))
taken old m r z until (Some a) within after w e b l n =
    let told = point old m r in
    let f = b.before in
    let g = w.rises in
    let k : Runs told (suc a.0) until within = runs-lower told (suc a.0) z until within (omega (arith, f)) (λ s c d. b.between s (omega (arith, c)) d) (runs-listed told z until within l) in
    record {
      chain = runs-chain told until a within after b.here (omega (arith, f, g)) k n;
      begins = inl (omega (arith, f));
      ends = ends-of old m r z until a within after w e k n;
    }
taken old m r z until None (a ∷ ps) after w e b l n =
    let told = point old m r in
    let k = runs-listed told z until (a ∷ ps) l in
    record {
      chain = runs-chain told until a ps after k.2 k.1 k.4 n;
      begins = inr (λ s c. elim (cases_lt s z) [ inl d ↦ b s d | inr d ↦ k.3 s d c ]);
      ends = ends-of old m r z until a ps after w e k.4 n;
    }
taken old m r z until None [] (Some a) w e b l n =
    let told = point old m r in
    let k = runs-listed told z until [] l in
    record {
      chain = n.here;
      begins = inr (λ s c. elim (cases_lt s z) [ inl d ↦ b s d | inr d ↦ elim (cases_lt until s) [ inl f ↦ n.between s f c | inr f ↦ k s d f ] ]);
      ends = ends-behind old m r z until a a [] w e n.behind n.here refl;
    }
taken old m r z until None [] None w e b l n =
    let k = runs-listed (point old m r) z until [] l in
    λ s. elim (cases_lt s z) [ inl d ↦ b s d | inr d ↦ elim (cases_lt until s) [ inl f ↦ n s f | inr f ↦ k s d f ] ]

pub taken-rises : (old : Key → Contents) (m : ℕ) (r : Register) (z : ℕ) (ps : List (ℕ × ℕ)) → IsTaken old m r z ps → IsInOrder by_second ps
taken-rises old m r z [] t = tt
taken-rises old m r z (a ∷ ps) t = chain-order (point old m r) a ps t.chain

pub no-energy : (keeps : ℕ → Bool) (told : ℕ → Option ℕ) (end : ℕ) → ((s : ℕ) → told s ≡ None) → register_energy keeps told end ≡ 0
no-energy keeps told end n = energy-pairs keeps told end [] (λ s l. n s)

taken-changes : (office : OfficeRules) (old new : Key → Contents) (m z : ℕ) (r : Register) (asked : Asked) (ps : List (ℕ × ℕ)) → IsOtherStart old new m z → ((t w : ℕ) → point old m r t ≡ Some w → t < office.end) → IsTaken old m r z ps →
    register_energy (asked_seconds old asked m) (point old m r) office.end + pairs_sum (asked_seconds new asked m) ps
    ≡ register_energy (asked_seconds new asked m) (point new m r) office.end + pairs_sum (asked_seconds old asked m) ps
taken-changes office old new m z r asked [] o e t =
    let a = no-energy (asked_seconds old asked m) (point old m r) office.end t in
    let b = no-energy (asked_seconds new asked m) (point new m r) office.end (λ s. ap (λ (f : ℕ → Register → ℕ → Option ℕ). f m r s) (sym o.points) ∙ t s) in
    omega (arith, a, b)
taken-changes office old new m z r asked (a ∷ ps) o e t =
    other-window office old new m z o r asked a ps t (e (last_of a ps).0 (last_of a ps).1 (chain-last (point old m r) a ps t.chain))

-- ---- by totals
seconds-alike : (file : OfficeFile) (owners : List (ℕ × Option AccountId)) (at : Key → Contents) (m : ℕ) (owner : Option AccountId) (period band : ℕ) → ((t : ℕ) → owner_by_starts owners t ≡ owner_at at m t) →
    class_seconds file owners owner period band ≡ asked_seconds at (of_class (office_of file) owner period band) m
seconds-alike file owners at m owner period band h = λ i t. (same_owner (h t i) owner && ((period_at file t == period) && (band_at file t == band)))

-- what a register that counts gains and loses
pub register-moved : (file : OfficeFile) (c : ShelfContent) (was is : Key → Contents) (m z until : ℕ) (owners others : List (ℕ × Option AccountId)) (r : Register) (ps : List (ℕ × ℕ)) → counts_at file m r ≡ true →
    IsStartChanged c was is m z until owners others → IsTaken was m r z ps → (k : TotalKey) →
    pairs_for file others (direction_of r) ps k + register_told (office_of file) was m k r ≡ pairs_for file owners (direction_of r) ps k + register_told (office_of file) is m k r
register-moved file c was is m z until owners others r ps y h t (TopUps a) = refl
register-moved file c was is m z until owners others r ps y h t (Energy o p b e) = elim (cases_Bool (same_direction (direction_of r) e)) [
  | inl d ↦ (
      let asked : Asked = of_class (office_of file) o p.0 b.0 in
      let u : pairs_sum (class_seconds file owners o p.0 b.0) ps ≡ pairs_sum (asked_seconds was asked m) ps = ap (λ (s : ℕ → Bool). pairs_sum s ps) (seconds-alike file owners was m o p.0 b.0 h.before) in
      let v : pairs_sum (class_seconds file others o p.0 b.0) ps ≡ pairs_sum (asked_seconds is asked m) ps = ap (λ (s : ℕ → Bool). pairs_sum s ps) (seconds-alike file others is m o p.0 b.0 h.after) in
      let s = taken-changes (office_of file) was is m z r asked ps h.other (h.ended r) t in
      rw (d, y) (omega (arith, u, v, s)))
  | inr n ↦ rw n refl
]

-- the same, with the energies that it is gathered to
pub register-gathered : (file : OfficeFile) (c : ShelfContent) (was is : Key → Contents) (m z until : ℕ) (owners others : List (ℕ × Option AccountId)) (r : Register) (way : Direction)
    (before : Option (ℕ × ℕ)) (within lent : List (ℕ × ℕ)) (after : Option (ℕ × ℕ)) (points first second : List (ℕ × ℕ)) (was_less mid_less now_less was_more mid_more now_more : TotalKey → ℕ) → counts_at file m r ≡ true →
    IsStartChanged c was is m z until owners others → IsOver z until (c.point m r) before within after → lent ≡ within →
    points ≡ point_listed before (lent ++ point_listed after []) → first ≡ points → second ≡ points → way ≡ direction_of r →
    (IsInOrder by_second first → (k : TotalKey) → mid_less k ≡ was_less k + pairs_for file owners way first k) → ((k : TotalKey) → mid_more k ≡ was_more k) →
    (IsInOrder by_second second → (k : TotalKey) → now_more k ≡ mid_more k + pairs_for file others way second k) → ((k : TotalKey) → now_less k ≡ mid_less k) → (k : TotalKey) →
    now_more k + was_less k + register_told (office_of file) was m k r ≡ now_less k + was_more k + register_told (office_of file) is m k r
register-gathered file c was is m z until owners others r way before within lent after points first second was_less mid_less now_less was_more mid_more now_more y h o x v f s w t u g j k =
    let P : (ℕ → Option ℕ) → Type 0 = λ told. IsOver z until told before within after in
    let over = subst P (h.points r) o in
    let full : List (ℕ × ℕ) = point_listed before (within ++ point_listed after []) in
    let all = taken was m r z until before within after h.window (h.ended r) over.before_is over.within_is over.after_is in
    let rises = taken-rises was m r z full all in
    let whole : points ≡ full = v ∙ ap (λ (xs : List (ℕ × ℕ)). point_listed before (xs ++ point_listed after [])) x in
    let O : List (ℕ × ℕ) → Type 0 = λ xs. IsInOrder by_second xs in
    let one : pairs_for file owners way first k ≡ pairs_for file owners (direction_of r) full k = λ i. pairs_for file owners (w i) ((f ∙ whole) i) k in
    let two : pairs_for file others way second k ≡ pairs_for file others (direction_of r) full k = λ i. pairs_for file others (w i) ((s ∙ whole) i) k in
    let lost = t (subst O (sym (f ∙ whole)) rises) k in
    let won = g (subst O (sym (s ∙ whole)) rises) k in
    let moved = register-moved file c was is m z until owners others r full y h all k in
    let more = u k in
    let less = j k in
    omega (arith, one, two, lost, won, moved, more, less)

-- ---- how many points are read
none-last : (told : ℕ → Option ℕ) (until : ℕ) (after : Option (ℕ × ℕ)) (x : ℕ × ℕ) → IsBehind told until after → ((b : ℕ × ℕ) → after ≡ Some b → b.0 ≤ LAST_SECOND) → until ≡ LAST_SECOND → until < x.0 → told x.0 ≡ Some x.1 → ⊥
none-last told until None x a f u b t = none-some x.1 (sym (a x.0 b) ∙ t)
none-last told until (Some y) x a f u b t = let g = f y refl in let k = a.behind in omega (arith, g, k, u)

up-to : (starts : ℕ → Option (Option AccountId)) (told : ℕ → Option ℕ) (z until : ℕ) (after : Option (ℕ × ℕ)) (x : ℕ × ℕ) → EndsBeforeNext starts z until → IsBehind told until after → ((b : ℕ × ℕ) → after ≡ Some b → b.0 ≤ LAST_SECOND) →
    ((s : ℕ) → z < s → s ≤ x.0 → starts s ≡ None) → told x.0 ≡ Some x.1 → x.0 ≤ until
up-to starts told z until after x w a f n t = elim (cases_lt until x.0) [
  | inl b ↦ absurd (elim w.next [
    | inl o ↦ none-some o.0 (sym (n (until + 1) (let g = w.rises in omega (arith, g)) (omega (arith, b))) ∙ o.1)
    | inr u ↦ none-last told until after x a f u b t
  ])
  | inr b ↦ b
]

-- three calls that leave the content as it is
pub points-over : (c d e : ShelfContent) (m : ℕ) (r : Register) (z until : ℕ) (before : Option (ℕ × ℕ)) (within : List (ℕ × ℕ)) (after : Option (ℕ × ℕ)) → d ≡ c → e ≡ d →
    IsBefore (c.point m r) z before → IsBehind (d.point m r) until after → ListsSecondsWithin z until (e.point m r) within → IsOver z until (c.point m r) before within after
points-over c d e m r z until before within after p q b a l =
    let Q : ShelfContent → Type 0 = λ x. IsBehind (x.point m r) until after in
    let R : ShelfContent → Type 0 = λ x. ListsSecondsWithin z until (x.point m r) within in
    record { before_is = b; within_is = subst R (q ∙ p) l; after_is = subst Q p a }

pub within-counted : (c : ShelfContent) (m : ℕ) (r : Register) (z until most : ℕ) (before : Option (ℕ × ℕ)) (within : List (ℕ × ℕ)) (after : Option (ℕ × ℕ)) → IsOver z until (c.point m r) before within after →
    EndsBeforeNext (c.start m) z until → ((b : ℕ × ℕ) → after ≡ Some b → b.0 ≤ LAST_SECOND) → ((points : List (ℕ × ℕ)) → ListsUpToNextStart c m r z points → length points ≤ most) → length within ≤ most
within-counted c m r z until most before within after o w f h =
    let listed = o.within_is in
    h within (record {
      rising = listed.rising;
      members = λ x. (
        λ k. (let n = (listed.members x).0 k in (n.0, λ s b g. w.none s b (let u = n.1 in omega (arith, g, u)), n.2)),
        λ k. (listed.members x).1 (k.0, up-to (c.start m) (c.point m r) z until after x w o.after_is f k.1 k.2, k.2),
      );
    })

found-one : {X : Type 0} (found : Option X) → rows_found found ≤ 1
found-one None = omega arith
found-one (Some row) = omega arith

-- three calls that ask: two that give a row at most, and one that gives those listed
pub tally-five : {X Y : Type 0} (was first second third : ℕ) (before : Option X) (after : Option Y) (listed n most : ℕ) → first ≡ was + 1 + rows_found before → second ≡ first + 1 + rows_found after → third ≡ second + 1 + listed →
    listed ≡ n → n ≤ most → third ≤ was + 5 + most
tally-five was first second third before after listed n most a b d e f =
    let x = found-one before in
    let y = found-one after in
    omega (arith, a, b, d, e, f, x, y)
