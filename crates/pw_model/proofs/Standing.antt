-- A list of the records that stand, and what is found in it.
use Rattle.std.proofs.Common.{◌≡◌, ◌↔◌, ℕ, ◌+◌, ◌<◌, ◌≤◌, Bool, IsTrue, true, false, cond, Some, None, List, [], ◌∷◌, ◌++◌, length, get_or, take, refl, ap, sym, subst, ◌∙◌, inl, inr, arith}
use Rattle.std.proofs.lemmas.Bool.{cases_Bool, cases_lt, true≢false}
use Rattle.std.specs.Cmp.{both_ways}
use Rattle.std.specs.List.Sorted.{IsPartitionPoint, IsPartitionedBy}
use Rattle.std.specs.Ordering.{is_lt}
use Rattle.std.specs.declared.cmp.Ordering.{Ordering}
use Rattle.std.specs.declared.cmp.Ordering.TheVariants.{Less, Equal, Greater}
use Rattle.pw_model.specs.declared.records.Key.{Key}
use Rattle.pw_model.specs.declared.records.Key.TheVariants as key
use Rattle.pw_model.specs.declared.records.Named.{Named}
use Rattle.pw_model.specs.declared.records.Named.TheVariants as named
use Rattle.pw_model.specs.declared.records.Content.{Content}
use Rattle.pw_model.specs.declared.records.Content.TheVariants as content
use Rattle.pw_model.specs.declared.records.Contents.{Contents}
use Rattle.pw_model.specs.declared.records.Entry.{Entry}
use Rattle.pw_model.specs.declared.records.Fall.{Fall}
use Rattle.pw_model.specs.declared.records.Dispute.{Dispute}
use Rattle.pw_model.specs.declared.records.ReadingRow.{ReadingRow}
use Rattle.pw_obis.specs.declared.reference.Register.{Register}
use Rattle.pw_model.specs.Same.{key_numbers, same_key, same_entry, key_order, entry_order}
use Rattle.pw_model.specs.Counting.{Member, SameMembers, IsNoWithdrawal, named_entry, named_of, withdraws, is_withdrawn, standing_among, standing, Counts, contents_at}
use Rattle.pw_model.specs.Payments.{keys, stands_in}
use Rattle.pw_model.specs.Lists.{IsInOrder, IsFall, Lists, fall_order, records_at, AreFalls, AreDisputes, AreReadings}
use Rattle.pw_model.specs.inner.Search.{AllStand, AreStanding, AreSorted, IsAt, RowsOf}
use Rattle.pw_model.proofs.Same.{same_key-decides, same_entry-decides}
use Rattle.pw_model.proofs.Counting.{among-same, standing-same, standing-part, standing-told, standing-all, withdrawn-to, withdrawn-back, withdrawn-same}
use Rattle.pw_model.proofs.Once.{once-same, stands-decides}
use Rattle.pw_model.proofs.Answers.{key-to, key-back, records-standing}
use Rattle.pw_model.proofs.EntryOrder.{entry-strict, before-all}
use Rattle.pw_model.proofs.InOrder.{before-member}
use Rattle.pw_model.proofs.Places.{KeyUpTo, key-strict, at-member, member-at, at-told, at-some, at-one, at-up_to, rising-at, take-at}
use Rattle.pw_model.proofs.Bounded.{fewer-stand}
use Rattle.pw_model.proofs.PlainReadings.{rows-of_standing}

-- ---- those that stand all stand
none-withdraws : (s t : List Entry) → SameMembers t (standing s) → (e : Entry) → Member e t → is_withdrawn t e ≡ false
none-withdraws s t h e m = elim (cases_Bool (is_withdrawn t e)) [
  | inr f ↦ f
  | inl y ↦ absurd (
      let w = withdrawn-to t e y in
      let by = standing-told s w.0 ((h w.0).0 w.1.0) in
      let stands = standing-told s e ((h e).0 m) in
      true≢false (sym (withdrawn-back s e w.0 by.0 w.1.1) ∙ stands.1))
]

pub part-stands : (s t : List Entry) → SameMembers t (standing s) → AllStand t
part-stands s t h = standing-all t (none-withdraws s t h)

standing-again : (s t : List Entry) → SameMembers t (standing s) → SameMembers (standing t) (standing s)
standing-again s t h = let P : List Entry → Type 0 = λ l. SameMembers l (standing s) in subst P (sym (part-stands s t h)) h

-- and they give the same answers
contents-again : (s t : List Entry) → SameMembers t (standing s) → contents_at t ≡ contents_at s
unfolding contents_at
contents-again s t h = among-same (standing t) (standing s) (standing-again s t h)

pub counts-again : (s t : List Entry) → SameMembers t (standing s) → (e : Entry) → Counts t e ↔ Counts s e
counts-again s t h e =
    let g = standing-again s t h in (
      λ c. ((g e).0 c.0, λ f m i. c.1 f ((g f).1 m) i, c.2),
      λ c. ((g e).1 c.0, λ f m i. c.1 f ((g f).0 m) i, c.2),
    )

records-again : (s t : List Entry) → SameMembers t (standing s) → (k : Key) → records_at t k ≡ records_at s k
records-again s t h k =
    records-standing t k
    ∙ once-same same_entry same_entry-decides (λ e. cond (same_key e.key k) 1 0) (standing t) (standing s) (standing-again s t h)
    ∙ sym (records-standing s k)

pub falls-of_standing : (s view items : List Entry) (fs : List Fall) → view ≡ items → AreStanding s items → AreFalls view fs → AreFalls s fs
falls-of_standing s view items fs v a h =
    let P : List Entry → Type 0 = λ l. AreFalls l fs in
    let Q : (Key → Contents) → Type 0 = λ at. Lists fall_order (IsFall at) fs in
    subst Q (contents-again s items a.members) (subst P v h)

pub disputes-of_standing : (s view items : List Entry) (ds : List Dispute) → view ≡ items → AreStanding s items → AreDisputes view ds → AreDisputes s ds
disputes-of_standing s view items ds v a h =
    let P : List Entry → Type 0 = λ l. AreDisputes l ds in
    let g : AreDisputes items ds = subst P v h in
    record {
      rising = g.rising;
      members = λ d. (
        λ m. let x = (g.members d).0 m in record { several = x.several; number = x.number ∙ records-again s items a.members d.key },
        λ x. (g.members d).1 (record { several = x.several; number = x.number ∙ sym (records-again s items a.members d.key) }),
      );
    }

pub readings-of_standing : (s all items view standing_view : List Entry) (m : ℕ) (r : Register) (rows : List ReadingRow) → view ≡ all → AreSorted s all → standing_view ≡ items → AreStanding s items →
    RowsOf standing_view view m r view rows → AreReadings s m r rows
readings-of_standing s all items view standing_view m r rows v a w b h =
    let P : List Entry → Type 0 = λ l. RowsOf standing_view l m r l rows in
    let Q : List Entry → Type 0 = λ l. RowsOf l all m r all rows in
    rows-of_standing s items all all m r rows a (counts-again s items b.members) (λ e. withdrawn-same all s e a.members) (subst Q w (subst P v h))

-- as the lists are handed on
pub view-stands : (s view items : List Entry) → view ≡ items → AreStanding s items → AllStand view
view-stands s view items v a = let P : List Entry → Type 0 = AllStand in subst P (sym v) (part-stands s items a.members)

pub view-rises : (s view items : List Entry) → view ≡ items → AreStanding s items → IsInOrder entry_order view
view-rises s view items v a = let P : List Entry → Type 0 = IsInOrder entry_order in subst P (sym v) a.rising

-- ---- the list of them, one by one
among-append : (s xs ys : List Entry) → standing_among s (xs ++ ys) ≡ standing_among s xs ++ standing_among s ys
among-append s [] ys = refl
among-append s (x ∷ xs) ys =
    let r = among-append s xs ys in
    elim (cases_Bool (is_withdrawn s x)) [ inl t ↦ rw t r | inr f ↦ rw f (ap (λ l. x ∷ l) r) ]

append-none : (xs : List Entry) → xs ++ [] ≡ xs
append-none [] = refl
append-none (x ∷ xs) = ap (λ l. x ∷ l) (append-none xs)

pub standing-next : (s some : List Entry) (i : ℕ) (e : Entry) → IsAt some i e → is_withdrawn s e ≡ false → standing_among s (take (i + 1) some) ≡ standing_among s (take i some) ++ e ∷ []
standing-next s some i e a n = ap (standing_among s) (take-at some i e a) ∙ among-append s (take i some) (e ∷ []) ∙ rw n refl

pub standing-pass : (s some : List Entry) (i : ℕ) (e : Entry) → IsAt some i e → is_withdrawn s e ≡ true → standing_among s (take (i + 1) some) ≡ standing_among s (take i some)
standing-pass s some i e a n = ap (standing_among s) (take-at some i e a) ∙ among-append s (take i some) (e ∷ []) ∙ rw n (append-none (standing_among s (take i some)))

pub among-is : (s : List Entry) → standing_among s s ≡ standing s
unfolding standing
among-is s = refl

pub rising-some : (s some : List Entry) → IsInOrder entry_order some → IsInOrder entry_order (standing_among s some)
rising-some s [] r = tt
rising-some s (e ∷ some) r =
    let rest = rising-some s some r.1 in
    elim (cases_Bool (is_withdrawn s e)) [
      | inl t ↦ rw t rest
      | inr f ↦ rw f (before-all entry_order e (standing_among s some) (λ x m. before-member entry_order e x some r.0 (among-part s some x m)), rest)
    ]
  where
    among-part : (s some : List Entry) (x : Entry) → Member x (standing_among s some) → Member x some
    among-part s [] x m = absurd m
    among-part s (y ∷ some) x m =
        elim (cases_Bool (is_withdrawn s y)) [
          | inl t ↦ (let k : Member x (standing_among s some) = rw t at m in inr (among-part s some x k))
          | inr f ↦ (let k : Member x (y ∷ standing_among s some) = rw f at m in elim k [ inl i ↦ inl i | inr j ↦ inr (among-part s some x j) ])
        ]

pub are-standing : (s view items all : List Entry) → view ≡ items → AreSorted s items → all ≡ standing view → AreStanding s all
unfolding standing
are-standing s view items all v a h =
    let P : List Entry → Type 0 = λ l. IsInOrder entry_order l × SameMembers l s in
    let both : IsInOrder entry_order view × SameMembers view s = subst P (sym v) (a.rising, a.members) in
    let Q : List Entry → Type 0 = AreStanding s in
    subst Q (sym h) (record { rising = rising-some view view both.0; members = standing-same view s both.1 })

pub fewer : (view items all : List Entry) (n : ℕ) → view ≡ items → length items ≤ n → all ≡ standing view → length all ≤ n
unfolding standing
fewer view items all n v l h =
    let few = fewer-stand view view in
    let same : length view ≡ length items = ap length v in
    let one : length all ≡ length (standing_among view view) = ap length h in
    omega (arith, few, same, one, l)

-- ---- which withdrawal names a record
named-back : (n : Named) → named_of (named_entry n).key (named_entry n).content ≡ Some n
named-back (named.Reading m r t w) = refl
named-back (named.Assignment m t o) = refl
named-back (named.TopUp r a c t) = refl

named-is : (k : Key) (c : Content) (n : Named) → Some n ≡ named_of k c → named_entry n ≡ record { key = k; content = c }
named-is (key.Reading m r t) (content.Reading w) n h = let q : n ≡ named.Reading m r t w = cc in ap named_entry q
named-is (key.Assignment m t) (content.Assignment o) n h = let q : n ≡ named.Assignment m t o = cc in ap named_entry q
named-is (key.TopUp r) (content.TopUp a c t) n h = let q : n ≡ named.TopUp r a c t = cc in ap named_entry q
named-is (key.Reading m r t) (content.Assignment o) n h = absurd cc
named-is (key.Reading m r t) (content.TopUp a c i) n h = absurd cc
named-is (key.Reading m r t) content.Withdrawal n h = absurd cc
named-is (key.Assignment m t) (content.Reading w) n h = absurd cc
named-is (key.Assignment m t) (content.TopUp a c i) n h = absurd cc
named-is (key.Assignment m t) content.Withdrawal n h = absurd cc
named-is (key.TopUp r) (content.Reading w) n h = absurd cc
named-is (key.TopUp r) (content.Assignment o) n h = absurd cc
named-is (key.TopUp r) content.Withdrawal n h = absurd cc
named-is (key.Withdrawal o) (content.Reading w) n h = absurd cc
named-is (key.Withdrawal o) (content.Assignment p) n h = absurd cc
named-is (key.Withdrawal o) (content.TopUp a c i) n h = absurd cc
named-is (key.Withdrawal o) content.Withdrawal n h = absurd cc

names-told : (n : Named) (e : Entry) → same_entry (named_entry n) e ≡ true → named_of e.key e.content ≡ Some n
names-told n e h =
    let P : Entry → Type 0 = λ v. named_of v.key v.content ≡ Some n in
    subst P ((same_entry-decides (named_entry n) e).0 h) (named-back n)

key-withdraws : (e : Entry) (n : Named) (k : Key) → Some n ≡ named_of e.key e.content → same_key (key.Withdrawal n) k ≡ withdraws e k
unfolding key_numbers
key-withdraws e n (key.Reading m r t) h = refl
key-withdraws e n (key.Assignment m t) h = refl
key-withdraws e n (key.TopUp r) h = refl
key-withdraws e n (key.Withdrawal o) h =
    both_ways (same_key (key.Withdrawal n) (key.Withdrawal o)) (same_entry (named_entry o) e)
    (λ t.
    let k : key.Withdrawal n ≡ key.Withdrawal o = (same_key-decides (key.Withdrawal n) (key.Withdrawal o)).0 t in
    let q : n ≡ o = cc in
    (same_entry-decides (named_entry o) e).1 (ap named_entry (sym q) ∙ named-is e.key e.content n h))
    (λ t.
    let one : Some n ≡ Some o = h ∙ names-told o e t in
    let q : n ≡ o = cc in
    (same_key-decides (key.Withdrawal n) (key.Withdrawal o)).1 (ap (λ (v : Named). key.Withdrawal v) q))

pub withdrawn-keys : (s : List Entry) (e : Entry) (n : Named) → Some n ≡ named_of e.key e.content → stands_in same_key (key.Withdrawal n) (keys s) ≡ is_withdrawn s e
withdrawn-keys [] e n h = refl
withdrawn-keys (f ∷ s) e n h = rw (key-withdraws e n f.key h, withdrawn-keys s e n h) refl

withdraws-named : (e : Entry) (k : Key) → withdraws e k ≡ true → None ≡ named_of e.key e.content → ⊥
withdraws-named e (key.Reading m r t) w h = true≢false (sym w)
withdraws-named e (key.Assignment m t) w h = true≢false (sym w)
withdraws-named e (key.TopUp r) w h = true≢false (sym w)
withdraws-named e (key.Withdrawal n) w h = (let one : None ≡ Some n = h ∙ names-told n e w in cc)

pub unnamed : (s : List Entry) (e : Entry) → None ≡ named_of e.key e.content → false ≡ is_withdrawn s e
unnamed s e h = elim (cases_Bool (is_withdrawn s e)) [
  | inr f ↦ sym f
  | inl t ↦ absurd (let r = withdrawn-to s e t in withdraws-named e r.0.key r.1.1 h)
]

-- ---- where a key or a record stands in a list in order
lt-less : (o : Ordering) → is_lt o ≡ true → o ≡ Less
lt-less Less h = refl
lt-less Equal h = absurd (true≢false (sym h))
lt-less Greater h = absurd (true≢false (sym h))

abbrev pub IsKeyPoint : List Entry → Key → ℕ → Type 0
IsKeyPoint s k i = IsPartitionPoint (λ (e : Entry). is_lt (key_order e.key k) ≡ true) (λ (e : Entry). is_lt (key_order e.key k) ≡ false) s i

up-less : (k l m : Key) → KeyUpTo k l → key_order l m ≡ Less → key_order k m ≡ Less
up-less k l m (inl a) b = key-strict.trans k l m a b
up-less k l m (inr e) b = let P : Key → Type 0 = λ v. key_order v m ≡ Less in subst P (sym e) b

pub key-parts : (s : List Entry) (k : Key) → IsInOrder entry_order s → IsPartitionedBy (λ (e : Entry). is_lt (key_order e.key k)) s
key-parts s k r i j d a b h =
    let up = at-up_to s i j (get_or s i d) (get_or s j d) r (at-some s i d (omega (arith, a, b))) (at-some s j d b) a in
    ap is_lt (up-less (get_or s i d).key (get_or s j d).key k up (lt-less _ h))

key-at : (s : List Entry) (k : Key) (i : ℕ) (f : Entry) → IsInOrder entry_order s → IsKeyPoint s k i → Member f s → f.key ≡ k → (g : Entry) × IsAt s i g × (g.key ≡ k)
key-at s k i f r h m q =
    let at = member-at s f m in
    elim (cases_lt at.0 i) [
      | inl l ↦ absurd (
          let P : Entry → Type 0 = λ v. is_lt (key_order v.key k) ≡ true in
          let Q : Key → Type 0 = λ v. key_order v k ≡ Less in
          let low : is_lt (key_order f.key k) ≡ true = subst P at.1.1 (h.0 at.0 f (omega arith) l) in
          key-strict.apart k (subst Q q (lt-less _ low)))
      | inr l ↦ (
          let short = at.1.0 in
          let there : IsAt s i (get_or s i f) = at-some s i f (omega (arith, short, l)) in
          elim (at-up_to s i at.0 (get_or s i f) f r there at.1 l) [
            | inr e ↦ (get_or s i f, there, e ∙ q)
            | inl less ↦ absurd (
                let Q : Key → Type 0 = λ v. key_order (get_or s i f).key v ≡ Less in
                true≢false (sym (ap is_lt (subst Q q less)) ∙ h.1 i f (omega arith) (omega (arith, short, l))))
          ])
    ]

pub key-found : (s : List Entry) (k : Key) (i : ℕ) (x : Entry) (b : Bool) → IsInOrder entry_order s → IsKeyPoint s k i → i < length s → b ≡ same_key (get_or s i x).key k → b ≡ stands_in same_key k (keys s)
key-found s k i x b r h l q =
    let there : IsAt s i (get_or s i x) = at-some s i x l in
    let d = stands-decides same_key same_key-decides (λ v. 0) k (keys s) in
    both_ways b (stands_in same_key k (keys s))
    (λ t.
    let e : (get_or s i x).key ≡ k = (same_key-decides (get_or s i x).key k).0 (sym q ∙ t) in
    let P : Key → Type 0 = λ v. Member v (keys s) in
    d.1 (subst P e (key-back (get_or s i x) s (at-member s i (get_or s i x) there))))
    (λ t.
    let f = key-to k s (d.0 t) in
    let g = key-at s k i f.0 r h f.1.0 f.1.1 in
    q ∙ (same_key-decides (get_or s i x).key k).1 (ap (λ (v : Entry). v.key) (at-one s i (get_or s i x) g.0 there g.1) ∙ g.2))

pub key-lost : (s : List Entry) (k : Key) (i : ℕ) → IsInOrder entry_order s → IsKeyPoint s k i → length s ≤ i → false ≡ stands_in same_key k (keys s)
key-lost s k i r h l = elim (cases_Bool (stands_in same_key k (keys s))) [
  | inr f ↦ sym f
  | inl t ↦ absurd (
      let f = key-to k s ((stands-decides same_key same_key-decides (λ v. 0) k (keys s)).0 t) in
      let g = key-at s k i f.0 r h f.1.0 f.1.1 in
      let short = g.1.0 in
      omega (arith, short, l))
]

abbrev pub IsEntryPoint : List Entry → Entry → ℕ → Type 0
IsEntryPoint s e i = IsPartitionPoint (λ (f : Entry). is_lt (entry_order f e) ≡ true) (λ (f : Entry). is_lt (entry_order f e) ≡ false) s i

pub entry-parts : (s : List Entry) (e : Entry) → IsInOrder entry_order s → IsPartitionedBy (λ (f : Entry). is_lt (entry_order f e)) s
entry-parts s e r i j d a b h =
    elim (cases_lt i j) [
      | inl l ↦ (
          let first = rising-at entry_order s i j (get_or s i d) (get_or s j d) r (at-some s i d (omega (arith, a, b))) (at-some s j d b) l in
          ap is_lt (entry-strict.trans (get_or s i d) (get_or s j d) e first (lt-less _ h)))
      | inr l ↦ (
          let q : j ≡ i = omega (arith, a, l) in
          let P : ℕ → Type 0 = λ v. is_lt (entry_order (get_or s v d) e) ≡ true in
          subst P q h)
    ]

entry-at : (s : List Entry) (e : Entry) (i : ℕ) → IsInOrder entry_order s → IsEntryPoint s e i → Member e s → IsAt s i e
entry-at s e i r h m =
    let at = member-at s e m in
    let short = at.1.0 in
    elim (cases_lt at.0 i) [
      | inl l ↦ absurd (
          let P : Entry → Type 0 = λ v. is_lt (entry_order v e) ≡ true in
          entry-strict.apart e (lt-less _ (subst P at.1.1 (h.0 at.0 e (omega arith) l))))
      | inr l ↦ elim (cases_lt i at.0) [
        | inl g ↦ absurd (
            let there : IsAt s i (get_or s i e) = at-some s i e (omega (arith, short, l)) in
            let less = rising-at entry_order s i at.0 (get_or s i e) e r there at.1 g in
            true≢false (sym (ap is_lt less) ∙ h.1 i e (omega arith) (omega (arith, short, l))))
        | inr g ↦ (
            let q : at.0 ≡ i = omega (arith, l, g) in
            let P : ℕ → Type 0 = λ v. IsAt s v e in
            subst P q at.1)
      ]
    ]

-- it stands at the place where it is found
pub entry-there : (s : List Entry) (e : Entry) (i : ℕ) (x : Entry) (b : Bool) → i < length s → x ≡ get_or s i x → b ≡ same_entry x e → b ≡ true → IsAt s i e
entry-there s e i x b l p q t =
    let P : Entry → Type 0 = IsAt s i in
    subst P ((same_entry-decides x e).0 (sym q ∙ t)) (at-told s i x l p)

pub not-there : (s : List Entry) (e : Entry) (i : ℕ) → IsInOrder entry_order s → IsEntryPoint s e i → (IsAt s i e → ⊥) → IsTrue false ↔ Counts s e
not-there s e i r h n = (λ t. absurd (true≢false (sym t)), λ c. absurd (n (entry-at s e i r h (standing-part s e c.0))))

pub at-apart : (s : List Entry) (e : Entry) (i : ℕ) (x : Entry) (b : Bool) → x ≡ get_or s i x → b ≡ same_entry x e → b ≡ false → i < length s → IsAt s i e → ⊥
at-apart s e i x b p q f l a = true≢false (sym (q ∙ (same_entry-decides x e).1 (at-one s i x e (at-told s i x l p) a)) ∙ f)

-- a reading is no withdrawal
pub is-reading : (c : Content) (w : ℕ) → c ≡ content.Reading w → IsNoWithdrawal c
is-reading c w h = let P : Content → Type 0 = IsNoWithdrawal in subst P (sym h) tt
