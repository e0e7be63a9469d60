-- The disputes that the plain program finds.
use Rattle.std.proofs.Common.{◌≡◌, ℕ, ◌+◌, ◌<◌, ◌≤◌, true, false, cond, List, [], ◌∷◌, ◌++◌, length, take, drop, refl, ap, sym, subst, ◌∙◌, inl, inr, arith}
use Rattle.std.proofs.lemmas.Bool.{cases_Bool, true≢false}
use Rattle.std.specs.Ordering.{ordering_then}
use Rattle.std.specs.declared.cmp.Ordering.{Ordering}
use Rattle.std.specs.declared.cmp.Ordering.TheVariants.{Less, Equal, Greater}
use Rattle.pw_model.specs.declared.records.Key.{Key}
use Rattle.pw_model.specs.declared.records.Entry.{Entry}
use Rattle.pw_model.specs.declared.records.Dispute.{Dispute}
use Rattle.pw_model.specs.Same.{same_key, same_entry, key_order, entry_order}
use Rattle.pw_model.specs.Counting.{Member, standing}
use Rattle.pw_model.specs.Payments.{keys, stands_in, sum_once}
use Rattle.pw_model.specs.Lists.{IsInOrder, IsDispute, dispute_order, records_at, AreDisputes}
use Rattle.pw_model.specs.inner.Search.{AllStand, IsAt, IsKeyBehind, DisputesUnder, AreSorted}
use Rattle.pw_model.proofs.Same.{same_key-decides, same_entry-decides}
use Rattle.pw_model.proofs.Counting.{inserted-same, standing-part}
use Rattle.pw_model.proofs.Once.{stands-decides, once-same, once-fresh, once-behind, once-zero}
use Rattle.pw_model.proofs.Answers.{key-to, key-back, records-all, records-standing}
use Rattle.pw_model.proofs.InOrder.{before-member}
use Rattle.pw_model.proofs.EntryOrder.{keys-tie, told-more, told-skip}
use Rattle.pw_model.proofs.Places.{at-one, drop-at, dropped-at, at-dropped, taken-at, taken-inserted, parts-same, rising-drop, entry-apart, same-between, key-behind}
use Rattle.pw_model.proofs.SoFar.{IsSoFar, so-far-more, so-far-skip, so-far-all}

abbrev dispute : Key → ℕ → Dispute
dispute k n = record { key = k; contents = n }

disputes-one : (s : List Entry) (d e : Dispute) → IsDispute s d → IsDispute s e → d.key ≡ e.key → d ≡ e
disputes-one s d e a b i =
    let n : d.contents ≡ e.contents = a.number ∙ ap (λ (k : Key). records_at s k) i ∙ sym b.number in
    λ j. dispute (i j) (n j)

-- of two entries in order, whose keys differ, the first has the lower key
key-first : (o p : Ordering) → (o ≡ Equal → ⊥) → ordering_then o p ≡ Less → o ≡ Less
key-first Less p n h = refl
key-first Equal p n h = absurd (n refl)
key-first Greater p n h = h

stands-not : (k : Key) (ks : List Key) → stands_in same_key k ks ≡ false → Member k ks → ⊥
stands-not k ks h m = true≢false (sym ((stands-decides same_key same_key-decides (λ l. 0) k ks).1 m) ∙ h)

pub disputes-more : (s : List Entry) (e : Entry) (some others : List Entry) (d : Dispute) (ds es : List Dispute) → some ≡ e ∷ others → IsInOrder entry_order some → es ≡ d ∷ ds →
    stands_in same_key e.key (keys others) ≡ false → e.key ≡ d.key → IsDispute s d → DisputesUnder s others ds → DisputesUnder s some es
disputes-more s e some others d ds es i rising j no_key k a l =
    let R : List Entry → Type 0 = IsInOrder entry_order in
    let up : IsInOrder entry_order (e ∷ others) = subst R i rising in
    let first : (g : Dispute) → Member g ds → dispute_order d g ≡ Less = λ g m. (
    let under : Member g.key (keys others) = ((l.members g).0 m).1 in
    let at = key-to g.key others under in
    let before : entry_order e at.0 ≡ Less = before-member entry_order e at.0 others up.0 at.1.0 in
    let apart : key_order e.key at.0.key ≡ Equal → ⊥ = λ t. stands-not e.key (keys others) no_key (let M : Key → Type 0 = λ v. Member v (keys others) in subst M (sym (keys-tie e.key at.0.key t ∙ at.1.1)) under) in
    let less : key_order e.key at.0.key ≡ Less = key-first (key_order e.key at.0.key) _ apart before in
    let S : Key → Type 0 = λ v. key_order v at.0.key ≡ Less in
    let T : Key → Type 0 = λ v. key_order d.key v ≡ Less in
    subst T at.1.1 (subst S k less)) in
    told-more dispute_order (IsDispute s) (λ (g : Dispute). g.key) e.key (keys some) (keys others) d ds es (ap keys i) j a k first (λ g b q. disputes-one s g d b a q) l

-- no dispute is under the first key of these records that isn't under another
disputes-skip : (s : List Entry) (e : Entry) (some others : List Entry) (ds : List Dispute) → some ≡ e ∷ others → ((d : Dispute) → IsDispute s d → d.key ≡ e.key → Member d.key (keys others)) →
    DisputesUnder s others ds → DisputesUnder s some ds
disputes-skip s e some others ds i n l = told-skip dispute_order (IsDispute s) (λ (d : Dispute). d.key) e.key (keys some) (keys others) ds (ap keys i) n l

pub disputes-again : (s : List Entry) (e : Entry) (some others : List Entry) (ds : List Dispute) → some ≡ e ∷ others → true ≡ stands_in same_key e.key (keys others) →
    DisputesUnder s others ds → DisputesUnder s some ds
disputes-again s e some others ds i h l =
    disputes-skip s e some others ds i (λ d a k. (
    let M : Key → Type 0 = λ v. Member v (keys others) in
    subst M (sym k) ((stands-decides same_key same_key-decides (λ l. 0) e.key (keys others)).0 (sym h)))) l

pub disputes-few : (s : List Entry) (e : Entry) (some others : List Entry) (ds : List Dispute) (n : ℕ) → some ≡ e ∷ others → n ≡ records_at s e.key → n < 2 →
    DisputesUnder s others ds → DisputesUnder s some ds
disputes-few s e some others ds n i h few l =
    disputes-skip s e some others ds i (λ d a k. (
    let same : d.contents ≡ n = a.number ∙ ap (λ (v : Key). records_at s v) k ∙ sym h in
    let two : 2 ≤ d.contents = a.several in
    absurd (omega arith))) l

-- a key that some record has
has-one : (s : List Entry) (k : Key) → 1 ≤ sum_once same_entry (λ e. cond (same_key e.key k) 1 0) s → Member k (keys s)
has-one [] k h = absurd (omega arith)
has-one (e ∷ s) k h =
    elim (cases_Bool (same_key e.key k)) [
      | inl t ↦ inl (sym ((same_key-decides e.key k).0 t))
      | inr f ↦ inr (has-one s k (elim (cases_Bool (stands_in same_entry e s)) [
        | inl u ↦ (let g = rw (f, u) at h in omega (arith, g))
        | inr v ↦ (let g = rw (f, v) at h in omega (arith, g))
      ]))
    ]

dispute-key : (s : List Entry) (d : Dispute) → IsDispute s d → Member d.key (keys s)
dispute-key s d a =
    let n = a.number in
    let all = records-standing s d.key in
    let two = a.several in
    let f = key-to d.key (standing s) (has-one (standing s) d.key (omega (arith, n, all, two))) in
    let M : Key → Type 0 = λ v. Member v (keys s) in
    subst M f.1.1 (key-back f.0 s (standing-part s f.0 f.1.0))

disputes-whole : (s sorted : List Entry) (ds : List Dispute) → AreSorted s sorted → DisputesUnder s sorted ds → AreDisputes s ds
disputes-whole s sorted ds a l = record {
  rising = l.rising;
  members = λ d. (
    λ m. ((l.members d).0 m).0,
    λ h.
        let at = key-to d.key s (dispute-key s d h) in
        let M : Key → Type 0 = λ v. Member v (keys sorted) in
        (l.members d).1 (h, subst M at.1.1 (key-back at.0 sorted ((a.members at.0).1 at.1.0))),
  );
}

pub disputes-all : (s sorted items : List Entry) (ds : List Dispute) → sorted ≡ items → AreSorted s items → DisputesUnder s sorted ds → AreDisputes s ds
disputes-all s sorted items ds i a l =
    let P : List Entry → Type 0 = λ v. DisputesUnder s v ds in
    disputes-whole s items ds a (subst P i l)

-- ---- how many records up to a place have the key of the one there
abbrev has_key : Key → Entry → ℕ
has_key k e = cond (same_key e.key k) 1 0

pub record IsCountUp (s : List Entry) (i n : ℕ) : Type 0 where
  pub count : (e : Entry) → IsAt s i e → n ≡ sum_once same_entry (has_key e.key) (take i s)
  pub bound : n ≤ i

pub count-first : (s : List Entry) → IsCountUp s 0 0
count-first s = record { count = λ e a. refl; bound = omega arith }

key-apart : (k l : Key) → (k ≡ l → ⊥) → same_key k l ≡ false
key-apart k l n = elim (cases_Bool (same_key k l)) [ inl t ↦ absurd (n ((same_key-decides k l).0 t)) | inr f ↦ f ]

none-with : (k : Key) (e : Entry) → (e.key ≡ k → ⊥) → has_key k e ≡ 0
none-with k e n = rw (key-apart e.key k n)

one-with : (e : Entry) → has_key e.key e ≡ 1
one-with e = rw ((same_key-decides e.key e.key).1 refl)

-- with the record at the place
count-here : (s : List Entry) (i n : ℕ) (e : Entry) → IsInOrder entry_order s → IsAt s i e → IsCountUp s i n → n + 1 ≡ sum_once same_entry (has_key e.key) (take (i + 1) s)
count-here s i n e r a h =
    let f : Entry → ℕ = has_key e.key in
    let fresh : Member e (take i s) → ⊥ = λ m. (let p = taken-at s i e m in entry-apart s p.0 i e r p.2 a p.1) in
    let same = once-same same_entry same_entry-decides f (take (i + 1) s) (e ∷ take i s) (inserted-same (take i s) (take (i + 1) s) e (taken-inserted s i e a)) in
    let more = once-fresh same_entry same_entry-decides f e (take i s) fresh in
    let one = one-with e in
    let before = h.count e a in
    omega (arith, same, more, one, before)

pub count-again : (s : List Entry) (i n : ℕ) (e : Entry) → IsInOrder entry_order s → IsAt s i e → IsCountUp s i n → IsKeyBehind s i → IsCountUp s (i + 1) (n + 1)
count-again s i n e r a h b = record {
  count = λ f at.
      let one : b.0 ≡ e = at-one s i b.0 e b.2 a in
      let two : b.1 ≡ f = at-one s (i + 1) b.1 f b.3 at in
      let k : e.key ≡ f.key = ap (λ (v : Entry). v.key) (sym one) ∙ b.4 ∙ ap (λ (v : Entry). v.key) two in
      let P : Key → Type 0 = λ v. n + 1 ≡ sum_once same_entry (has_key v) (take (i + 1) s) in
      subst P k (count-here s i n e r a h);
  bound = (let l = h.bound in omega (arith, l));
}

pub count-none : (s : List Entry) (i : ℕ) (e : Entry) → IsInOrder entry_order s → IsAt s i e → (IsKeyBehind s i → ⊥) → IsCountUp s (i + 1) 0
count-none s i e r a n = record {
  count = λ f at. sym (once-zero same_entry (has_key f.key) (take (i + 1) s) (λ x m. none-with f.key x (λ k.
      let p = taken-at s (i + 1) x m in
      let same : e.key ≡ x.key = same-between s p.0 i (i + 1) x e f r p.2 a at (let l = p.1 in omega (arith, l)) (omega arith) k in
      n (e, f, a, at, same ∙ k))));
  bound = omega arith;
}

pub count-whole : (s : List Entry) (i n : ℕ) (e : Entry) → IsInOrder entry_order s → AllStand s → IsAt s i e → IsCountUp s i n → (IsKeyBehind s i → ⊥) → n + 1 ≡ records_at s e.key
count-whole s i n e r all a h none =
    let f : Entry → ℕ = has_key e.key in
    let parts = once-same same_entry same_entry-decides f s (drop (i + 1) s ++ take (i + 1) s) (parts-same s (i + 1)) in
    let behind = once-behind same_entry f (drop (i + 1) s) (take (i + 1) s) (λ x m. none-with e.key x (λ k.
    let p = dropped-at s (i + 1) x m in
    none (key-behind s i p.0 e x r a p.2 (let l = p.1 in omega (arith, l)) k))) in
    count-here s i n e r a h ∙ sym behind ∙ sym parts ∙ sym (records-all s e.key all)

-- ---- the list of records in order, as far as it has come
pub disputes-pass_again : (s : List Entry) (i : ℕ) (e : Entry) (ds : List Dispute) → IsAt s i e → IsKeyBehind s i → IsSoFar (DisputesUnder s) s i ds → IsSoFar (DisputesUnder s) s (i + 1) ds
disputes-pass_again s i e ds a b h =
    let one : b.0 ≡ e = at-one s i b.0 e b.2 a in
    let P : Key → Type 0 = λ v. Member v (keys (drop (i + 1) s)) in
    let k : b.1.key ≡ e.key = sym b.4 ∙ ap (λ (v : Entry). v.key) one in
    let m : Member e.key (keys (drop (i + 1) s)) = subst P k (key-back b.1 (drop (i + 1) s) (at-dropped s (i + 1) (i + 1) b.1 (omega arith) b.3)) in
    so-far-skip (DisputesUnder s) s i ds h (λ more x.
    disputes-again s e (drop i s) (drop (i + 1) s) more (drop-at s i e a) (sym ((stands-decides same_key same_key-decides (λ l. 0) e.key (keys (drop (i + 1) s))).1 m)) x)

pub disputes-pass_few : (s : List Entry) (i n : ℕ) (e : Entry) (ds : List Dispute) → IsInOrder entry_order s → AllStand s → IsAt s i e → IsCountUp s i n → (IsKeyBehind s i → ⊥) → n + 1 < 2 →
    IsSoFar (DisputesUnder s) s i ds → IsSoFar (DisputesUnder s) s (i + 1) ds
disputes-pass_few s i n e ds r all a c none few h =
    so-far-skip (DisputesUnder s) s i ds h (λ more x.
    disputes-few s e (drop i s) (drop (i + 1) s) more (n + 1) (drop-at s i e a) (count-whole s i n e r all a c none) few x)

pub disputes-push : (s : List Entry) (i n : ℕ) (e : Entry) (ds es : List Dispute) → IsInOrder entry_order s → AllStand s → IsAt s i e → IsCountUp s i n → (IsKeyBehind s i → ⊥) → 2 ≤ n + 1 →
    es ≡ ds ++ dispute e.key (n + 1) ∷ [] → IsSoFar (DisputesUnder s) s i ds → IsSoFar (DisputesUnder s) s (i + 1) es
disputes-push s i n e ds es r all a c none two q h =
    let d : Dispute = dispute e.key (n + 1) in
    let is : IsDispute s d = record { several = two; number = count-whole s i n e r all a c none } in
    let last : stands_in same_key e.key (keys (drop (i + 1) s)) ≡ false = elim (cases_Bool (stands_in same_key e.key (keys (drop (i + 1) s)))) [
      | inl t ↦ (
          let f = key-to e.key (drop (i + 1) s) ((stands-decides same_key same_key-decides (λ l. 0) e.key (keys (drop (i + 1) s))).0 t) in
          let p = dropped-at s (i + 1) f.0 f.1.0 in
          absurd (none (key-behind s i p.0 e f.0 r a p.2 (let l = p.1 in omega (arith, l)) f.1.1)))
      | inr n ↦ n
    ] in
    so-far-more (DisputesUnder s) s i ds es d h q (λ more x.
    disputes-more s e (drop i s) (drop (i + 1) s) d more (d ∷ more) (drop-at s i e a) (rising-drop entry_order s i r) refl last refl is x)

pub disputes-end : (s : List Entry) (i : ℕ) (ds : List Dispute) → IsInOrder entry_order s → length s ≤ i → IsSoFar (DisputesUnder s) s i ds → AreDisputes s ds
disputes-end s i ds r l h =
    disputes-whole s s ds (record { rising = r; members = λ x. (λ m. m, λ m. m) })
    (so-far-all (DisputesUnder s) s i ds h l (record { rising = tt; members = λ d. (λ m. absurd m, λ m. m.1) }))
