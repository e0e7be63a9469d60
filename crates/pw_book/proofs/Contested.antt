-- The disputes of all keys, those of one kind behind those of another.
use Rattle.std.proofs.Common.{◌≡◌, ℕ, ◌+◌, ◌*◌, ◌<◌, ◌≤◌, ◌^◌, List, [], ◌∷◌, ◌↔◌, length, refl, ap, sym, ◌∙◌, subst, inl, inr, arith, Less}
use Rattle.pw_obis.specs.declared.reference.Register.{Register}
use Rattle.pw_tariff.specs.declared.ids.MeterId.{MeterId}
use Rattle.pw_tariff.specs.Office.{OfficeRules, register_place}
use Rattle.pw_model.specs.declared.records.Key.{Key}
use Rattle.pw_model.specs.declared.records.Key.TheVariants as key
use Rattle.pw_model.specs.declared.records.Named.{Named}
use Rattle.pw_model.specs.declared.records.Content.{Content}
use Rattle.pw_model.specs.declared.records.Content.TheVariants as content
use Rattle.pw_model.specs.declared.records.Entry.{Entry}
use Rattle.pw_model.specs.declared.records.Dispute.{Dispute}
use Rattle.pw_model.specs.Counting.{standing, standing_among}
use Rattle.pw_model.specs.Lists.{IsInOrder, IsDispute, dispute_order, AreDisputes, records_at}
use Rattle.pw_model.specs.Office.{AllOfOffice, IsOf, IsOfOffice, most_records}
use Rattle.pw_model.specs.Same.{entry_order, key_order, key_numbers, named_numbers}
use Rattle.pw_model.specs.Shelf.{ShelfContent}
use Rattle.pw_model.proofs.Counting.{standing-part}
use Rattle.pw_model.proofs.Same.{register-one}
use Rattle.pw_model.specs.Kinds.{ListsHeld, IsReadingOf, IsAssignmentOf, IsTopUp}
use Rattle.pw_book.specs.inner.Places.{DisputesBefore, key_place, IsWithin, AreWithin}
use Rattle.pw_book.specs.inner.Groups.{AreBehind, records_with}
use Rattle.pw_book.proofs.Disputed.{held-few, held-stand, standing-count, standing-disputes, count-one, count-some}
use Rattle.pw_book.proofs.Segments.{segment-more, segment-all, segment-none, first-less, then-less, place-few, places-split, places-same}

-- ---- the records of an office
pub key-within : (office : OfficeRules) (k : Key) (c : Content) → IsOf office k c → IsWithin office.meters k
key-within office (key.Reading m r t) (content.Reading w) h = h.0
key-within office (key.Reading m r t) (content.Assignment o) h = absurd h
key-within office (key.Reading m r t) (content.TopUp a c u) h = absurd h
key-within office (key.Reading m r t) content.Withdrawal h = absurd h
key-within office (key.Assignment m t) (content.Reading w) h = absurd h
key-within office (key.Assignment m t) (content.Assignment o) h = h.0
key-within office (key.Assignment m t) (content.TopUp a c u) h = absurd h
key-within office (key.Assignment m t) content.Withdrawal h = absurd h
key-within office (key.TopUp r) c h = tt
key-within office (key.Withdrawal n) c h = tt

pub all-within : (office : OfficeRules) (s : List Entry) → length s ≤ most_records → AllOfOffice office s → AreWithin office.meters s
all-within office s l h = record { few = l; keys = λ e m. key-within office e.key e.content (h e m) }

dispute-within : (meters : ℕ) (s : List Entry) (d : Dispute) → AreWithin meters s → IsDispute s d → IsWithin meters d.key
dispute-within meters s d w h =
    let several = h.several in
    let number : d.contents ≡ records_with d.key (standing s) = h.number ∙ standing-count s d.key in
    let some = count-some d.key (standing s) (omega (arith, several, number)) in
    subst (IsWithin meters) some.2 (w.keys some.0 (standing-part s some.0 some.1))

-- ---- the order of keys by their places
pub key-before : (meters : ℕ) (k l : Key) → IsWithin meters k → IsWithin meters l → key_place meters k < key_place meters l → key_order k l ≡ Less
unfolding key_numbers
key-before meters (key.Reading m r t) (key.Reading n q u) a b h = elim (places-split m.0 n.0 (register_place r) (register_place q) (place-few r) (place-few q) h) [
  | inl i ↦ then-less 0 0 (m.0 ∷ register_place r ∷ t ∷ []) (n.0 ∷ register_place q ∷ u ∷ []) refl (first-less m.0 n.0 (register_place r ∷ t ∷ []) (register_place q ∷ u ∷ []) i)
  | inr i ↦ then-less 0 0 (m.0 ∷ register_place r ∷ t ∷ []) (n.0 ∷ register_place q ∷ u ∷ []) refl
      (then-less m.0 n.0 (register_place r ∷ t ∷ []) (register_place q ∷ u ∷ []) i.0 (first-less (register_place r) (register_place q) (t ∷ []) (u ∷ []) i.1))
]
key-before meters (key.Reading m r t) (key.Assignment n u) a b h = first-less 0 1 (m.0 ∷ register_place r ∷ t ∷ []) (n.0 ∷ u ∷ []) (omega arith)
key-before meters (key.Reading m r t) (key.TopUp x) a b h = first-less 0 2 (m.0 ∷ register_place r ∷ t ∷ []) x (omega arith)
key-before meters (key.Assignment m t) (key.Reading n q u) a b h = absurd (let f = place-few q in omega (arith, f, b, h))
key-before meters (key.Assignment m t) (key.Assignment n u) a b h = then-less 1 1 (m.0 ∷ t ∷ []) (n.0 ∷ u ∷ []) refl (first-less m.0 n.0 (t ∷ []) (u ∷ []) (omega (arith, h)))
key-before meters (key.Assignment m t) (key.TopUp x) a b h = first-less 1 2 (m.0 ∷ t ∷ []) x (omega arith)
key-before meters (key.TopUp x) (key.Reading n q u) a b h = absurd (let f = place-few q in omega (arith, f, b, h))
key-before meters (key.TopUp x) (key.Assignment n u) a b h = absurd (omega (arith, b, h))
key-before meters (key.TopUp x) (key.TopUp y) a b h = absurd (omega (arith, h))
key-before meters (key.Reading m r t) (key.Withdrawal x) a b h = first-less 0 3 (m.0 ∷ register_place r ∷ t ∷ []) (named_numbers x) (omega arith)
key-before meters (key.Assignment m t) (key.Withdrawal x) a b h = first-less 1 3 (m.0 ∷ t ∷ []) (named_numbers x) (omega arith)
key-before meters (key.TopUp r) (key.Withdrawal x) a b h = first-less 2 3 r (named_numbers x) (omega arith)
key-before meters (key.Withdrawal x) (key.Reading n q u) a b h = absurd (let f = place-few q in omega (arith, f, b, h))
key-before meters (key.Withdrawal x) (key.Assignment n u) a b h = absurd (omega (arith, b, h))
key-before meters (key.Withdrawal x) (key.TopUp y) a b h = absurd (omega (arith, h))
key-before meters (key.Withdrawal x) (key.Withdrawal y) a b h = absurd (omega (arith, h))

-- ---- the keys at a place
abbrev meter : ℕ → MeterId
meter n = record { 0 = n }

pub reading-place : (meters : ℕ) (m : MeterId) (r : Register) → m.0 < meters → (k : Key) → IsWithin meters k → IsReadingOf m r k ↔ (key_place meters k ≡ 6 * m.0 + register_place r)
reading-place meters m r l (key.Reading n q t) w = (
  λ h. (let a : n.0 ≡ m.0 = ap (λ (x : MeterId). x.0) h.0 in let b : register_place q ≡ register_place r = ap register_place h.1 in omega (arith, a, b)),
  λ e. (let p = places-same n.0 m.0 (register_place q) (register_place r) (place-few q) (place-few r) e in (ap meter p.0, register-one q r p.1)),
)
reading-place meters m r l (key.Assignment n t) w = (λ h. absurd h, λ e. absurd (let f = place-few r in omega (arith, f, l, e)))
reading-place meters m r l (key.TopUp x) w = (λ h. absurd h, λ e. absurd (let f = place-few r in omega (arith, f, l, e)))
reading-place meters m r l (key.Withdrawal x) w = (λ h. absurd h, λ e. absurd (let f = place-few r in omega (arith, f, l, e)))

pub assignment-place : (meters : ℕ) (m : MeterId) → m.0 < meters → (k : Key) → IsWithin meters k → IsAssignmentOf m k ↔ (key_place meters k ≡ 6 * meters + m.0)
assignment-place meters m l (key.Reading n q t) w = (λ h. absurd h, λ e. absurd (let f = place-few q in omega (arith, f, w, e)))
assignment-place meters m l (key.Assignment n t) w = (
  λ h. (let a : n.0 ≡ m.0 = ap (λ (x : MeterId). x.0) h in omega (arith, a)),
  λ e. ap meter (let p : n.0 ≡ m.0 = omega (arith, e) in p),
)
assignment-place meters m l (key.TopUp x) w = (λ h. absurd h, λ e. absurd (omega (arith, l, e)))
assignment-place meters m l (key.Withdrawal x) w = (λ h. absurd h, λ e. absurd (omega (arith, l, e)))

pub topup-place : (meters : ℕ) (k : Key) → IsWithin meters k → IsTopUp k ↔ (key_place meters k ≡ 7 * meters)
topup-place meters (key.Reading n q t) w = (λ h. absurd h, λ e. absurd (let f = place-few q in omega (arith, f, w, e)))
topup-place meters (key.Assignment n t) w = (λ h. absurd h, λ e. absurd (omega (arith, w, e)))
topup-place meters (key.TopUp x) w = (λ h. refl, λ e. tt)
topup-place meters (key.Withdrawal x) w = (λ h. absurd h, λ e. absurd (omega (arith, e)))

-- ---- withdrawals
-- the key of a withdrawal has one content alone
withdrawn-content : (office : OfficeRules) (n : Named) (c : Content) → IsOf office (key.Withdrawal n) c → c ≡ content.Withdrawal
withdrawn-content office n content.Withdrawal h = refl
withdrawn-content office n (content.Reading w) h = absurd h
withdrawn-content office n (content.Assignment o) h = absurd h
withdrawn-content office n (content.TopUp a c t) h = absurd h

withdrawn-entry : (office : OfficeRules) (n : Named) (e : Entry) → IsOfOffice office e → e.key ≡ key.Withdrawal n → e.content ≡ content.Withdrawal
withdrawn-entry office n e o q =
    let P : Key → Type 0 = λ k. IsOf office k e.content in
    withdrawn-content office n e.content (subst P q o)

-- so it is in no dispute
never-disputed : (office : OfficeRules) (s : List Entry) (n : Named) → AllOfOffice office s → records_at s (key.Withdrawal n) ≤ 1
never-disputed office s n h =
    let one = count-one (key.Withdrawal n) (standing s) (λ e f i j p q.
    let key : e.key ≡ f.key = p ∙ sym q in
    let both : e.content ≡ f.content = withdrawn-entry office n e (h e (standing-part s e i)) p ∙ sym (withdrawn-entry office n f (h f (standing-part s f j)) q) in
    λ i. record { key = key i; content = both i }) in
    let all = standing-count s (key.Withdrawal n) in
    omega (arith, one, all)

-- the place of a key that two or more records of an office have
key-last : (office : OfficeRules) (s : List Entry) (k : Key) → AllOfOffice office s → IsWithin office.meters k → 2 ≤ records_at s k → key_place office.meters k < 7 * office.meters + 1
key-last office s (key.Reading n q t) h w l = let f = place-few q in omega (arith, f, w)
key-last office s (key.Assignment n t) h w l = omega (arith, w)
key-last office s (key.TopUp x) h w l = omega arith
key-last office s (key.Withdrawal n) h w l = absurd (let f = never-disputed office s n h in omega (arith, f, l))

-- ---- the disputes of a kind behind those of the kinds before it
pub disputes-more : (Of : Key → Type 0) (meters n : ℕ) (was now : ShelfContent) (held lent : List Entry) (old new : List Dispute) → now ≡ was → lent ≡ held → AreWithin meters was.records → ListsHeld Of was.records held →
    ((k : Key) → IsWithin meters k → Of k ↔ (key_place meters k ≡ n)) →
    (IsInOrder entry_order lent → ((k : Key) → records_with k lent < 2 ^ 32) → AreBehind (standing_among now.records lent) old new) → DisputesBefore meters was.records n old → DisputesBefore meters was.records (n + 1) new
disputes-more Of meters n was now held lent old new e f w h q d a =
    let s = was.records in
    let few = w.few in
    let D : ShelfContent → List Entry → Type 0 = λ c xs. IsInOrder entry_order xs → ((k : Key) → records_with k xs < 2 ^ 32) → AreBehind (standing_among c.records xs) old new in
    let all = subst (λ c. D c held) e (subst (D now) f d) h.rising (held-few Of s held h (omega (arith, few))) in
    let stand = held-stand Of s held h in
    let F : List Dispute → Type 0 = λ xs. DisputesBefore meters s (n + 1) xs in
    subst F (sym all.2)
    (segment-more dispute_order (IsDispute s) (λ x. Of x.key) (λ x. key_place meters x.key) n old all.0 a
    (standing-disputes Of s (standing_among s held) all.0 stand all.1)
    (λ x i. q x.key (dispute-within meters s x w i))
    (λ x y i j l. key-before meters x.key y.key (dispute-within meters s x w i) (dispute-within meters s y w j) l))

pub disputes-all : (office : OfficeRules) (s : List Entry) (disputes : List Dispute) → AllOfOffice office s → AreWithin office.meters s → DisputesBefore office.meters s (7 * office.meters + 1) disputes → AreDisputes s disputes
disputes-all office s disputes o w a = segment-all dispute_order (IsDispute s) (λ d. key_place office.meters d.key) (7 * office.meters + 1) disputes a (λ d h.
    let several = h.several in
    let number = h.number in
    key-last office s d.key o (dispute-within office.meters s d w h) (omega (arith, several, number)))

pub disputes-at : (meters : ℕ) (s : List Entry) (m n : ℕ) (disputes : List Dispute) → m ≡ n → DisputesBefore meters s m disputes → DisputesBefore meters s n disputes
disputes-at meters s m n disputes e a = let F : ℕ → Type 0 = λ k. DisputesBefore meters s k disputes in subst F e a

-- a step over what a shelf tells: its content is as it was
pub disputes-next : (meters : ℕ) (was now : ShelfContent) (from to after next : ℕ) (old new : List Dispute) → now ≡ was → to ≡ from → after ≡ next → AreWithin meters was.records → DisputesBefore meters was.records from old →
    (AreWithin meters now.records → DisputesBefore meters now.records to old → DisputesBefore meters now.records after new) → DisputesBefore meters was.records next new
disputes-next meters was now from to after next old new e p q o b h =
    let A : ShelfContent → Type 0 = λ c. AreWithin meters c.records in
    let B : ShelfContent → Type 0 = λ c. DisputesBefore meters c.records to old in
    let C : ShelfContent → Type 0 = λ c. DisputesBefore meters c.records after new in
    disputes-at meters was.records after next new q (subst C e (h (subst A (sym e) o) (subst B (sym e) (disputes-at meters was.records from to old (sym p) b))))

pub disputes-none : (meters : ℕ) (s : List Entry) (disputes : List Dispute) → disputes ≡ [] → DisputesBefore meters s 0 disputes
disputes-none meters s disputes e =
    let F : List Dispute → Type 0 = λ ds. DisputesBefore meters s 0 ds in
    subst F (sym e) (segment-none dispute_order (IsDispute s) (λ d. key_place meters d.key))
