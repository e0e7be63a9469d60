-- The derived order of keys and the model's are one.
use Rattle.std.specs.Cmp.{nat_cmp_is}
use Rattle.std.proofs.lemmas.Bool.{cases_lt}
use Rattle.std.proofs.Common.{◌≡◌, ℕ, zero, suc, ◌+◌, ◌-◌, ◌<◌, ◌≤◌, ⊎_elim, subst, true, Option, Some, None, add-one, List, [], ◌∷◌, ◌++◌, length, replicate, refl, ap, sym, ◌∙◌, nat_cmp, Ordering, Less, Equal, Greater, arith}
use Rattle.std.proofs.lemmas.Bool.{true≢false}
use Rattle.std.proofs.lemmas.List.Elements.{All-head, All-tail}
use Rattle.std.specs.List.{AllPass}
use Rattle.std.specs.Cmp.Lexicographic.{slice_cmp}
use Rattle.std.specs.Ordering.{ordering_then}
use Rattle.pw_model.specs.contracts.records.KeyOrd.TheImpl as derived_key
use Rattle.pw_model.specs.contracts.records.NamedOrd.TheImpl as derived_named
use Rattle.pw_model.specs.contracts.records.ContentOrd.TheImpl as derived_content
use Rattle.pw_model.specs.contracts.records.EntryOrd.TheImpl as derived_entry
use Rattle.pw_model.specs.contracts.records.TotalKeyOrd.TheImpl as derived_total
use Rattle.pw_tariff.specs.contracts.ids.DirectionOrd.TheImpl as derived_direction
use Rattle.pw_model.specs.contracts.reference.ReferenceOrd.TheImpl as derived_reference
use Rattle.pw_obis.specs.contracts.reference.RegisterOrd.TheImpl as derived_register
use Rattle.pw_obis.specs.declared.reference.Register.{Register}
use Rattle.pw_obis.specs.declared.reference.Register.TheVariants.{I0, I1, I2, E0, E1, E2}
use Rattle.pw_model.specs.declared.records.Key.{Key}
use Rattle.pw_model.specs.declared.records.Key.TheVariants as key
use Rattle.pw_model.specs.declared.records.Named.{Named}
use Rattle.pw_model.specs.declared.records.Named.TheVariants as named
use Rattle.pw_model.specs.declared.records.Content.{Content}
use Rattle.pw_model.specs.declared.records.Content.TheVariants as content
use Rattle.pw_model.specs.declared.records.Entry.{Entry}
use Rattle.pw_model.specs.declared.records.TotalKey.{TotalKey}
use Rattle.pw_model.specs.declared.records.TotalKey.TheVariants.{Energy, TopUps}
use Rattle.pw_tariff.specs.declared.ids.AccountId.{AccountId}
use Rattle.pw_tariff.specs.declared.ids.Direction.{Direction}
use Rattle.pw_tariff.specs.declared.ids.Direction.TheVariants.{Import, Export}
use Rattle.pw_tariff.specs.Cells.{owner_place}
use Rattle.std.specs.Option.{option_cmp}
use Rattle.pw_model.specs.References.{IsReference, is_reference_byte}
use Rattle.pw_tariff.specs.Office.{register_place}
use Rattle.pw_model.specs.Same.{total_order, total_numbers, direction_place, key_order, named_numbers, key_numbers, content_numbers, entry_order}
use Rattle.pw_model.specs.inner.Keys.{HasReference}
use Rattle.pw_model.proofs.Same.{by_content}

then-equal : (o : Ordering) → ordering_then o Equal ≡ o
then-equal Less = refl
then-equal Equal = refl
then-equal Greater = refl

registers-ordered : (r s : Register) → derived_register.ghosts.cmp r s ≡ nat_cmp (register_place r) (register_place s)
registers-ordered I0 I0 = refl
registers-ordered I0 I1 = refl
registers-ordered I0 I2 = refl
registers-ordered I0 E0 = refl
registers-ordered I0 E1 = refl
registers-ordered I0 E2 = refl
registers-ordered I1 I0 = refl
registers-ordered I1 I1 = refl
registers-ordered I1 I2 = refl
registers-ordered I1 E0 = refl
registers-ordered I1 E1 = refl
registers-ordered I1 E2 = refl
registers-ordered I2 I0 = refl
registers-ordered I2 I1 = refl
registers-ordered I2 I2 = refl
registers-ordered I2 E0 = refl
registers-ordered I2 E1 = refl
registers-ordered I2 E2 = refl
registers-ordered E0 I0 = refl
registers-ordered E0 I1 = refl
registers-ordered E0 I2 = refl
registers-ordered E0 E0 = refl
registers-ordered E0 E1 = refl
registers-ordered E0 E2 = refl
registers-ordered E1 I0 = refl
registers-ordered E1 I1 = refl
registers-ordered E1 I2 = refl
registers-ordered E1 E0 = refl
registers-ordered E1 E1 = refl
registers-ordered E1 E2 = refl
registers-ordered E2 I0 = refl
registers-ordered E2 I1 = refl
registers-ordered E2 I2 = refl
registers-ordered E2 E0 = refl
registers-ordered E2 E1 = refl
registers-ordered E2 E2 = refl

then-assoc : (o p q : Ordering) → ordering_then (ordering_then o p) q ≡ ordering_then o (ordering_then p q)
then-assoc Less p q = refl
then-assoc Equal p q = refl
then-assoc Greater p q = refl

-- ---- references
zeros-equal : (m : ℕ) → slice_cmp nat_cmp (replicate m 0) (replicate m 0) ≡ Equal
zeros-equal zero = refl
zeros-equal (suc m) = zeros-equal m

byte-above : (c : ℕ) → is_reference_byte c ≡ true → 0 < c
byte-above zero h = absurd (true≢false (sym h))
byte-above (suc c) h = omega arith

pub cmp-less : (a b : ℕ) → a < b → nat_cmp a b ≡ Less
cmp-less a b l = sym (nat_cmp_is a b Less l)

pub cmp-greater : (a b : ℕ) → b < a → nat_cmp a b ≡ Greater
cmp-greater a b l = sym (nat_cmp_is a b Greater l)

pub cmp-equal : (a b : ℕ) → a ≡ b → nat_cmp a b ≡ Equal
cmp-equal a b e = sym (nat_cmp_is a b Equal e)

cmp-suc : (a b : ℕ) → nat_cmp (suc a) (suc b) ≡ nat_cmp a b
cmp-suc a b = ⊎_elim
    (λ (l : a < b). cmp-less (suc a) (suc b) (omega arith) ∙ sym (cmp-less a b l))
    (λ (m : b ≤ a). ⊎_elim
    (λ (l : b < a). cmp-greater (suc a) (suc b) (omega arith) ∙ sym (cmp-greater a b l))
    (λ (n : a ≤ b). cmp-equal (suc a) (suc b) (omega arith) ∙ sym (cmp-equal a b (omega arith)))
    (cases_lt b a))
    (cases_lt a b)

-- a text with zeros behind it stands where the text alone does, as its bytes are above 0
padded-order : (xs ys : List ℕ) (m n : ℕ) → length xs + m ≡ length ys + n → AllPass is_reference_byte xs → AllPass is_reference_byte ys →
    ordering_then (slice_cmp nat_cmp (xs ++ replicate m 0) (ys ++ replicate n 0)) (nat_cmp (length xs) (length ys)) ≡ slice_cmp nat_cmp xs ys
padded-order [] [] m n e a b =
    let i : m ≡ n = omega arith in
    let P : ℕ → Type 0 = λ k. ordering_then (slice_cmp nat_cmp (replicate m 0) (replicate k 0)) (nat_cmp 0 0) ≡ Equal in
    let z : ordering_then (slice_cmp nat_cmp (replicate m 0) (replicate m 0)) (nat_cmp 0 0) ≡ Equal = ap (λ o. ordering_then o (nat_cmp 0 0)) (zeros-equal m) ∙ cmp-equal 0 0 refl in
    subst P i z
padded-order [] (y ∷ ys) zero n e a b = absurd (omega arith)
padded-order [] (y ∷ ys) (suc m) n e a b =
    let l : 0 < y = byte-above y (All-head (λ x. is_reference_byte x ≡ true) y ys b) in
    ap (λ o. ordering_then (ordering_then o (slice_cmp nat_cmp (replicate m 0) (ys ++ replicate n 0))) (nat_cmp 0 (suc (length ys)))) (cmp-less 0 y l)
padded-order (x ∷ xs) [] m zero e a b = absurd (omega arith)
padded-order (x ∷ xs) [] m (suc n) e a b =
    let l : 0 < x = byte-above x (All-head (λ y. is_reference_byte y ≡ true) x xs a) in
    ap (λ o. ordering_then (ordering_then o (slice_cmp nat_cmp (xs ++ replicate m 0) (replicate n 0))) (nat_cmp (suc (length xs)) 0)) (cmp-greater x 0 l)
padded-order (x ∷ xs) (y ∷ ys) m n e a b =
    let l : length xs + m ≡ length ys + n = omega arith in
    ap (λ o. ordering_then (ordering_then (nat_cmp x y) (slice_cmp nat_cmp (xs ++ replicate m 0) (ys ++ replicate n 0))) o) (cmp-suc (length xs) (length ys))
    ∙ then-assoc (nat_cmp x y) (slice_cmp nat_cmp (xs ++ replicate m 0) (ys ++ replicate n 0)) (nat_cmp (length xs) (length ys))
    ∙ ap (λ o. ordering_then (nat_cmp x y) o) (padded-order xs ys m n l (All-tail (λ x. is_reference_byte x ≡ true) x xs a) (All-tail (λ x. is_reference_byte x ≡ true) y ys b))

references-ordered : (r s : List ℕ) → IsReference r → IsReference s → derived_reference.ghosts.cmp r s ≡ slice_cmp nat_cmp r s
references-ordered r s h i = padded-order r s (32 - length r) (32 - length s) (omega (arith, h.1, i.1)) h.2 i.2

-- a text with a 0 behind it stands where the text alone does; then numbers decide
texts-ordered : (r s xs ys : List ℕ) → AllPass is_reference_byte r → AllPass is_reference_byte s →
    ordering_then (slice_cmp nat_cmp r s) (slice_cmp nat_cmp xs ys) ≡ slice_cmp nat_cmp (r ++ 0 ∷ xs) (s ++ 0 ∷ ys)
texts-ordered [] [] xs ys a b = sym (ap (λ o. ordering_then o (slice_cmp nat_cmp xs ys)) (cmp-equal 0 0 refl))
texts-ordered [] (y ∷ s) xs ys a b =
    let l : 0 < y = byte-above y (All-head (λ x. is_reference_byte x ≡ true) y s b) in
    sym (ap (λ o. ordering_then o (slice_cmp nat_cmp xs (s ++ 0 ∷ ys))) (cmp-less 0 y l))
texts-ordered (x ∷ r) [] xs ys a b =
    let l : 0 < x = byte-above x (All-head (λ y. is_reference_byte y ≡ true) x r a) in
    sym (ap (λ o. ordering_then o (slice_cmp nat_cmp (r ++ 0 ∷ xs) ys)) (cmp-greater x 0 l))
texts-ordered (x ∷ r) (y ∷ s) xs ys a b =
    then-assoc (nat_cmp x y) (slice_cmp nat_cmp r s) (slice_cmp nat_cmp xs ys)
    ∙ ap (λ o. ordering_then (nat_cmp x y) o) (texts-ordered r s xs ys (All-tail (λ z. is_reference_byte z ≡ true) x r a) (All-tail (λ z. is_reference_byte z ≡ true) y s b))

-- ---- named records
owners-ordered : (o p : Option AccountId) → option_cmp (λ (a b : AccountId). nat_cmp a.0 b.0) o p ≡ nat_cmp (owner_place o) (owner_place p)
owners-ordered None None = refl
owners-ordered None (Some b) = sym (cmp-less 0 (b.0 + 1) (omega arith))
owners-ordered (Some a) None = sym (cmp-greater (a.0 + 1) 0 (omega arith))
owners-ordered (Some a) (Some b) = rw (add-one, add-one) (sym (cmp-suc a.0 b.0))

named-ordered : (a b : Named) → HasReference (key.Withdrawal a) → HasReference (key.Withdrawal b) → derived_named.ghosts.cmp a b ≡ slice_cmp nat_cmp (named_numbers a) (named_numbers b)
unfolding named_numbers
named-ordered (named.Reading m r t w) (named.Reading n s u v) h i =
    ap (λ o. ordering_then (nat_cmp m.0 n.0) (ordering_then o (ordering_then (nat_cmp t u) (nat_cmp w v)))) (registers-ordered r s)
    ∙ ap (λ o. ordering_then (nat_cmp m.0 n.0) (ordering_then (nat_cmp (register_place r) (register_place s)) (ordering_then (nat_cmp t u) o))) (sym (then-equal (nat_cmp w v)))
named-ordered (named.Assignment m t o) (named.Assignment n u p) h i =
    ap (λ x. ordering_then (nat_cmp m.0 n.0) (ordering_then (nat_cmp t u) x)) (owners-ordered o p ∙ sym (then-equal (nat_cmp (owner_place o) (owner_place p))))
named-ordered (named.TopUp r a c t) (named.TopUp s b d u) h i =
    ap (λ o. ordering_then o (ordering_then (nat_cmp a.0 b.0) (ordering_then (nat_cmp c d) (nat_cmp t u)))) (references-ordered r s h i)
    ∙ ap (λ o. ordering_then (slice_cmp nat_cmp r s) (ordering_then (nat_cmp a.0 b.0) (ordering_then (nat_cmp c d) o))) (sym (then-equal (nat_cmp t u)))
    ∙ texts-ordered r s (a.0 ∷ c ∷ t ∷ []) (b.0 ∷ d ∷ u ∷ []) h.2 i.2
named-ordered (named.Reading m r t w) (named.Assignment n u p) h i = refl
named-ordered (named.Reading m r t w) (named.TopUp s b d u) h i = refl
named-ordered (named.Assignment m t o) (named.Reading n s u v) h i = refl
named-ordered (named.Assignment m t o) (named.TopUp s b d u) h i = refl
named-ordered (named.TopUp r a c t) (named.Reading n s u v) h i = refl
named-ordered (named.TopUp r a c t) (named.Assignment n u p) h i = refl

pub keys-ordered : (a b : Key) → HasReference a → HasReference b → derived_key.ghosts.cmp a b ≡ key_order a b
unfolding key_numbers
keys-ordered (key.Reading m r t) (key.Reading n s u) h i =
    ap (λ o. ordering_then (nat_cmp m.0 n.0) (ordering_then o (nat_cmp t u))) (registers-ordered r s)
    ∙ ap (λ o. ordering_then (nat_cmp m.0 n.0) (ordering_then (nat_cmp (register_place r) (register_place s)) o)) (sym (then-equal (nat_cmp t u)))
keys-ordered (key.Assignment m t) (key.Assignment n u) h i = ap (λ o. ordering_then (nat_cmp m.0 n.0) o) (sym (then-equal (nat_cmp t u)))
keys-ordered (key.TopUp r) (key.TopUp s) h i = references-ordered r s h i
keys-ordered (key.Reading m r t) (key.Assignment n u) h i = refl
keys-ordered (key.Reading m r t) (key.TopUp s) h i = refl
keys-ordered (key.Assignment m t) (key.Reading n s u) h i = refl
keys-ordered (key.Assignment m t) (key.TopUp s) h i = refl
keys-ordered (key.TopUp r) (key.Reading n s u) h i = refl
keys-ordered (key.TopUp r) (key.Assignment n u) h i = refl
keys-ordered (key.Withdrawal a) (key.Withdrawal b) h i = named-ordered a b h i
keys-ordered (key.Reading m r t) (key.Withdrawal b) h i = refl
keys-ordered (key.Assignment m t) (key.Withdrawal b) h i = refl
keys-ordered (key.TopUp r) (key.Withdrawal b) h i = refl
keys-ordered (key.Withdrawal a) (key.Reading n s u) h i = refl
keys-ordered (key.Withdrawal a) (key.Assignment n u) h i = refl
keys-ordered (key.Withdrawal a) (key.TopUp s) h i = refl

abbrev AreOrdered : Content → Content → Type 0
AreOrdered a b = derived_content.ghosts.cmp a b ≡ slice_cmp nat_cmp (content_numbers a) (content_numbers b)

contents-ordered : (a b : Content) → derived_content.ghosts.cmp a b ≡ slice_cmp nat_cmp (content_numbers a) (content_numbers b)
unfolding content_numbers
contents-ordered (content.Reading w) = by_content (AreOrdered (content.Reading w)) (λ v. sym (then-equal (nat_cmp w v))) refl (λ b. refl) (λ b d u. refl) refl
contents-ordered (content.Assignment None) = by_content (AreOrdered (content.Assignment None)) (λ v. refl) refl (λ b. refl) (λ b d u. refl) refl
contents-ordered (content.Assignment (Some a)) = by_content (AreOrdered (content.Assignment (Some a))) (λ v. refl) refl (λ b. sym (then-equal (nat_cmp a.0 b.0))) (λ b d u. refl) refl
contents-ordered (content.TopUp a c t) =
    by_content (AreOrdered (content.TopUp a c t)) (λ v. refl) refl (λ b. refl) (λ b d u. ap (λ o. ordering_then (nat_cmp a.0 b.0) (ordering_then (nat_cmp c d) o)) (sym (then-equal (nat_cmp t u)))) refl
contents-ordered content.Withdrawal = by_content (AreOrdered content.Withdrawal) (λ v. refl) refl (λ b. refl) (λ b d u. refl) refl

pub entries-ordered : (a b : Entry) → HasReference a.key → HasReference b.key → derived_entry.ghosts.cmp a b ≡ entry_order a b
entries-ordered a b h i =
    ap (λ o. ordering_then o (derived_content.ghosts.cmp a.content b.content)) (keys-ordered a.key b.key h i)
    ∙ ap (λ o. ordering_then (key_order a.key b.key) o) (contents-ordered a.content b.content)

-- ---- keys of totals
directions-ordered : (d e : Direction) → derived_direction.ghosts.cmp d e ≡ nat_cmp (direction_place d) (direction_place e)
directions-ordered Import Import = refl
directions-ordered Import Export = refl
directions-ordered Export Import = refl
directions-ordered Export Export = refl

pub totals-ordered : (a b : TotalKey) → derived_total.ghosts.cmp a b ≡ total_order a b
unfolding total_numbers
totals-ordered (Energy o p b d) (Energy q r c e) =
    λ i. ordering_then (owners-ordered o q i) (ordering_then (nat_cmp p.0 r.0) (ordering_then (nat_cmp b.0 c.0) ((directions-ordered d e ∙ sym (then-equal (nat_cmp (direction_place d) (direction_place e)))) i)))
totals-ordered (TopUps a) (TopUps b) = sym (then-equal (nat_cmp a.0 b.0))
totals-ordered (Energy o p b d) (TopUps a) = refl
totals-ordered (TopUps a) (Energy o p b d) = refl
