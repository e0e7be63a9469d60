-- The derived tests and the model's are one.
use Rattle.std.proofs.Common.{◌≡◌, ℕ, ◌+◌, ◌-◌, Bool, true, false, ◌&&◌, ◌==◌, Option, Some, None, add-one, List, [], ◌∷◌, ◌++◌, length, replicate, refl, ap, sym, ◌∙◌, arith, Decides}
use Rattle.std.specs.Cmp.Lexicographic.{pointwise, bytes_decides}
use Rattle.std.specs.Cmp.{both_ways}
use Rattle.std.specs.Option.{option_eq}
use Rattle.std.proofs.Math.Dec.{eqb-suc-suc}
use Rattle.std.proofs.lemmas.Bool.{ne_eqb}
use Rattle.std.proofs.lemmas.Bool.Decides.{Decides-like, Decides-and, Decides-eqb}
use Rattle.pw_model.specs.contracts.records.KeyPartialEq.TheImpl as derived_key
use Rattle.pw_model.specs.contracts.records.NamedPartialEq.TheImpl as derived_named
use Rattle.pw_model.specs.contracts.records.EntryPartialEq.TheImpl as derived_entry
use Rattle.pw_model.specs.contracts.reference.ReferencePartialEq.TheImpl as derived_reference
use Rattle.pw_model.specs.contracts.records.ContentPartialEq.TheImpl as derived_content
use Rattle.pw_obis.specs.contracts.reference.RegisterPartialEq.TheImpl as derived_register
use Rattle.pw_obis.specs.declared.reference.Register.{Register}
use Rattle.pw_obis.specs.declared.reference.Register.TheVariants.{I0, I1, I2, E0, E1, E2}
use Rattle.pw_model.specs.declared.records.Key.{Key}
use Rattle.pw_model.specs.declared.records.Key.TheVariants as key
use Rattle.pw_model.specs.declared.records.Named.{Named}
use Rattle.pw_model.specs.declared.records.Named.TheVariants as named
use Rattle.pw_model.specs.declared.records.Content.{Content}
use Rattle.pw_model.specs.declared.records.Content.TheVariants as content
use Rattle.pw_model.specs.declared.records.Entry.{Entry}
use Rattle.pw_model.specs.References.{padded}
use Rattle.pw_tariff.specs.Office.{register_place}
use Rattle.pw_tariff.specs.declared.ids.AccountId.{AccountId}
use Rattle.pw_tariff.specs.Cells.{owner_place}
use Rattle.pw_model.specs.Same.{same_key, same_content, same_entry, named_numbers, key_numbers, content_numbers}
use Rattle.pw_model.proofs.Same.{by_content, prefix-same, rest-same, lengths-same}

and-true : (b : Bool) → (b && true) ≡ b
and-true true = refl
and-true false = refl

and-false : (b : Bool) → (b && false) ≡ false
and-false true = refl
and-false false = refl

-- ---- references
padded-one : (r s : List ℕ) → (padded r ≡ padded s) × (length r ≡ length s) → r ≡ s
padded-one r s h = prefix-same r s (replicate (32 - length r) 0) (replicate (32 - length s) 0) h.1 h.0

padded-decides : (r s : List ℕ) → Decides (pointwise ◌==◌ (padded r) (padded s) && (length r == length s)) (r ≡ s)
padded-decides r s = Decides-like (pointwise ◌==◌ (padded r) (padded s) && (length r == length s)) (padded-one r s) (λ e. (ap padded e, ap length e))
    (Decides-and (pointwise ◌==◌ (padded r) (padded s)) (length r == length s) (bytes_decides (padded r) (padded s)) (Decides-eqb (length r) (length s)))

-- the derived test looks at the padded text and its length
references-alike : (r s : List ℕ) → derived_reference.ghosts.eq r s ≡ pointwise ◌==◌ r s
references-alike r s =
    both_ways (pointwise ◌==◌ (padded r) (padded s) && (length r == length s)) (pointwise ◌==◌ r s)
    (λ e. (bytes_decides r s).1 ((padded-decides r s).0 e))
    (λ e. (padded-decides r s).1 ((bytes_decides r s).0 e))

registers-alike : (r s : Register) → derived_register.ghosts.eq r s ≡ (register_place r == register_place s)
registers-alike I0 I0 = refl
registers-alike I0 I1 = refl
registers-alike I0 I2 = refl
registers-alike I0 E0 = refl
registers-alike I0 E1 = refl
registers-alike I0 E2 = refl
registers-alike I1 I0 = refl
registers-alike I1 I1 = refl
registers-alike I1 I2 = refl
registers-alike I1 E0 = refl
registers-alike I1 E1 = refl
registers-alike I1 E2 = refl
registers-alike I2 I0 = refl
registers-alike I2 I1 = refl
registers-alike I2 I2 = refl
registers-alike I2 E0 = refl
registers-alike I2 E1 = refl
registers-alike I2 E2 = refl
registers-alike E0 I0 = refl
registers-alike E0 I1 = refl
registers-alike E0 I2 = refl
registers-alike E0 E0 = refl
registers-alike E0 E1 = refl
registers-alike E0 E2 = refl
registers-alike E1 I0 = refl
registers-alike E1 I1 = refl
registers-alike E1 I2 = refl
registers-alike E1 E0 = refl
registers-alike E1 E1 = refl
registers-alike E1 E2 = refl
registers-alike E2 I0 = refl
registers-alike E2 I1 = refl
registers-alike E2 I2 = refl
registers-alike E2 E0 = refl
registers-alike E2 E1 = refl
registers-alike E2 E2 = refl

owners-alike : (o p : Option AccountId) → option_eq (λ (a b : AccountId). a.0 == b.0) o p ≡ (owner_place o == owner_place p)
owners-alike None None = refl
owners-alike None (Some b) = sym (ne_eqb 0 (b.0 + 1) (λ e. absurd (omega (arith, e))))
owners-alike (Some a) None = sym (ne_eqb (a.0 + 1) 0 (λ e. absurd (omega (arith, e))))
owners-alike (Some a) (Some b) = rw (add-one, add-one) (sym (eqb-suc-suc a.0 b.0))

-- a text, and numbers behind it
texts-one : (r s xs ys : List ℕ) → (r ≡ s) × (xs ≡ ys) → r ++ xs ≡ s ++ ys
texts-one r s xs ys h = ap (λ v. v ++ xs) h.0 ∙ ap (λ v. s ++ v) h.1

texts-two : (r s xs ys : List ℕ) → length xs ≡ length ys → r ++ xs ≡ s ++ ys → (r ≡ s) × (xs ≡ ys)
texts-two r s xs ys l h =
    let n : length r ≡ length s = lengths-same r s xs ys l h in
    (prefix-same r s xs ys n h, rest-same r s xs ys n h)

texts-alike : (r s xs ys : List ℕ) → length xs ≡ length ys → (pointwise ◌==◌ r s && pointwise ◌==◌ xs ys) ≡ pointwise ◌==◌ (r ++ xs) (s ++ ys)
texts-alike r s xs ys l =
    let both : Decides (pointwise ◌==◌ r s && pointwise ◌==◌ xs ys) ((r ≡ s) × (xs ≡ ys)) = Decides-and (pointwise ◌==◌ r s) (pointwise ◌==◌ xs ys) (bytes_decides r s) (bytes_decides xs ys) in
    both_ways (pointwise ◌==◌ r s && pointwise ◌==◌ xs ys) (pointwise ◌==◌ (r ++ xs) (s ++ ys))
    (λ e. (bytes_decides (r ++ xs) (s ++ ys)).1 (texts-one r s xs ys (both.0 e)))
    (λ e. both.1 (texts-two r s xs ys l ((bytes_decides (r ++ xs) (s ++ ys)).0 e)))

pub named-alike : (a b : Named) → derived_named.ghosts.eq a b ≡ pointwise ◌==◌ (named_numbers a) (named_numbers b)
unfolding named_numbers
named-alike (named.Reading m r t w) (named.Reading n s u v) =
    ap (λ c. (m.0 == n.0) && (c && ((t == u) && (w == v)))) (registers-alike r s)
    ∙ ap (λ c. (m.0 == n.0) && ((register_place r == register_place s) && ((t == u) && c))) (sym (and-true (w == v)))
named-alike (named.Assignment m t o) (named.Assignment n u p) =
    ap (λ c. (m.0 == n.0) && ((t == u) && c)) (owners-alike o p ∙ sym (and-true (owner_place o == owner_place p)))
named-alike (named.TopUp r a c t) (named.TopUp s b d u) =
    ap (λ x. x && ((a.0 == b.0) && ((c == d) && (t == u)))) (references-alike r s)
    ∙ ap (λ x. pointwise ◌==◌ r s && ((a.0 == b.0) && ((c == d) && x))) (sym (and-true (t == u)))
    ∙ texts-alike r s (0 ∷ a.0 ∷ c ∷ t ∷ []) (0 ∷ b.0 ∷ d ∷ u ∷ []) refl
named-alike (named.Reading m r t w) (named.Assignment n u p) = refl
named-alike (named.Reading m r t w) (named.TopUp s b d u) = refl
named-alike (named.Assignment m t o) (named.Reading n s u v) = refl
named-alike (named.Assignment m t o) (named.TopUp s b d u) = refl
named-alike (named.TopUp r a c t) (named.Reading n s u v) = refl
named-alike (named.TopUp r a c t) (named.Assignment n u p) = refl

pub keys-alike : (a b : Key) → derived_key.ghosts.eq a b ≡ same_key a b
unfolding key_numbers
keys-alike (key.Reading m r t) (key.Reading n s u) = ap (λ c. (m.0 == n.0) && (c && (t == u))) (registers-alike r s) ∙ ap (λ c. (m.0 == n.0) && ((register_place r == register_place s) && c)) (sym (and-true (t == u)))
keys-alike (key.Assignment m t) (key.Assignment n u) = ap (λ c. (m.0 == n.0) && c) (sym (and-true (t == u)))
keys-alike (key.TopUp r) (key.TopUp s) = references-alike r s
keys-alike (key.Reading m r t) (key.Assignment n u) = refl
keys-alike (key.Reading m r t) (key.TopUp s) = refl
keys-alike (key.Assignment m t) (key.Reading n s u) = refl
keys-alike (key.Assignment m t) (key.TopUp s) = refl
keys-alike (key.TopUp r) (key.Reading n s u) = refl
keys-alike (key.TopUp r) (key.Assignment n u) = refl
keys-alike (key.Withdrawal a) (key.Withdrawal b) = named-alike a b
keys-alike (key.Reading m r t) (key.Withdrawal b) = refl
keys-alike (key.Assignment m t) (key.Withdrawal b) = refl
keys-alike (key.TopUp r) (key.Withdrawal b) = refl
keys-alike (key.Withdrawal a) (key.Reading n s u) = refl
keys-alike (key.Withdrawal a) (key.Assignment n u) = refl
keys-alike (key.Withdrawal a) (key.TopUp s) = refl

abbrev AreAlike : Content → Content → Type 0
AreAlike a b = derived_content.ghosts.eq a b ≡ same_content a b

pub contents-alike : (a b : Content) → derived_content.ghosts.eq a b ≡ same_content a b
unfolding content_numbers
contents-alike (content.Reading w) = by_content (AreAlike (content.Reading w)) (λ v. sym (and-true (w == v))) refl (λ b. refl) (λ b d u. refl) refl
contents-alike (content.Assignment None) = by_content (AreAlike (content.Assignment None)) (λ v. refl) refl (λ b. refl) (λ b d u. refl) refl
contents-alike (content.Assignment (Some a)) = by_content (AreAlike (content.Assignment (Some a))) (λ v. refl) refl (λ b. sym (and-true (a.0 == b.0))) (λ b d u. refl) refl
contents-alike (content.TopUp a c t) = by_content (AreAlike (content.TopUp a c t)) (λ v. refl) refl (λ b. refl) (λ b d u. ap (λ x. (a.0 == b.0) && ((c == d) && x)) (sym (and-true (t == u)))) refl
contents-alike content.Withdrawal = by_content (AreAlike content.Withdrawal) (λ v. refl) refl (λ b. refl) (λ b d u. refl) refl

pub entries-alike : (a b : Entry) → derived_entry.ghosts.eq a b ≡ same_entry a b
entries-alike a b = ap (λ (x : Bool). x && derived_content.ghosts.eq a.content b.content) (keys-alike a.key b.key) ∙ ap (λ (x : Bool). same_key a.key b.key && x) (contents-alike a.content b.content)
