-- The tests on keys and contents decide whether two are equal.
use Rattle.std.proofs.Common.{◌≡◌, ℕ, Some, None, refl, ap, sym, ◌∙◌, Decides, List, [], ◌∷◌, ◌++◌, Option, get_or, length, arith}
use Rattle.std.specs.Cmp.Lexicographic.{bytes_decides}
use Rattle.std.proofs.lemmas.Bool.Decides.{Decides-like, Decides-and}
use Rattle.pw_obis.specs.Registers.{registers}
use Rattle.pw_obis.specs.declared.reference.Register.{Register}
use Rattle.pw_obis.specs.declared.reference.Register.TheVariants.{I0, I1, I2, E0, E1, E2}
use Rattle.pw_tariff.specs.declared.ids.AccountId.{AccountId}
use Rattle.pw_tariff.specs.declared.ids.MeterId.{MeterId}
use Rattle.pw_model.specs.declared.records.Key.{Key}
use Rattle.pw_model.specs.declared.records.Key.TheVariants as key
use Rattle.pw_model.specs.declared.records.Named.{Named}
use Rattle.pw_model.specs.declared.records.Named.TheVariants as named
use Rattle.pw_model.specs.declared.records.Content.{Content}
use Rattle.pw_model.specs.declared.records.Content.TheVariants as content
use Rattle.pw_model.specs.declared.records.Entry.{Entry}
use Rattle.pw_tariff.specs.Office.{register_place}
use Rattle.pw_tariff.specs.Cells.{owner_place}
use Rattle.std.proofs.lemmas.List.{length-append}
use Rattle.pw_model.specs.Same.{named_numbers, key_numbers, content_numbers, same_key, same_content, same_entry}

register_at : ℕ → Register
register_at n = get_or registers n E2

by_register : (P : Register → Type 0) → P I0 → P I1 → P I2 → P E0 → P E1 → P E2 → (r : Register) → P r
by_register P i0 i1 i2 e0 e1 e2 r = elim r as (λ (s : Register). P s) [ I0 ↦ i0 | I1 ↦ i1 | I2 ↦ i2 | E0 ↦ e0 | E1 ↦ e1 | E2 ↦ e2 ]

register-back : (r : Register) → register_at (register_place r) ≡ r
unfolding register_at
register-back = by_register (λ r. register_at (register_place r) ≡ r) refl refl refl refl refl refl

pub register-one : (r s : Register) → register_place r ≡ register_place s → r ≡ s
register-one r s h = sym (register-back r) ∙ ap register_at h ∙ register-back s

abbrev meter : ℕ → MeterId
meter n = record { 0 = n }

abbrev account : ℕ → AccountId
account n = record { 0 = n }

-- ---- the contents, an assignment's by whether it names an account
pub by_content : (P : Content → Type 0) → ((w : ℕ) → P (content.Reading w)) → P (content.Assignment None) → ((a : AccountId) → P (content.Assignment (Some a)))
    → ((a : AccountId) (c t : ℕ) → P (content.TopUp a c t)) → P content.Withdrawal → (c : Content) → P c
by_content P reading nobody owner topup withdrawal (content.Reading w) = reading w
by_content P reading nobody owner topup withdrawal (content.Assignment None) = nobody
by_content P reading nobody owner topup withdrawal (content.Assignment (Some a)) = owner a
by_content P reading nobody owner topup withdrawal (content.TopUp a c t) = topup a c t
by_content P reading nobody owner topup withdrawal content.Withdrawal = withdrawal

-- ---- named records
append-same : (xs ys zs ws : List ℕ) → length xs ≡ length ys → xs ++ zs ≡ ys ++ ws → (xs ≡ ys) × (zs ≡ ws)
append-same [] [] zs ws l h = (refl, h)
append-same [] (y ∷ ys) zs ws l h = absurd (omega arith)
append-same (x ∷ xs) [] zs ws l h = absurd (omega arith)
append-same (x ∷ xs) (y ∷ ys) zs ws l h =
    let t : xs ++ zs ≡ ys ++ ws = cc in
    let m : length xs ≡ length ys = omega arith in
    let e : xs ≡ ys = (append-same xs ys zs ws m t).0 in
    let i : x ≡ y = cc in
    (cc, (append-same xs ys zs ws m t).1)

pub prefix-same : (xs ys zs ws : List ℕ) → length xs ≡ length ys → xs ++ zs ≡ ys ++ ws → xs ≡ ys
prefix-same xs ys zs ws l h = (append-same xs ys zs ws l h).0

pub rest-same : (xs ys zs ws : List ℕ) → length xs ≡ length ys → xs ++ zs ≡ ys ++ ws → zs ≡ ws
rest-same xs ys zs ws l h = (append-same xs ys zs ws l h).1

-- two texts with rests of one length behind them
pub lengths-same : (xs ys zs ws : List ℕ) → length zs ≡ length ws → xs ++ zs ≡ ys ++ ws → length xs ≡ length ys
lengths-same xs ys zs ws l h =
    let a = length-append xs zs in
    let b = length-append ys ws in
    let c : length (xs ++ zs) ≡ length (ys ++ ws) = ap length h in
    omega (arith, a, b, c, l)

owner-one : (o p : Option AccountId) → owner_place o ≡ owner_place p → o ≡ p
owner-one None None h = refl
owner-one None (Some b) h = absurd (omega (arith, h))
owner-one (Some a) None h = absurd (omega (arith, h))
owner-one (Some a) (Some b) h =
    let n : a.0 ≡ b.0 = omega (arith, h) in
    let e : a ≡ b = ap account n in
    cc

-- named records with the same numbers are one
named-numbers-one : (a b : Named) → named_numbers a ≡ named_numbers b → a ≡ b
unfolding named_numbers
named-numbers-one (named.Reading m r t w) (named.Reading n s u v) h =
    let a : m ≡ n = ap meter (cc) in
    let b : r ≡ s = register-one r s (cc) in
    let c : t ≡ u = cc in
    let d : w ≡ v = cc in
    cc
named-numbers-one (named.Assignment m t o) (named.Assignment n u p) h =
    let a : m ≡ n = ap meter (cc) in
    let b : t ≡ u = cc in
    let c : o ≡ p = owner-one o p (cc) in
    cc
named-numbers-one (named.TopUp r a c t) (named.TopUp s b d u) h =
    let i : r ++ 0 ∷ a.0 ∷ c ∷ t ∷ [] ≡ s ++ 0 ∷ b.0 ∷ d ∷ u ∷ [] = cc in
    let l : length r ≡ length s = lengths-same r s (0 ∷ a.0 ∷ c ∷ t ∷ []) (0 ∷ b.0 ∷ d ∷ u ∷ []) refl i in
    let e : r ≡ s = prefix-same r s (0 ∷ a.0 ∷ c ∷ t ∷ []) (0 ∷ b.0 ∷ d ∷ u ∷ []) l i in
    let j : 0 ∷ a.0 ∷ c ∷ t ∷ [] ≡ 0 ∷ b.0 ∷ d ∷ u ∷ [] = rest-same r s (0 ∷ a.0 ∷ c ∷ t ∷ []) (0 ∷ b.0 ∷ d ∷ u ∷ []) l i in
    let f : a ≡ b = ap account (cc) in
    let g : c ≡ d = cc in
    let k : t ≡ u = cc in
    cc
named-numbers-one (named.Reading m r t w) (named.Assignment n u p) h = cc
named-numbers-one (named.Reading m r t w) (named.TopUp s b d u) h = cc
named-numbers-one (named.Assignment m t o) (named.Reading n s u v) h = cc
named-numbers-one (named.Assignment m t o) (named.TopUp s b d u) h = cc
named-numbers-one (named.TopUp r a c t) (named.Reading n s u v) h = cc
named-numbers-one (named.TopUp r a c t) (named.Assignment n u p) h = cc

-- keys with the same numbers are one
pub key-numbers-one : (k l : Key) → key_numbers k ≡ key_numbers l → k ≡ l
unfolding key_numbers
key-numbers-one (key.Reading m r t) (key.Reading n s u) h =
    let a : m ≡ n = ap meter (cc) in
    let b : r ≡ s = register-one r s (cc) in
    let c : t ≡ u = cc in
    cc
key-numbers-one (key.Assignment m t) (key.Assignment n u) h =
    let a : m ≡ n = ap meter (cc) in
    let c : t ≡ u = cc in
    cc
key-numbers-one (key.TopUp r) (key.TopUp s) h = let e : r ≡ s = cc in cc
key-numbers-one (key.Reading m r t) (key.Assignment n u) h = cc
key-numbers-one (key.Reading m r t) (key.TopUp s) h = cc
key-numbers-one (key.Assignment m t) (key.Reading n s u) h = cc
key-numbers-one (key.Assignment m t) (key.TopUp s) h = cc
key-numbers-one (key.TopUp r) (key.Reading n s u) h = cc
key-numbers-one (key.TopUp r) (key.Assignment n u) h = cc
key-numbers-one (key.Withdrawal a) (key.Withdrawal b) h = let e : a ≡ b = named-numbers-one a b (cc) in cc
key-numbers-one (key.Reading m r t) (key.Withdrawal b) h = cc
key-numbers-one (key.Assignment m t) (key.Withdrawal b) h = cc
key-numbers-one (key.TopUp r) (key.Withdrawal b) h = cc
key-numbers-one (key.Withdrawal a) (key.Reading n s u) h = cc
key-numbers-one (key.Withdrawal a) (key.Assignment n u) h = cc
key-numbers-one (key.Withdrawal a) (key.TopUp s) h = cc

pub content-numbers-one : (c d : Content) → content_numbers c ≡ content_numbers d → c ≡ d
unfolding content_numbers
content-numbers-one (content.Reading w) (content.Reading v) h = let a : w ≡ v = cc in cc
content-numbers-one (content.Assignment None) (content.Assignment None) h = refl
content-numbers-one (content.Assignment (Some a)) (content.Assignment (Some b)) h = let e : a ≡ b = ap account (cc) in cc
content-numbers-one (content.TopUp a c t) (content.TopUp b d u) h =
    let e : a ≡ b = ap account (cc) in
    let f : c ≡ d = cc in
    let g : t ≡ u = cc in
    cc
content-numbers-one (content.Reading w) (content.Assignment None) h = cc
content-numbers-one (content.Reading w) (content.Assignment (Some b)) h = cc
content-numbers-one (content.Reading w) (content.TopUp b d u) h = cc
content-numbers-one (content.Assignment None) (content.Reading v) h = cc
content-numbers-one (content.Assignment None) (content.Assignment (Some b)) h = cc
content-numbers-one (content.Assignment None) (content.TopUp b d u) h = cc
content-numbers-one (content.Assignment (Some a)) (content.Reading v) h = cc
content-numbers-one (content.Assignment (Some a)) (content.Assignment None) h = cc
content-numbers-one (content.Assignment (Some a)) (content.TopUp b d u) h = cc
content-numbers-one (content.TopUp a c t) (content.Reading v) h = cc
content-numbers-one (content.TopUp a c t) (content.Assignment None) h = cc
content-numbers-one (content.TopUp a c t) (content.Assignment (Some b)) h = cc
content-numbers-one content.Withdrawal content.Withdrawal h = refl
content-numbers-one content.Withdrawal (content.Reading v) h = cc
content-numbers-one content.Withdrawal (content.Assignment None) h = cc
content-numbers-one content.Withdrawal (content.Assignment (Some b)) h = cc
content-numbers-one content.Withdrawal (content.TopUp b d u) h = cc
content-numbers-one (content.Reading w) content.Withdrawal h = cc
content-numbers-one (content.Assignment None) content.Withdrawal h = cc
content-numbers-one (content.Assignment (Some a)) content.Withdrawal h = cc
content-numbers-one (content.TopUp a c t) content.Withdrawal h = cc

pub same_key-decides : (k l : Key) → Decides (same_key k l) (k ≡ l)
same_key-decides k l = Decides-like (same_key k l) (key-numbers-one k l) (λ e. ap key_numbers e) (bytes_decides (key_numbers k) (key_numbers l))

pub same_content-decides : (c d : Content) → Decides (same_content c d) (c ≡ d)
same_content-decides c d = Decides-like (same_content c d) (content-numbers-one c d) (λ e. ap content_numbers e) (bytes_decides (content_numbers c) (content_numbers d))

abbrev entry : Key → Content → Entry
entry k c = record { key = k; content = c }

pub same_entry-decides : (e f : Entry) → Decides (same_entry e f) (e ≡ f)
same_entry-decides e f = Decides-like (same_entry e f)
    (λ (p : (e.key ≡ f.key) × (e.content ≡ f.content)). ap (λ (k : Key). entry k e.content) p.0 ∙ ap (λ (c : Content). entry f.key c) p.1)
    (λ i. (ap (λ (x : Entry). x.key) i, ap (λ (x : Entry). x.content) i))
    (Decides-and (same_key e.key f.key) (same_content e.content f.content) (same_key-decides e.key f.key) (same_content-decides e.content f.content))
