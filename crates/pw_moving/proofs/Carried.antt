-- Records by other places stand, and count, as they did.
use Rattle.std.proofs.Common.{◌≡◌, ◌==◌, ◌||◌, ◌↔◌, ℕ, ◌<◌, Bool, true, false, cond, Option, Some, None, List, [], ◌∷◌, length, map, refl, ap, sym, subst, ◌∙◌, inl, inr}
use Rattle.std.proofs.lemmas.Bool.{cases_eq, eq-eqb, ne_eqb}
use Rattle.std.specs.Cmp.{both_ways}
use Rattle.pw_tariff.specs.declared.ids.AccountId.{AccountId}
use Rattle.pw_tariff.specs.declared.ids.MeterId.{MeterId}
use Rattle.pw_tariff.specs.Office.{IsSound, office_of}
use Rattle.pw_tariff.specs.Owners.{same_owner}
use Rattle.pw_model.specs.declared.records.Key.{Key}
use Rattle.pw_model.specs.declared.records.Key.TheVariants as key
use Rattle.pw_model.specs.declared.records.Named.{Named}
use Rattle.pw_model.specs.declared.records.Named.TheVariants as named
use Rattle.pw_model.specs.declared.records.Content.{Content}
use Rattle.pw_model.specs.declared.records.Content.TheVariants as content
use Rattle.pw_model.specs.declared.records.Contents.{Contents}
use Rattle.pw_model.specs.declared.records.Contents.TheVariants.{Nothing, One, Several}
use Rattle.pw_model.specs.declared.records.Entry.{Entry}
use Rattle.pw_model.specs.Same.{same_key, same_content, same_entry}
use Rattle.pw_model.specs.Counting.{Member, named_entry, withdraws, is_withdrawn, standing_among, standing, IsNoWithdrawal, Counts, joined, contents_among, contents_at}
use Rattle.pw_model.specs.Office.{HasOwner, IsNamedOf, IsOf, AllOfOffice}
use Rattle.pw_model.proofs.Same.{same_key-decides, same_content-decides, same_entry-decides}
use Rattle.pw_model.proofs.Counting.{entry, Tells, tells-among, standing-part}
use Rattle.pw_moving.specs.Renaming.{Offices, Places, by_names, owner_as, named_as, key_as, content_as, entry_as, contents_as, AllCanBeCarried}
use Rattle.pw_moving.specs.Laws.{CarriedRecordsStand}
use Rattle.pw_moving.proofs.Placed.{names-come_back}

abbrev account : ℕ → AccountId
account n = record { 0 = n }

abbrev meter : ℕ → MeterId
meter n = record { 0 = n }

-- ---- members of a list of records by other places
pub member-as : (to : Places) (s : List Entry) (e : Entry) → Member e s → Member (entry_as to e) (map (entry_as to) s)
member-as to [] e m = absurd m
member-as to (x ∷ s) e (inl i) = inl (ap (entry_as to) i)
member-as to (x ∷ s) e (inr m) = inr (member-as to s e m)

pub member-from : (to : Places) (s : List Entry) (x : Entry) → Member x (map (entry_as to) s) → (e : Entry) × Member e s × (x ≡ entry_as to e)
member-from to [] x m = absurd m
member-from to (e ∷ s) x (inl i) = (e, inl refl, i)
member-from to (e ∷ s) x (inr m) = let r = member-from to s x m in (r.0, inr r.1, r.2)

-- ---- what a record names
abbrev pub OwnerIn : (ℕ → Type 0) → Option AccountId → Type 0
OwnerIn A None = Unit {0}
OwnerIn A (Some a) = A a.0

abbrev pub NamedIn : (ℕ → Type 0) → (ℕ → Type 0) → Named → Type 0
NamedIn M A (named.Reading m r t w) = M m.0
NamedIn M A (named.Assignment m t o) = M m.0 × OwnerIn A o
NamedIn M A (named.TopUp r a c t) = A a.0

abbrev pub KeyIn : (ℕ → Type 0) → (ℕ → Type 0) → Key → Type 0
KeyIn M A (key.Reading m r t) = M m.0
KeyIn M A (key.Assignment m t) = M m.0
KeyIn M A (key.TopUp r) = Unit {0}
KeyIn M A (key.Withdrawal n) = NamedIn M A n

abbrev pub ContentIn : (ℕ → Type 0) → Content → Type 0
ContentIn A (content.Reading w) = Unit {0}
ContentIn A (content.Assignment o) = OwnerIn A o
ContentIn A (content.TopUp a c t) = A a.0
ContentIn A content.Withdrawal = Unit {0}

abbrev pub EntryIn : (ℕ → Type 0) → (ℕ → Type 0) → Entry → Type 0
EntryIn M A e = KeyIn M A e.key × ContentIn A e.content

abbrev pub AllIn : (ℕ → Type 0) → (ℕ → Type 0) → List Entry → Type 0
AllIn M A s = (e : Entry) → Member e s → EntryIn M A e

abbrev pub ContentsIn : (ℕ → Type 0) → Contents → Type 0
ContentsIn A Nothing = Unit {0}
ContentsIn A (One c) = ContentIn A c
ContentsIn A Several = Unit {0}

-- the record that is named
named-entry_in : (M A : ℕ → Type 0) (n : Named) → NamedIn M A n → EntryIn M A (named_entry n)
named-entry_in M A (named.Reading m r t w) h = (h, tt)
named-entry_in M A (named.Assignment m t o) h = (h.0, h.1)
named-entry_in M A (named.TopUp r a c t) h = (tt, h)

-- what is told of records
told-in : (M A : ℕ → Type 0) (s : List Entry) (k : Key) (r : Contents) → AllIn M A s → Tells s k r → ContentsIn A r
told-in M A s k Nothing h t = tt
told-in M A s k (One c) h t = (h (entry k c) t.0).1
told-in M A s k Several h t = tt

among-in : (M A : ℕ → Type 0) (s : List Entry) (k : Key) → AllIn M A s → ContentsIn A (contents_among s k)
among-in M A s k h = told-in M A s k (contents_among s k) h (tells-among s k)

pub standing-in : (M A : ℕ → Type 0) (s : List Entry) → AllIn M A s → AllIn M A (standing s)
standing-in M A s h e m = h e (standing-part s e m)

pub contents-in : (M A : ℕ → Type 0) (s : List Entry) (k : Key) → AllIn M A s → ContentsIn A (contents_at s k)
unfolding contents_at
contents-in M A s k h = among-in M A (standing s) k (standing-in M A s h)

-- ---- places from which others lead back, for all accounts in A and all meters in M
module _ (M A : ℕ → Type 0) (to from : Places) (meters_back : (i : ℕ) → M i → from.meter (to.meter i) ≡ i) (accounts_back : (i : ℕ) → A i → from.account (to.account i) ≡ i) where
  owner-back : (o : Option AccountId) → OwnerIn A o → owner_as from (owner_as to o) ≡ o
  owner-back None h = refl
  owner-back (Some a) h = ap (λ (n : ℕ). Some (account n)) (accounts_back a.0 h)

  named-back : (n : Named) → NamedIn M A n → named_as from (named_as to n) ≡ n
  named-back (named.Reading m r t w) h = ap (λ (i : ℕ). named.Reading (meter i) r t w) (meters_back m.0 h)
  named-back (named.Assignment m t o) h =
      ap (λ (i : ℕ). named.Assignment (meter i) t (owner_as from (owner_as to o))) (meters_back m.0 h.0)
      ∙ ap (λ (q : Option AccountId). named.Assignment m t q) (owner-back o h.1)
  named-back (named.TopUp r a c t) h = ap (λ (i : ℕ). named.TopUp r (account i) c t) (accounts_back a.0 h)

  key-back : (k : Key) → KeyIn M A k → key_as from (key_as to k) ≡ k
  key-back (key.Reading m r t) h = ap (λ (i : ℕ). key.Reading (meter i) r t) (meters_back m.0 h)
  key-back (key.Assignment m t) h = ap (λ (i : ℕ). key.Assignment (meter i) t) (meters_back m.0 h)
  key-back (key.TopUp r) h = refl
  key-back (key.Withdrawal n) h = ap (λ (x : Named). key.Withdrawal x) (named-back n h)

  content-back : (c : Content) → ContentIn A c → content_as from (content_as to c) ≡ c
  content-back (content.Reading w) h = refl
  content-back (content.Assignment o) h = ap (λ (q : Option AccountId). content.Assignment q) (owner-back o h)
  content-back (content.TopUp a c t) h = ap (λ (i : ℕ). content.TopUp (account i) c t) (accounts_back a.0 h)
  content-back content.Withdrawal h = refl

  -- so what is one by the other places is one
  pub key-one : (k l : Key) → KeyIn M A k → KeyIn M A l → key_as to k ≡ key_as to l → k ≡ l
  key-one k l h i e = sym (key-back k h) ∙ ap (key_as from) e ∙ key-back l i

  pub content-one : (c d : Content) → ContentIn A c → ContentIn A d → content_as to c ≡ content_as to d → c ≡ d
  content-one c d h i e = sym (content-back c h) ∙ ap (content_as from) e ∙ content-back d i

  pub entry-one : (e f : Entry) → EntryIn M A e → EntryIn M A f → entry_as to e ≡ entry_as to f → e ≡ f
  entry-one e f h i q =
      ap (λ (k : Key). entry k e.content) (key-one e.key f.key h.0 i.0 (ap (λ (x : Entry). x.key) q))
      ∙ ap (λ (c : Content). entry f.key c) (content-one e.content f.content h.1 i.1 (ap (λ (x : Entry). x.content) q))

  pub account-one : (a b : ℕ) → A a → A b → to.account a ≡ to.account b → a ≡ b
  account-one a b h i e = sym (accounts_back a h) ∙ ap from.account e ∙ accounts_back b i

  pub meter-one : (m n : ℕ) → M m → M n → to.meter m ≡ to.meter n → m ≡ n
  meter-one m n h i e = sym (meters_back m h) ∙ ap from.meter e ∙ meters_back n i

  -- ---- the tests tell the same
  pub accounts-same : (a b : ℕ) → A a → A b → (to.account a == to.account b) ≡ (a == b)
  accounts-same a b h i = elim (cases_eq a b) [
    | inl e ↦ eq-eqb (to.account a) (to.account b) (ap to.account e) ∙ sym (eq-eqb a b e)
    | inr d ↦ ne_eqb (to.account a) (to.account b) (λ e. d (account-one a b h i e)) ∙ sym (ne_eqb a b d)
  ]

  pub owners-same : (o q : Option AccountId) → OwnerIn A o → OwnerIn A q → same_owner (owner_as to o) (owner_as to q) ≡ same_owner o q
  owners-same None None h i = refl
  owners-same None (Some b) h i = refl
  owners-same (Some a) None h i = refl
  owners-same (Some a) (Some b) h i = accounts-same a.0 b.0 h i

  pub keys-same_as : (k l : Key) → KeyIn M A k → KeyIn M A l → same_key (key_as to k) (key_as to l) ≡ same_key k l
  keys-same_as k l h i =
      both_ways (same_key (key_as to k) (key_as to l)) (same_key k l)
      (λ t. (same_key-decides k l).1 (key-one k l h i ((same_key-decides (key_as to k) (key_as to l)).0 t)))
      (λ t. (same_key-decides (key_as to k) (key_as to l)).1 (ap (key_as to) ((same_key-decides k l).0 t)))

  contents-same_as : (c d : Content) → ContentIn A c → ContentIn A d → same_content (content_as to c) (content_as to d) ≡ same_content c d
  contents-same_as c d h i =
      both_ways (same_content (content_as to c) (content_as to d)) (same_content c d)
      (λ t. (same_content-decides c d).1 (content-one c d h i ((same_content-decides (content_as to c) (content_as to d)).0 t)))
      (λ t. (same_content-decides (content_as to c) (content_as to d)).1 (ap (content_as to) ((same_content-decides c d).0 t)))

  entries-same_as : (e f : Entry) → EntryIn M A e → EntryIn M A f → same_entry (entry_as to e) (entry_as to f) ≡ same_entry e f
  entries-same_as e f h i =
      both_ways (same_entry (entry_as to e) (entry_as to f)) (same_entry e f)
      (λ t. (same_entry-decides e f).1 (entry-one e f h i ((same_entry-decides (entry_as to e) (entry_as to f)).0 t)))
      (λ t. (same_entry-decides (entry_as to e) (entry_as to f)).1 (ap (entry_as to) ((same_entry-decides e f).0 t)))

  -- ---- withdrawals
  named-as_entry : (n : Named) → named_entry (named_as to n) ≡ entry_as to (named_entry n)
  named-as_entry (named.Reading m r t w) = refl
  named-as_entry (named.Assignment m t o) = refl
  named-as_entry (named.TopUp r a c t) = refl

  withdraws-as : (e : Entry) (k : Key) → EntryIn M A e → KeyIn M A k → withdraws (entry_as to e) (key_as to k) ≡ withdraws e k
  withdraws-as e (key.Reading m r t) h i = refl
  withdraws-as e (key.Assignment m t) h i = refl
  withdraws-as e (key.TopUp r) h i = refl
  withdraws-as e (key.Withdrawal n) h i =
      ap (λ (x : Entry). same_entry x (entry_as to e)) (named-as_entry n)
      ∙ entries-same_as (named_entry n) e (named-entry_in M A n i) h

  pub withdrawn-as : (s : List Entry) (e : Entry) → AllIn M A s → EntryIn M A e → is_withdrawn (map (entry_as to) s) (entry_as to e) ≡ is_withdrawn s e
  withdrawn-as [] e h i = refl
  withdrawn-as (f ∷ s) e h i =
      ap (λ (b : Bool). b || is_withdrawn (map (entry_as to) s) (entry_as to e)) (withdraws-as e f.key i (h f (inl refl)).0)
      ∙ ap (λ (b : Bool). withdraws e f.key || b) (withdrawn-as s e (λ x m. h x (inr m)) i)

  among-as : (s some : List Entry) → AllIn M A s → AllIn M A some → standing_among (map (entry_as to) s) (map (entry_as to) some) ≡ map (entry_as to) (standing_among s some)
  among-as s [] h i = refl
  among-as s (e ∷ some) h i =
      let r : standing_among (map (entry_as to) s) (map (entry_as to) some) ≡ map (entry_as to) (standing_among s some) = among-as s some h (λ x m. i x (inr m)) in
      let w : is_withdrawn (map (entry_as to) s) (entry_as to e) ≡ is_withdrawn s e = withdrawn-as s e h (i e (inl refl)) in
      ap (λ (b : Bool). cond b (standing_among (map (entry_as to) s) (map (entry_as to) some)) (entry_as to e ∷ standing_among (map (entry_as to) s) (map (entry_as to) some))) w
      ∙ ap (λ (l : List Entry). cond (is_withdrawn s e) l (entry_as to e ∷ l)) r
      ∙ map-cond (is_withdrawn s e) e (standing_among s some)
    where
      map-cond : (b : Bool) (e : Entry) (l : List Entry) → cond b (map (entry_as to) l) (entry_as to e ∷ map (entry_as to) l) ≡ map (entry_as to) (cond b l (e ∷ l))
      map-cond true e l = refl
      map-cond false e l = refl

  pub standing-as : (s : List Entry) → AllIn M A s → standing (map (entry_as to) s) ≡ map (entry_as to) (standing s)
  unfolding standing
  standing-as s h = among-as s s h h

  -- ---- what is told
  joined-as : (c : Content) (r : Contents) → ContentIn A c → ContentsIn A r → joined (content_as to c) (contents_as to r) ≡ contents_as to (joined c r)
  joined-as c Nothing h i = refl
  joined-as c Several h i = refl
  joined-as c (One d) h i =
      ap (λ (b : Bool). cond b (One (content_as to d)) Several) (contents-same_as c d h i) ∙ told-cond (same_content c d) d
    where
      told-cond : (b : Bool) (d : Content) → cond b (One (content_as to d)) Several ≡ contents_as to (cond b (One d) Several)
      told-cond true d = refl
      told-cond false d = refl

  contents-among_as : (s : List Entry) (k : Key) → AllIn M A s → KeyIn M A k → contents_among (map (entry_as to) s) (key_as to k) ≡ contents_as to (contents_among s k)
  unfolding contents_among
  contents-among_as [] k h i = refl
  contents-among_as (e ∷ s) k h i =
      let rest : AllIn M A s = λ x m. h x (inr m) in
      let r : contents_among (map (entry_as to) s) (key_as to k) ≡ contents_as to (contents_among s k) = contents-among_as s k rest i in
      let j : joined (content_as to e.content) (contents_as to (contents_among s k)) ≡ contents_as to (joined e.content (contents_among s k))
      = joined-as e.content (contents_among s k) (h e (inl refl)).1 (among-in M A s k rest) in
      ap (λ (b : Bool). cond b (joined (content_as to e.content) (contents_among (map (entry_as to) s) (key_as to k))) (contents_among (map (entry_as to) s) (key_as to k)))
      (keys-same_as e.key k (h e (inl refl)).0 i)
      ∙ ap (λ (x : Contents). cond (same_key e.key k) (joined (content_as to e.content) x) x) r
      ∙ ap (λ (x : Contents). cond (same_key e.key k) x (contents_as to (contents_among s k))) j
      ∙ either (same_key e.key k) (joined e.content (contents_among s k)) (contents_among s k)
    where
      either : (b : Bool) (x y : Contents) → cond b (contents_as to x) (contents_as to y) ≡ contents_as to (cond b x y)
      either true x y = refl
      either false x y = refl

  pub told-as : (s : List Entry) (k : Key) → AllIn M A s → KeyIn M A k → contents_at (map (entry_as to) s) (key_as to k) ≡ contents_as to (contents_at s k)
  unfolding contents_at
  told-as s k h i =
      ap (λ (l : List Entry). contents_among l (key_as to k)) (standing-as s h) ∙ contents-among_as (standing s) k (standing-in M A s h) i

  -- ---- what counts
  no-withdrawal_as : (c : Content) → IsNoWithdrawal c → IsNoWithdrawal (content_as to c)
  no-withdrawal_as (content.Reading w) h = tt
  no-withdrawal_as (content.Assignment o) h = tt
  no-withdrawal_as (content.TopUp a c t) h = tt
  no-withdrawal_as content.Withdrawal h = absurd h

  no-withdrawal_from : (c : Content) → IsNoWithdrawal (content_as to c) → IsNoWithdrawal c
  no-withdrawal_from (content.Reading w) h = tt
  no-withdrawal_from (content.Assignment o) h = tt
  no-withdrawal_from (content.TopUp a c t) h = tt
  no-withdrawal_from content.Withdrawal h = absurd h

  stands-as : (s : List Entry) (e : Entry) → AllIn M A s → Member e (standing s) → Member (entry_as to e) (standing (map (entry_as to) s))
  stands-as s e h m =
      let P : List Entry → Type 0 = λ l. Member (entry_as to e) l in
      subst P (sym (standing-as s h)) (member-as to (standing s) e m)

  stands-from : (s : List Entry) (x : Entry) → AllIn M A s → Member x (standing (map (entry_as to) s)) → (e : Entry) × Member e (standing s) × (x ≡ entry_as to e)
  stands-from s x h m =
      let P : List Entry → Type 0 = λ l. Member x l in
      member-from to (standing s) x (subst P (standing-as s h) m)

  counts-as : (s : List Entry) (e : Entry) → AllIn M A s → EntryIn M A e → Counts s e → Counts (map (entry_as to) s) (entry_as to e)
  counts-as s e h i c = (
    stands-as s e h c.0,
    λ x m k. (
        let r : (f : Entry) × Member f (standing s) × (x ≡ entry_as to f) = stands-from s x h m in
        let f : Entry = r.0 in
        let j : f.key ≡ e.key = key-one f.key e.key (standing-in M A s h f r.1).0 i.0 (ap (λ (y : Entry). y.key) (sym r.2) ∙ k) in
        r.2 ∙ ap (entry_as to) (c.1 f r.1 j)),
    no-withdrawal_as e.content c.2,
  )

  counts-from : (s : List Entry) (e : Entry) → AllIn M A s → EntryIn M A e → Counts (map (entry_as to) s) (entry_as to e) → Counts s e
  counts-from s e h i c =
      let r : (f : Entry) × Member f (standing s) × (entry_as to e ≡ entry_as to f) = stands-from s (entry_as to e) h c.0 in
      let q : e ≡ r.0 = entry-one e r.0 i (standing-in M A s h r.0 r.1) r.2 in
      let P : Entry → Type 0 = λ x. Member x (standing s) in (
        subst P (sym q) r.1,
        λ f m k. entry-one f e (standing-in M A s h f m) i (c.1 (entry_as to f) (stands-as s f h m) (ap (key_as to) k)),
        no-withdrawal_from e.content c.2,
      )

  pub counts-both : (s : List Entry) (e : Entry) → AllIn M A s → EntryIn M A e → Counts s e ↔ Counts (map (entry_as to) s) (entry_as to e)
  counts-both s e h i = (counts-as s e h i, counts-from s e h i)

-- ---- records that can be carried name what both offices have
abbrev pub IsMeterOfBoth : Offices → ℕ → Type 0
IsMeterOfBoth o m = (m < length o.old.meters) × ((by_names o).meter m < length o.new.meters)

abbrev pub IsAccountOfBoth : Offices → ℕ → Type 0
IsAccountOfBoth o a = (a < length o.old.accounts) × ((by_names o).account a < length o.new.accounts)

owner-both : (o : Offices) (q : Option AccountId) → HasOwner (office_of o.old) q → HasOwner (office_of o.new) (owner_as (by_names o) q) → OwnerIn (IsAccountOfBoth o) q
owner-both o None h i = tt
owner-both o (Some a) h i = (h, i)

named-both : (o : Offices) (n : Named) → IsNamedOf (office_of o.old) n → IsNamedOf (office_of o.new) (named_as (by_names o) n) → NamedIn (IsMeterOfBoth o) (IsAccountOfBoth o) n
named-both o (named.Reading m r t w) h i = (h.0, i.0)
named-both o (named.Assignment m t q) h i = ((h.0, i.0), owner-both o q h.2 i.2)
named-both o (named.TopUp r a c t) h i = (h.1, i.1)

entry-both : (o : Offices) (k : Key) (c : Content) → IsOf (office_of o.old) k c → IsOf (office_of o.new) (key_as (by_names o) k) (content_as (by_names o) c) →
    KeyIn (IsMeterOfBoth o) (IsAccountOfBoth o) k × ContentIn (IsAccountOfBoth o) c
entry-both o (key.Reading m r t) (content.Reading w) h i = ((h.0, i.0), tt)
entry-both o (key.Assignment m t) (content.Assignment q) h i = ((h.0, i.0), owner-both o q h.2 i.2)
entry-both o (key.TopUp r) (content.TopUp a c t) h i = (tt, (h.1, i.1))
entry-both o (key.Withdrawal n) content.Withdrawal h i = (named-both o n h i, tt)
entry-both o (key.Reading m r t) (content.Assignment q) h i = absurd h
entry-both o (key.Reading m r t) (content.TopUp a c u) h i = absurd h
entry-both o (key.Reading m r t) content.Withdrawal h i = absurd h
entry-both o (key.Assignment m t) (content.Reading w) h i = absurd h
entry-both o (key.Assignment m t) (content.TopUp a c u) h i = absurd h
entry-both o (key.Assignment m t) content.Withdrawal h i = absurd h
entry-both o (key.TopUp r) (content.Reading w) h i = absurd h
entry-both o (key.TopUp r) (content.Assignment q) h i = absurd h
entry-both o (key.TopUp r) content.Withdrawal h i = absurd h
entry-both o (key.Withdrawal n) (content.Reading w) h i = absurd h
entry-both o (key.Withdrawal n) (content.Assignment q) h i = absurd h
entry-both o (key.Withdrawal n) (content.TopUp a c u) h i = absurd h

pub all-both : (o : Offices) (s : List Entry) → AllOfOffice (office_of o.old) s → AllCanBeCarried o s → AllIn (IsMeterOfBoth o) (IsAccountOfBoth o) s
all-both o s h i e m = entry-both o e.key e.content (h e m) (i e m)

-- the other way
abbrev pub other_way : Offices → Places
other_way o = by_names (record { old = o.new; new = o.old })

pub meters-back : (o : Offices) → IsSound o.old → (m : ℕ) → IsMeterOfBoth o m → (other_way o).meter ((by_names o).meter m) ≡ m
meters-back o sound m h = (names-come_back o sound).meters m h.0 h.1

pub accounts-back : (o : Offices) → IsSound o.old → (a : ℕ) → IsAccountOfBoth o a → (other_way o).account ((by_names o).account a) ≡ a
accounts-back o sound a h = (names-come_back o sound).accounts a h.0 h.1

pub carried-stand : CarriedRecordsStand
carried-stand o s sound ours can e m =
    let M : ℕ → Type 0 = IsMeterOfBoth o in
    let A : ℕ → Type 0 = IsAccountOfBoth o in
    let all : AllIn M A s = all-both o s ours can in
    let i : EntryIn M A e = all e m in
    record {
      withdrawn = withdrawn-as M A (by_names o) (other_way o) (meters-back o sound) (accounts-back o sound) s e all i;
      told = told-as M A (by_names o) (other_way o) (meters-back o sound) (accounts-back o sound) s e.key all i.0;
      counts = counts-both M A (by_names o) (other_way o) (meters-back o sound) (accounts-back o sound) s e all i;
    }
