-- What counts in a set of records, given as a list in any order.
-- (Definitions of this project.)
use Rattle.std.specs.Prelude.{◌≡◌, ℕ, Bool, false, ◌||◌, cond, Option, Some, None, List, [], ◌∷◌, ◌++◌, ◌⊎◌, ◌↔◌}
use Rattle.pw_tariff.specs.declared.ids.AccountId.{AccountId}
use Rattle.pw_obis.specs.declared.reference.Register.{Register}
use Rattle.pw_model.specs.declared.records.Key.{Key}
use Rattle.pw_model.specs.declared.records.Key.TheVariants as key
use Rattle.pw_model.specs.declared.records.Content.{Content}
use Rattle.pw_model.specs.declared.records.Content.TheVariants as content
use Rattle.pw_model.specs.declared.records.Entry.{Entry}
use Rattle.pw_model.specs.declared.records.Named.{Named}
use Rattle.pw_model.specs.declared.records.Named.TheVariants as named
use Rattle.pw_model.specs.declared.records.Contents.{Contents}
use Rattle.pw_model.specs.declared.records.Contents.TheVariants.{Nothing, One, Several}
use Rattle.pw_model.specs.Same.{same_key, same_content, same_entry}

-- x is a member of the list
abbrev pub Member : {X : Type 0} → X → List X → Type 0
Member x [] = ⊥
Member x (y ∷ ys) = (x ≡ y) ⊎ Member x ys

-- two lists of one set
abbrev pub SameMembers : {X : Type 0} → List X → List X → Type 0
SameMembers {X} s t = (x : X) → Member x s ↔ Member x t

-- each stands in the list once
abbrev pub EachOnce : {X : Type 0} → List X → Type 0
EachOnce [] = Unit {0}
EachOnce (x ∷ xs) = (Member x xs → ⊥) × EachOnce xs

-- new is old with x at some place
abbrev pub IsInserted : {X : Type 0} → X → List X → List X → Type 0
IsInserted {X} x old new = (xs : List X) × (ys : List X) × (old ≡ xs ++ ys) × (new ≡ xs ++ x ∷ ys)

-- ---- how a withdrawal names a record
-- the record that is named
abbrev pub named_entry : Named → Entry
named_entry (named.Reading m r t w) = record { key = key.Reading m r t; content = content.Reading w }
named_entry (named.Assignment m t o) = record { key = key.Assignment m t; content = content.Assignment o }
named_entry (named.TopUp r a c t) = record { key = key.TopUp r; content = content.TopUp a c t }

-- the name of a record with this key and content; a withdrawal has none
abbrev pub named_of : Key → Content → Option Named
named_of (key.Reading m r t) (content.Reading w) = Some (named.Reading m r t w)
named_of (key.Assignment m t) (content.Assignment o) = Some (named.Assignment m t o)
named_of (key.TopUp r) (content.TopUp a c t) = Some (named.TopUp r a c t)
named_of _ _ = None

-- ---- which records stand, and which of them count
-- whether a key is that of a withdrawal that names e
abbrev pub withdraws : Entry → Key → Bool
withdraws e (key.Withdrawal n) = same_entry (named_entry n) e
withdraws e _ = false

-- whether a record of the list withdraws e
abbrev pub is_withdrawn : List Entry → Entry → Bool
is_withdrawn [] e = false
is_withdrawn (f ∷ s) e = withdraws e f.key || is_withdrawn s e

-- those of some records that no record of s withdraws
abbrev pub standing_among : List Entry → List Entry → List Entry
standing_among s [] = []
standing_among s (e ∷ some) = cond (is_withdrawn s e) (standing_among s some) (e ∷ standing_among s some)

-- the records that stand: those that none withdraws, whichever of the two comes first
unfoldable pub standing : List Entry → List Entry
standing s = standing_among s s

-- the content of a reading, an assignment or a top-up
abbrev pub IsNoWithdrawal : Content → Type 0
IsNoWithdrawal content.Withdrawal = ⊥
IsNoWithdrawal _ = Unit {0}

-- a record counts when it stands, no other that stands has its key, and it is no withdrawal
abbrev pub Counts : List Entry → Entry → Type 0
Counts s e = Member e (standing s) × ((f : Entry) → Member f (standing s) → f.key ≡ e.key → f ≡ e) × IsNoWithdrawal e.content

-- one more content at a key
abbrev pub joined : Content → Contents → Contents
joined c Nothing = One c
joined c (One d) = cond (same_content c d) (One d) Several
joined c Several = Several

-- what the records of a list contain at a key
unfoldable pub contents_among : List Entry → Key → Contents
contents_among [] k = Nothing
contents_among (e ∷ s) k = cond (same_key e.key k) (joined e.content (contents_among s k)) (contents_among s k)

-- what the records of a set that stand contain at a key
unfoldable pub contents_at : List Entry → Key → Contents
contents_at s = contents_among (standing s)

-- ---- the counting reading, assignment and top-up at a key
abbrev pub wh_of : Contents → Option ℕ
wh_of (One (content.Reading w)) = Some w
wh_of _ = None

abbrev pub owner_of : Contents → Option (Option AccountId)
owner_of (One (content.Assignment o)) = Some o
owner_of _ = None

abbrev pub reading_key : ℕ → Register → ℕ → Key
reading_key m r t = key.Reading (record { 0 = m }) r t

abbrev pub assignment_key : ℕ → ℕ → Key
assignment_key m t = key.Assignment (record { 0 = m }) t

-- the value of the counting reading of a meter and register at a second
abbrev pub point : (Key → Contents) → ℕ → Register → ℕ → Option ℕ
point at m r t = wh_of (at (reading_key m r t))

-- the owner that the counting assignment of a meter gives from a second on
abbrev pub start : (Key → Contents) → ℕ → ℕ → Option (Option AccountId)
start at m t = owner_of (at (assignment_key m t))
