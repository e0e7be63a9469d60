-- A record that is held has a form: its content is of its key's kind.
use Rattle.std.proofs.Common.{◌≡◌, ◌↔◌, List, [], ◌∷◌, map, Bool, true, false, IsTrue, Result, Ok, Err, IfOk, Vec, Some, cond, refl, sym, ap, subst, inl, inr, ◌∙◌}
use Rattle.std.proofs.lemmas.Bool.{cases_Bool, true≢false}
use Rattle.sqlite.specs.declared.error.Error.{Error}
use Rattle.sqlite.specs.Order.{Row}
use Rattle.sqlite.specs.Tree.{Trees}
use Rattle.sqlite.specs.Effect.{Database}
use Rattle.sqlite.specs.State.{State, IsUnchanged}
use Rattle.pw_model.specs.declared.records.Key.{Key}
use Rattle.pw_model.specs.declared.records.Key.TheVariants as key
use Rattle.pw_model.specs.declared.records.Content.{Content}
use Rattle.pw_model.specs.declared.records.Content.TheVariants as content
use Rattle.pw_model.specs.declared.records.Entry.{Entry}
use Rattle.pw_model.specs.declared.records.Named.{Named}
use Rattle.pw_model.specs.declared.records.Named.TheVariants as named
use Rattle.pw_model.specs.Counting.{Member, named_entry, named_of, withdraws, is_withdrawn, standing, contents_at}
use Rattle.pw_model.specs.declared.records.Contents.TheVariants.{Nothing, One}
use Rattle.pw_model.proofs.Counting.{standing-member, standing-part, tells, tells-one, withdrawn-back, withdrawn-to}
use Rattle.pw_model.proofs.Same.{same_entry-decides}
use Rattle.pw_store.specs.Content.{entry_in, kinds_of, records_of, tree_of}
use Rattle.pw_store.specs.inner.Records.{IsForeign, entry_as}
use Rattle.pw_store.specs.declared.forms.Form.{Form}
use Rattle.pw_store.specs.declared.forms.Form.TheVariants.{Record, Withdrawal}
use Rattle.pw_schema.specs.declared.kind.RecordKind.{RecordKind}
use Rattle.pw_schema.specs.declared.kind.RecordKind.TheVariants.{Readings, Assignments, TopUps, WithdrawnReadings, WithdrawnAssignments, WithdrawnTopUps}
use Rattle.pw_schema.specs.declared.kind.StoreVersion.TheVariants.{Third}
use Rattle.pw_schema.specs.Rows.{ReadsRows, withdrawal}
use Rattle.pw_store.proofs.Finding.{name_of}
use Rattle.pw_store.proofs.OfKinds.{some_kind}
use Rattle.pw_store.proofs.Telling.{nothing_told}

pub entry_is : (e : Entry) (k : Key) (c : Content) → e.key ≡ k → e.content ≡ c → e ≡ record { key = k; content = c }
entry_is e k c a b = λ i. record { key = a i; content = b i }

-- an entry that a row tells has a form
abbrev HasForm : Entry → Type 0
HasForm e = (form : Form) × ((n : Named) × (e ≡ entry_as form n))

form_in : (k : RecordKind) (r : Row) → HasForm (entry_in k r)
form_in Readings r = (Record, (name_of (entry_in Readings r).key (entry_in Readings r).content, refl))
form_in Assignments r = (Record, (name_of (entry_in Assignments r).key (entry_in Assignments r).content, refl))
form_in TopUps r = (Record, (name_of (entry_in TopUps r).key (entry_in TopUps r).content, refl))
form_in WithdrawnReadings r = (Withdrawal, (name_of (entry_in WithdrawnReadings r).key (entry_in WithdrawnReadings r).content, refl))
form_in WithdrawnAssignments r = (Withdrawal, (name_of (entry_in WithdrawnAssignments r).key (entry_in WithdrawnAssignments r).content, refl))
form_in WithdrawnTopUps r = (Withdrawal, (name_of (entry_in WithdrawnTopUps r).key (entry_in WithdrawnTopUps r).content, refl))

of_rows : (f : Row → Entry) → ((r : Row) → HasForm (f r)) → (rows : List Row) (e : Entry) → Member e (map f rows) → HasForm e
of_rows f one [] e m = absurd m
of_rows f one (r ∷ rows) e (inl i) = subst HasForm (sym i) (one r)
of_rows f one (r ∷ rows) e (inr m) = of_rows f one rows e m

held_form : (db : Trees) (e : Entry) → Member e (records_of db) → HasForm e
held_form db e m = let it = some_kind (kinds_of Third) db e m in of_rows (entry_in it.0) (form_in it.0) (db (tree_of it.0)) e it.1.1

-- so what has none isn't held
pub no_foreign : (db : Trees) (e : Entry) → IsForeign e → (IsTrue false ↔ Member e (records_of db))
no_foreign db e foreign = (
  λ f. absurd (let bad : false ≡ true = f in cc),
  λ held. (let it = held_form db e held in absurd (foreign it.0 it.1.0 it.1.1)),
)

-- ---- which records are withdrawn
-- a record has no withdrawal's key
never_named : (m n : Named) → (named_entry m).key ≡ key.Withdrawal n → ⊥
never_named (named.Reading a r t w) n is = cc
never_named (named.Assignment a t o) n is = cc
never_named (named.TopUp r a c t) n is = cc

-- a withdrawal that is held has the content of one
pub held_withdrawal : (db : Trees) (e : Entry) (n : Named) → e.key ≡ key.Withdrawal n → Member e (records_of db) → e ≡ withdrawal n
held_withdrawal db e n is held = let it = held_form db e held in by it.0 it.1.0 it.1.1
  where
    by : (form : Form) (m : Named) → e ≡ entry_as form m → e ≡ withdrawal n
    by Record m i = absurd (never_named m n (sym (ap (λ (x : Entry). x.key) i) ∙ is))
    by Withdrawal m i =
        let keys : key.Withdrawal m ≡ key.Withdrawal n = sym (ap (λ (x : Entry). x.key) i) ∙ is in
        let same : m ≡ n = cc in
        i ∙ ap withdrawal same

named_back : (n : Named) → named_of (named_entry n).key (named_entry n).content ≡ Some n
named_back (named.Reading m r t w) = refl
named_back (named.Assignment m t o) = refl
named_back (named.TopUp r a c t) = refl

named_one : (m n : Named) → named_entry m ≡ named_entry n → m ≡ n
named_one m n e =
    let same : Some m ≡ Some n = sym (named_back m) ∙ ap (λ (x : Entry). named_of x.key x.content) e ∙ named_back n in cc

withdraws_named : (n : Named) (k : Key) → withdraws (named_entry n) k ≡ true → k ≡ key.Withdrawal n
withdraws_named n (key.Reading m r t) w = absurd (true≢false (sym w))
withdraws_named n (key.Assignment m t) w = absurd (true≢false (sym w))
withdraws_named n (key.TopUp r) w = absurd (true≢false (sym w))
withdraws_named n (key.Withdrawal m) w = ap (λ x. key.Withdrawal x) (named_one m n ((same_entry-decides (named_entry m) (named_entry n)).0 w))

-- a record is withdrawn where the withdrawal that names it is held
pub withdrawn_held : (db : Trees) (n : Named) → is_withdrawn (records_of db) (named_entry n) ≡ true → Member (withdrawal n) (records_of db)
withdrawn_held db n w =
    let by = withdrawn-to (records_of db) (named_entry n) w in
    let is = held_withdrawal db by.0 n (withdraws_named n by.0.key by.1.1) by.1.0 in
    subst (λ e. Member e (records_of db)) is by.1.0

pub held_withdrawn : (db : Trees) (n : Named) → Member (withdrawal n) (records_of db) → is_withdrawn (records_of db) (named_entry n) ≡ true
held_withdrawn db n held = withdrawn-back (records_of db) (named_entry n) (withdrawal n) held ((same_entry-decides (named_entry n) (named_entry n)).1 refl)

-- no withdrawal is withdrawn
never_withdrawn : (n : Named) (k : Key) → withdraws (withdrawal n) k ≡ true → ⊥
never_withdrawn n (key.Reading m r t) w = true≢false (sym w)
never_withdrawn n (key.Assignment m t) w = true≢false (sym w)
never_withdrawn n (key.TopUp r) w = true≢false (sym w)
never_withdrawn n (key.Withdrawal m) w = never_named m n (ap (λ (x : Entry). x.key) ((same_entry-decides (named_entry m) (withdrawal n)).0 w))

withdrawal_stands : (db : Trees) (n : Named) → Member (withdrawal n) (records_of db) → Member (withdrawal n) (standing (records_of db))
withdrawal_stands db n held = elim (cases_Bool (is_withdrawn (records_of db) (withdrawal n))) [
  | inr stands ↦ standing-member (records_of db) (withdrawal n) held stands
  | inl gone ↦ absurd (let by = withdrawn-to (records_of db) (withdrawal n) gone in never_withdrawn n by.0.key by.1.1)
]

-- so one content is told of its key, or nothing
pub withdrawal_told : (db : Trees) (k : Key) (n : Named) (held : Bool) → k ≡ key.Withdrawal n → (IsTrue held ↔ Member (withdrawal n) (records_of db)) → cond held (One content.Withdrawal) Nothing ≡ contents_at (records_of db) k
withdrawal_told db k n true is both =
    let s = standing (records_of db) in
    let here = withdrawal_stands db n (both.0 refl) in
    subst (λ j. One content.Withdrawal ≡ contents_at (records_of db) j) (sym is)
    (tells-one s s (key.Withdrawal n) (One content.Withdrawal) (contents_at (records_of db) (key.Withdrawal n)) (λ x. (λ m. m, λ m. m))
    (here, λ d m. ap (λ (e : Entry). e.content) (held_withdrawal db (record { key = key.Withdrawal n; content = d }) n refl (standing-part (records_of db) _ m)))
    (tells (records_of db) (key.Withdrawal n)))
withdrawal_told db k n false is both =
    subst (λ j. Nothing ≡ contents_at (records_of db) j) (sym is)
    (nothing_told (records_of db) (key.Withdrawal n) (λ c m. (let bad : false ≡ true = both.1 (subst (λ e. Member e (records_of db)) (held_withdrawal db _ n refl m) m) in cc)))

pub records_same : (old new : State) → IsUnchanged old new → records_of new.now.trees ≡ records_of old.now.trees
records_same old new u = ap (λ (d : Database). records_of d.trees) u.0.now_is

-- what was found behind a statement that changes nothing
pub found_moved : (r : Result Bool Error) (old mid : State) (e f : Entry) → IsUnchanged old mid → e ≡ f
    → IfOk r (λ b. IsTrue b ↔ Member f (records_of mid.now.trees)) → IfOk r (λ b. IsTrue b ↔ Member e (records_of old.now.trees))
found_moved (Err fault) old mid e f same is h = tt
found_moved (Ok b) old mid e f same is h =
    subst (λ xs. IsTrue b ↔ Member e xs) (records_same old mid same) (subst (λ x. IsTrue b ↔ Member x (records_of mid.now.trees)) (sym is) h)

-- the list that rows give
pub read_if : {Z F : Type 0} (kind : RecordKind) (rows shown : List Row) (r : Result (Vec Entry Z) F) (Gives : List Entry → List Entry → Type 0) (before after : List Entry) → shown ≡ rows → after ≡ before
    → ((found : List Entry) → ReadsRows kind rows found → Gives after found) → IfOk r (λ found. ReadsRows kind shown found.items) → IfOk r (λ found. Gives before found.items)
read_if kind rows shown (Err f) Gives before after is same gives h = tt
read_if kind rows shown (Ok v) Gives before after is same gives h = subst (λ records. Gives records v.items) same (gives v.items (subst (λ rs. ReadsRows kind rs v.items) is h))
