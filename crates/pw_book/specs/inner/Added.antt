-- An entry that was added, and what follows of it. It serves `src/settling.rt` and `src/upload.rt`.
-- (Definitions of this project.)
use Rattle.std.specs.Prelude.{◌≡◌, ℕ, ◌+◌, ◌*◌, ◌<◌, ◌≤◌, ◌⊎◌, true, Option, Some, None, List, [], ◌∷◌, ◌++◌, length}
use Rattle.std.specs.BTreeMap.{BTreeMap}
use Rattle.pw_obis.specs.declared.reference.Register.{Register}
use Rattle.pw_tariff.specs.declared.ids.AccountId.{AccountId}
use Rattle.pw_tariff.specs.declared.ids.Direction.TheVariants.{Import, Export}
use Rattle.pw_tariff.specs.Office.{OfficeRules}
use Rattle.pw_model.specs.declared.records.Key.{Key}
use Rattle.pw_model.specs.declared.records.Key.TheVariants as key
use Rattle.pw_model.specs.declared.records.Content.{Content}
use Rattle.pw_model.specs.declared.records.Content.TheVariants as content
use Rattle.pw_model.specs.declared.records.Contents.{Contents}
use Rattle.pw_model.specs.declared.records.Contents.TheVariants.{One}
use Rattle.pw_model.specs.declared.records.Entry.{Entry}
use Rattle.pw_model.specs.declared.records.TotalKey.{TotalKey}
use Rattle.pw_model.specs.declared.records.TotalKey.TheVariants.{TopUps}
use Rattle.pw_model.specs.Bearing.{bears_on}
use Rattle.pw_model.specs.Counting.{Member, SameMembers, assignment_key, contents_at, point, reading_key, start}
use Rattle.pw_model.specs.Energy.{over_registers}
use Rattle.pw_model.specs.Lists.{record_count}
use Rattle.pw_model.specs.Office.{AllOfOffice, most_records}
use Rattle.pw_model.specs.Payments.{cents_for, topped_up}
use Rattle.pw_model.specs.Shelf.{IsTrueContent, ShelfContent, total_among}
use Rattle.pw_book.specs.Cost.{AreAssignmentsWith, AreReadingsWith, AreTopUps, HasPoints, HasStarts, IsAssignmentUpToNext, classes_of}
use Rattle.pw_book.specs.Posting.{IsWithUpload}
use Rattle.pw_parts.specs.declared.changes.Change.{Change}
use Rattle.pw_book.specs.inner.Fresh.{AreFresh}
use Rattle.pw_book.specs.inner.Gathered.{IsTrueBut}
use Rattle.pw_book.specs.inner.Moves.{MovesTotals}
use Rattle.pw_book.specs.inner.Settling.{HavePoints}

-- ---- one key changed
-- points, starts and totals are those of a list of records
pub record IsTrueOf (office : OfficeRules) (s : List Entry) (c : ShelfContent) : Type 0 where
  pub points : c.point ≡ point (contents_at s)
  pub starts : c.start ≡ start (contents_at s)
  pub totals : (k : TotalKey) → c.total k ≡ total_among office s k

-- a key that an entry of the office may have
abbrev pub IsKeyOf : OfficeRules → Key → Type 0
IsKeyOf office (key.Reading m r t) = (m.0 < office.meters) × (office.counts m.0 r ≡ true)
IsKeyOf office (key.Assignment m t) = m.0 < office.meters
IsKeyOf office (key.TopUp r) = Unit {0}
IsKeyOf office (key.Withdrawal n) = Unit {0}

-- from a list of records to those that are held: at a key this was told and that is; no content takes the place of another
-- at once, elsewhere the same counts, and top-ups follow what is told
pub record IsJustChanged (office : OfficeRules) (s : List Entry) (k : Key) (before behind : Contents) (held : List Entry) : Type 0 where
  pub was : before ≡ contents_at s k
  pub is : behind ≡ contents_at held k
  pub alike : (x y : Content) → before ≡ One x → behind ≡ One y → x ≡ y
  pub points : (m : ℕ) (r : Register) (t : ℕ) → (reading_key m r t ≡ k → ⊥) → point (contents_at s) m r t ≡ point (contents_at held) m r t
  pub starts : (m t : ℕ) → (assignment_key m t ≡ k → ⊥) → start (contents_at s) m t ≡ start (contents_at held) m t
  pub paid : (a : ℕ) → topped_up held a + cents_for a before ≡ topped_up s a + cents_for a behind
  pub small : AllOfOffice office s
  pub fewer : length s ≤ most_records
  pub of_office : AllOfOffice office held
  pub few : length held ≤ most_records

-- all is true again, of the same records
pub record IsTrueAgain (office : OfficeRules) (old new : ShelfContent) : Type 0 where
  pub truth : IsTrueContent office new
  pub records : new.records ≡ old.records

-- the account and the cents of the top-up that counts
abbrev pub paid_of : Contents → Option (AccountId × ℕ)
paid_of (One (content.TopUp a c t)) = Some (a, c)
paid_of _ = None

-- the total that follows where this top-up counted and that one does
abbrev pub IsPaid : Option (AccountId × ℕ) → Option (AccountId × ℕ) → ShelfContent → ShelfContent → Type 0
IsPaid None (Some b) old new = MovesTotals (λ k. k ≡ TopUps b.0) (λ k. b.1) (λ k. 0) old new
IsPaid (Some b) None old new = MovesTotals (λ k. k ≡ TopUps b.0) (λ k. 0) (λ k. b.1) old new
IsPaid None None old new = new ≡ old
IsPaid (Some b) (Some d) old new = new ≡ old

-- the records with an entry, and all that follows, but for what is gathered
pub record IsPut (office : OfficeRules) (rows : BTreeMap TotalKey Change) (entries : List Entry) (old new : ShelfContent) : Type 0 where
  pub records : SameMembers new.records (old.records ++ entries)
  pub truth : IsTrueBut office rows new.records new

-- ---- how many calls and rows an entry takes, beside so many
abbrev pub TakesAtMost : ℕ → OfficeRules → ShelfContent → Key → ℕ → ℕ → Type 0
TakesAtMost beside office c (key.Reading m r t) old new = (starts : ℕ) → HasStarts c m.0 starts → new ≤ old + beside + (6 + starts) + 6 * classes_of office
TakesAtMost beside office c (key.Assignment m t) old new = (starts : ℕ) (points : Register → ℕ) → HasStarts c m.0 starts → HavePoints c m.0 t points →
    new ≤ old + beside + (32 + starts) + (over_registers Import points + over_registers Export points) + 6 * classes_of office
TakesAtMost beside office c (key.TopUp r) old new = new ≤ old + beside + 3
TakesAtMost beside office c (key.Withdrawal n) old new = new ≤ old + beside

-- points and starts are as before, but for the one of this key
abbrev pub ChangesOneKey : Key → ShelfContent → ShelfContent → Type 0
ChangesOneKey (key.Reading m r t) old new =
    (new.start ≡ old.start) × ((n : ℕ) (q : Register) (s : ℕ) → ((n ≡ m.0) × (q ≡ r) × (s ≡ t) → ⊥) → new.point n q s ≡ old.point n q s)
ChangesOneKey (key.Assignment m t) old new = (new.point ≡ old.point) × ((n s : ℕ) → ((n ≡ m.0) × (s ≡ t) → ⊥) → new.start n s ≡ old.start n s)
ChangesOneKey (key.TopUp r) old new = (new.point ≡ old.point) × (new.start ≡ old.start)
ChangesOneKey (key.Withdrawal n) old new = (new.point ≡ old.point) × (new.start ≡ old.start)

-- ---- an upload within a call
-- entries that are fresh, and for which there is room beside the records of a true content, all of the office
pub record MayBeAdded (office : OfficeRules) (entries : List Entry) (c : ShelfContent) : Type 0 where
  pub fresh : AreFresh c.records entries
  pub room : record_count (c.records ++ entries) ≤ most_records
  pub truth : IsTrueContent office c
  pub held : AllOfOffice office c.records

-- what could be left before, or the content with the whole upload
abbrev pub LeavesWithUpload : OfficeRules → List Entry → ShelfContent → (ShelfContent → Type 0) → (ShelfContent → Type 0) → Type 0
LeavesWithUpload office entries content old new = (c : ShelfContent) → new c → old c ⊎ IsWithUpload office entries content c

-- so many calls and rows are enough for an entry that bears on this key, though its meter may get so many starts and points
-- more
abbrev pub IsEnoughFor : OfficeRules → ShelfContent → ℕ → ℕ → Key → Type 0
IsEnoughFor office c more most (key.Reading m r t) = (starts : ℕ) × HasStarts c m.0 starts × (13 + starts + more + 6 * classes_of office ≤ most)
IsEnoughFor office c more most (key.Assignment m t) =
    (starts : ℕ) × (points : ℕ) × HasStarts c m.0 starts × HasPoints (λ t. Unit {0}) c m.0 points × (39 + starts + points + 2 * more + 6 * classes_of office ≤ most)
IsEnoughFor office c more most _ = 10 ≤ most

-- so they are for each of the entries
abbrev pub AreEnoughFor : OfficeRules → ShelfContent → ℕ → ℕ → List Entry → Type 0
AreEnoughFor office c more most entries = (e : Entry) → Member e entries → IsEnoughFor office c more most (bears_on e)

-- how many calls and rows the entries of an upload take, each added and settled, beside so many
pub record CostsAtMost (beside : ℕ) (office : OfficeRules) (entries : List Entry) (c : ShelfContent) (old new : ℕ) : Type 0 where
  pub readings : (starts : ℕ) → AreReadingsWith c starts entries → new ≤ old + beside + length entries * (13 + starts + 6 * classes_of office)
  pub assignment : (e : Entry) (starts points : ℕ) → entries ≡ e ∷ [] → IsAssignmentUpToNext c starts points (bears_on e) →
      new ≤ old + beside + (39 + starts + points + 6 * classes_of office)
  pub assignments : (starts points : ℕ) → AreAssignmentsWith c starts points entries →
      new ≤ old + beside + length entries * (39 + (starts + length entries) + points + 6 * classes_of office)
  pub several : (most : ℕ) → AreEnoughFor office c (length entries) most entries → new ≤ old + beside + length entries * most
  pub top_ups : AreTopUps entries → new ≤ old + beside + length entries * 10
  pub nothing : entries ≡ [] → new ≤ old + beside
