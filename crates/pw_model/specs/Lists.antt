-- Falls, disputes and the readings of a register, each as the one list in its order.
-- (Definitions of this project.)
use Rattle.std.specs.Prelude.{◌≡◌, ℕ, ◌<◌, ◌≤◌, IsTrue, cond, List, [], ◌∷◌, ◌↔◌}
use Rattle.std.specs.Cmp.Lexicographic.{slice_cmp}
use Rattle.std.specs.Ordering.{nat_cmp}
use Rattle.std.specs.declared.cmp.Ordering.{Ordering}
use Rattle.std.specs.declared.cmp.Ordering.TheVariants.{Less}
use Rattle.pw_obis.specs.declared.reference.Register.{Register}
use Rattle.pw_flow.specs.Flow.{AreNeighbours}
use Rattle.pw_model.specs.declared.records.Key.{Key}
use Rattle.pw_model.specs.declared.records.Content.TheVariants as content
use Rattle.pw_model.specs.declared.records.Contents.{Contents}
use Rattle.pw_model.specs.declared.records.Entry.{Entry}
use Rattle.pw_model.specs.declared.records.Fall.{Fall}
use Rattle.pw_model.specs.declared.records.Dispute.{Dispute}
use Rattle.pw_model.specs.declared.records.ReadingRow.{ReadingRow}
use Rattle.pw_tariff.specs.Office.{register_place}
use Rattle.pw_model.specs.Same.{same_key, same_entry, key_order}
use Rattle.pw_model.specs.Counting.{Member, is_withdrawn, standing, Counts, contents_at, point, reading_key}
use Rattle.pw_model.specs.Payments.{sum_once}

-- x stands before all of a list
abbrev pub IsBeforeAll : {X : Type 0} → (X → X → Ordering) → X → List X → Type 0
IsBeforeAll order x [] = Unit {0}
IsBeforeAll order x (y ∷ ys) = (order x y ≡ Less) × IsBeforeAll order x ys

-- each stands before all behind it
abbrev pub IsInOrder : {X : Type 0} → (X → X → Ordering) → List X → Type 0
IsInOrder order [] = Unit {0}
IsInOrder order (x ∷ xs) = IsBeforeAll order x xs × IsInOrder order xs

-- the list of all that P holds of, in order
pub record Lists {X : Type 0} (order : X → X → Ordering) (P : X → Type 0) (xs : List X) : Type 0 where
  pub rising : IsInOrder order xs
  pub members : (x : X) → Member x xs ↔ P x

-- ---- falls
-- neighbours of which the later has the lower value
pub record IsFall (at : Key → Contents) (f : Fall) : Type 0 where
  pub neighbours : AreNeighbours (point at f.meter.0 f.register) f.from f.high f.to f.low
  pub lower : f.low < f.high

-- by meter, register, instant, and by the rest where that would agree
unfoldable pub fall_numbers : Fall → List ℕ
fall_numbers f = f.meter.0 ∷ register_place f.register ∷ f.from ∷ f.high ∷ f.to ∷ f.low ∷ []

abbrev pub fall_order : Fall → Fall → Ordering
fall_order f g = slice_cmp nat_cmp (fall_numbers f) (fall_numbers g)

abbrev pub AreFalls : List Entry → List Fall → Type 0
AreFalls s = Lists fall_order (IsFall (contents_at s))

-- ---- disputes
-- how many records that stand have a key, each counted once
unfoldable pub records_at : List Entry → Key → ℕ
records_at s k = sum_once same_entry (λ e. cond (same_key e.key k) 1 0) (standing s)

-- two or more records that stand have the key
pub record IsDispute (s : List Entry) (d : Dispute) : Type 0 where
  pub several : 2 ≤ d.contents
  pub number : d.contents ≡ records_at s d.key

-- readings first, then assignments, then top-ups; each by its key
abbrev pub dispute_order : Dispute → Dispute → Ordering
dispute_order d e = key_order d.key e.key

abbrev pub AreDisputes : List Entry → List Dispute → Type 0
AreDisputes s = Lists dispute_order (IsDispute s)

-- ---- the readings of a register
abbrev pub reading_entry : ℕ → Register → ℕ → ℕ → Entry
reading_entry m r t w = record { key = reading_key m r t; content = content.Reading w }

-- a reading that is held, marked where it counts and where it is withdrawn
pub record IsReading (s : List Entry) (m : ℕ) (r : Register) (row : ReadingRow) : Type 0 where
  pub held : Member (reading_entry m r row.instant row.wh) s
  pub counted : IsTrue row.counted ↔ Counts s (reading_entry m r row.instant row.wh)
  pub withdrawn : row.withdrawn ≡ is_withdrawn s (reading_entry m r row.instant row.wh)

-- by instant, then by Wh
unfoldable pub reading_numbers : ReadingRow → List ℕ
reading_numbers row = row.instant ∷ row.wh ∷ []

abbrev pub reading_order : ReadingRow → ReadingRow → Ordering
reading_order a b = slice_cmp nat_cmp (reading_numbers a) (reading_numbers b)

abbrev pub AreReadings : List Entry → ℕ → Register → List ReadingRow → Type 0
AreReadings s m r = Lists reading_order (IsReading s m r)

-- ---- how many records are held, each counted once
unfoldable pub record_count : List Entry → ℕ
record_count s = sum_once same_entry (λ e. 1) s
