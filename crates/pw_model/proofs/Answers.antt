-- Two lists of one set give the same answers.
use Rattle.std.proofs.Common.{◌≡◌, ℕ, ◌*◌, cond, Option, Some, List, [], ◌∷◌, refl, ap, sym, subst, ◌∙◌, inl, inr, ◌↔◌, pos, ◌+ℤ◌, ◌-ℤ◌, length, arith}
use Rattle.std.proofs.lemmas.Bool.{cases_Bool}
use Rattle.pw_tariff.specs.declared.ids.AccountId.{AccountId}
use Rattle.pw_tariff.specs.declared.ids.Direction.{Direction}
use Rattle.pw_tariff.specs.declared.ids.Direction.TheVariants.{Import, Export}
use Rattle.pw_model.specs.declared.records.Key.{Key}
use Rattle.pw_model.specs.declared.records.Contents.{Contents}
use Rattle.pw_model.specs.declared.records.Entry.{Entry}
use Rattle.pw_model.specs.declared.records.Fall.{Fall}
use Rattle.pw_model.specs.declared.records.Dispute.{Dispute}
use Rattle.pw_model.specs.declared.records.ReadingRow.{ReadingRow}
use Rattle.pw_obis.specs.declared.reference.Register.{Register}
use Rattle.pw_model.specs.Same.{same_key, same_entry, key_numbers}
use Rattle.pw_model.specs.Counting.{Member, SameMembers, EachOnce, Counts, standing, contents_at}
use Rattle.pw_tariff.specs.Office.{OfficeRules}
use Rattle.pw_model.specs.Energy.{energy, energy_in_period, energy_where, of_band, of_class, cost}
use Rattle.pw_model.specs.Payments.{stands_in, sum_once, keys, cents_for, topped_up, balance, nano_in_cent}
use Rattle.pw_model.specs.Kinds.{IsAssignment, IsTopUp, IsWithdrawal, ListsHeld}
use Rattle.pw_model.specs.Lists.{Lists, IsFall, IsDispute, IsReading, fall_numbers, fall_order, dispute_order, reading_numbers, reading_order, reading_entry, records_at, record_count, AreFalls, AreDisputes, AreReadings}
use Rattle.pw_model.specs.Laws.{OrderCountsNothing, CountIsLength, ListsAreAtMostOne}
use Rattle.pw_model.proofs.Same.{same_key-decides, same_entry-decides}
use Rattle.pw_model.proofs.Counting.{contents-same, standing-same, withdrawn-same}
use Rattle.pw_model.proofs.Once.{once-same, stands-decides}
use Rattle.pw_model.proofs.InOrder.{by-numbers, lists-one}

-- a key of the list is the key of a member
pub key-to : (k : Key) (s : List Entry) → Member k (keys s) → (e : Entry) × (Member e s × (e.key ≡ k))
key-to k [] m = absurd m
key-to k (e ∷ s) m = elim m [ inl i ↦ (e, (inl refl, sym i)) | inr j ↦ (let r : (e : Entry) × (Member e s × (e.key ≡ k)) = key-to k s j in (r.0, (inr r.1.0, r.1.1))) ]

pub key-back : (e : Entry) (s : List Entry) → Member e s → Member e.key (keys s)
key-back e [] m = absurd m
key-back e (f ∷ s) m = elim m [ inl i ↦ inl (ap (λ (x : Entry). x.key) i) | inr j ↦ inr (key-back e s j) ]

keys-half : (s t : List Entry) → SameMembers s t → (k : Key) → Member k (keys s) → Member k (keys t)
keys-half s t h k m =
    let r : (e : Entry) × (Member e s × (e.key ≡ k)) = key-to k s m in
    let P : Key → Type 0 = λ l. Member l (keys t) in
    subst P r.1.1 (key-back r.0 t ((h r.0).0 r.1.0))

pub keys-same : (s t : List Entry) → SameMembers s t → SameMembers (keys s) (keys t)
keys-same s t h k = (keys-half s t h k, keys-half t s (λ e. ((h e).1, (h e).0)) k)

pub energy-same : (office : OfficeRules) (s t : List Entry) → SameMembers s t → (o : Option AccountId) (b : ℕ) (d : Direction) → energy office s o b d ≡ energy office t o b d
energy-same office s t h o b d = ap (λ (at : Key → Contents). energy_where office at d (of_band office o b)) (contents-same s t h)

pub period-same : (office : OfficeRules) (s t : List Entry) → SameMembers s t → (o : Option AccountId) (p b : ℕ) (d : Direction) → energy_in_period office s o p b d ≡ energy_in_period office t o p b d
period-same office s t h o p b d = ap (λ (at : Key → Contents). energy_where office at d (of_class office o p b)) (contents-same s t h)

cost-same : (office : OfficeRules) (s t : List Entry) → SameMembers s t → (o : Option AccountId) (d : Direction) → cost office (contents_at s) o d ≡ cost office (contents_at t) o d
cost-same office s t h o d = ap (λ (at : Key → Contents). cost office at o d) (contents-same s t h)

pub topped-same : (s t : List Entry) → SameMembers s t → (a : ℕ) → topped_up s a ≡ topped_up t a
unfolding topped_up
topped-same s t h a =
    ap (λ (at : Key → Contents). sum_once same_key (λ k. cents_for a (at k)) (keys s)) (contents-same s t h)
    ∙ once-same same_key same_key-decides (λ k. cents_for a (contents_at t k)) (keys s) (keys t) (keys-same s t h)

balance-same : (office : OfficeRules) (s t : List Entry) → SameMembers s t → (a : ℕ) → balance office s a ≡ balance office t a
balance-same office s t h a =
    let o : Option AccountId = Some (record { 0 = a }) in
    ap (λ (n : ℕ). (pos (nano_in_cent * n) -ℤ pos (cost office (contents_at s) o Import)) +ℤ pos (cost office (contents_at s) o Export)) (topped-same s t h a)
    ∙ ap (λ (n : ℕ). (pos (nano_in_cent * topped_up t a) -ℤ pos n) +ℤ pos (cost office (contents_at s) o Export)) (cost-same office s t h o Import)
    ∙ ap (λ (n : ℕ). (pos (nano_in_cent * topped_up t a) -ℤ pos (cost office (contents_at t) o Import)) +ℤ pos n) (cost-same office s t h o Export)

records-same : (s t : List Entry) → SameMembers s t → (k : Key) → records_at s k ≡ records_at t k
unfolding records_at
records-same s t h k = once-same same_entry same_entry-decides (λ e. cond (same_key e.key k) 1 0) (standing s) (standing t) (standing-same s t h)

-- those with the key are counted among those that stand
pub records-standing : (s : List Entry) (k : Key) → records_at s k ≡ sum_once same_entry (λ e. cond (same_key e.key k) 1 0) (standing s)
unfolding records_at
records-standing s k = refl

-- where all records stand, all with the key are counted
pub records-all : (s : List Entry) (k : Key) → standing s ≡ s → records_at s k ≡ sum_once same_entry (λ e. cond (same_key e.key k) 1 0) s
records-all s k all = records-standing s k ∙ ap (sum_once same_entry (λ e. cond (same_key e.key k) 1 0)) all

count-same : (s t : List Entry) → SameMembers s t → record_count s ≡ record_count t
unfolding record_count
count-same s t h = once-same same_entry same_entry-decides (λ e. 1) s t h

falls-half : (s t : List Entry) → SameMembers s t → (fs : List Fall) → AreFalls s fs → AreFalls t fs
falls-half s t h fs a =
    let P : (Key → Contents) → Type 0 = λ at. Lists fall_order (IsFall at) fs in
    subst P (contents-same s t h) a

members-back : (s t : List Entry) → SameMembers s t → SameMembers t s
members-back s t h x = ((h x).1, (h x).0)

dispute-half : (s t : List Entry) → SameMembers s t → (d : Dispute) → IsDispute s d → IsDispute t d
dispute-half s t h d x = record { several = x.several; number = x.number ∙ records-same s t h d.key }

disputes-half : (s t : List Entry) → SameMembers s t → (ds : List Dispute) → AreDisputes s ds → AreDisputes t ds
disputes-half s t h ds a = record {
  rising = a.rising;
  members = λ d. (λ m. dispute-half s t h d ((a.members d).0 m), λ x. (a.members d).1 (dispute-half t s (members-back s t h) d x));
}

pub counts-half : (s t : List Entry) → SameMembers s t → (e : Entry) → Counts s e → Counts t e
counts-half s t h e c = let g = standing-same s t h in ((g e).0 c.0, λ f m i. c.1 f ((g f).1 m) i, c.2)

reading-half : (s t : List Entry) → SameMembers s t → (m : ℕ) (r : Register) (row : ReadingRow) → IsReading s m r row → IsReading t m r row
reading-half s t h m r row x = record {
  held = (h (reading_entry m r row.instant row.wh)).0 x.held;
  counted = (
    λ c. counts-half s t h (reading_entry m r row.instant row.wh) (x.counted.0 c),
    λ c. x.counted.1 (counts-half t s (members-back s t h) (reading_entry m r row.instant row.wh) c),
  );
  withdrawn = x.withdrawn ∙ withdrawn-same s t (reading_entry m r row.instant row.wh) h;
}

readings-half : (s t : List Entry) → SameMembers s t → (m : ℕ) (r : Register) (rows : List ReadingRow) → AreReadings s m r rows → AreReadings t m r rows
readings-half s t h m r rows a = record {
  rising = a.rising;
  members = λ row. (λ k. reading-half s t h m r row ((a.members row).0 k), λ x. (a.members row).1 (reading-half t s (members-back s t h) m r row x));
}

held-half : (Of : Key → Type 0) (s t found : List Entry) → SameMembers s t → ListsHeld Of s found → ListsHeld Of t found
held-half Of s t found h a = record {
  rising = a.rising;
  members = λ e. (
    λ m. (let q = (a.members e).0 m in ((h e).0 q.0, q.1)),
    λ p. (a.members e).1 ((h e).1 p.0, p.1),
  );
}

-- the lists of a kind, both ways
helds-same : (Of : Key → Type 0) (s t : List Entry) → SameMembers s t → (found : List Entry) → ListsHeld Of s found ↔ ListsHeld Of t found
helds-same Of s t h found = (held-half Of s t found h, held-half Of t s found (members-back s t h))

pub order_counts_nothing : OrderCountsNothing
order_counts_nothing office s t h = record {
  contents = contents-same s t h;
  count = count-same s t h;
  energies = energy-same office s t h;
  in_periods = period-same office s t h;
  topped = topped-same s t h;
  balances = balance-same office s t h;
  falls = λ fs. (falls-half s t h fs, falls-half t s (members-back s t h) fs);
  disputes = λ ds. (disputes-half s t h ds, disputes-half t s (members-back s t h) ds);
  readings = λ m r rows. (readings-half s t h m r rows, readings-half t s (members-back s t h) m r rows);
  assignments = helds-same IsAssignment s t h;
  topups = helds-same IsTopUp s t h;
  withdrawals = helds-same IsWithdrawal s t h;
}

-- ---- one list at most
same-both : {X : Type 0} (P : X → Type 0) (x : X) → P x ↔ P x
same-both P x = (λ h. h, λ h. h)

pub lists-are_at_most_one : ListsAreAtMostOne
lists-are_at_most_one s = record {
  falls = λ fs gs a b. lists-one fall_order (by-numbers fall_numbers) (IsFall (contents_at s)) (IsFall (contents_at s)) (same-both (IsFall (contents_at s))) fs gs a b;
  disputes = λ ds es a b. lists-one dispute_order (by-numbers (λ (d : Dispute). key_numbers d.key)) (IsDispute s) (IsDispute s) (same-both (IsDispute s)) ds es a b;
  readings = λ m r x y a b. lists-one reading_order (by-numbers reading_numbers) (IsReading s m r) (IsReading s m r) (same-both (IsReading s m r)) x y a b;
}

-- ---- each once
count-length : (s : List Entry) → EachOnce s → sum_once same_entry (λ e. 1) s ≡ length s
count-length [] h = refl
count-length (e ∷ s) h =
    elim (cases_Bool (stands_in same_entry e s)) [
      | inl t ↦ absurd (h.0 ((stands-decides same_entry same_entry-decides (λ x. 1) e s).0 t))
      | inr f ↦ (let r : sum_once same_entry (λ x. 1) s ≡ length s = count-length s h.1 in rw f (omega arith))
    ]

pub count-is_length : CountIsLength
unfolding record_count
count-is_length s h = count-length s h
