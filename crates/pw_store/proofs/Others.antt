-- What a change of one table leaves of the others.
use Rattle.std.proofs.Common.{◌≡◌, ◌≢◌, ◌<◌, ◌⊎◌, ℕ, Bool, true, false, cond, List, Option, unwrap_or, refl, sym, subst, ap, ◌∙◌, inl, inr, Decides, arith}
use Rattle.std.proofs.lemmas.Bool.{cases_Bool}
use Rattle.std.specs.Cmp.Lexicographic.{bytes_decides}
use Rattle.std.proofs.lemmas.Bool.Decides.{Decides-like}
use Rattle.std.specs.List.{AllByRecursion}
use Rattle.sqlite.specs.Tree.{Trees}
use Rattle.sqlite.specs.Order.{Row}
use Rattle.sqlite.specs.Term.{Term}
use Rattle.sqlite.specs.Effect.{Database}
use Rattle.sqlite.specs.State.{State, Shows}
use Rattle.pw_obis.specs.declared.reference.Register.{Register}
use Rattle.pw_tariff.specs.declared.ids.AccountId.{AccountId}
use Rattle.pw_tariff.specs.declared.ids.BandId.{BandId}
use Rattle.pw_tariff.specs.declared.ids.Direction.{Direction}
use Rattle.pw_tariff.specs.declared.ids.PeriodId.{PeriodId}
use Rattle.pw_model.specs.Same.{total_numbers}
use Rattle.pw_shelf.specs.Changes.{same_total, totals_with, points_with, starts_with, with_point, with_start, with_total}
use Rattle.pw_model.specs.Counting.{EachOnce}
use Rattle.pw_store.specs.Keyed.{AreKeyed, IsEnergyRow, IsPaymentRow}
use Rattle.pw_store.specs.Kept.{IsStore, key_in_point, key_in_start}
use Rattle.pw_model.specs.declared.records.Entry.{Entry}
use Rattle.pw_model.specs.declared.records.TotalKey.{TotalKey}
use Rattle.pw_model.specs.declared.records.TotalKey.TheVariants as total
use Rattle.pw_model.specs.Counting.{IsInserted}
use Rattle.pw_shelf.specs.State.{IsWithRecord}
use Rattle.pw_schema.proofs.TotalKeys.{totals_one}
use Rattle.pw_schema.specs.Tables.{IsOurs, only_one, ours_with}
use Rattle.pw_schema.specs.declared.kind.RecordKind.{RecordKind}
use Rattle.pw_schema.specs.declared.kind.RecordKind.TheVariants.{Readings, Assignments, TopUps, WithdrawnReadings, WithdrawnAssignments, WithdrawnTopUps}
use Rattle.pw_schema.specs.declared.kind.StoreVersion.TheVariants.{Third}
use Rattle.pw_store.specs.Content.{content_of, records_of, kinds_of, tree_of, IsRowOf, energy_in, payment_in, IsReadingRow, IsAssignmentRow, point_in, start_in, total_in, energy_told, payment_told, point_tree, start_tree, total_tree, energy_tree, payment_tree}
use Rattle.pw_store.specs.Waiting.{points_over, with_waiting}
use Rattle.pw_store.specs.declared.waiting.WaitingPoint.{WaitingPoint}
use Rattle.pw_store.specs.inner.Changing.{Makes, StillKeeps}
use Rattle.pw_store.proofs.OfKinds.{same_among}

-- the trees of points, starts and totals are the same
pub record SameSums (old new : Trees) : Type 0 where
  pub point : new point_tree ≡ old point_tree
  pub start : new start_tree ≡ old start_tree
  pub energy : new energy_tree ≡ old energy_tree
  pub payment : new payment_tree ≡ old payment_tree
  pub old_total : new total_tree ≡ old total_tree

-- those of the records are
abbrev pub SameRecords : Trees → Trees → Type 0
SameRecords old new = (k : RecordKind) → new (tree_of k) ≡ old (tree_of k)

pub same_sums : (checks : List Term) (tree : ℕ) (old new : Trees) → (tree < 7) ⊎ ((13 < tree) × (tree < 20)) → AllByRecursion (λ t. t.tree ≢ tree → new t.tree ≡ old t.tree) (ours_with checks).tables → SameSums old new
same_sums checks tree old new low t = record {
  point = t.1.1.1.1.0 (λ e. elim low [ inl l ↦ omega (arith, e, l) | inr h ↦ omega (arith, e, h.0) ]);
  start = t.1.1.1.1.1.0 (λ e. elim low [ inl l ↦ omega (arith, e, l) | inr h ↦ omega (arith, e, h.0) ]);
  energy = t.1.1.1.1.1.1.1.1.1.1.1.0 (λ e. elim low [ inl l ↦ omega (arith, e, l) | inr h ↦ omega (arith, e, h.1) ]);
  payment = t.1.1.1.1.1.1.1.0 (λ e. elim low [ inl l ↦ omega (arith, e, l) | inr h ↦ omega (arith, e, h.0) ]);
  old_total = t.1.1.1.1.1.1.0 (λ e. elim low [ inl l ↦ omega (arith, e, l) | inr h ↦ omega (arith, e, h.0) ]);
}

pub same_totals : (old new : Trees) → new energy_tree ≡ old energy_tree → new payment_tree ≡ old payment_tree → total_in new ≡ total_in old
same_totals old new e y = λ i k. go k i
  where
    go : (k : TotalKey) → total_in new k ≡ total_in old k
    go (total.Energy o p b d) = ap (λ (rows : List Row). unwrap_or (energy_told rows (total.Energy o p b d)) 0) e
    go (total.TopUps a) = ap (λ (rows : List Row). unwrap_or (payment_told rows (total.TopUps a)) 0) y

pub with_record : (e : Entry) (old new : Trees) → IsInserted e (records_of old) (records_of new) → SameSums old new → IsWithRecord (content_of old) e (content_of new)
with_record e old new inserted same = record {
  records = inserted;
  point = ap point_in same.point;
  start = ap start_in same.start;
  total = same_totals old new same.energy same.payment;
}

-- ---- a change of points, starts or totals leaves the records
abbrev pub AreElseSame : List Term → ℕ → Trees → Trees → Type 0
AreElseSame checks tree old new = AllByRecursion (λ t. t.tree ≢ tree → new t.tree ≡ old t.tree) (ours_with checks).tables

-- of records but those at a tree
pub else_same : (checks : List Term) (tree : ℕ) (old new : Trees) → AreElseSame checks tree old new → (k : RecordKind) → (tree_of k ≡ tree → ⊥) → new (tree_of k) ≡ old (tree_of k)
else_same checks tree old new t Readings apart = t.1.0 apart
else_same checks tree old new t Assignments apart = t.1.1.0 apart
else_same checks tree old new t TopUps apart = t.1.1.1.0 apart
else_same checks tree old new t WithdrawnReadings apart = t.1.1.1.1.1.1.1.1.0 apart
else_same checks tree old new t WithdrawnAssignments apart = t.1.1.1.1.1.1.1.1.1.0 apart
else_same checks tree old new t WithdrawnTopUps apart = t.1.1.1.1.1.1.1.1.1.1.0 apart

pub same_records : (checks : List Term) (tree : ℕ) (old new : Trees) → 6 < tree → (tree < 14) ⊎ (18 < tree) → AreElseSame checks tree old new → SameRecords old new
same_records checks tree old new high low t k = else_same checks tree old new t k (λ e. between k e)
  where
    between : (j : RecordKind) → tree_of j ≡ tree → ⊥
    between Readings e = omega (arith, e, high)
    between Assignments e = omega (arith, e, high)
    between TopUps e = omega (arith, e, high)
    between WithdrawnReadings e = elim low [ inl l ↦ omega (arith, e, l) | inr h ↦ omega (arith, e, h) ]
    between WithdrawnAssignments e = elim low [ inl l ↦ omega (arith, e, l) | inr h ↦ omega (arith, e, h) ]
    between WithdrawnTopUps e = elim low [ inl l ↦ omega (arith, e, l) | inr h ↦ omega (arith, e, h) ]

pub records_kept : (old new : Trees) → SameRecords old new → records_of new ≡ records_of old
records_kept old new same = same_among (kinds_of Third) old new (λ k at. same k)

pub store_kept : (old new : Database) → IsOurs new.schema → SameRecords old.trees new.trees → IsStore old
    → AreKeyed IsReadingRow key_in_point (new.trees point_tree) → AreKeyed IsAssignmentRow key_in_start (new.trees start_tree)
    → AreKeyed IsEnergyRow energy_in (new.trees energy_tree) → AreKeyed IsPaymentRow payment_in (new.trees payment_tree) → new.trees total_tree ≡ old.trees total_tree → IsStore new
store_kept old new is same store p s e y none = record {
  ours = is;
  rows = λ k. subst (AllByRecursion (IsRowOf k)) (sym (same k)) (store.rows k);
  once = subst EachOnce (sym (records_kept old.trees new.trees same)) store.once;
  points = p;
  starts = s;
  energies = e;
  payments = y;
  old = none ∙ store.old;
}

-- ---- keys of totals
pub same_total-decides : (k l : TotalKey) → Decides (same_total k l) (k ≡ l)
same_total-decides k l = Decides-like (same_total k l) (totals_one k l) (λ e. ap total_numbers e) (bytes_decides (total_numbers k) (total_numbers l))

pub energy_apart : (o : Option AccountId) (p : PeriodId) (b : BandId) (d : Direction) (a : AccountId) → same_total (total.Energy o p b d) (total.TopUps a) ≡ false
energy_apart o p b d a = elim (cases_Bool (same_total (total.Energy o p b d) (total.TopUps a))) [
  | inl up ↦ absurd (let e = (same_total-decides (total.Energy o p b d) (total.TopUps a)).0 up in cc)
  | inr down ↦ down
]

pub payment_apart : (o : Option AccountId) (p : PeriodId) (b : BandId) (d : Direction) (a : AccountId) → same_total (total.TopUps a) (total.Energy o p b d) ≡ false
payment_apart o p b d a = elim (cases_Bool (same_total (total.TopUps a) (total.Energy o p b d))) [
  | inl up ↦ absurd (let e = (same_total-decides (total.TopUps a) (total.Energy o p b d)).0 up in cc)
  | inr down ↦ down
]

or_none : (c : Bool) (v x : Option ℕ) → unwrap_or (cond c v x) 0 ≡ cond c (unwrap_or v 0) (unwrap_or x 0)
or_none true v x = refl
or_none false v x = refl

pub energies_with : (old new : Trees) (o : Option AccountId) (p : PeriodId) (b : BandId) (d : Direction) (v : Option ℕ) → new payment_tree ≡ old payment_tree
    → ((l : TotalKey) → energy_told (new energy_tree) l ≡ cond (same_total (total.Energy o p b d) l) v (energy_told (old energy_tree) l))
    → total_in new ≡ totals_with (total_in old) (total.Energy o p b d) (unwrap_or v 0)
energies_with old new o p b d v same told = λ i k. go k i
  where
    go : (k : TotalKey) → total_in new k ≡ totals_with (total_in old) (total.Energy o p b d) (unwrap_or v 0) k
    go (total.Energy q r c e) = ap (λ x. unwrap_or x 0) (told (total.Energy q r c e)) ∙ or_none (same_total (total.Energy o p b d) (total.Energy q r c e)) v (energy_told (old energy_tree) (total.Energy q r c e))
    go (total.TopUps a) = ap (λ (rows : List Row). unwrap_or (payment_told rows (total.TopUps a)) 0) same ∙ sym (ap (λ c. cond c (unwrap_or v 0) (total_in old (total.TopUps a))) (energy_apart o p b d a))

pub payments_with : (old new : Trees) (a : AccountId) (v : Option ℕ) → new energy_tree ≡ old energy_tree
    → ((l : TotalKey) → payment_told (new payment_tree) l ≡ cond (same_total (total.TopUps a) l) v (payment_told (old payment_tree) l))
    → total_in new ≡ totals_with (total_in old) (total.TopUps a) (unwrap_or v 0)
payments_with old new a v same told = λ i k. go k i
  where
    go : (k : TotalKey) → total_in new k ≡ totals_with (total_in old) (total.TopUps a) (unwrap_or v 0) k
    go (total.TopUps c) = ap (λ x. unwrap_or x 0) (told (total.TopUps c)) ∙ or_none (same_total (total.TopUps a) (total.TopUps c)) v (payment_told (old payment_tree) (total.TopUps c))
    go (total.Energy q r c e) = ap (λ (rows : List Row). unwrap_or (energy_told rows (total.Energy q r c e)) 0) same ∙ sym (ap (λ t. cond t (unwrap_or v 0) (total_in old (total.Energy q r c e))) (payment_apart q r c e a))

-- ---- contents with one change
pub content_with_point : (old new : Trees) (m : ℕ) (r : Register) (t : ℕ) (v : Option ℕ) → SameRecords old new → new start_tree ≡ old start_tree → new energy_tree ≡ old energy_tree → new payment_tree ≡ old payment_tree
    → point_in (new point_tree) ≡ points_with (point_in (old point_tree)) m r t v → content_of new ≡ with_point (content_of old) m r t v
content_with_point old new m r t v same s e y told = λ i. record {
  records = records_kept old new same i;
  point = told i;
  start = ap start_in s i;
  total = same_totals old new e y i;
}

pub content_with_points : (old new : Trees) (waiting : List WaitingPoint) → SameRecords old new → new start_tree ≡ old start_tree → new energy_tree ≡ old energy_tree → new payment_tree ≡ old payment_tree
    → point_in (new point_tree) ≡ points_over waiting (point_in (old point_tree)) → content_of new ≡ with_waiting waiting (content_of old)
content_with_points old new waiting same s e y told = λ i. record {
  records = records_kept old new same i;
  point = told i;
  start = ap start_in s i;
  total = same_totals old new e y i;
}

pub content_with_start : (old new : Trees) (m t : ℕ) (v : Option (Option AccountId)) → SameRecords old new → new point_tree ≡ old point_tree → new energy_tree ≡ old energy_tree → new payment_tree ≡ old payment_tree
    → start_in (new start_tree) ≡ starts_with (start_in (old start_tree)) m t v → content_of new ≡ with_start (content_of old) m t v
content_with_start old new m t v same p e y told = λ i. record {
  records = records_kept old new same i;
  point = ap point_in p i;
  start = told i;
  total = same_totals old new e y i;
}

pub content_with_total : (old new : Trees) (k : TotalKey) (a : ℕ) → SameRecords old new → new point_tree ≡ old point_tree → new start_tree ≡ old start_tree
    → total_in new ≡ totals_with (total_in old) k a → content_of new ≡ with_total (content_of old) k a
content_with_total old new k a same p s told = λ i. record {
  records = records_kept old new same i;
  point = ap point_in p i;
  start = ap start_in s i;
  total = told i;
}

-- ---- a statement that changes totals of one kind alone
module _ (old new : State) (tree : ℕ) (behind : 11 < tree) (apart : (tree < 14) ⊎ (18 < tree)) (others : AreElseSame only_one tree old.now.trees new.now.trees) (store : IsStore old.now) (is : IsOurs new.now.schema)
    (keeps : StillKeeps old.now.trees new.now.trees) (shows : Shows old new new.now old.committed true) where
  same : SameRecords old.now.trees new.now.trees
  same = same_records only_one tree old.now.trees new.now.trees (omega (arith, behind)) apart others

  point_same : new.now.trees point_tree ≡ old.now.trees point_tree
  point_same = others.1.1.1.1.0 (λ e. omega (arith, e, behind))

  start_same : new.now.trees start_tree ≡ old.now.trees start_tree
  start_same = others.1.1.1.1.1.0 (λ e. omega (arith, e, behind))

  old_same : new.now.trees total_tree ≡ old.now.trees total_tree
  old_same = others.1.1.1.1.1.1.0 (λ e. omega (arith, e, behind))

  stays_store : AreKeyed IsEnergyRow energy_in (new.now.trees energy_tree) → AreKeyed IsPaymentRow payment_in (new.now.trees payment_tree) → IsStore new.now
  stays_store energies payments = store_kept old.now new.now is same store (subst (AreKeyed IsReadingRow key_in_point) (sym point_same) store.points) (subst (AreKeyed IsAssignmentRow key_in_start) (sym start_same) store.starts) energies payments old_same

  pub makes_total : (k : TotalKey) (a : ℕ) → AreKeyed IsEnergyRow energy_in (new.now.trees energy_tree) → AreKeyed IsPaymentRow payment_in (new.now.trees payment_tree) → total_in new.now.trees ≡ totals_with (total_in old.now.trees) k a → Makes (λ c. with_total c k a) old new
  makes_total k a energies payments told = record {
    store = stays_store energies payments;
    keeps = keeps;
    content = content_with_total old.now.trees new.now.trees k a same point_same start_same told;
    shows = shows;
  }

  -- and changes no row
  pub makes_nothing : new.now.trees energy_tree ≡ old.now.trees energy_tree → new.now.trees payment_tree ≡ old.now.trees payment_tree → Makes (λ c. c) old new
  makes_nothing energies payments = record {
    store = stays_store (subst (AreKeyed IsEnergyRow energy_in) (sym energies) store.energies) (subst (AreKeyed IsPaymentRow payment_in) (sym payments) store.payments);
    keeps = keeps;
    content = λ i. record {
      records = records_kept old.now.trees new.now.trees same i;
      point = ap point_in point_same i;
      start = ap start_in start_same i;
      total = same_totals old.now.trees new.now.trees energies payments i;
    };
    shows = shows;
  }
