-- What `open` makes where nothing was there may be opened.
use Rattle.std.proofs.Common.{◌≡◌, inl, inr, unwrap_or, ℕ, IsTrue, cond, List, [], ◌∷◌, refl, sym, ap, subst, ◌∙◌, ◌≤◌, length, arith}
use Rattle.std.specs.List.{AllByRecursion}
use Rattle.std.specs.List.Sorted.{IsPermutation}
use Rattle.std.proofs.lemmas.List.Sorted.{IsPermutation-refl}
use Rattle.sqlite.specs.Tree.{Trees}
use Rattle.sqlite.specs.Effect.{Database}
use Rattle.sqlite.specs.State.{HasCleanDisk, State}
use Rattle.pw_tariff.specs.Office.{OfficeRules}
use Rattle.pw_model.specs.Office.{most_records}
use Rattle.pw_model.specs.Counting.{EachOnce, Member}
use Rattle.pw_schema.specs.Fresh.{IsFresh, IsNew, office_row}
use Rattle.pw_schema.specs.Judging.{IsTotalOf, KeepsOffice}
use Rattle.pw_schema.specs.Tables.{IsOurs, no_schema}
use Rattle.pw_schema.specs.declared.kind.RecordKind.{RecordKind}
use Rattle.pw_schema.specs.declared.kind.RecordKind.TheVariants.{Readings, Assignments, TopUps, WithdrawnReadings, WithdrawnAssignments, WithdrawnTopUps}
use Rattle.pw_store.specs.Content.{records_of, energy_in, payment_in, IsReadingRow, IsAssignmentRow, IsTopupRow, IsRowOf, tree_of}
use Rattle.pw_shelf.specs.Left.{LeavesOnly}
use Rattle.sqlite.specs.Order.{Row}
use Rattle.pw_model.specs.declared.records.TotalKey.{TotalKey}
use Rattle.pw_model.specs.declared.records.TotalKey.TheVariants as total
use Rattle.pw_model.specs.Shelf.{IsTrueContent, no_content}
use Rattle.pw_model.proofs.Truth.{empty-true}
use Rattle.pw_store.specs.Content.{content_of, point_in, start_in, total_in, energy_told, payment_told}
use Rattle.pw_store.specs.Kept.{IsStore, key_in_point, key_in_start, written_of, left_of}
use Rattle.pw_store.specs.Keyed.{AreKeyed, IsEnergyRow, IsPaymentRow}
use Rattle.pw_store.specs.Content.{content_of}
use Rattle.pw_store.specs.Opening.{IsFound, KeepsText, offices, shown_office}
use Rattle.pw_store.specs.inner.Opened.{IsOpened, IsStanding, MayOpen}
use Rattle.pw_schema.specs.Fresh.{IsIdleAt}
use Rattle.pw_store.proofs.Scans.{equal_ints}

module _ (body : List ℕ) (db : Database) (new : IsNew body db) where
  fresh : IsFresh body db
  fresh = new.fresh

  pub fresh_records : records_of db.trees ≡ []
  fresh_records = rw (fresh.reading, fresh.assignment, fresh.topup, fresh.withdrawn_reading, fresh.withdrawn_assignment, fresh.withdrawn_topup) refl

  fresh_totals : total_in db.trees ≡ (λ k. 0)
  fresh_totals = λ i k. go k i
    where
      go : (k : TotalKey) → total_in db.trees k ≡ 0
      go (total.Energy o p b d) = ap (λ (rows : List Row). unwrap_or (energy_told rows (total.Energy o p b d)) 0) fresh.period_total
      go (total.TopUps a) = ap (λ (rows : List Row). unwrap_or (payment_told rows (total.TopUps a)) 0) fresh.total_topup

  pub fresh_content : content_of db.trees ≡ no_content
  fresh_content = λ i. record {
    records = fresh_records i;
    point = ap point_in fresh.point i;
    start = ap start_in fresh.start i;
    total = fresh_totals i;
  }

  fresh_rows : (k : RecordKind) → AllByRecursion (IsRowOf k) (db.trees (tree_of k))
  fresh_rows Readings = subst (AllByRecursion IsReadingRow) (sym fresh.reading) tt
  fresh_rows Assignments = subst (AllByRecursion IsAssignmentRow) (sym fresh.assignment) tt
  fresh_rows TopUps = subst (AllByRecursion IsTopupRow) (sym fresh.topup) tt
  fresh_rows WithdrawnReadings = subst (AllByRecursion IsReadingRow) (sym fresh.withdrawn_reading) tt
  fresh_rows WithdrawnAssignments = subst (AllByRecursion IsAssignmentRow) (sym fresh.withdrawn_assignment) tt
  fresh_rows WithdrawnTopUps = subst (AllByRecursion IsTopupRow) (sym fresh.withdrawn_topup) tt

  fresh_store : IsStore db
  fresh_store = record {
    ours = fresh.schema_is;
    rows = fresh_rows;
    once = subst EachOnce (sym fresh_records) tt;
    points = subst (AreKeyed IsReadingRow key_in_point) (sym fresh.point) (record { each = tt; ids = tt; numbered = tt; once = tt });
    starts = subst (AreKeyed IsAssignmentRow key_in_start) (sym fresh.start) (record { each = tt; ids = tt; numbered = tt; once = tt });
    energies = subst (AreKeyed IsEnergyRow energy_in) (sym fresh.period_total) (record { each = tt; ids = tt; numbered = tt; once = tt });
    payments = subst (AreKeyed IsPaymentRow payment_in) (sym fresh.total_topup) (record { each = tt; ids = tt; numbered = tt; once = tt });
    old = fresh.total;
  }

  fresh_offices : offices db.trees ≡ shown_office (office_row body) ∷ []
  fresh_offices = rw (fresh.office) (rw (equal_ints 1 1) refl)

  pub fresh_opens : (office : OfficeRules) → MayOpen office body db
  fresh_opens office = record {
    store = fresh_store;
    plain = new.plain;
    kept = (shown_office (office_row body) ∷ [], (subst (IsPermutation (offices db.trees)) fresh_offices (IsPermutation-refl (offices db.trees)), (shown_office (office_row body), refl, refl, refl)));
    named = record {
      energies = subst (AllByRecursion (λ r. IsTotalOf office (energy_in r))) (sym fresh.period_total) tt;
      payments = subst (AllByRecursion (λ r. IsTotalOf office (payment_in r))) (sym fresh.total_topup) tt;
    };
    of_office = λ e m. absurd (subst (Member e) fresh_records m);
    few = rw fresh_records (omega arith);
    truth = subst (IsTrueContent office) (sym fresh_content) (empty-true office);
  }

pub fresh_opened : (office : OfficeRules) (body : List ℕ) (old new : State) → IsIdleAt old → old.now.schema ≡ no_schema → IsNew body new.now → IsIdleAt new → IsOpened office body old.committed new
fresh_opened office body old new idle none fresh now = record {
  is_open = now.is_open;
  outside = now.outside;
  settled = now.settled;
  may_open = fresh_opens body new.now fresh office;
  found = inr (ap (λ (d : Database). d.schema) (sym idle.settled) ∙ none, fresh_content body new.now fresh);
  opens = inl (ap (λ (d : Database). d.schema) (sym idle.settled) ∙ none);
}

-- a shelf may be made of what is opened
pub stands : (s : State) (office : OfficeRules) (body : List ℕ) (before : Database) → IsOpened office body before s → IsStanding s
stands s office body before it = record { is_open = it.is_open; outside = it.outside; settled = it.settled; store = it.may_open.store }

-- it is opened, whatever name it has
pub opened_at : (s at : State) (office : OfficeRules) (body : List ℕ) (before : Database) → at ≡ s → (HasCleanDisk s → IsOpened office body before s) → HasCleanDisk at → IsOpened office body before at
opened_at s at office body before is = subst (λ (x : State). HasCleanDisk x → IsOpened office body before x) (sym is)

-- of an open connection on which nothing waits, a crash leaves what it holds
pub left_alone : (s base : State) → IsStanding s → ((db : Trees) → IsTrue s.is_open → s.may_leave db → db ≡ s.committed.trees) → LeavesOnly (written_of s base) (left_of s)
left_alone s base it law c l =
    sym l.2 ∙ ap content_of (law l.0 it.is_open l.1 ∙ sym (ap (λ (d : Database). d.trees) it.settled)) ∙ sym (ap (λ b. content_of (cond b s.now.trees base.committed.trees)) it.is_open)

pub open_content : (s base : State) (office : OfficeRules) (body : List ℕ) (before : Database) → IsOpened office body before s → IsFound office before (written_of s base)
open_content s base office body before it = subst (IsFound office before) (sym (ap (λ b. content_of (cond b s.now.trees base.committed.trees)) it.is_open)) it.found

pub open_few : (s base : State) (office : OfficeRules) (body : List ℕ) (before : Database) → IsOpened office body before s → length (written_of s base).records ≤ most_records
open_few s base office body before it = subst (λ b. length (records_of (cond b s.now.trees base.committed.trees)) ≤ most_records) (sym it.is_open) it.may_open.few

pub open_truth : (s base : State) (office : OfficeRules) (body : List ℕ) (before : Database) → IsOpened office body before s → IsTrueContent office (written_of s base)
open_truth s base office body before it = subst (λ b. IsTrueContent office (content_of (cond b s.now.trees base.committed.trees))) (sym it.is_open) it.may_open.truth

pub open_text : (s : State) (office : OfficeRules) (body : List ℕ) (before : Database) → IsOpened office body before s → IsOurs s.now.schema × (KeepsText (KeepsOffice body) s.now.trees)
open_text s office body before it = (it.may_open.store.ours, it.may_open.kept)
