-- What a statement on one total makes of a store, or is told of it, by the key of the total.
use Rattle.std.proofs.Common.{◌≡◌, ◌<◌, ◌≤◌, ℕ, List, length, true, false, None, Some, Result, Vec, IfOk, OnOk, IsTrue, sym, subst₂}
use Rattle.sqlite.specs.declared.error.Error.{Error}
use Rattle.sqlite.specs.Order.{Row}
use Rattle.sqlite.specs.State.{State, HasCleanDisk, Executes, Shown, Survives, CommitsBy}
use Rattle.sqlite.specs.Schema.{Schema}
use Rattle.sqlite.specs.Listing.{understood}
use Rattle.sqlite.proofs.Callers.{IsPlain}
use Rattle.pw_model.specs.declared.records.TotalKey.{TotalKey}
use Rattle.pw_model.specs.declared.records.TotalKey.TheVariants as total
use Rattle.pw_schema.specs.Calls.{Writes}
use Rattle.pw_schema.specs.Tables.{IsOurs}
use Rattle.pw_schema.proofs.Outcomes.{early}
use Rattle.pw_store.specs.Content.{total_in}
use Rattle.pw_store.specs.Kept.{IsStore}
use Rattle.pw_store.specs.declared.changes.Change.TheVariants.{TakeTotal, SetTotal, PutTotal}
use Rattle.pw_store.specs.inner.Changing.{IsFree, IsTaken, Makes, PutsEnergy, changed, text_by, total_row}
use Rattle.pw_store.specs.inner.Filling.{is_of_energy}
use Rattle.pw_store.specs.inner.Seconds.{first_amount}
use Rattle.pw_store.proofs.Amounts.{energy_if, payment_if}
use Rattle.pw_store.proofs.EnergyRows as energy
use Rattle.pw_store.proofs.KeptTexts.{delete_payment_is, delete_payment_query, delete_payment_text, delete_total_is, delete_total_query, delete_total_text, insert_payment_text, insert_total_text, payment_is, payment_text, set_payment_is, set_payment_query, set_payment_text, set_total_is, set_total_query, set_total_text, total_is, total_text}
use Rattle.pw_store.proofs.PaymentRows as payment
use Rattle.pw_store.proofs.Querying.{ours_plain}
use Rattle.pw_store.proofs.Taking.{edits_if}

abbrev pub take_text : TotalKey → List ℕ
take_text k = text_by k delete_total_text delete_payment_text

abbrev pub set_text : TotalKey → List ℕ
set_text k = text_by k set_total_text set_payment_text

abbrev pub ask_text : TotalKey → List ℕ
ask_text k = text_by k total_text payment_text

-- ---- what they leave of the connection
abbrev Edits : List ℕ → Type 1
Edits text = (old new : State) (params : Row) (r : Result ℕ Error) → (HasCleanDisk old → IsOurs old.now.schema) → (HasCleanDisk old → IsTrue old.in_transaction) → (HasCleanDisk new → Executes text params old new r) → Survives old new (CommitsBy text params old) → Writes r old new

pub take_edits : (k : TotalKey) → Edits (take_text k)
take_edits (total.Energy o p b d) = edits_if false delete_total_text 11 delete_total_query delete_total_is
take_edits (total.TopUps a) = edits_if false delete_payment_text 7 delete_payment_query delete_payment_is

pub set_edits : (k : TotalKey) → Edits (set_text k)
set_edits (total.Energy o p b d) = edits_if true set_total_text 11 set_total_query set_total_is
set_edits (total.TopUps a) = edits_if true set_payment_text 7 set_payment_query set_payment_is

pub ask_plain : (k : TotalKey) (s : Schema) → IsOurs s → IsPlain (understood s (ask_text k))
ask_plain (total.Energy o p b d) = ours_plain total_is
ask_plain (total.TopUps a) = ours_plain payment_is

-- ---- by a text and values that are those of the key
module _ (key : TotalKey) (old new : State) (text : List ℕ) (params : Row) (store : HasCleanDisk old → IsStore old.now) where
  module _ (r : Result ℕ Error) (inside : HasCleanDisk old → IsTrue old.in_transaction) (runs : HasCleanDisk new → Executes text params old new r) (survives : Survives old new (CommitsBy text params old)) (clean : HasCleanDisk new) where
    before : HasCleanDisk old
    before = early old new survives clean

    pub takes_if : take_text key ≡ text → params ≡ total_row key None → IfOk r (λ n. Makes (changed (TakeTotal key) n) old new)
    takes_if is given = at key (subst₂ (λ t p. Executes t p old new r) (sym is) given (runs clean))
      where
        at : (k : TotalKey) → Executes (take_text k) (total_row k None) old new r → IfOk r (λ n. Makes (changed (TakeTotal k) n) old new)
        at (total.Energy o p b d) = energy.takes_if old new o p b d r (store before) (inside before)
        at (total.TopUps a) = payment.takes_if old new a r (store before) (inside before)

    module _ (v : ℕ) (fits : 0 < v) (given : params ≡ total_row key (Some v)) where
      pub sets_if : set_text key ≡ text → IfOk r (λ n. Makes (changed (SetTotal key v) n) old new)
      sets_if is = at key (subst₂ (λ t p. Executes t p old new r) (sym is) given (runs clean))
        where
          at : (k : TotalKey) → Executes (set_text k) (total_row k (Some v)) old new r → IfOk r (λ n. Makes (changed (SetTotal k v) n) old new)
          at (total.Energy o p b d) = energy.sets_if old new o p b d v fits r (store before) (inside before)
          at (total.TopUps a) = payment.sets_if old new a v fits r (store before) (inside before)

      pub none_set_if : set_text key ≡ text → IfOk r (λ n. IsTaken (SetTotal key v) n new.now.trees)
      none_set_if is = at key (subst₂ (λ t p. Executes t p old new r) (sym is) given (runs clean))
        where
          at : (k : TotalKey) → Executes (set_text k) (total_row k (Some v)) old new r → IfOk r (λ n. IsTaken (SetTotal k v) n new.now.trees)
          at (total.Energy o p b d) = energy.none_set_if old new o p b d v fits r (store before) (inside before)
          at (total.TopUps a) = payment.none_set_if old new a v fits r (store before) (inside before)

      -- of top-ups
      pub pays_if : text ≡ insert_payment_text → is_of_energy key ≡ false → IsFree (PutTotal key v) old.now.trees → IfOk r (λ n. Makes (changed (PutTotal key v) n) old new)
      pays_if is of free = at key of free (subst₂ (λ t p. Executes t p old new r) is given (runs clean))
        where
          at : (k : TotalKey) → is_of_energy k ≡ false → IsFree (PutTotal k v) old.now.trees → Executes insert_payment_text (total_row k (Some v)) old new r → IfOk r (λ n. Makes (changed (PutTotal k v) n) old new)
          at (total.Energy o p b d) other free h = absurd (let bad : true ≡ false = other in cc)
          at (total.TopUps a) same free h = payment.puts_if old new a v fits r (store before) (inside before) free h

-- what is told
pub amount_if : {Z : Type 0} (key : TotalKey) (old new : State) (text : List ℕ) (params : Row) (out : Result (Vec Row Z) Error) → IsStore old.now → ask_text key ≡ text → params ≡ total_row key None → IfOk out (λ rows. Shown text params old new rows.items)
    → IfOk out (λ rows. length rows.items ≤ 1 → first_amount rows.items ≡ total_in old.now.trees key)
amount_if {Z} key old new text params out store is given h = at key (subst₂ (λ t p. IfOk out (λ rows. Shown t p old new rows.items)) (sym is) given h)
  where
    at : (k : TotalKey) → IfOk out (λ rows. Shown (ask_text k) (total_row k None) old new rows.items) → IfOk out (λ rows. length rows.items ≤ 1 → first_amount rows.items ≡ total_in old.now.trees k)
    at (total.Energy o p b d) = energy_if old new o p b d out store
    at (total.TopUps a) = payment_if old new a out store

-- ---- a row of energy that is put
pub row_put_if : (k : TotalKey) (v : ℕ) (old new : State) (r : Result ℕ Error) → IsTrue (is_of_energy k) → IsOurs old.now.schema → IsTrue old.in_transaction → Executes insert_total_text (total_row k (Some v)) old new r → OnOk r (PutsEnergy (total_row k (Some v)) old new)
row_put_if (total.Energy o p b d) v old new r of ours inside h = energy.row_put_if old new o p b d v r ours inside h
row_put_if (total.TopUps a) v old new r of ours inside h = absurd (let bad : false ≡ true = of in cc)

pub energy_put_if : (k : TotalKey) (v : ℕ) (old new : State) (r : Result ℕ Error) → 0 < v → IsTrue (is_of_energy k) → IsStore old.now → IsFree (PutTotal k v) old.now.trees → OnOk r (PutsEnergy (total_row k (Some v)) old new) → IfOk r (λ n. Makes (changed (PutTotal k v) n) old new)
energy_put_if (total.Energy o p b d) v old new r fits of store free it = energy.puts_if old new o p b d v fits r store free it
energy_put_if (total.TopUps a) v old new r fits of store free it = absurd (let bad : false ≡ true = of in cc)
