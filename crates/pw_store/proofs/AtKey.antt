-- What is told of a record's key.
use Rattle.std.proofs.Common.{◌≡◌, map, Vec, Result, IfOk}
use Rattle.sqlite.specs.declared.error.Error.{Error}
use Rattle.sqlite.specs.Order.{Row}
use Rattle.sqlite.specs.Schema.{Schema}
use Rattle.sqlite.specs.Listing.{understood}
use Rattle.sqlite.specs.State.{State, Shown}
use Rattle.sqlite.proofs.Callers.{IsPlain}
use Rattle.pw_model.specs.Counting.{contents_at}
use Rattle.pw_schema.specs.Rows.{contents_of, told_content}
use Rattle.pw_schema.specs.Tables.{IsOurs}
use Rattle.pw_store.specs.Content.{records_of}
use Rattle.pw_store.specs.Kept.{IsStore}
use Rattle.pw_store.specs.declared.keys.RecordKey.{RecordKey}
use Rattle.pw_store.specs.declared.keys.RecordKey.TheVariants.{Reading, Assignment, TopUp}
use Rattle.pw_store.specs.inner.Keys.{at_row, at_text, key_of}
use Rattle.pw_store.specs.inner.Lists.{kind_at}
use Rattle.pw_store.proofs.AtAssignment.{assignment_told_if}
use Rattle.pw_store.proofs.AtReading.{reading_told_if}
use Rattle.pw_store.proofs.AtTopup.{topup_told_if}
use Rattle.pw_store.proofs.Querying.{ours_plain}
use Rattle.pw_store.proofs.Texts.{assignment_at_is, reading_at_is, topup_at_is}

pub told_if : {Z : Type 0} (k : RecordKey) (old new : State) (r : Result (Vec Row Z) Error) → IsStore old.now → IfOk r (λ rows. Shown (at_text k) (at_row k) old new rows.items)
    → IfOk r (λ rows. contents_of (map (told_content (kind_at (key_of k))) rows.items) ≡ contents_at (records_of old.now.trees) (key_of k))
told_if (Reading m g t) = reading_told_if m g t
told_if (Assignment m t) = assignment_told_if m t
told_if (TopUp r) = topup_told_if r

pub at_plain : (k : RecordKey) (s : Schema) → IsOurs s → IsPlain (understood s (at_text k))
at_plain (Reading m g t) = ours_plain reading_at_is
at_plain (Assignment m t) = ours_plain assignment_at_is
at_plain (TopUp r) = ours_plain topup_at_is
