-- Records in order, those of one key together. It serves `src/disputes.rt`.
-- (Definitions of this project.)
use Rattle.std.specs.Prelude.{◌≡◌, ℕ, ◌+◌, ◌^◌, ◌<◌, ◌≤◌, cond, List, ◌++◌}
use Rattle.pw_model.specs.declared.records.Key.{Key}
use Rattle.pw_model.specs.declared.records.Dispute.{Dispute}
use Rattle.pw_model.specs.declared.records.Entry.{Entry}
use Rattle.pw_model.specs.Payments.{sum_once}
use Rattle.pw_model.specs.Counting.{Member}
use Rattle.pw_model.specs.Lists.{Lists, dispute_order}
use Rattle.pw_model.specs.Same.{same_key, same_entry, entry_order}

-- what a record and so many behind it dispute, where their number isn't too large
pub record IsDisputeOf (first : Entry) (behind : ℕ) (d : Dispute) : Type 0 where
  pub key : d.key ≡ first.key
  pub number : behind + 1 < 2 ^ 32 → d.contents ≡ behind + 1

-- ---- some records, whatever else is held
-- one for a record with the key
abbrev pub one_at : Key → Entry → ℕ
one_at k e = cond (same_key e.key k) 1 0

-- how many of them have a key, each counted once
unfoldable pub records_with : Key → List Entry → ℕ
records_with k some = sum_once same_entry (one_at k) some

-- in their order, those of them whose key two or more have
abbrev pub AreOfSharedKeys : List Entry → List Entry → Type 0
AreOfSharedKeys some = Lists entry_order (λ e. Member e some × 2 ≤ records_with e.key some)

-- two or more of them have the key
pub record IsDisputeAmong (some : List Entry) (d : Dispute) : Type 0 where
  pub several : 2 ≤ d.contents
  pub number : d.contents ≡ records_with d.key some

-- behind some disputes those among them
abbrev pub AreBehind : List Entry → List Dispute → List Dispute → Type 0
AreBehind some old new = (more : List Dispute) × Lists dispute_order (IsDisputeAmong some) more × (new ≡ old ++ more)
