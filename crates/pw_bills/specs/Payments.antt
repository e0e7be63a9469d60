-- The top-ups of an account between two instants, and how much is read for them.
-- (Definitions of this project.)
use Rattle.std.specs.Prelude.{◌≡◌, ℕ, ◌+◌, ◌*◌, ◌≤◌, true, List, length}
use Rattle.std.specs.Cmp.Lexicographic.{slice_cmp}
use Rattle.std.specs.Ordering.{nat_cmp}
use Rattle.std.specs.declared.cmp.Ordering.{Ordering}
use Rattle.pw_tariff.specs.declared.ids.AccountId.{AccountId}
use Rattle.pw_model.specs.declared.records.Key.{Key}
use Rattle.pw_model.specs.declared.records.Key.TheVariants as key
use Rattle.pw_model.specs.declared.records.Content.{Content}
use Rattle.pw_model.specs.declared.records.Content.TheVariants as content
use Rattle.pw_model.specs.declared.records.Contents.{Contents}
use Rattle.pw_model.specs.declared.records.Contents.TheVariants.{One}
use Rattle.pw_model.specs.declared.records.Entry.{Entry}
use Rattle.pw_model.specs.Counting.{Member, contents_at}
use Rattle.pw_model.specs.Kinds.{IsTopUp, ListsHeld}
use Rattle.pw_model.specs.Lists.{Lists}
use Rattle.pw_model.specs.Same.{entry_order}
use Rattle.pw_months.specs.Between.{lies_in}
use Rattle.pw_bills.specs.declared.payments.TopUpRow.{TopUpRow}

-- ---- which they are
-- the top-up of this reference counts; it is the account's, of these cents and at this instant, which lies in the
-- interval
pub record IsTopUpRow (at : Key → Contents) (a : AccountId) (from to : ℕ) (row : TopUpRow) : Type 0 where
  pub counts : at (key.TopUp row.reference) ≡ One (content.TopUp a row.cents row.instant)
  pub within : lies_in from to row.instant ≡ true

-- by reference
abbrev pub row_order : TopUpRow → TopUpRow → Ordering
row_order row other = slice_cmp nat_cmp row.reference other.reference

abbrev pub AreTopUpRows : List Entry → AccountId → ℕ → ℕ → List TopUpRow → Type 0
AreTopUpRows s a from to = Lists row_order (IsTopUpRow (contents_at s) a from to)

-- ---- how much is read
-- the content of a top-up for the account, with its instant in the interval
abbrev pub IsTopUpIn : AccountId → ℕ → ℕ → Content → Type 0
IsTopUpIn a from to (content.TopUp b c t) = (b ≡ a) × (lies_in from to t ≡ true)
IsTopUpIn a from to _ = ⊥

-- so many calls and rows are enough: one call, and all top-ups held; and of those of the account in the interval,
-- whether they count or not, a call each and two rows at most
pub record AreEnoughForTopUps (s : List Entry) (a : AccountId) (from to most : ℕ) : Type 0 where
  pub held : ℕ
  pub few : (es : List Entry) → ListsHeld IsTopUp s es → length es ≤ held
  pub own : ℕ
  pub few_own : (es : List Entry) →
      Lists entry_order (λ e. Member e s × IsTopUp e.key × IsTopUpIn a from to e.content) es → length es ≤ own
  pub enough : 1 + held + 3 * own ≤ most
