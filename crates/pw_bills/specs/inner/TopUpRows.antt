-- The rows of top-ups, record by record. It serves `src/payments.rt` and `src/billed.rt`.
-- (Definitions of this project.)
use Rattle.std.specs.Prelude.{ℕ, ◌+◌, ◌&&◌, ◌==◌, Bool, false, cond, Option, Some, None, List, [], ◌∷◌}
use Rattle.pw_tariff.specs.declared.ids.AccountId.{AccountId}
use Rattle.pw_model.specs.declared.records.Key.{Key}
use Rattle.pw_model.specs.declared.records.Key.TheVariants as key
use Rattle.pw_model.specs.declared.records.Content.{Content}
use Rattle.pw_model.specs.declared.records.Content.TheVariants as content
use Rattle.pw_model.specs.declared.records.Contents.{Contents}
use Rattle.pw_model.specs.declared.records.Contents.TheVariants.{One}
use Rattle.pw_model.specs.declared.records.Entry.{Entry}
use Rattle.pw_model.specs.Same.{same_content}
use Rattle.pw_months.specs.Between.{lies_in}
use Rattle.pw_bills.specs.declared.payments.TopUpRow.{TopUpRow}

-- the row of a top-up of the account in the interval, whether it counts or not
abbrev pub row_at : AccountId → ℕ → ℕ → Key → Content → Option TopUpRow
row_at a from to (key.TopUp r) (content.TopUp b c t) =
    cond (lies_in from to t && (b.0 == a.0)) (Some (record { reference = r; cents = c; instant = t })) None
row_at a from to _ _ = None

-- whether just this content is told
abbrev pub is_alone : Content → Contents → Bool
is_alone c (One d) = same_content c d
is_alone c _ = false

-- the row, where the top-up counts
abbrev pub row_told : (Key → Contents) → AccountId → ℕ → ℕ → Entry → Option TopUpRow
row_told at a from to e = cond (is_alone e.content (at e.key)) (row_at a from to e.key e.content) None

abbrev pub row_listed : Option TopUpRow → List TopUpRow → List TopUpRow
row_listed None rows = rows
row_listed (Some row) rows = row ∷ rows

-- those of some records
abbrev pub rows_among : (Key → Contents) → AccountId → ℕ → ℕ → List Entry → List TopUpRow
rows_among at a from to [] = []
rows_among at a from to (e ∷ some) = row_listed (row_told at a from to e) (rows_among at a from to some)

-- for each of the account's in the interval a call, and two rows at most
abbrev pub row_reads : Option TopUpRow → ℕ
row_reads None = 0
row_reads (Some row) = 3

abbrev pub reads_among : AccountId → ℕ → ℕ → List Entry → ℕ
reads_among a from to [] = 0
reads_among a from to (e ∷ some) = row_reads (row_at a from to e.key e.content) + reads_among a from to some

-- the cents of a row, where its instant lies in an interval
abbrev pub cents_within : ℕ → ℕ → TopUpRow → ℕ
cents_within from to row = cond (lies_in from to row.instant) row.cents 0
