-- What the statements mean, whatever the check of `office` says.
use Rattle.std.proofs.Common.{◌≡◌, ◌+◌, ◌/◌, ℕ, pos, List, [], ◌∷◌, codes, false, refl}
use Rattle.sqlite.specs.declared.types.Value.TheVariants.{Null, Int}
use Rattle.sqlite.specs.Term.{Term, lit, col, op1, op2}
use Rattle.sqlite_value.specs.declared.keys.Key.{Key}
use Rattle.sqlite_value.specs.declared.keys.Collation.TheVariants.{Binary}
use Rattle.sqlite_sql.specs.declared.ops.BinaryOp.TheVariants.{Compare}
use Rattle.sqlite_sql.specs.declared.ops.UnaryOp.TheVariants.{Not}
use Rattle.sqlite_sql.specs.declared.ops.CompareOp.TheVariants.{Eq}
use Rattle.sqlite.specs.Query.{Query, counted, inner, end}
use Rattle.sqlite.specs.Source.TheVariants.{Values}
use Rattle.sqlite.specs.Command.TheVariants.{Insert, Select}
use Rattle.sqlite_tied.specs.Compute.{everything}
use Rattle.sqlite.specs.Listing.{understood, reads_listing}
use Rattle.sqlite.proofs.Callers.{IsPlain, command_of}
pub use Rattle.pw_schema.proofs.Scans.{plain_query}
use Rattle.pw_schema.specs.Tables.{ours_with}
use Rattle.pw_schema.specs.declared.kind.RecordKind.{RecordKind}
use Rattle.pw_model.specs.declared.records.Named.{Named}
use Rattle.pw_model.specs.declared.records.Named.TheVariants as named
use Rattle.pw_store.specs.Content.{tree_of}
use Rattle.pw_store.specs.inner.Forms.{insert, find}
use Rattle.pw_store.specs.inner.Keys.{assignment_at_text, reading_at_text, topup_at_text}
use Rattle.pw_store.specs.inner.Lists.{kind_at}
use Rattle.pw_store.specs.inner.Records.{entry_as}
use Rattle.pw_store.specs.declared.forms.Form.{Form}
use Rattle.pw_store.specs.declared.forms.Form.TheVariants.{Record, Withdrawal}

-- a text that is this query over our tables
pub record IsQuery (text : List ℕ) (q : Query) : Type 0 where
  pub names : List (List ℕ)
  pub is : (checks : List Term) → command_of (understood (ours_with checks) text) ≡ Select (record { lets = []; body = q }) names
  pub unlisted : (checks : List Term) → reads_listing (ours_with checks) text ≡ false
  pub plain : (checks : List Term) → IsPlain (understood (ours_with checks) text)

-- a text that inserts into the table at this place
pub record IsInsert (text : List ℕ) (at width : ℕ) (terms : List Term) : Type 0 where
  pub is : (checks : List Term) → command_of (understood (ours_with checks) text) ≡ Insert at (Values terms width)
  pub plain : (checks : List Term) → IsPlain (understood (ours_with checks) text)

abbrev pub eq : ℕ → ℕ → Term
eq at param = op2 (Compare Eq Binary) (col 1 at) (col 0 param)

abbrev pub up : Key
up = record { collation = Binary; descending = false }

abbrev pub four_terms : List Term
four_terms = lit Null ∷ col 0 0 ∷ col 0 1 ∷ col 0 2 ∷ col 0 3 ∷ []

abbrev pub three_terms : List Term
three_terms = lit Null ∷ col 0 0 ∷ col 0 1 ∷ col 0 2 ∷ []

abbrev pub four_tests : List Term
four_tests = eq 1 0 ∷ eq 2 1 ∷ eq 3 2 ∷ eq 4 3 ∷ []

-- ---- what is named, in a form
-- the kind of its table
abbrev pub kind_as : Form → Named → RecordKind
kind_as form n = kind_at (entry_as form n).key

-- the place of a kind's table in the list of tables: of those before it two have one tree, each other two
abbrev pub place_of : RecordKind → ℕ
place_of k = tree_of k / 2 + 1

abbrev pub width_of : Named → ℕ
width_of (named.Assignment m t o) = 4
width_of _ = 5

abbrev pub terms_of : Named → List Term
terms_of (named.Assignment m t o) = three_terms
terms_of _ = four_terms

pub insert_is : (form : Form) (n : Named) → IsInsert (insert form n) (place_of (kind_as form n)) (width_of n) (terms_of n)
unfolding understood everything
insert_is Record (named.Reading m r t w) = record { is = λ checks. refl; plain = λ checks. (refl, refl) }
insert_is Record (named.Assignment m t o) = record { is = λ checks. refl; plain = λ checks. (refl, refl) }
insert_is Record (named.TopUp r a c t) = record { is = λ checks. refl; plain = λ checks. (refl, refl) }
insert_is Withdrawal (named.Reading m r t w) = record { is = λ checks. refl; plain = λ checks. (refl, refl) }
insert_is Withdrawal (named.Assignment m t o) = record { is = λ checks. refl; plain = λ checks. (refl, refl) }
insert_is Withdrawal (named.TopUp r a c t) = record { is = λ checks. refl; plain = λ checks. (refl, refl) }

abbrev pub find_tests : Named → List Term
find_tests (named.Assignment m t o) = eq 1 0 ∷ eq 2 1 ∷ eq 3 2 ∷ []
find_tests _ = four_tests

-- the column that is shown
abbrev pub shown_at : Named → ℕ
shown_at (named.Reading m r t w) = 4
shown_at (named.Assignment m t o) = 3
shown_at (named.TopUp r a c t) = 2

abbrev pub find_query : Form → Named → Query
find_query form n = plain_query (tree_of (kind_as form n)) (find_tests n) (col 1 (shown_at n) ∷ [])

pub find_is : (form : Form) (n : Named) → IsQuery (find form n) (find_query form n)
unfolding understood everything
find_is Record (named.Reading m r t w) = record { names = codes "wh" ∷ []; is = λ checks. refl; unlisted = λ checks. refl; plain = λ checks. (refl, refl) }
find_is Record (named.Assignment m t o) = record { names = codes "owner" ∷ []; is = λ checks. refl; unlisted = λ checks. refl; plain = λ checks. (refl, refl) }
find_is Record (named.TopUp r a c t) = record { names = codes "account" ∷ []; is = λ checks. refl; unlisted = λ checks. refl; plain = λ checks. (refl, refl) }
find_is Withdrawal (named.Reading m r t w) = record { names = codes "wh" ∷ []; is = λ checks. refl; unlisted = λ checks. refl; plain = λ checks. (refl, refl) }
find_is Withdrawal (named.Assignment m t o) = record { names = codes "owner" ∷ []; is = λ checks. refl; unlisted = λ checks. refl; plain = λ checks. (refl, refl) }
find_is Withdrawal (named.TopUp r a c t) = record { names = codes "account" ∷ []; is = λ checks. refl; unlisted = λ checks. refl; plain = λ checks. (refl, refl) }

-- ---- the row of the office
abbrev pub office_text : List ℕ
office_text = codes "SELECT version, body FROM office WHERE id = 1"

abbrev pub office_query : Query
office_query = plain_query 0 (op2 (Compare Eq Binary) (col 1 0) (lit (Int (pos 1))) ∷ []) (col 1 2 ∷ col 1 3 ∷ [])

-- ---- lists, in order
abbrev pub list_readings_text : List ℕ
list_readings_text = codes "SELECT meter, register, instant, wh FROM record_reading WHERE meter = ?1 AND register = ?2 ORDER BY instant, wh"

abbrev pub list_readings_query : Query
list_readings_query = record (plain_query 1 (eq 1 0 ∷ eq 2 1 ∷ []) (col 1 1 ∷ col 1 2 ∷ col 1 3 ∷ col 1 4 ∷ [])) { order = (col 1 3, up) ∷ (col 1 4, up) ∷ [] }

pub list_readings_is : IsQuery list_readings_text list_readings_query
unfolding understood everything
list_readings_is = record { names = codes "meter" ∷ codes "register" ∷ codes "instant" ∷ codes "wh" ∷ []; is = λ checks. refl; unlisted = λ checks. refl; plain = λ checks. (refl, refl) }

abbrev pub list_assignments_text : List ℕ
list_assignments_text = codes "SELECT meter, start, owner FROM record_assignment WHERE meter = ?1 ORDER BY start, owner"

abbrev pub list_assignments_query : Query
list_assignments_query = record (plain_query 3 (eq 1 0 ∷ []) (col 1 1 ∷ col 1 2 ∷ col 1 3 ∷ [])) { order = (col 1 2, up) ∷ (col 1 3, up) ∷ [] }

pub list_assignments_is : IsQuery list_assignments_text list_assignments_query
unfolding understood everything
list_assignments_is = record { names = codes "meter" ∷ codes "start" ∷ codes "owner" ∷ []; is = λ checks. refl; unlisted = λ checks. refl; plain = λ checks. (refl, refl) }

-- ---- what is told of a key: of the records that no row of another table names
-- a column of the other table against the same of the record
abbrev tie : ℕ → Term
tie at = op2 (Compare Eq Binary) (col 2 at) (col 1 at)

-- none was counted
abbrev none : Term
none = op1 Not (col 2 0)

-- the rows of one table that have no row in the other by these terms
abbrev pub lacking : ℕ → ℕ → List Term → Query → Query
lacking tree other ties q = record q { from = inner tree (counted 1 (inner other end) ties end) }

abbrev pub four_ties : List Term
four_ties = tie 1 ∷ tie 2 ∷ tie 3 ∷ tie 4 ∷ []

abbrev pub three_ties : List Term
three_ties = tie 1 ∷ tie 2 ∷ tie 3 ∷ []

abbrev pub reading_at_query : Query
reading_at_query = record (plain_query 1 (eq 1 0 ∷ eq 2 1 ∷ eq 3 2 ∷ none ∷ []) (col 1 4 ∷ [])) { limit = lit (Int (pos 2)) }

pub reading_at_is : IsQuery reading_at_text (lacking 1 14 four_ties reading_at_query)
unfolding understood everything
reading_at_is = record { names = codes "wh" ∷ []; is = λ checks. refl; unlisted = λ checks. refl; plain = λ checks. (refl, refl) }

abbrev pub assignment_at_query : Query
assignment_at_query = record (plain_query 3 (eq 1 0 ∷ eq 2 1 ∷ none ∷ []) (col 1 3 ∷ [])) { limit = lit (Int (pos 2)) }

pub assignment_at_is : IsQuery assignment_at_text (lacking 3 16 three_ties assignment_at_query)
unfolding understood everything
assignment_at_is = record { names = codes "owner" ∷ []; is = λ checks. refl; unlisted = λ checks. refl; plain = λ checks. (refl, refl) }

abbrev pub topup_at_query : Query
topup_at_query = record (plain_query 5 (eq 1 0 ∷ none ∷ []) (col 1 2 ∷ col 1 3 ∷ col 1 4 ∷ [])) { limit = lit (Int (pos 2)) }

pub topup_at_is : IsQuery topup_at_text (lacking 5 18 four_ties topup_at_query)
unfolding understood everything
topup_at_is = record { names = codes "account" ∷ codes "cents" ∷ codes "instant" ∷ []; is = λ checks. refl; unlisted = λ checks. refl; plain = λ checks. (refl, refl) }
