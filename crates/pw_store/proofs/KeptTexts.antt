-- What the statements on points, starts and totals mean, whatever the check of `office` says.
use Rattle.std.proofs.Common.{◌≡◌, ◌+◌, ℕ, pos, List, [], ◌∷◌, ◌++◌, codes, Bool, true, false, refl}
use Rattle.sqlite.specs.declared.types.Value.TheVariants.{Null, Int}
use Rattle.sqlite.specs.Term.{Term, lit, col, op2}
use Rattle.sqlite_value.specs.declared.keys.Key.{Key}
use Rattle.sqlite_value.specs.declared.keys.Collation.TheVariants.{Binary}
use Rattle.sqlite_sql.specs.declared.ops.BinaryOp.TheVariants.{Compare}
use Rattle.sqlite_sql.specs.declared.ops.CompareOp.TheVariants.{Lt, Gt, Le, Ge}
use Rattle.sqlite.specs.Query.{Query}
use Rattle.sqlite.specs.Command.{Command}
use Rattle.sqlite.specs.Command.TheVariants.{Delete, Update}
use Rattle.sqlite_tied.specs.Compute.{everything}
use Rattle.sqlite.specs.Listing.{understood}
use Rattle.sqlite.proofs.Callers.{IsPlain, command_of}
use Rattle.pw_schema.specs.Tables.{ours_with}
use Rattle.pw_store.specs.declared.points.Side.TheVariants.{Before, Behind}
use Rattle.pw_store.specs.inner.Seconds.{nearest_text}
use Rattle.pw_store.proofs.Texts.{IsInsert, IsQuery, eq, four_terms, plain_query, three_terms, up}

-- the command that makes rows of the table at this place anew, or deletes them: those that the query finds
abbrev pub edit_at : Bool → ℕ → Query → Command
edit_at true at q = Update at (record { lets = []; body = q })
edit_at false at q = Delete at (record { lets = []; body = q })

-- a text that does so
pub record IsEdit (sets : Bool) (text : List ℕ) (at : ℕ) (q : Query) : Type 0 where
  pub is : (checks : List Term) → command_of (understood (ours_with checks) text) ≡ edit_at sets at q
  pub plain : (checks : List Term) → IsPlain (understood (ours_with checks) text)

abbrev pub IsUpdate : List ℕ → ℕ → Query → Type 0
IsUpdate = IsEdit true

abbrev pub IsDelete : List ℕ → ℕ → Query → Type 0
IsDelete = IsEdit false

abbrev down : Key
down = record { collation = Binary; descending = true }

-- ---- points
abbrev pub delete_point_text : List ℕ
delete_point_text = codes "DELETE FROM point WHERE meter = ?1 AND register = ?2 AND instant = ?3"

abbrev pub delete_point_query : Query
delete_point_query = plain_query 7 (eq 1 0 ∷ eq 2 1 ∷ eq 3 2 ∷ []) (col 1 0 ∷ [])

pub delete_point_is : IsDelete delete_point_text 4 delete_point_query
unfolding understood everything
delete_point_is = record { is = λ checks. refl; plain = λ checks. (refl, refl) }

abbrev pub insert_point_text : List ℕ
insert_point_text = codes "INSERT INTO point (meter, register, instant, wh) VALUES (?1, ?2, ?3, ?4)"

pub insert_point_is : IsInsert insert_point_text 4 5 four_terms
unfolding understood everything
insert_point_is = record { is = λ checks. refl; plain = λ checks. (refl, refl) }

-- as many points as are put at once
abbrev pub insert_points_text : List ℕ
insert_points_text = codes "INSERT INTO point (meter, register, instant, wh) VALUES (?1, ?2, ?3, ?4), (?5, ?6, ?7, ?8), (?9, ?10, ?11, ?12), (?13, ?14, ?15, ?16)"

abbrev terms_from : ℕ → List Term
terms_from n = lit Null ∷ col 0 n ∷ col 0 (n + 1) ∷ col 0 (n + 2) ∷ col 0 (n + 3) ∷ []

abbrev pub points_terms : List Term
points_terms = terms_from 0 ++ (terms_from 4 ++ (terms_from 8 ++ terms_from 12))

pub insert_points_is : IsInsert insert_points_text 4 5 points_terms
unfolding understood everything
insert_points_is = record { is = λ checks. refl; plain = λ checks. (refl, refl) }

abbrev pub before_text : List ℕ
before_text = nearest_text (Before 0)

abbrev pub before_query : Query
before_query = record (plain_query 7 (eq 1 0 ∷ eq 2 1 ∷ op2 (Compare Lt Binary) (col 1 3) (col 0 2) ∷ []) (col 1 3 ∷ col 1 4 ∷ [])) { order = (col 1 3, down) ∷ []; limit = lit (Int (pos 1)) }

pub before_is : IsQuery before_text before_query
unfolding understood everything
before_is = record { names = codes "instant" ∷ codes "wh" ∷ []; is = λ checks. refl; unlisted = λ checks. refl; plain = λ checks. (refl, refl) }

abbrev pub after_text : List ℕ
after_text = nearest_text (Behind 0)

abbrev pub after_query : Query
after_query = record (plain_query 7 (eq 1 0 ∷ eq 2 1 ∷ op2 (Compare Gt Binary) (col 1 3) (col 0 2) ∷ []) (col 1 3 ∷ col 1 4 ∷ [])) { order = (col 1 3, up) ∷ []; limit = lit (Int (pos 1)) }

pub after_is : IsQuery after_text after_query
unfolding understood everything
after_is = record { names = codes "instant" ∷ codes "wh" ∷ []; is = λ checks. refl; unlisted = λ checks. refl; plain = λ checks. (refl, refl) }

abbrev pub between_text : List ℕ
between_text = codes "SELECT instant, wh FROM point WHERE meter = ?1 AND register = ?2 AND instant >= ?3 AND instant <= ?4 ORDER BY instant"

abbrev pub between_query : Query
between_query = record (plain_query 7 (eq 1 0 ∷ eq 2 1 ∷ op2 (Compare Ge Binary) (col 1 3) (col 0 2) ∷ op2 (Compare Le Binary) (col 1 3) (col 0 3) ∷ []) (col 1 3 ∷ col 1 4 ∷ [])) { order = (col 1 3, up) ∷ [] }

pub between_is : IsQuery between_text between_query
unfolding understood everything
between_is = record { names = codes "instant" ∷ codes "wh" ∷ []; is = λ checks. refl; unlisted = λ checks. refl; plain = λ checks. (refl, refl) }

-- ---- starts
abbrev pub delete_start_text : List ℕ
delete_start_text = codes "DELETE FROM start WHERE meter = ?1 AND start = ?2"

abbrev pub delete_start_query : Query
delete_start_query = plain_query 9 (eq 1 0 ∷ eq 2 1 ∷ []) (col 1 0 ∷ [])

pub delete_start_is : IsDelete delete_start_text 5 delete_start_query
unfolding understood everything
delete_start_is = record { is = λ checks. refl; plain = λ checks. (refl, refl) }

abbrev pub insert_start_text : List ℕ
insert_start_text = codes "INSERT INTO start (meter, start, owner) VALUES (?1, ?2, ?3)"

pub insert_start_is : IsInsert insert_start_text 5 4 three_terms
unfolding understood everything
insert_start_is = record { is = λ checks. refl; plain = λ checks. (refl, refl) }

abbrev pub starts_text : List ℕ
starts_text = codes "SELECT start, owner FROM start WHERE meter = ?1 ORDER BY start"

abbrev pub starts_query : Query
starts_query = record (plain_query 9 (eq 1 0 ∷ []) (col 1 2 ∷ col 1 3 ∷ [])) { order = (col 1 2, up) ∷ [] }

pub starts_is : IsQuery starts_text starts_query
unfolding understood everything
starts_is = record { names = codes "start" ∷ codes "owner" ∷ []; is = λ checks. refl; unlisted = λ checks. refl; plain = λ checks. (refl, refl) }

-- ---- totals of energy
abbrev pub delete_total_text : List ℕ
delete_total_text = codes "DELETE FROM period_total WHERE owner = ?1 AND period = ?2 AND band = ?3 AND direction = ?4"

abbrev pub delete_total_query : Query
delete_total_query = plain_query 20 (eq 1 0 ∷ eq 2 1 ∷ eq 3 2 ∷ eq 4 3 ∷ []) (col 1 0 ∷ [])

pub delete_total_is : IsDelete delete_total_text 11 delete_total_query
unfolding understood everything
delete_total_is = record { is = λ checks. refl; plain = λ checks. (refl, refl) }

abbrev pub insert_total_text : List ℕ
insert_total_text = codes "INSERT INTO period_total (owner, period, band, direction, wh) VALUES (?1, ?2, ?3, ?4, ?5)"

abbrev pub five_terms : List Term
five_terms = lit Null ∷ col 0 0 ∷ col 0 1 ∷ col 0 2 ∷ col 0 3 ∷ col 0 4 ∷ []

pub insert_total_is : IsInsert insert_total_text 11 6 five_terms
unfolding understood everything
insert_total_is = record { is = λ checks. refl; plain = λ checks. (refl, refl) }

abbrev pub set_total_text : List ℕ
set_total_text = codes "UPDATE period_total SET wh = ?5 WHERE owner = ?1 AND period = ?2 AND band = ?3 AND direction = ?4"

-- the row with its rowid and key, and the amount that is given
abbrev pub set_total_terms : List Term
set_total_terms = col 1 0 ∷ col 1 1 ∷ col 1 2 ∷ col 1 3 ∷ col 1 4 ∷ col 0 4 ∷ []

abbrev pub set_total_query : Query
set_total_query = plain_query 20 delete_total_query.filter (col 1 0 ∷ set_total_terms)

pub set_total_is : IsUpdate set_total_text 11 set_total_query
unfolding understood everything
set_total_is = record { is = λ checks. refl; plain = λ checks. (refl, refl) }

abbrev pub total_text : List ℕ
total_text = codes "SELECT wh FROM period_total WHERE owner = ?1 AND period = ?2 AND band = ?3 AND direction = ?4"

abbrev pub total_query : Query
total_query = plain_query 20 (eq 1 0 ∷ eq 2 1 ∷ eq 3 2 ∷ eq 4 3 ∷ []) (col 1 5 ∷ [])

pub total_is : IsQuery total_text total_query
unfolding understood everything
total_is = record { names = codes "wh" ∷ []; is = λ checks. refl; unlisted = λ checks. refl; plain = λ checks. (refl, refl) }

-- ---- totals of top-ups: the account is the rowid
abbrev pub delete_payment_text : List ℕ
delete_payment_text = codes "DELETE FROM total_topup WHERE account = ?1"

abbrev pub delete_payment_query : Query
delete_payment_query = plain_query 13 (eq 0 0 ∷ []) (col 1 0 ∷ [])

pub delete_payment_is : IsDelete delete_payment_text 7 delete_payment_query
unfolding understood everything
delete_payment_is = record { is = λ checks. refl; plain = λ checks. (refl, refl) }

abbrev pub insert_payment_text : List ℕ
insert_payment_text = codes "INSERT INTO total_topup (account, cents) VALUES (?1, ?2)"

abbrev pub payment_terms : List Term
payment_terms = col 0 0 ∷ lit Null ∷ col 0 1 ∷ []

pub insert_payment_is : IsInsert insert_payment_text 7 3 payment_terms
unfolding understood everything
insert_payment_is = record { is = λ checks. refl; plain = λ checks. (refl, refl) }

abbrev pub set_payment_text : List ℕ
set_payment_text = codes "UPDATE total_topup SET cents = ?2 WHERE account = ?1"

abbrev pub set_payment_terms : List Term
set_payment_terms = col 1 0 ∷ lit Null ∷ col 0 1 ∷ []

abbrev pub set_payment_query : Query
set_payment_query = plain_query 13 delete_payment_query.filter (col 1 0 ∷ set_payment_terms)

pub set_payment_is : IsUpdate set_payment_text 7 set_payment_query
unfolding understood everything
set_payment_is = record { is = λ checks. refl; plain = λ checks. (refl, refl) }

abbrev pub payment_text : List ℕ
payment_text = codes "SELECT cents FROM total_topup WHERE account = ?1"

abbrev pub payment_query : Query
payment_query = plain_query 13 (eq 0 0 ∷ []) (col 1 2 ∷ [])

pub payment_is : IsQuery payment_text payment_query
unfolding understood everything
payment_is = record { names = codes "cents" ∷ []; is = λ checks. refl; unlisted = λ checks. refl; plain = λ checks. (refl, refl) }
