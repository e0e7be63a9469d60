-- What queries over our tables leave of the connection.
use Rattle.std.proofs.Common.{codes, ℕ, List, refl, sym, subst}
use Rattle.sqlite.specs.Schema.{Schema}
use Rattle.sqlite_tied.specs.Compute.{everything}
use Rattle.sqlite.specs.Listing.{understood}
use Rattle.sqlite.proofs.Callers.{IsPlain}
use Rattle.sqlite.specs.Query.{Query}
use Rattle.pw_schema.specs.Tables.{IsOurs, only_one}
use Rattle.pw_store.proofs.Texts.{IsQuery}
pub use Rattle.pw_schema.proofs.Queries.{asks_if}

abbrev pub one_text : List ℕ
one_text = codes "SELECT 1"

pub one_plain : (s : Schema) → IsPlain (understood s one_text)
unfolding understood everything
one_plain s = (refl, refl)

-- a query over our tables is plain under a schema that is ours
pub ours_plain : {text : List ℕ} {q : Query} → IsQuery text q → (s : Schema) → IsOurs s → IsPlain (understood s text)
ours_plain {text} it s ours = subst (λ t. IsPlain (understood t text)) (sym ours) (it.plain only_one)
