-- What the query on the list of objects shows.
use Rattle.std.proofs.Common.{◌≡◌, List, ℕ, [], ◌∷◌, map, codes, true, refl, sym, ap, subst, subst₂, ◌∙◌}
use Rattle.std.specs.List.Sorted.{IsPermutation}
use Rattle.std.proofs.lemmas.List.Sorted.{IsPermutation-map}
use Rattle.sqlite.specs.declared.types.Value.TheVariants.{Null}
use Rattle.sqlite.specs.Order.{Row}
use Rattle.sqlite.specs.Schema.{Schema}
use Rattle.sqlite.specs.Term.{col}
use Rattle.sqlite.specs.Query.{Query, Output}
use Rattle.sqlite.specs.Program.{overlay}
use Rattle.sqlite.specs.Command.TheVariants.{Select}
use Rattle.sqlite.specs.Effect.{Database, Reads}
use Rattle.sqlite.specs.Listing.{understood, reads_listing, listing_schema, IsSourceOf}
use Rattle.sqlite.specs.State.{State, Shown}
use Rattle.sqlite_tied.specs.Compute.{everything}
use Rattle.sqlite.proofs.Callers.{IsPlain, command_of}
use Rattle.pw_schema.specs.Conflicts.{listing, only_text}
use Rattle.pw_schema.specs.Tables.{IsKnown, schema_of}
use Rattle.pw_schema.specs.declared.kind.StoreVersion.{StoreVersion}
use Rattle.pw_schema.specs.declared.kind.StoreVersion.TheVariants.{First, Second, Third}
use Rattle.pw_schema.specs.inner.Listed.{ShowsTexts}
use Rattle.pw_schema.proofs.Scans.{outputs, plain_query, scans}

abbrev pub texts_text : List ℕ
texts_text = codes "SELECT sql FROM sqlite_schema"

abbrev texts_query : Query
texts_query = plain_query 0 [] (col 1 5 ∷ [])

texts_is : (v : StoreVersion) → command_of (understood (schema_of v) texts_text) ≡ Select (record { lets = []; body = texts_query }) (codes "sql" ∷ [])
unfolding understood everything listing_schema
texts_is First = refl
texts_is Second = refl
texts_is Third = refl

texts_plain : (v : StoreVersion) → IsPlain (understood (schema_of v) texts_text)
unfolding understood everything listing_schema
texts_plain First = (refl, refl)
texts_plain Second = (refl, refl)
texts_plain Third = (refl, refl)

texts_listed : (v : StoreVersion) → reads_listing (schema_of v) texts_text ≡ true
unfolding understood everything
texts_listed First = refl
texts_listed Second = refl
texts_listed Third = refl

pub known_plain : (s : Schema) → IsKnown s → IsPlain (understood s texts_text)
known_plain s known = subst (λ t. IsPlain (understood t texts_text)) (sym known.1) (texts_plain known.0)

reads_texts : (old new : State) (rows : List Row) → IsKnown old.now.schema → Shown texts_text [] old new rows
    → (db : Database) × (db.trees 0 ≡ listing old.now.trees) × Reads (Select (record { lets = []; body = texts_query }) (codes "sql" ∷ [])) db [] rows
unfolding Shown
reads_texts old new rows ours h =
    let known = sym h.1.is ∙ ap (λ s. understood s texts_text) ours.1 in
    let bare = subst IsPlain (sym known) (texts_plain ours.0) in
    let it = rw (bare.0, bare.1) at h.2 in
    let source : IsSourceOf true old.now it.0 = subst (λ b. IsSourceOf b old.now it.0) (ap (λ s. reads_listing s texts_text) ours.1 ∙ texts_listed ours.0) it.1 in
    (it.0, source.1, subst (λ k. Reads k it.0 [] rows) (ap command_of known ∙ texts_is ours.0) it.2)

abbrev second : Output → Row
second o = o.1

texts_shown : (rows : List Row) → map second (outputs texts_query [] rows) ≡ map only_text rows
texts_shown [] = refl
texts_shown (r ∷ rows) = ap (λ xs. only_text r ∷ xs) (texts_shown rows)

pub shows_texts : (old new : State) (rows : List Row) → IsKnown old.now.schema → Shown texts_text [] old new rows → ShowsTexts old.now.trees rows
shows_texts old new rows ours h =
    let read = reads_texts old new rows ours h in
    let scan = scans 0 texts_query (overlay read.0.trees []) [] rows (read.2.answer Null) in
    subst₂ IsPermutation (texts_shown (read.0.trees 0) ∙ ap (map only_text) read.1) (sym scan.shown) (IsPermutation-map second _ _ scan.same)
