-- What the query on `office` shows, whatever stands behind our tables.
use Rattle.std.proofs.Common.{◌≡◌, ℕ, suc, List, [], ◌∷◌, map, drop, take, codes, false, refl, sym, ap, subst, subst₂}
use Rattle.std.specs.List.Sorted.{IsPermutation}
use Rattle.std.proofs.lemmas.List.Sorted.{IsPermutation-map}
use Rattle.sqlite.specs.Order.{Row}
use Rattle.sqlite.specs.Table.{Table}
use Rattle.sqlite.specs.Schema.{Schema}
use Rattle.sqlite.specs.Query.{Output, output}
use Rattle.sqlite.specs.Command.TheVariants.{Select}
use Rattle.sqlite.specs.State.{State, Shown}
use Rattle.sqlite.specs.Listing.{understood, reads_listing}
use Rattle.sqlite_schema.specs.declared.schema.Index.{Index}
use Rattle.sqlite_schema.specs.declared.schema.View.{View}
use Rattle.sqlite_tied.specs.Compute.{everything}
use Rattle.sqlite.proofs.Callers.{IsPlain, command_of}
use Rattle.pw_schema.specs.Tables.{BeginsAsOurs, IsOf, IsOurs, office_at, only_one}
use Rattle.pw_schema.specs.declared.kind.StoreVersion.{StoreVersion}
use Rattle.pw_schema.specs.declared.kind.StoreVersion.TheVariants.{First, Second, Third}
use Rattle.pw_store.specs.Opening.{offices, shown_office}
use Rattle.pw_store.proofs.Texts.{office_text, office_query}
use Rattle.pw_store.proofs.Scans.{answer_of, scan_of}

-- ---- a schema whose first table is `office`
abbrev first_with : List Table → List Index → List View → Schema
first_with others indexes views = record { tables = office_at 0 only_one ∷ others; indexes = indexes; views = views }

office_is : (others : List Table) (indexes : List Index) (views : List View) → command_of (understood (first_with others indexes views) office_text) ≡ Select (record { lets = []; body = office_query }) (codes "version" ∷ codes "body" ∷ [])
unfolding understood everything
office_is others indexes views = refl

office_unlisted : (others : List Table) (indexes : List Index) (views : List View) → reads_listing (first_with others indexes views) office_text ≡ false
unfolding understood everything
office_unlisted others indexes views = refl

office_plain : (others : List Table) (indexes : List Index) (views : List View) → IsPlain (understood (first_with others indexes views) office_text)
unfolding understood everything
office_plain others indexes views = (refl, refl)

-- ---- so does one that begins with our tables
head_is : (n : ℕ) (tables : List Table) (t : Table) (more : List Table) → take (suc n) tables ≡ t ∷ more → tables ≡ t ∷ drop 1 tables
head_is n [] t more e = absurd cc
head_is n (x ∷ tables) t more e = let same : x ≡ t = cc in ap (λ y. y ∷ tables) same

office_first : (s : Schema) → BeginsAsOurs s → s ≡ first_with (drop 1 s.tables) s.indexes s.views
office_first s begun = λ i. record { tables = head_is 7 s.tables _ _ begun.tables i; indexes = s.indexes; views = s.views }

pub version_begins : (v : StoreVersion) (s : Schema) → IsOf v s → BeginsAsOurs s
version_begins First s is = subst BeginsAsOurs (sym is) (record { tables = refl; indexes = refl })
version_begins Second s is = subst BeginsAsOurs (sym is) (record { tables = refl; indexes = refl })
version_begins Third s is = subst BeginsAsOurs (sym is) (record { tables = refl; indexes = refl })

pub ours_begin : (s : Schema) → IsOurs s → BeginsAsOurs s
ours_begin s ours = subst BeginsAsOurs (sym ours) (record { tables = refl; indexes = refl })

pub first_plain : (s : Schema) → BeginsAsOurs s → IsPlain (understood s office_text)
first_plain s begun = subst (λ t. IsPlain (understood t office_text)) (sym (office_first s begun)) (office_plain (drop 1 s.tables) s.indexes s.views)

-- ---- its rows
abbrev second : Output → Row
second o = o.1

office_shown : (rows : List Row) → map second (map (output (scan_of 0 office_query)) (map (λ r. [] ∷ r ∷ []) rows)) ≡ map shown_office rows
office_shown [] = refl
office_shown (r ∷ rows) = ap (λ xs. shown_office r ∷ xs) (office_shown rows)

pub shows_office : (old new : State) (rows : List Row) → BeginsAsOurs old.now.schema → Shown office_text [] old new rows → IsPermutation (offices old.now.trees) rows
shows_office old new rows begun h =
    let s = old.now.schema in
    let others = drop 1 s.tables in
    let scan = answer_of (first_with others s.indexes s.views) office_text [] old new (codes "version" ∷ codes "body" ∷ []) 0 office_query rows (office_first s begun) (office_is others s.indexes s.views) (office_plain others s.indexes s.views) (office_unlisted others s.indexes s.views) h in
    subst₂ IsPermutation (office_shown _) (sym scan.shown) (IsPermutation-map second _ _ scan.same)
