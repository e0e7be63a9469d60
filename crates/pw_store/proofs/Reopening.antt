-- A store that was closed holds, when it is opened again, what was committed last.
use Rattle.std.proofs.Common.{◌≡◌, inl, inr, ℕ, List, [], Result, Ok, Err, IfOk, sym, ap, subst, ◌∙◌}
use Rattle.sqlite.specs.Schema.{Schema}
use Rattle.pw_schema.specs.Tables.{IsOurs, no_schema, ours_with, only_one}
use Rattle.pw_model.specs.Shelf.{ShelfContent}
use Rattle.sqlite.specs.Effect.{Database}
use Rattle.pw_tariff.specs.Office.{OfficeFile, OfficeRules, office_of}
use Rattle.pw_tariff.specs.Text.{IsOfficeOf}
use Rattle.pw_schema.specs.declared.kind.StoreVersion.TheVariants.{Third}
use Rattle.pw_store.specs.Content.{content_of, content_of_version}
use Rattle.pw_store.specs.Opening.{IsFound}
use Rattle.pw_store.proofs.Openable.{one_version}

-- our tables are something
pub not_nothing : (s : Schema) → IsOurs s → s ≡ no_schema → ⊥
not_nothing s ours none =
    let e : [] ≡ (ours_with only_one).tables = sym (ap (λ (x : Schema). x.tables) none) ∙ ap (λ (x : Schema). x.tables) ours in
    cc

-- what is found of a database with our tables is their content
pub found_ours : (office : OfficeRules) (db : Database) (c : ShelfContent) → IsOurs db.schema → IsFound office db c → c ≡ content_of db.trees
found_ours office db c ours (inl it) = subst (λ v. c ≡ content_of_version office v db.trees) (one_version it.0 Third db.schema it.1.0 ours) it.1.1
found_ours office db c ours (inr none) = absurd (not_nothing db.schema ours none.0)

module _ {A E : Type 0} (body : List ℕ) (Clean Open : Type 0) (CleanAt : A → Type 0) (held : A → ShelfContent) (db : Database) (last : ShelfContent) where
  pub reopened : (r : Result A E) → (Clean → Open → content_of db.trees ≡ last) → (Clean → Open → IsOurs db.schema) → IfOk r (λ a. CleanAt a → Clean × Open)
      → IfOk r (λ a. CleanAt a → (office : OfficeFile) × IsOfficeOf body office × IsFound (office_of office) db (held a)) → IfOk r (λ a. CleanAt a → held a ≡ last)
  reopened (Err e) same ours was content = tt
  reopened (Ok a) same ours was content = λ clean.
      (let before = was clean in let it = content clean in found_ours (office_of it.0) db (held a) (ours before.0 before.1) it.2 ∙ same before.0 before.1)
