-- A store of this office, of any version, and of this text is refused only for the engine's sake, or for memory.
use Rattle.std.proofs.Common.{arith, ◌≡◌, ◌<◌, ◌⊎◌, inl, inr, ℕ, pos, length, List, [], ◌∷◌, refl, sym, ap, subst, ◌∙◌}
use Rattle.std.specs.List.Sorted.{IsPermutation}
use Rattle.std.proofs.lemmas.List.Sorted.{IsPermutation-sym, IsPermutation-trans}
use Rattle.sqlite.specs.declared.types.Value.{Value}
use Rattle.sqlite.specs.declared.types.Value.TheVariants.{Int}
use Rattle.sqlite.specs.Order.{Row, column}
use Rattle.sqlite.specs.Schema.{Schema}
use Rattle.sqlite.specs.Effect.{Database}
use Rattle.pw_tariff.specs.Office.{OfficeRules}
use Rattle.pw_schema.specs.declared.kind.StoreVersion.{StoreVersion}
use Rattle.pw_schema.specs.declared.kind.StoreVersion.TheVariants.{First, Second, Third}
use Rattle.pw_schema.specs.Judging.{HasVersion}
use Rattle.pw_schema.specs.Tables.{BeginsAsOurs, IsOf, no_schema, version_number}
use Rattle.sqlite.proofs.Callers.{one_permutation}
use Rattle.pw_store.specs.declared.fault.OpenFault.{OpenFault}
use Rattle.pw_store.specs.declared.fault.OpenFault.TheVariants.{Store, Memory, OfficeDiffers, Version, Unclean}
use Rattle.pw_store.specs.Opening.{HoldsTables, IsOpenable, IsSpoilt, KeepsText, OpenableOpens, Refuses, offices}
use Rattle.pw_store.proofs.OfficeFirst.{version_begins}
use Rattle.pw_store.proofs.OfContent.{records_held, sums_held}

-- two listings of one row are alike
same_row : (all xs ys : List Row) (x : Row) → IsPermutation all xs → IsPermutation all ys → xs ≡ x ∷ [] → ys ≡ x ∷ []
same_row all xs ys x p q is = one_permutation x ys (subst (λ zs. IsPermutation zs ys) is (IsPermutation-trans xs all ys (IsPermutation-sym all xs p) q))

row_is : (x y : Row) (xs : List Row) → xs ≡ x ∷ [] → xs ≡ y ∷ [] → y ≡ x
row_is x y xs a b = let e : y ∷ [] ≡ x ∷ [] = sym b ∙ a in cc

-- ---- a store has one version
-- a number that rises from version to version tells them apart
one_by : (f : StoreVersion → ℕ) → f First < f Second → f Second < f Third → (v w : StoreVersion) → f v ≡ f w → v ≡ w
one_by f a b First First e = refl
one_by f a b First Second e = absurd (omega (arith, a, e))
one_by f a b First Third e = absurd (omega (arith, a, b, e))
one_by f a b Second First e = absurd (omega (arith, a, e))
one_by f a b Second Second e = refl
one_by f a b Second Third e = absurd (omega (arith, b, e))
one_by f a b Third First e = absurd (omega (arith, a, b, e))
one_by f a b Third Second e = absurd (omega (arith, b, e))
one_by f a b Third Third e = refl

one_number : (v w : StoreVersion) → version_number v ≡ version_number w → v ≡ w
one_number = one_by version_number (omega arith) (omega arith)

abbrev number_of : Value → ℕ
number_of (Int (pos n)) = n
number_of _ = 0

-- so many tables
abbrev tables_of : StoreVersion → ℕ
tables_of First = 8
tables_of Second = 11
tables_of Third = 12

counted : (v : StoreVersion) (s : Schema) → IsOf v s → length s.tables ≡ tables_of v
counted First s is = ap (λ (x : Schema). length x.tables) is
counted Second s is = ap (λ (x : Schema). length x.tables) is
counted Third s is = ap (λ (x : Schema). length x.tables) is

pub one_version : (v w : StoreVersion) (s : Schema) → IsOf v s → IsOf w s → v ≡ w
one_version v w s a b = one_by tables_of (omega arith) (omega arith) v w (sym (counted v s a) ∙ counted w s b)

module _ (v : StoreVersion) (office : OfficeRules) (body : List ℕ) (db : Database) (it : IsOpenable v office body db) where
  same_as : (other : Row) (rows : List Row) → IsPermutation (offices db.trees) rows → rows ≡ other ∷ [] → other ≡ it.text.1.1.0
  same_as other rows shown is = row_is it.text.1.1.0 other rows (same_row _ it.text.0 rows it.text.1.1.0 it.text.1.0 shown it.text.1.1.1) is

  not_beside : (w : StoreVersion) → KeepsText (HasVersion w) db.trees → (HoldsTables w db → ⊥) → ⊥
  not_beside w text none =
      let other = text.1.1 in
      let same = same_as other.0 text.0 text.1.0 other.1 in
      let number : version_number w ≡ version_number v = ap number_of (sym other.2 ∙ ap (λ (row : Row). column row 0) same ∙ it.text.1.1.2) in
      none (subst (λ x. HoldsTables x db) (sym (one_number w v number)) it.ours)

  not_spoilt : IsSpoilt v office db.trees → ⊥
  not_spoilt (inl records) = records (records_held v office db.trees it.rows it.of_office)
  not_spoilt (inr (inl many)) = let few = it.few in omega (arith, few, many)
  not_spoilt (inr (inr (inl sums))) = sums (sums_held v office db.trees it.rows it.of_office it.truth it.named)
  not_spoilt (inr (inr (inr untrue))) = untrue it.truth

pub opens_version : (v : StoreVersion) (office : OfficeRules) (body : List ℕ) (db : Database) (fault : OpenFault) → IsOpenable v office body db → Refuses office body db fault → (fault ≡ Store) ⊎ (fault ≡ Memory)
opens_version v office body db Store it r = inl refl
opens_version v office body db Memory it r = inr refl
opens_version v office body db OfficeDiffers it r =
    let told = r.1.1.1 in
    let other = told.1.1 in
    let same = same_as v office body db it other.0 told.0 told.1.0 other.1 in
    absurd (other.3 (subst (λ (row : Row). column row 1 ≡ _) (sym same) it.text.1.1.3))
opens_version v office body db Version it r =
    let told = r.1 in
    let other = told.1.1 in
    let same = same_as v office body db it other.0 told.0 told.1.0 other.1 in
    absurd (other.2 v (subst (λ (row : Row). column row 0 ≡ _) (sym same) it.text.1.1.2))
opens_version v office body db Unclean it (inl r) = absurd (r.1 (version_begins v db.schema it.ours.schema_is))
opens_version v office body db Unclean it (inr r) = elim r.1 [
  | inl none ↦ absurd (none.1.1 it.text.1.1.0 (same_row _ it.text.0 none.0 it.text.1.1.0 it.text.1.0 none.1.0 it.text.1.1.1))
  | inr more ↦ elim more [
    | inl beside ↦ absurd (not_beside v office body db it beside.0 beside.1.0 beside.1.1)
    | inr spoilt ↦ absurd (not_spoilt v office body db it (subst (λ w. IsSpoilt w office db.trees) (one_version spoilt.0 v db.schema spoilt.1.0.schema_is it.ours.schema_is) spoilt.1.1.1))
  ]
]

not_begun : (s : Schema) → s ≡ no_schema → BeginsAsOurs s → ⊥
not_begun s none begun = let e : 0 ≡ 8 = ap length (subst BeginsAsOurs none begun).tables in omega (arith, e)

nothing_opens : (office : OfficeRules) (body : List ℕ) (db : Database) (fault : OpenFault) → db.schema ≡ no_schema → Refuses office body db fault → (fault ≡ Store) ⊎ (fault ≡ Memory)
nothing_opens office body db Store none r = inl refl
nothing_opens office body db Memory none r = inr refl
nothing_opens office body db OfficeDiffers none r = absurd (not_begun db.schema none r.0)
nothing_opens office body db Version none r = absurd (not_begun db.schema none r.0)
nothing_opens office body db Unclean none (inl r) = absurd (r.0 none)
nothing_opens office body db Unclean none (inr r) = absurd (not_begun db.schema none r.0)

pub opens : OpenableOpens
opens office body db fault (inl none) r = nothing_opens office body db fault none r
opens office body db fault (inr it) r = opens_version it.0 office body db fault it.1 r
