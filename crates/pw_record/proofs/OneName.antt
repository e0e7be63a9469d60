-- No two meters of an office have one id, and no two accounts one name.
use Rattle.std.proofs.Common.{◌≡◌, ℕ, List, Option, Some, None, refl, ap, ◌∙◌}
use Rattle.std.proofs.lemmas.Option.{slice_get-map}
use Rattle.pw_tariff.specs.declared.ids.AccountId.{AccountId}
use Rattle.pw_tariff.specs.Office.{OfficeFile, MeterText, AreNamed}
use Rattle.pw_record.specs.Names.{HasId, HasName, IsOwner, IsUnknownOwner}

pub one_id : (file : OfficeFile) → AreNamed file → (id : List ℕ) (a b : ℕ) → HasId file id a → HasId file id b → a ≡ b
one_id file named id a b x y =
    named.meters a b id (slice_get-map (λ (m : MeterText). m.id) file.meters a ∙ x) (slice_get-map (λ (m : MeterText). m.id) file.meters b ∙ y)

pub one_name : (file : OfficeFile) → AreNamed file → (name : List ℕ) (a b : ℕ) → HasName file name a → HasName file name b → a ≡ b
one_name file named name a b x y = named.accounts a b name x y

abbrev account_at : ℕ → AccountId
account_at place = record { 0 = place }

-- a text names one owner, or an unknown one
pub one_owner : (file : OfficeFile) → AreNamed file → (name : List ℕ) (a b : Option AccountId) → IsOwner file name a → IsOwner file name b → a ≡ b
one_owner file named name None None x y = refl
one_owner file named name None (Some b) x y = absurd (y.0 x)
one_owner file named name (Some a) None x y = absurd (x.0 y)
one_owner file named name (Some a) (Some b) x y = ap (λ (place : ℕ). Some (account_at place)) (one_name file named name a.0 b.0 x.1 y.1)

pub owner_known : (file : OfficeFile) (name : List ℕ) (a : Option AccountId) → IsUnknownOwner file name → IsOwner file name a → ⊥
owner_known file name None x y = x.0 y
owner_known file name (Some a) x y = x.1 a.0 y.1
