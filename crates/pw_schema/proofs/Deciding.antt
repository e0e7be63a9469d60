-- The derived tests of records and totals decide whether two are one.
use Rattle.std.proofs.Common.{◌≡◌, ℕ, Bool, ◌&&◌, ◌==◌, Option, Some, None, refl, sym, ap, ◌∙◌, Decides}
use Rattle.std.proofs.lemmas.Bool.Decides.{Decides-like, Decides-and, Decides-eqb}
use Rattle.std.specs.Option.{option_eq}
use Rattle.pw_tariff.specs.contracts.ids.DirectionPartialEq.TheImpl as derived_direction
use Rattle.pw_tariff.specs.declared.ids.AccountId.{AccountId}
use Rattle.pw_tariff.specs.declared.ids.BandId.{BandId}
use Rattle.pw_tariff.specs.declared.ids.PeriodId.{PeriodId}
use Rattle.pw_tariff.specs.declared.ids.Direction.{Direction}
use Rattle.pw_tariff.specs.declared.ids.Direction.TheVariants.{Import, Export}
use Rattle.pw_model.specs.contracts.records.EntryPartialEq.TheImpl as derived_entry
use Rattle.pw_model.specs.contracts.records.TotalKeyPartialEq.TheImpl as derived_total
use Rattle.pw_model.specs.declared.records.Entry.{Entry}
use Rattle.pw_model.specs.declared.records.TotalKey.{TotalKey}
use Rattle.pw_model.specs.declared.records.TotalKey.TheVariants.{Energy, TopUps}
use Rattle.pw_model.proofs.Alike.{entries-alike}
use Rattle.pw_model.proofs.Same.{same_entry-decides}

pub entries_decided : (a b : Entry) → Decides (derived_entry.ghosts.eq a b) (a ≡ b)
entries_decided a b = (λ e. (same_entry-decides a b).0 (sym (entries-alike a b) ∙ e), λ e. entries-alike a b ∙ (same_entry-decides a b).1 e)

abbrev owner_eq : Option AccountId → Option AccountId → Bool
owner_eq = option_eq (λ (a b : AccountId). a.0 == b.0)

owners_decided : (o p : Option AccountId) → Decides (owner_eq o p) (o ≡ p)
owners_decided None None = (λ e. refl, λ e. refl)
owners_decided None (Some b) = (λ e. cc, λ e. cc)
owners_decided (Some a) None = (λ e. cc, λ e. cc)
owners_decided (Some a) (Some b) = Decides-like (a.0 == b.0) (λ e i. Some (record { 0 = e i })) (λ e. cc) (Decides-eqb a.0 b.0)

directions_decided : (d e : Direction) → Decides (derived_direction.ghosts.eq d e) (d ≡ e)
directions_decided Import Import = (λ e. refl, λ e. refl)
directions_decided Import Export = (λ e. cc, λ e. cc)
directions_decided Export Import = (λ e. cc, λ e. cc)
directions_decided Export Export = (λ e. refl, λ e. refl)

totals_decided : (k l : TotalKey) → Decides (derived_total.ghosts.eq k l) (k ≡ l)
totals_decided (Energy o p b d) (Energy q r c e) =
    Decides-like {P = (o ≡ q) × ((p.0 ≡ r.0) × ((b.0 ≡ c.0) × (d ≡ e)))} (derived_total.ghosts.eq (Energy o p b d) (Energy q r c e))
    (λ h i. Energy (h.0 i) (record { 0 = h.1.0 i }) (record { 0 = h.1.1.0 i }) (h.1.1.1 i))
    (λ h. (let first : o ≡ q = cc in let second : p ≡ r = cc in let third : b ≡ c = cc in let fourth : d ≡ e = cc in (first, (ap (λ (x : PeriodId). x.0) second, (ap (λ (x : BandId). x.0) third, fourth)))))
    (Decides-and (owner_eq o q) ((p.0 == r.0) && ((b.0 == c.0) && derived_direction.ghosts.eq d e)) (owners_decided o q)
    (Decides-and (p.0 == r.0) ((b.0 == c.0) && derived_direction.ghosts.eq d e) (Decides-eqb p.0 r.0) (Decides-and (b.0 == c.0) (derived_direction.ghosts.eq d e) (Decides-eqb b.0 c.0) (directions_decided d e))))
totals_decided (TopUps a) (TopUps b) = Decides-like (a.0 == b.0) (λ e i. TopUps (record { 0 = e i })) (λ e. (let one : a ≡ b = cc in ap (λ (x : AccountId). x.0) one)) (Decides-eqb a.0 b.0)
totals_decided (Energy o p b d) (TopUps a) = (λ e. cc, λ e. cc)
totals_decided (TopUps a) (Energy o p b d) = (λ e. cc, λ e. cc)

pub rows_decided : (s t : TotalKey × ℕ) → Decides (derived_total.ghosts.eq s.0 t.0 && (s.1 == t.1)) (s ≡ t)
rows_decided s t = Decides-like {P = (s.0 ≡ t.0) × (s.1 ≡ t.1)} (derived_total.ghosts.eq s.0 t.0 && (s.1 == t.1)) (λ h i. (h.0 i, h.1 i)) (λ e. (ap (λ (x : TotalKey × ℕ). x.0) e, ap (λ (x : TotalKey × ℕ). x.1) e))
    (Decides-and (derived_total.ghosts.eq s.0 t.0) (s.1 == t.1) (totals_decided s.0 t.0) (Decides-eqb s.1 t.1))
