-- Keys of totals with the same numbers are one.
use Rattle.std.proofs.Common.{◌≡◌, Option, Some, None, refl, arith}
use Rattle.pw_tariff.specs.declared.ids.AccountId.{AccountId}
use Rattle.pw_tariff.specs.declared.ids.Direction.{Direction}
use Rattle.pw_tariff.specs.declared.ids.Direction.TheVariants.{Import, Export}
use Rattle.pw_tariff.specs.Cells.{owner_place}
use Rattle.pw_model.specs.declared.records.TotalKey.{TotalKey}
use Rattle.pw_model.specs.declared.records.TotalKey.TheVariants.{Energy, TopUps}
use Rattle.pw_model.specs.Same.{direction_place, total_numbers}

owners_one : (o p : Option AccountId) → owner_place o ≡ owner_place p → o ≡ p
owners_one None None e = refl
owners_one None (Some b) e = absurd (omega (arith, e))
owners_one (Some a) None e = absurd (omega (arith, e))
owners_one (Some a) (Some b) e = let f : a.0 ≡ b.0 = omega (arith, e) in λ i. Some (record { 0 = f i })

directions_one : (d e : Direction) → direction_place d ≡ direction_place e → d ≡ e
directions_one Import Import h = refl
directions_one Import Export h = absurd (omega (arith, h))
directions_one Export Import h = absurd (omega (arith, h))
directions_one Export Export h = refl

pub totals_one : (k l : TotalKey) → total_numbers k ≡ total_numbers l → k ≡ l
unfolding total_numbers
totals_one (Energy o p b d) (Energy q r c e) h =
    let i : owner_place o ≡ owner_place q = cc in
    let j : p.0 ≡ r.0 = cc in
    let k : b.0 ≡ c.0 = cc in
    let l : direction_place d ≡ direction_place e = cc in
    λ n. Energy (owners_one o q i n) (record { 0 = j n }) (record { 0 = k n }) (directions_one d e l n)
totals_one (TopUps a) (TopUps b) h = let i : a.0 ≡ b.0 = cc in λ n. TopUps (record { 0 = i n })
totals_one (Energy o p b d) (TopUps a) h = cc
totals_one (TopUps a) (Energy o p b d) h = cc
