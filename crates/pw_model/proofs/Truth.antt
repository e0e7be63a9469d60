-- When the content of a shelf is true.
use Rattle.std.proofs.Common.{◌≡◌, ◌*◌, ◌≤◌, List, [], length, refl, ap, sym, ◌∙◌, arith}
use Rattle.pw_obis.specs.declared.energy.TheConstants.{LARGEST_WATT_HOURS}
use Rattle.pw_model.specs.declared.records.Key.{Key}
use Rattle.pw_model.specs.declared.records.Contents.{Contents}
use Rattle.pw_model.specs.declared.records.TotalKey.{TotalKey}
use Rattle.pw_model.specs.declared.records.TotalKey.TheVariants.{Energy, TopUps}
use Rattle.pw_model.specs.declared.records.Entry.{Entry}
use Rattle.pw_model.specs.Counting.{SameMembers, standing, contents_at, contents_among, point, start}
use Rattle.pw_tariff.specs.Office.{OfficeRules}
use Rattle.pw_model.specs.Office.{IsOffice, AllOfOffice, most_records}
use Rattle.pw_model.specs.Energy.{of_class}
use Rattle.pw_model.specs.Payments.{topped_up}
use Rattle.pw_model.specs.Shelf.{total_among, EmptyIsTrue, TrueContentsAreAlike, TrueTotalsAreBounded}
use Rattle.pw_model.proofs.Answers.{period-same, topped-same}
use Rattle.pw_model.proofs.Bounded.{asked-le, none-held}
use Rattle.pw_model.proofs.Counting.{contents-same}
use Rattle.pw_model.proofs.PlainEnergy.{energy-fits, topped-fits}

no-total : (office : OfficeRules) (k : TotalKey) → 0 ≡ total_among office [] k
unfolding topped_up
no-total office (Energy o p b d) =
    let a = asked-le office (contents_at []) d (of_class office o p.0 b.0) in
    let z = none-held office d in
    omega (arith, a, z)
no-total office (TopUps a) = refl

pub empty-true : EmptyIsTrue
unfolding contents_at contents_among standing
empty-true office = record { points = refl; starts = refl; totals = no-total office }

pub totals-same : (office : OfficeRules) (s t : List Entry) → SameMembers s t → (k : TotalKey) → total_among office s k ≡ total_among office t k
totals-same office s t h (Energy o p b d) = period-same office s t h o p.0 b.0 d
totals-same office s t h (TopUps a) = topped-same s t h a.0

pub true-alike : TrueContentsAreAlike
true-alike office c d h i m = record {
  points = h.points ∙ ap (λ (at : Key → Contents). point at) (contents-same c.records d.records m) ∙ sym i.points;
  starts = h.starts ∙ ap (λ (at : Key → Contents). start at) (contents-same c.records d.records m) ∙ sym i.starts;
  totals = λ k. h.totals k ∙ totals-same office c.records d.records m k ∙ sym (i.totals k);
}

total-fits : (office : OfficeRules) (s : List Entry) → IsOffice office → AllOfOffice office s → length s ≤ most_records → (k : TotalKey) → total_among office s k ≤ most_records * LARGEST_WATT_HOURS
total-fits office s o h few (Energy q p b d) = let f = energy-fits office s d (of_class office q p.0 b.0) o h few in omega (arith, f)
total-fits office s o h few (TopUps a) = let f = topped-fits office s a.0 o h few in omega (arith, f)

pub true-bounded : TrueTotalsAreBounded
true-bounded office c o h few i k = let f = total-fits office c.records o h few k in let e = i.totals k in omega (arith, f, e)
