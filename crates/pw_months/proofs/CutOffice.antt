-- An office whose bands end with an interval.
use Rattle.std.proofs.Common.{◌≡◌, ℕ, ◌<◌, Bool, true, false, cond, ◌&&◌, ◌==◌, refl, arith}
use Rattle.std.proofs.lemmas.Bool.{ne_eqb}
use Rattle.pw_tariff.specs.Owners.{same_owner}
use Rattle.pw_model.specs.Counting.{contents_at}
use Rattle.pw_model.specs.Energy.{energy_where, of_class}
use Rattle.pw_months.specs.Between.{class_between, cut_office, lies_in}
use Rattle.pw_months.specs.Laws.{EnergyOfCutOffice}
use Rattle.pw_months.proofs.Shared.{where-alike}

none-of : (o p : Bool) → (o && (p && false)) ≡ false
none-of true true = refl
none-of true false = refl
none-of false p = refl

band-cut : (l o p : Bool) (x n b : ℕ) → b < n → (o && (p && (cond l x n == b))) ≡ (l && (o && (p && (x == b))))
band-cut true o p x n b h = refl
band-cut false o p x n b h = let e : (n == b) ≡ false = ne_eqb n b (λ i. omega arith) in rw e (none-of o p)

pub energy-of_cut_office : EnergyOfCutOffice
unfolding energy_where
energy-of_cut_office office s o p b d from to h =
    where-alike office (contents_at s) d (of_class (cut_office office from to) o p b) (class_between office from to o p b)
    (λ q t l. band-cut (lies_in from to t) (same_owner q o) (office.period t == p) (office.band t) office.bands b h)
