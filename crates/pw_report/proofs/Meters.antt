-- A meter that is found by its id is one of the office.
use Rattle.std.proofs.Common.{◌≡◌, ◌<◌, ◌∙◌, ℕ, List, Some, length, subst}
use Rattle.std.specs.Prelude.{option_map, slice_get}
use Rattle.std.proofs.lemmas.List.{length-map}
use Rattle.std.proofs.lemmas.Option.{slice_get-map, slice_get_within}
use Rattle.pw_tariff.specs.Office.{MeterText, ids}

pub meter-within : (meters : List MeterText) (m : ℕ) (id : List ℕ) → option_map (λ t. t.id) (slice_get meters m) ≡ Some id → m < length meters
meter-within meters m id e =
    subst (λ n. m < n) (length-map meters (λ (t : MeterText). t.id)) (slice_get_within (ids meters) m id (slice_get-map (λ (t : MeterText). t.id) meters m ∙ e))
