use Rattle.std.proofs.Common.{◌≡◌, true}
use Rattle.pw_model.specs.Kinds.{IsAssignmentOf}
use Rattle.pw_parts.specs.declared.place.Place.TheVariants as place
use Rattle.pw_parts.specs.inner.Places.{is_at}
use Rattle.pw_parts.proofs.Parted.{held-as, meter-there}
use Rattle.pw_parts.proofs.places.assignments_of.Goals as goal

pub returns : goal.returns
returns c = held-as (λ k. is_at (place.Assignments c.args.meter) k ≡ true) (IsAssignmentOf c.args.meter) c.args.records.now c.at_place.result.now c.at_place.ensures (meter-there c.args.meter)
