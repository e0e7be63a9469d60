use Rattle.std.proofs.Common.{◌≡◌, true}
use Rattle.pw_model.specs.Kinds.{IsTopUp}
use Rattle.pw_parts.specs.declared.place.Place.TheVariants as place
use Rattle.pw_parts.specs.inner.Places.{is_at}
use Rattle.pw_parts.proofs.Parted.{held-as, top-ups-there}
use Rattle.pw_parts.proofs.places.top_ups_among.Goals as goal

pub returns : goal.returns
returns c = held-as (λ k. is_at (place.TopUps) k ≡ true) (IsTopUp) c.args.records.now c.at_place.result.now c.at_place.ensures (top-ups-there)
