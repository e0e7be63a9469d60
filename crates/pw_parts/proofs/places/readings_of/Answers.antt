use Rattle.std.proofs.Common.{◌≡◌, true}
use Rattle.pw_model.specs.Kinds.{IsReadingOf}
use Rattle.pw_parts.specs.declared.place.Place.TheVariants as place
use Rattle.pw_parts.specs.inner.Places.{is_at}
use Rattle.pw_parts.proofs.Parted.{held-as, register-there}
use Rattle.pw_parts.proofs.places.readings_of.Goals as goal

pub returns : goal.returns
returns c = held-as (λ k. is_at (place.Readings c.args.meter c.args.register) k ≡ true) (IsReadingOf c.args.meter c.args.register) c.args.records.now c.at_place.result.now c.at_place.ensures (register-there c.args.meter c.args.register)
