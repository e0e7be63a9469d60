use Rattle.std.proofs.Common.{◌≡◌, true}
use Rattle.pw_model.specs.Kinds.{IsReading}
use Rattle.pw_parts.specs.inner.Places.{is_before}
use Rattle.pw_parts.proofs.Parted.{first, held-as, readings-first}
use Rattle.pw_parts.proofs.places.readings_among.Goals as goal

pub returns : goal.returns
returns c = held-as (λ k. is_before first k ≡ true) IsReading c.args.records.now c.parted.result.0.now c.parted.ensures.before readings-first
