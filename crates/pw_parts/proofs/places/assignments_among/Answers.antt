use Rattle.std.proofs.Common.{◌≡◌, true, false}
use Rattle.pw_model.specs.Kinds.{IsAssignment}
use Rattle.pw_parts.specs.declared.place.Place.TheVariants.{TopUps}
use Rattle.pw_parts.specs.inner.Places.{is_before}
use Rattle.pw_parts.proofs.Parted.{first, held-both, assignments-next}
use Rattle.pw_parts.proofs.places.assignments_among.Goals as goal

pub parted-requires-2 : goal.parted-requires-2
parted-requires-2 c = c.parted.ensures.behind.rising

pub returns : goal.returns
returns c = held-both (λ k. is_before first k ≡ false) (λ k. is_before TopUps k ≡ true) IsAssignment c.args.records.now c.parted.result.1.now c.parted-2.result.0.now c.parted.ensures.behind c.parted-2.ensures.before assignments-next
