use Rattle.std.proofs.Common.{◌+◌, rules}
use Rattle.pw_bills.specs.inner.Gathering.{pass_of}
use Rattle.pw_bills.proofs.Reading.{points-counted}
use Rattle.pw_bills.proofs.points.points_over.Goals as goal

pub points_around-requires : goal.points_around-requires
points_around-requires g c = record { idle = c.requires.able.idle; stretches = c.requires.able.stretches }

pub returns-clause-tally : goal.returns-clause-tally
returns-clause-tally g c = λ k most h.
    let place = c.args.place.now in
    points-counted (pass_of place.basis.now.office.now (g.S.Shelf.state c.args.shelf.now).content place.stretches.now.account place.stretches.now.begins.now (place.stretches.now.last + 1))
    place.meter.0 place.register most _ _ h (c.points_around.ensures.tally k)

pub returns-clause-points : goal.returns-clause-points
returns-clause-points g c = search rules depth 0 fits 100
