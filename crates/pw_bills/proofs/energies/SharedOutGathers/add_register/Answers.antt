use Rattle.std.proofs.Common.{◌+◌, arith}
use Rattle.pw_parts.specs.Changes.{gathered}
use Rattle.pw_parts.specs.declared.changes.Side.TheVariants.{Gains}
use Rattle.pw_bills.proofs.There.{register-shared}
use Rattle.pw_bills.proofs.energies.SharedOutGathers.add_register.Goals as goal

pub add_pairs-requires : goal.add_pairs-requires
add_pairs-requires g c = record { few = λ t. (let b = c.requires.few.1 in let f = c.requires.few.2 t in omega (arith, b, f)) }

pub returns-clause-added : goal.returns-clause-added
returns-clause-added g c = λ k s n.
    let place = c.args.place.now in
    register-shared place.basis.now.office.now place.meter.0 place.register place.stretches.now.account place.stretches.now.begins.now (place.stretches.now.last + 1) place.owners.now
    (gathered Gains c.args.self.now.changes.rows) (gathered Gains c.add_pairs.new.changes.rows) (g.S.Shelf.state c.args.shelf.now).content
    c.direction_of-direction.result c.in_ok-points.points.items c.deref.result.now c.requires.counts c.direction_of-direction.ensures c.requires.able.stretches s n
    (c.in_ok-points.ensures.points k) c.deref.ensures.value c.in_ok-add_pairs.ensures.gathered
