use Rattle.std.proofs.Common.{ℕ, ◌+◌, List, subst}
use Rattle.pw_model.specs.Counting.{contents_at}
use Rattle.pw_bills.specs.Stretches.{first_of}
use Rattle.pw_bills.specs.inner.Flows.{Covers}
use Rattle.pw_bills.specs.inner.Naming.{NamesStretches}
use Rattle.pw_bills.proofs.RowsThere.{register-added}
use Rattle.pw_bills.proofs.reasons.ReasonsGathers.add_register.Goals as goal

pub returns-clause-added : goal.returns-clause-added
returns-clause-added g c = λ k s n x one.
    let place = c.args.place.now in
    let content = (g.S.Shelf.state c.args.shelf.now).content in
    let end : ℕ = place.stretches.now.last + 1 in
    let N : List ℕ → Type 0 = λ begins. NamesStretches (contents_at content.records) place.meter.0 place.stretches.now.account begins end place.owners.now in
    let C : List ℕ → Type 0 = λ begins. Covers (content.point place.meter.0 place.register) (first_of begins end) end c.in_ok-points.points.items in
    register-added place.basis.now.office.now place.stretches.now.account x end place.meter place.register place.owners.now c.args.self.now.rows.items c.add_points.new.rows.items content c.in_ok-points.points.items c.deref.result.now
    c.requires.able.meter c.requires.counts s (subst N one n) (subst C one (c.in_ok-points.ensures.points k)) c.deref.ensures.value c.in_ok-add_points.ensures
