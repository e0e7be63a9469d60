use Rattle.std.proofs.Common.{None, Some, arith, refl, sym, ◌∙◌}
use Rattle.std.proofs.lemmas.Result.{on_ok_weaker}
use Rattle.pw_tariff.specs.Office.{office_of}
use Rattle.pw_model.proofs.SoundOffice.{sound-office}
use Rattle.pw_book.proofs.Truthful.{start-again, start-alike, start-same}
use Rattle.pw_book.proofs.Putting.{one-start}
use Rattle.pw_book.proofs.settling.assignment_changed.Goals as goal

pub returns-in-None-Some-clause-settled : goal.returns-in-None-Some-clause-settled
returns-in-None-Some-clause-settled g c = λ k s j v.
    start-again (office_of c.args.basis.now.office.now) (sound-office c.args.basis.now.office.now c.requires.sound) s c.args.meter.0 c.args.start c.args.before.now c.args.behind.now (g.S.Shelf.state c.args.shelf.now).content j v
    c.change_start.result (Some c.in-None-Some.owner) (g.S.Shelf.state c.change_start.new.shelf).content (sym c.counting_owner-2.ensures ∙ c.in-None-Some.is-1) (c.change_start.ensures.settled k) (c.change_start.ensures.start k)

pub returns-in-None-Some-clause-tally : goal.returns-in-None-Some-clause-tally
returns-in-None-Some-clause-tally g c = λ k starts points s p. let x = c.change_start.ensures.tally k starts points s p in omega (arith, x)

pub returns-in-None-Some-clause-alone : goal.returns-in-None-Some-clause-alone
returns-in-None-Some-clause-alone g c = λ k.
    on_ok_weaker c.change_start.result (λ h. one-start c.args.meter c.args.start _ (g.S.Shelf.state c.args.shelf.now).content (g.S.Shelf.state c.change_start.new.shelf).content h.0 h.1) (c.change_start.ensures.start k)

pub returns-in-Some-None-clause-settled : goal.returns-in-Some-None-clause-settled
returns-in-Some-None-clause-settled g c = λ k s j v.
    start-again (office_of c.args.basis.now.office.now) (sound-office c.args.basis.now.office.now c.requires.sound) s c.args.meter.0 c.args.start c.args.before.now c.args.behind.now (g.S.Shelf.state c.args.shelf.now).content j v
    c.change_start-in-Some-None.result None (g.S.Shelf.state c.change_start-in-Some-None.new.shelf).content (sym c.counting_owner-2.ensures ∙ c.in-Some-None.is-1) (c.change_start-in-Some-None.ensures.settled k) (c.change_start-in-Some-None.ensures.start k)

pub returns-in-Some-None-clause-tally : goal.returns-in-Some-None-clause-tally
returns-in-Some-None-clause-tally g c = λ k starts points s p. let x = c.change_start-in-Some-None.ensures.tally k starts points s p in omega (arith, x)

pub returns-in-Some-None-clause-alone : goal.returns-in-Some-None-clause-alone
returns-in-Some-None-clause-alone g c = λ k.
    on_ok_weaker c.change_start-in-Some-None.result (λ h. one-start c.args.meter c.args.start _ (g.S.Shelf.state c.args.shelf.now).content (g.S.Shelf.state c.change_start-in-Some-None.new.shelf).content h.0 h.1) (c.change_start-in-Some-None.ensures.start k)

pub returns-in-None-None-clause-settled : goal.returns-in-None-None-clause-settled
returns-in-None-None-clause-settled g c = λ k s j v. record {
  truth = start-same (office_of c.args.basis.now.office.now) (sound-office c.args.basis.now.office.now c.requires.sound) s c.args.meter.0 c.args.start c.args.before.now c.args.behind.now (g.S.Shelf.state c.args.shelf.now).content j v (sym c.counting_owner.ensures ∙ c.in-None-None.is-0 ∙ sym c.in-None-None.is-1 ∙ c.counting_owner-2.ensures);
  records = refl;
}

pub returns-in-None-None-2-clause-settled : goal.returns-in-None-None-2-clause-settled
returns-in-None-None-2-clause-settled g c = λ k s j v.
    let office = office_of c.args.basis.now.office.now in
    let o = sound-office c.args.basis.now.office.now c.requires.sound in
    let same = start-alike office o s c.args.meter.0 c.args.start c.args.before.now c.args.behind.now (g.S.Shelf.state c.args.shelf.now).content j v _ _ (sym c.counting_owner.ensures ∙ c.in-None-None.is-0) (sym c.counting_owner-2.ensures ∙ c.in-None-None.is-1) in
    record { truth = start-same office o s c.args.meter.0 c.args.start c.args.before.now c.args.behind.now (g.S.Shelf.state c.args.shelf.now).content j v same; records = refl }
