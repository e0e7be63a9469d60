use Rattle.std.proofs.Common.{ap, refl, sym, ◌∙◌}
use Rattle.std.proofs.lemmas.Result.{on_ok_weaker}
use Rattle.pw_tariff.specs.Office.{office_of}
use Rattle.pw_model.specs.Shelf.{ShelfContent}
use Rattle.pw_model.proofs.SoundOffice.{sound-office}
use Rattle.pw_book.proofs.Putting.{one-point}
use Rattle.pw_book.proofs.Truthful.{begun-again, ceased-again, reading-alike, reading-same}
use Rattle.pw_book.proofs.settling.reading_changed.Goals as goal

pub returns-in-None-Some-clause-settled : goal.returns-in-None-Some-clause-settled
returns-in-None-Some-clause-settled g c = λ k s j v.
    begun-again (office_of c.args.basis.now.office.now) (sound-office c.args.basis.now.office.now c.requires.sound) s c.args.reading.now.meter.0 c.args.reading.now.register c.args.reading.now.instant c.args.before.now c.args.behind.now (g.S.Shelf.state c.args.shelf.now).content c.args.so_far.now.changes.rows j v
    c.begin_to_count.result c.in-None-Some.wh c.begin_to_count.new.so_far.changes.rows (g.S.Shelf.state c.begin_to_count.new.shelf).content (sym c.counting_wh.ensures ∙ c.in-None-Some.is-0) (sym c.counting_wh-2.ensures ∙ c.in-None-Some.is-1) (c.begin_to_count.ensures.gathered k) (c.begin_to_count.ensures.point k)

pub returns-in-Some-None-clause-settled : goal.returns-in-Some-None-clause-settled
returns-in-Some-None-clause-settled g c = λ k s j v.
    ceased-again (office_of c.args.basis.now.office.now) (sound-office c.args.basis.now.office.now c.requires.sound) s c.args.reading.now.meter.0 c.args.reading.now.register c.args.reading.now.instant c.args.before.now c.args.behind.now (g.S.Shelf.state c.args.shelf.now).content c.args.so_far.now.changes.rows j v
    c.cease_to_count.result c.in-Some-None.wh c.cease_to_count.new.so_far.changes.rows (g.S.Shelf.state c.cease_to_count.new.shelf).content (sym c.counting_wh.ensures ∙ c.in-Some-None.is-0) (sym c.counting_wh-2.ensures ∙ c.in-Some-None.is-1) (c.cease_to_count.ensures.gathered k) (c.cease_to_count.ensures.point k)

pub returns-in-None-None-clause-settled : goal.returns-in-None-None-clause-settled
returns-in-None-None-clause-settled g c = λ k s j v. record {
  truth = reading-same (office_of c.args.basis.now.office.now) (sound-office c.args.basis.now.office.now c.requires.sound) s c.args.reading.now.meter.0 c.args.reading.now.register c.args.reading.now.instant c.args.before.now c.args.behind.now (g.S.Shelf.state c.args.shelf.now).content c.args.so_far.now.changes.rows j v (sym c.counting_wh.ensures ∙ c.in-None-None.is-0 ∙ sym c.in-None-None.is-1 ∙ c.counting_wh-2.ensures);
  records = refl;
}

pub returns-in-None-None-2-clause-settled : goal.returns-in-None-None-2-clause-settled
returns-in-None-None-2-clause-settled g c = λ k s j v.
    let office = office_of c.args.basis.now.office.now in
    let o = sound-office c.args.basis.now.office.now c.requires.sound in
    let same = reading-alike office o s c.args.reading.now.meter.0 c.args.reading.now.register c.args.reading.now.instant c.args.before.now c.args.behind.now (g.S.Shelf.state c.args.shelf.now).content c.args.so_far.now.changes.rows j v _ _ (sym c.counting_wh.ensures ∙ c.in-None-None.is-0) (sym c.counting_wh-2.ensures ∙ c.in-None-None.is-1) in
    record { truth = reading-same office o s c.args.reading.now.meter.0 c.args.reading.now.register c.args.reading.now.instant c.args.before.now c.args.behind.now (g.S.Shelf.state c.args.shelf.now).content c.args.so_far.now.changes.rows j v same; records = refl }

pub returns-in-None-Some-clause-alone : goal.returns-in-None-Some-clause-alone
returns-in-None-Some-clause-alone g c = λ k.
    on_ok_weaker c.begin_to_count.result (λ h. one-point c.args.reading.now.meter c.args.reading.now.register c.args.reading.now.instant _ (g.S.Shelf.state c.args.shelf.now).content (g.S.Shelf.state c.begin_to_count.new.shelf).content (ap (λ (d : ShelfContent). d.start) h) (ap (λ (d : ShelfContent). d.point) h)) (c.begin_to_count.ensures.point k)

pub returns-in-None-Some-clause-start : goal.returns-in-None-Some-clause-start
returns-in-None-Some-clause-start g c = λ k. on_ok_weaker c.begin_to_count.result (λ h. ap (λ (d : ShelfContent). d.start) h) (c.begin_to_count.ensures.point k)

pub returns-in-Some-None-clause-alone : goal.returns-in-Some-None-clause-alone
returns-in-Some-None-clause-alone g c = λ k.
    on_ok_weaker c.cease_to_count.result (λ h. one-point c.args.reading.now.meter c.args.reading.now.register c.args.reading.now.instant _ (g.S.Shelf.state c.args.shelf.now).content (g.S.Shelf.state c.cease_to_count.new.shelf).content (ap (λ (d : ShelfContent). d.start) h) (ap (λ (d : ShelfContent). d.point) h)) (c.cease_to_count.ensures.point k)

pub returns-in-Some-None-clause-start : goal.returns-in-Some-None-clause-start
returns-in-Some-None-clause-start g c = λ k. on_ok_weaker c.cease_to_count.result (λ h. ap (λ (d : ShelfContent). d.start) h) (c.cease_to_count.ensures.point k)
