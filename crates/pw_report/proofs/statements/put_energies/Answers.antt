use Rattle.std.proofs.Common.{◌∙◌, ap, rules}
use Rattle.pw_model.specs.Shelf.{ShelfContent}
use Rattle.pw_report.proofs.Asking.{asked-none, asked-once, asked-then}
use Rattle.pw_report.proofs.Lines.{energy-line}
use Rattle.pw_report.proofs.Listed.{listed-none, text-next}
use Rattle.pw_report.proofs.statements.put_energies.Goals as goal

pub loop-band-init : goal.loop-band-init
loop-band-init g c = record {
  text = λ k. listed-none _ _;
  asked = asked-none _ g.met.S.Shelf.same_yet _;
}

pub loop-band-preserved : goal.loop-band-preserved
loop-band-preserved g c =
    let one = asked-once _ _ _ _ c.in_ok-imported.ensures.question in
    let two = asked-once _ _ _ _ c.in_ok-exported.ensures.question in
    let first = asked-then _ g.met.S.Shelf.same_then _ _ _ _ c.loop-band.invariant.asked one in
    let both = asked-then _ g.met.S.Shelf.same_then _ _ _ _ first two in
    record {
      text = λ k.
          let between = two.kept.clean k in
          let before = one.kept.clean between in
          text-next _ _ _ _ _ _ (c.loop-band.invariant.text before) c.in_ok-put_energy.ensures
          (energy-line _ _ _ _ _ _ _ _ _ _ _ _ c.loop-band.invariant.asked.office first.office (c.office-in-loop-band.ensures ∙ both.office)
          (ap (λ (d : ShelfContent). d.records) (c.loop-band.invariant.asked.content before)) (ap (λ (d : ShelfContent). d.records) (first.content between))
          (c.in_ok-imported.ensures.energy between) (c.in_ok-exported.ensures.energy k) c.band_letter.ensures);
      asked = both;
    }

pub returns-in_err-put_energy-clause-report : goal.returns-in_err-put_energy-clause-report
returns-in_err-put_energy-clause-report g c =
    let one = g.met.S.Shelf.same_then _ _ _ c.loop-band.invariant.asked.kept.store c.energy.ensures.question.asked.kept.store in
    let store = g.met.S.Shelf.same_then _ _ _ one c.energy-in-loop-band.ensures.question.asked.kept.store in
    search rules
