use Rattle.std.proofs.Common.{◌++◌, ◌≡◌, ◌∙◌, ℕ, [], ◌∷◌, ap, length, refl, arith}
use Rattle.std.specs.List.{flat_map}
use Rattle.pw_tariff.specs.declared.ids.Direction.TheVariants.{Import, Export}
use Rattle.pw_tariff.specs.Office.{OfficeFile}
use Rattle.pw_model.specs.Shelf.{ShelfContent}
use Rattle.pw_report.specs.Exports.{energy_row, energy_row_line, owner_rows}
use Rattle.pw_report.specs.Layout.{listed_below}
use Rattle.pw_report.proofs.Asking.{asked-none, asked-then}
use Rattle.pw_report.proofs.Fields.{flat-none, text-is, two-next}
use Rattle.pw_report.proofs.energies.put_owner.Goals as goal

pub loop-band-init : goal.loop-band-init
loop-band-init g c = record { text = λ k before h. text-is _ _ _ (flat-none _ before _) h; asked = asked-none _ g.met.S.Shelf.same_yet _ }

pub loop-band-preserved : goal.loop-band-preserved
loop-band-preserved g c =
    let was = c.loop-band.invariant in
    let one = c.in_ok-put_direction.ensures.report.asked in
    let two = c.in_ok-put_direction-2.ensures.report.asked in
    let first = asked-then _ g.met.S.Shelf.same_then _ _ _ _ was.asked one in
    let both = asked-then _ g.met.S.Shelf.same_then _ _ _ _ first two in
    let file = c.args.book.now.office in
    let records = (g.S.Shelf.state c.args.book.now.shelf).content.records in
    let o = c.args.owner in
    let row = energy_row file records o in
    let rows = λ (b : ℕ). row b Import ∷ row b Export ∷ [] in
    let line = energy_row_line file in
    let b = c.loop-band.band in
    record {
      text = λ k before h.
          let between = two.kept.clean k in
          let prior = one.kept.clean between in
          let was_same = ap (λ (d : ShelfContent). d.records) (was.asked.content prior) in
          let then_same = ap (λ (d : ShelfContent). d.records) (first.content between) in
          text-is _ _ _ ((λ i. ((before ++ flat_map line (listed_below b rows)) ++ energy_row_line (was.asked.office i) (energy_row (was.asked.office i) (was_same i) o b Import))
          ++ energy_row_line (first.office i) (energy_row (first.office i) (then_same i) o b Export)) ∙ two-next line before rows b (row b Import) (row b Export) refl)
          (c.in_ok-put_direction-2.ensures.text k _ (c.in_ok-put_direction.ensures.text between _ (was.text prior before h)));
      asked = both;
    }

pub returns-clause-text : goal.returns-clause-text
unfolding owner_rows
returns-clause-text g c = λ k before h.
    let file = c.args.book.now.office in
    let row = energy_row file (g.S.Shelf.state c.args.book.now.shelf).content.records c.args.owner in
    let same = ap (λ (o : OfficeFile). length o.bands) c.office.ensures in
    let all : c.loop-band.band ≡ length file.bands = omega (arith, same, c.bands-band-end.ensures.count) in
    text-is _ _ _ (ap (λ n. before ++ flat_map (energy_row_line file) (listed_below n (λ b. row b Import ∷ row b Export ∷ []))) all) (c.loop-band.invariant.text k before h)
