use Rattle.std.proofs.Common.{◌≡◌, ◌∙◌, ◌++◌, ap, rules}
use Rattle.pw_tariff.specs.Office.{office_of}
use Rattle.pw_model.specs.Energy.{energy}
use Rattle.pw_model.specs.Shelf.{ShelfContent}
use Rattle.pw_report.specs.Exports.{energy_cost}
use Rattle.pw_report.proofs.Asking.{asked-once, asked-then}
use Rattle.pw_report.proofs.Fields.{text-is}
use Rattle.pw_report.proofs.Lines.{row-line}
use Rattle.pw_report.proofs.energies.put_direction.Goals as goal

pub returns-clause-text : goal.returns-clause-text
returns-clause-text g c = λ k before h.
    let file = c.args.book.now.office in
    let records = (g.S.Shelf.state c.args.book.now.shelf).content.records in
    let o = c.args.owner in
    let b = c.args.band.0 in
    let d = c.args.direction in
    let one = asked-once _ _ _ _ c.in_ok-wh.ensures.question in
    let two = c.in_ok-nano.ensures.report.asked in
    let both = asked-then _ g.met.S.Shelf.same_then _ _ _ _ one two in
    let prior = two.kept.clean k in
    let same = ap (λ (x : ShelfContent). x.records) (one.content prior) in
    let wh : c.in_ok-wh.wh ≡ energy (office_of file) records o b d = c.in_ok-wh.ensures.energy prior in
    let nano : c.in_ok-nano.nano ≡ energy_cost file records o b d = c.in_ok-nano.ensures.cost k ∙ (λ i. energy_cost (one.office i) (same i) o b d) in
    text-is _ _ _ (ap (λ line. before ++ line) (row-line file _ records o b d _ _ (c.office.ensures ∙ both.office) wh nano))
    (c.in_ok-put_energy.ensures.text before h)

pub returns-in_err-put_energy-clause-report : goal.returns-in_err-put_energy-clause-report
returns-in_err-put_energy-clause-report g c =
    let store = g.met.S.Shelf.same_then _ _ _ c.energy.ensures.question.asked.kept.store c.cost.ensures.report.asked.kept.store in
    search rules

pub returns-clause-report : goal.returns-clause-report
returns-clause-report g c =
    let store = g.met.S.Shelf.same_then _ _ _ c.energy.ensures.question.asked.kept.store c.cost.ensures.report.asked.kept.store in
    search rules
