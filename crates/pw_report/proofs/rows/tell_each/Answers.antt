use Rattle.std.proofs.Common.{◌++◌, ap}
use Rattle.std.specs.List.{flat_map}
use Rattle.std.proofs.lemmas.List.{take_all}
use Rattle.pw_report.proofs.Fields.{each-next, text-is}
use Rattle.pw_report.proofs.rows.tell_each.Goals as goal

pub loop-value-preserved : goal.loop-value-preserved
loop-value-preserved g c = λ before h.
    let line = g.W.Tells.line c.args.teller.now in
    text-is _ _ _ (each-next line before c.args.values.now c.loop-value.value-index c.value-item.result c.loop-value-test.true c.value-item.is)
    (c.in_ok-tell.ensures.text _ (c.loop-value.invariant before h))

pub returns-clause-text : goal.returns-clause-text
returns-clause-text g c = λ before h.
    text-is _ _ _ (ap (λ xs. before ++ flat_map (g.W.Tells.line c.args.teller.now) xs) (take_all c.loop-value.value-index c.args.values.now c.loop-value-test.false))
    (c.loop-value.invariant before h)
