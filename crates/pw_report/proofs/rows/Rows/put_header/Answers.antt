use Rattle.std.proofs.Common.{ℕ, List, ap, subst}
use Rattle.std.specs.Prelude.{map}
use Rattle.std.proofs.lemmas.List.{take_all}
use Rattle.pw_report.specs.inner.Rows.{HasText}
use Rattle.pw_report.proofs.Fields.{mapped-next, row-of}
use Rattle.pw_report.proofs.rows.Rows.put_header.Goals as goal

pub loop-name-preserved : goal.loop-name-preserved
loop-name-preserved c = λ text h.
    subst (λ (fields : List (List ℕ)). HasText c.put_field.new.self text fields)
    (mapped-next (λ name. name.now) c.args.names.now c.loop-name.name-index _ c.loop-name-test.true)
    (c.in_ok-put_field.ensures.text text _ (c.loop-name.invariant text h))

pub returns-clause-text : goal.returns-clause-text
returns-clause-text c = λ text h.
    row-of _ _ _ _ _ (ap (λ names. map (λ name. name.now) names) (take_all c.loop-name.name-index c.args.names.now c.loop-name-test.false))
    (c.end.ensures.text text _ (c.loop-name.invariant text h))
