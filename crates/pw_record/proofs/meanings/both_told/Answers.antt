use Rattle.std.proofs.Common.{◌≡◌, ◌++◌, ◌∷◌, [], List, subst, sym, ap, ◌∙◌}
use Rattle.std.proofs.lemmas.List.{append-nil}
use Rattle.pw_obis.specs.inner.Given.{set_text}
use Rattle.pw_obis.specs.Line.{SetText}
use Rattle.pw_obis.proofs.Given.{given_behind}
use Rattle.pw_record.specs.inner.Told.{AreTelling}
use Rattle.pw_record.proofs.meanings.both_told.Goals as goal

pub sets-preserved : goal.sets-preserved
sets-preserved c =
    let i = c.sets.invariant in
    let h = c.in-Some.ensures.steps in (
      i.0 ++ set_text c.in-Some.set ∷ [],
      given_behind c.args.block.now i.0 c.sets.set-iterator c.next.new.self h.0 c.in-Some.set h.1 i.1 h.2,
      c.with_set-first.ensures i.0 i.2,
      c.with_set-second.ensures i.0 i.3,
    )

pub returns-clause-one : goal.returns-clause-one
returns-clause-one c =
    let i = c.sets.invariant in
    let same : c.args.block.now ≡ i.0 = i.1 ∙ ap (λ (x : List SetText). i.0 ++ x) c.in-None.ensures.steps.0 ∙ append-nil i.0 in
    subst (λ (s : List SetText). AreTelling c.args.one s c.sets.first) (sym same) i.2

pub returns-clause-other : goal.returns-clause-other
returns-clause-other c =
    let i = c.sets.invariant in
    let same : c.args.block.now ≡ i.0 = i.1 ∙ ap (λ (x : List SetText). i.0 ++ x) c.in-None.ensures.steps.0 ∙ append-nil i.0 in
    subst (λ (s : List SetText). AreTelling c.args.other s c.sets.second) (sym same) i.3
