use Rattle.std.proofs.Common.{◌≡◌, false, true, refl, ◌++◌, ◌∷◌, [], List, ap, sym, subst, ◌∙◌, All, append_assoc}
use Rattle.std.proofs.lemmas.List.{append-nil}
use Rattle.std.proofs.lemmas.List.Elements.{All-push}
use Rattle.pw_obis.specs.Line.{SetText}
use Rattle.pw_read.specs.Instant.{TellsNo}
use Rattle.pw_read.proofs.Told.{no_code_tells, other_code_tells, first_is_told}
use Rattle.pw_read.proofs.moment.first_told.Goals as goal

pub sets-preserved-in_default : goal.sets-preserved-in_default
sets-preserved-in_default c =
    let i = c.sets.invariant in
    let h = c.in-Some.ensures.steps in (
      i.0 ++ h.0 ∷ [],
      i.1 ∙ ap (λ (x : List SetText). i.0 ++ x) h.2 ∙ sym (append_assoc i.0 (h.0 ∷ []) c.next.new.self),
      All-push (TellsNo c.args.meaning) i.0 h.0 i.2 (no_code_tells c.args.meaning h.0 c.in-Some.set h.1 c.in_default.is),
    )

pub returns-then-is_meant_by : goal.returns-then-is_meant_by
returns-then-is_meant_by c =
    let i = c.sets.invariant in
    let h = c.in-Some.ensures.steps in
    first_is_told c.args.meaning c.args.block.now i.0 c.next.new.self h.0 c.in-Some.set c.in-Some-code.code c.first_value.result.now
    (i.1 ∙ ap (λ (x : List SetText). i.0 ++ x) h.2) i.2 h.1 c.in-Some-code.is (c.if-is_meant_by.ensures.0 refl) c.first_value.ensures

pub sets-preserved : goal.sets-preserved
sets-preserved c =
    let i = c.sets.invariant in
    let h = c.in-Some.ensures.steps in (
      i.0 ++ h.0 ∷ [],
      i.1 ∙ ap (λ (x : List SetText). i.0 ++ x) h.2 ∙ sym (append_assoc i.0 (h.0 ∷ []) c.next.new.self),
      All-push (TellsNo c.args.meaning) i.0 h.0 i.2 (other_code_tells c.args.meaning h.0 c.in-Some.set c.in-Some-code.code h.1 c.in-Some-code.is (λ m. (let e : false ≡ true = c.if-is_meant_by.ensures.1 m in cc))),
    )

pub returns : goal.returns
returns c =
    let i = c.sets.invariant in
    let same : c.args.block.now ≡ i.0 = i.1 ∙ ap (λ (x : List SetText). i.0 ++ x) c.in-None.ensures.steps.0 ∙ append-nil i.0 in
    subst (All (TellsNo c.args.meaning)) (sym same) i.2
