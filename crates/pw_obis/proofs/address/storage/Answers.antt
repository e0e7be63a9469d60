use Rattle.std.proofs.Common.{ℕ, [], Option, sym, ap, ◌∙◌, subst, arith, length}
use Rattle.std.specs.Prelude.{IfNone}
use Rattle.pw_obis.specs.Address.{Storage}
use Rattle.pw_obis.proofs.OnePart.{one_group, some_length, stored_group}
use Rattle.pw_obis.proofs.address.storage.Goals as goal

pub returns-in_err-value-clause-none : goal.returns-in_err-value-clause-none
returns-in_err-value-clause-none c =
    let some = some_length (length c.args.text.now) (sym c.is_empty.ensures ∙ c.if-is_empty.false) in
    subst (λ (r : Option (Option ℕ)). IfNone r ((f : Option ℕ) → Storage c.args.text.now f → ⊥)) (sym c.from_residual.ensures) (λ f x.
    let stored = stored_group c.args.text.now f some x in
    c.in_err-value.ensures.none stored.0 [] stored.1)

pub returns-else-is_empty-2-clause-none : goal.returns-else-is_empty-2-clause-none
returns-else-is_empty-2-clause-none c = λ f x.
    let some = some_length (length c.args.text.now) (sym c.is_empty.ensures ∙ c.if-is_empty.false) in
    let stored = stored_group c.args.text.now f some x in
    let same = one_group _ c.in_ok-value.value stored.0 c.in_ok-value.rest.now [] c.in_ok-value.ensures.some stored.1 in
    let more = some_length (length c.in_ok-value.rest.now) (sym c.is_empty-2.ensures ∙ c.if-is_empty-2.false) in
    omega (arith, ap length same.1, more)
