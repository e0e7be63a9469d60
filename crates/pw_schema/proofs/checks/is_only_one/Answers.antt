use Rattle.std.proofs.Common.{sym, ap, subst₂, subst, ◌∙◌, refl, arith, get_or, ℕ, List}
use Rattle.sqlite_schema.specs.Code.{terms_in}
use Rattle.sqlite_schema.specs.declared.code.Op.{Op}
use Rattle.pw_schema.proofs.Comparing.{compared, comparing}
use Rattle.pw_schema.proofs.Shapes.{one_item}
use Rattle.pw_schema.specs.inner.Checks.{IsOnlyOne}
use Rattle.pw_schema.proofs.checks.is_only_one.Goals as goal

pub returns-in-len1-clause-is : goal.returns-in-len1-clause-is
returns-in-len1-clause-is c h =
    let nodes = c.checks.inside.nodes in
    let roots = one_item c.as_slice.result.now (get_or c.as_slice.result.now 0 0) 0 (let b = c.in-len1.len_at_least in let d = c.in-len1.len_below in omega (arith, b, d)) refl in
    sym c.checks.view_is ∙ ap (terms_in nodes) (sym c.as_slice.ensures ∙ roots)
    ∙ compared nodes (get_or c.as_slice.result.now 0 0) (subst (λ (ns : List Op). IsOnlyOne ns (get_or c.as_slice.result.now 0 0)) c.as_slice-in-len1.ensures (c.is_comparison.ensures.is h))

pub returns-in-len1-clause-all : goal.returns-in-len1-clause-all
returns-in-len1-clause-all c h =
    let it = comparing c.checks.inside.nodes c.checks.inside.roots (c.checks.view_is ∙ h) in
    c.is_comparison.ensures.all (subst₂ (λ (ns : List Op) (r : ℕ). IsOnlyOne ns r) (sym c.as_slice-in-len1.ensures) (sym (ap (λ (xs : List ℕ). get_or xs 0 0) (c.as_slice.ensures ∙ it.1))) it.2)
