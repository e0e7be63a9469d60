use Rattle.std.proofs.Common.{sym, ◌∙◌, arith}
use Rattle.pw_schema.proofs.Shapes.{one_item}
use Rattle.pw_schema.proofs.keys.is_only.Goals as goal

pub returns-in-len1-clause-is : goal.returns-in-len1-clause-is
returns-in-len1-clause-is c h = one_item c.args.keys.now _ _ (let b = c.in-len1.len_at_least in let d = c.in-len1.len_below in omega (arith, b, d)) (sym c.key-item.is ∙ sym c.as_slice.ensures ∙ c.same_places.ensures.is h)
