use Rattle.std.proofs.Common.{◌∙◌, ◌++◌, ap, codes, Some}
use Rattle.std.proofs.lemmas.Bool.Decides.{Decides-eqb}
use Rattle.std.proofs.lemmas.Slice.Eq.{strip_prefix_is, strip_suffix_is}
use Rattle.pw_schema.proofs.Stripped.{between}
use Rattle.pw_schema.proofs.indexes.is_name.Goals as goal

pub returns : goal.returns
returns c =
    let rest = c.in-Some.rest.now in
    let name = c.in-Some-strip_suffix.name.now in
    let begins = strip_prefix_is Decides-eqb c.args.found.now c.as_slice.result.now (Some c.in-Some.rest) c.in-Some.ensures.cases in
    let ends = strip_suffix_is Decides-eqb rest c.as_slice-2.result.now (Some c.in-Some-strip_suffix.name) c.in-Some-strip_suffix.ensures.cases in
    between c.args.found.now (codes "sqlite_autoindex_") rest name (codes "_1") c.args.table.now c.eq.result (begins ∙ ap (λ f. f ++ rest) c.as_slice.ensures) (ends ∙ ap (λ b. name ++ b) c.as_slice-2.ensures) c.eq.ensures
