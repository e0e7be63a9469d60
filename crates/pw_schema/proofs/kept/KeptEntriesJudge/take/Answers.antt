use Rattle.std.proofs.Common.{◌≡◌, IfNone, IfSome, Equal, subst, rules}
use Rattle.std.specs.declared.cmp.Ordering.TheVariants.{Less}
use Rattle.pw_model.specs.Same.{key_order}
use Rattle.pw_schema.proofs.Compared.{compares}
use Rattle.pw_schema.proofs.Foreign.{no_kept, same_key}
use Rattle.pw_schema.proofs.kept.KeptEntriesJudge.take.Goals as goal

pub returns-in_default-clause-foreign : goal.returns-in_default-clause-foreign
returns-in_default-clause-foreign c first rows tail held e kept = no_kept first c.args.self.now rows tail c.args.row.now held kept c.in_default.ensures.none

pub returns-in_err-see_behind-clause-foreign : goal.returns-in_err-see_behind-clause-foreign
returns-in_err-see_behind-clause-foreign c first rows tail held e kept =
    let tie : c.place_of_key.result ≡ Equal = c.see_behind.ensures.twice (let gives = c.from_residual.ensures.1 in let was = c.in_err-see_behind.was in search rules) in
    same_key first c.args.self.now rows tail c.args.row.now held kept c.in-Some.entry c.in-Some.ensures.some.0 (subst (λ o. IfSome c.args.self.now.last (λ l. key_order l.key c.in-Some.entry.key ≡ o)) tie c.place_of_key.ensures.some) (subst (λ o. IfNone c.args.self.now.last (o ≡ Less)) tie c.place_of_key.ensures.none)

pub returns-clause-took : goal.returns-clause-took
returns-clause-took c first rows held = compares first c.args.self.now rows c.args.row.now c.in-Some.entry c.behind_entry-self.result held c.in-Some.ensures.some.0 c.in-Some.ensures.some.1 (subst (λ o. IfSome c.args.self.now.last (λ l. key_order l.key c.in-Some.entry.key ≡ o)) c.in_ok-see_behind.ensures.behind c.place_of_key.ensures.some) c.behind_entry-self.ensures
