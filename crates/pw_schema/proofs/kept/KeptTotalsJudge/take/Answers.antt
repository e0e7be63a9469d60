use Rattle.std.proofs.Common.{◌≡◌, IfNone, IfSome, Equal, subst, rules}
use Rattle.std.specs.declared.cmp.Ordering.TheVariants.{Less}
use Rattle.pw_model.specs.Same.{total_order}
use Rattle.pw_schema.proofs.Compared.{sums_up}
use Rattle.pw_schema.proofs.Foreign.{no_total, same_total}
use Rattle.pw_schema.proofs.kept.KeptTotalsJudge.take.Goals as goal

pub returns-in_default-clause-foreign : goal.returns-in_default-clause-foreign
returns-in_default-clause-foreign c first rows tail held e totals = no_total first c.args.self.now rows tail c.args.row.now held totals c.in_default.ensures.none

pub returns-in_err-see_behind-clause-foreign : goal.returns-in_err-see_behind-clause-foreign
returns-in_err-see_behind-clause-foreign c first rows tail held e totals =
    let tie : c.place_of_total.result ≡ Equal = c.see_behind.ensures.twice (let gives = c.from_residual.ensures.1 in let was = c.in_err-see_behind.was in search rules) in
    same_total first c.args.self.now rows tail c.args.row.now held totals c.in-Some.total (λ i. (c.in-Some.ensures.told.0 i, c.in-Some.ensures.told.1 i)) (subst (λ o. IfSome c.args.self.now.last (λ l. total_order l c.in-Some.total.0 ≡ o)) tie c.place_of_total.ensures.some) (subst (λ o. IfNone c.args.self.now.last (o ≡ Less)) tie c.place_of_total.ensures.none)

pub returns-clause-took : goal.returns-clause-took
returns-clause-took c first rows held = sums_up first c.args.self.now rows c.args.row.now c.in-Some.total c.behind_total-self.result held (λ i. (c.in-Some.ensures.told.0 i, c.in-Some.ensures.told.1 i)) c.in-Some.ensures.some (subst (λ o. IfSome c.args.self.now.last (λ l. total_order l c.in-Some.total.0 ≡ o)) c.in_ok-see_behind.ensures.behind c.place_of_total.ensures.some) c.behind_total-self.ensures
