use Rattle.std.proofs.lemmas.Result.{IfErr-weaker, IfOk-weaker}
use Rattle.pw_store.proofs.shelf.SqlShelf.adopt.Goals as goal

pub returns-in-Ok-clause-same : goal.returns-in-Ok-clause-same
returns-in-Ok-clause-same g c = c.adopt_for.ensures.same

pub returns-in-Ok-clause-rows : goal.returns-in-Ok-clause-rows
returns-in-Ok-clause-rows g c = c.adopt_for.ensures.rows

pub returns-in-Ok-clause-few : goal.returns-in-Ok-clause-few
returns-in-Ok-clause-few g c = c.adopt_for.ensures.few

pub returns-in-Ok-clause-kept_text : goal.returns-in-Ok-clause-kept_text
returns-in-Ok-clause-kept_text g c = c.adopt_for.ensures.kept_text

pub returns-in-Ok-clause-was_clean : goal.returns-in-Ok-clause-was_clean
returns-in-Ok-clause-was_clean g c = c.adopt_for.ensures.was_clean

pub returns-in-Ok-clause-idle : goal.returns-in-Ok-clause-idle
returns-in-Ok-clause-idle g c = c.adopt_for.ensures.idle

pub returns-in-Ok-clause-counts : goal.returns-in-Ok-clause-counts
returns-in-Ok-clause-counts g c = c.adopt_for.ensures.counts

pub returns-in-Ok-clause-left : goal.returns-in-Ok-clause-left
returns-in-Ok-clause-left g c = c.adopt_for.ensures.left

pub returns-in-Ok-clause-refused : goal.returns-in-Ok-clause-refused
returns-in-Ok-clause-refused g c = c.adopt_for.ensures.refused

pub returns-in-Err-clause-same : goal.returns-in-Err-clause-same
returns-in-Err-clause-same g c = tt

pub returns-in-Err-clause-rows : goal.returns-in-Err-clause-rows
returns-in-Err-clause-rows g c = tt

pub returns-in-Err-clause-of_office : goal.returns-in-Err-clause-of_office
returns-in-Err-clause-of_office g c = tt

pub returns-in-Err-clause-truth : goal.returns-in-Err-clause-truth
returns-in-Err-clause-truth g c = tt

pub returns-in-Err-clause-few : goal.returns-in-Err-clause-few
returns-in-Err-clause-few g c = tt

pub returns-in-Err-clause-kept_text : goal.returns-in-Err-clause-kept_text
returns-in-Err-clause-kept_text g c = tt

pub returns-in-Err-clause-opened : goal.returns-in-Err-clause-opened
returns-in-Err-clause-opened g c = tt

pub returns-in-Err-clause-was_clean : goal.returns-in-Err-clause-was_clean
returns-in-Err-clause-was_clean g c = tt

pub returns-in-Err-clause-idle : goal.returns-in-Err-clause-idle
returns-in-Err-clause-idle g c = tt

pub returns-in-Err-clause-counts : goal.returns-in-Err-clause-counts
returns-in-Err-clause-counts g c = tt

pub returns-in-Err-clause-left : goal.returns-in-Err-clause-left
returns-in-Err-clause-left g c = tt

pub returns-in-Ok-clause-of_office : goal.returns-in-Ok-clause-of_office
returns-in-Ok-clause-of_office g c = IfOk-weaker c.adopt_for.result _ _ (λ s it clean. (_, c.in-Ok.ensures, it clean)) c.adopt_for.ensures.of_office

pub returns-in-Ok-clause-truth : goal.returns-in-Ok-clause-truth
returns-in-Ok-clause-truth g c = IfOk-weaker c.adopt_for.result _ _ (λ s it clean. (_, c.in-Ok.ensures, it clean)) c.adopt_for.ensures.truth

pub returns-in-Ok-clause-opened : goal.returns-in-Ok-clause-opened
returns-in-Ok-clause-opened g c = IfOk-weaker c.adopt_for.result _ _ (λ s it clean. (_, c.in-Ok.ensures, it clean)) c.adopt_for.ensures.opened

pub returns-in-Ok-clause-cause : goal.returns-in-Ok-clause-cause
returns-in-Ok-clause-cause g c = IfErr-weaker c.adopt_for.result _ _ (λ e it clean. (_, c.in-Ok.ensures, it clean)) c.adopt_for.ensures.cause

pub returns-in-Ok-clause-crash : goal.returns-in-Ok-clause-crash
returns-in-Ok-clause-crash g c = IfErr-weaker c.adopt_for.result _ _ (λ e it. (_, c.in-Ok.ensures, it)) c.adopt_for.ensures.crash
