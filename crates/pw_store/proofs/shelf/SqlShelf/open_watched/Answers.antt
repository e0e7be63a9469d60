use Rattle.std.proofs.Common.{inl, rules}
use Rattle.std.proofs.lemmas.Result.{IfErr-weaker, IfOk-weaker}
use Rattle.sqlite.specs.Held.{state}
use Rattle.pw_store.proofs.Filled.{survives_itself}
use Rattle.pw_store.proofs.shelf.SqlShelf.open_watched.Goals as goal

pub returns-in-Err-clause-cause : goal.returns-in-Err-clause-cause
returns-in-Err-clause-cause g c = search rules depth 3 fits 300

pub returns-in-Err-clause-crash : goal.returns-in-Err-clause-crash
returns-in-Err-clause-crash g c = (c.requires.0, c.requires.1, survives_itself (state g.S.Store c.args.connection) _)

pub returns-in-Ok-clause-few : goal.returns-in-Ok-clause-few
returns-in-Ok-clause-few g c = c.open_for.ensures.few

pub returns-in-Ok-clause-kept_text : goal.returns-in-Ok-clause-kept_text
returns-in-Ok-clause-kept_text g c = c.open_for.ensures.kept_text

pub returns-in-Ok-clause-was_open : goal.returns-in-Ok-clause-was_open
returns-in-Ok-clause-was_open g c = c.open_for.ensures.was_open

pub returns-in-Ok-clause-idle : goal.returns-in-Ok-clause-idle
returns-in-Ok-clause-idle g c = c.open_for.ensures.idle

pub returns-in-Ok-clause-counts : goal.returns-in-Ok-clause-counts
returns-in-Ok-clause-counts g c = c.open_for.ensures.counts

pub returns-in-Ok-clause-left : goal.returns-in-Ok-clause-left
returns-in-Ok-clause-left g c = c.open_for.ensures.left

pub returns-in-Err-clause-content : goal.returns-in-Err-clause-content
returns-in-Err-clause-content g c = tt

pub returns-in-Err-clause-of_office : goal.returns-in-Err-clause-of_office
returns-in-Err-clause-of_office g c = tt

pub returns-in-Err-clause-truth : goal.returns-in-Err-clause-truth
returns-in-Err-clause-truth g c = tt

pub returns-in-Err-clause-few : goal.returns-in-Err-clause-few
returns-in-Err-clause-few g c = tt

pub returns-in-Err-clause-kept_text : goal.returns-in-Err-clause-kept_text
returns-in-Err-clause-kept_text g c = tt

pub returns-in-Err-clause-opened : goal.returns-in-Err-clause-opened
returns-in-Err-clause-opened g c = tt

pub returns-in-Err-clause-taken : goal.returns-in-Err-clause-taken
returns-in-Err-clause-taken g c = tt

pub returns-in-Err-clause-was_open : goal.returns-in-Err-clause-was_open
returns-in-Err-clause-was_open g c = tt

pub returns-in-Err-clause-idle : goal.returns-in-Err-clause-idle
returns-in-Err-clause-idle g c = tt

pub returns-in-Err-clause-counts : goal.returns-in-Err-clause-counts
returns-in-Err-clause-counts g c = tt

pub returns-in-Err-clause-left : goal.returns-in-Err-clause-left
returns-in-Err-clause-left g c = tt

pub returns-in-Ok-clause-content : goal.returns-in-Ok-clause-content
returns-in-Ok-clause-content g c = IfOk-weaker c.open_for.result _ _ (λ s it clean. (_, c.in-Ok.ensures, it clean)) c.open_for.ensures.content

pub returns-in-Ok-clause-of_office : goal.returns-in-Ok-clause-of_office
returns-in-Ok-clause-of_office g c = IfOk-weaker c.open_for.result _ _ (λ s it clean. (_, c.in-Ok.ensures, it clean)) c.open_for.ensures.of_office

pub returns-in-Ok-clause-truth : goal.returns-in-Ok-clause-truth
returns-in-Ok-clause-truth g c = IfOk-weaker c.open_for.result _ _ (λ s it clean. (_, c.in-Ok.ensures, it clean)) c.open_for.ensures.truth

pub returns-in-Ok-clause-opened : goal.returns-in-Ok-clause-opened
returns-in-Ok-clause-opened g c = IfOk-weaker c.open_for.result _ _ (λ s it clean. (_, c.in-Ok.ensures, it clean)) c.open_for.ensures.opened

pub returns-in-Ok-clause-taken : goal.returns-in-Ok-clause-taken
returns-in-Ok-clause-taken g c = IfOk-weaker c.open_for.result _ _ (λ s it clean. (_, c.in-Ok.ensures, it clean)) c.open_for.ensures.taken

pub returns-in-Ok-clause-cause : goal.returns-in-Ok-clause-cause
returns-in-Ok-clause-cause g c = IfErr-weaker c.open_for.result _ _ (λ e it clean. (_, c.in-Ok.ensures, it clean)) c.open_for.ensures.cause

pub returns-in-Ok-clause-refused : goal.returns-in-Ok-clause-refused
returns-in-Ok-clause-refused g c = IfErr-weaker c.open_for.result _ _ (λ e it clean. inl (it clean)) c.open_for.ensures.refused

pub returns-in-Ok-clause-crash : goal.returns-in-Ok-clause-crash
returns-in-Ok-clause-crash g c = IfErr-weaker c.open_for.result _ _ (λ e it. (_, c.in-Ok.ensures, it)) c.open_for.ensures.crash
