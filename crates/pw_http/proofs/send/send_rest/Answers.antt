use Rattle.std.proofs.lemmas.Result.{err_from_is_err_and}
use Rattle.pw_http.proofs.KnownLemmas.{Appends-first}
use Rattle.pw_http.proofs.Written.{Writes-behind}
use Rattle.pw_http.proofs.send.send_rest.Goals as goal

pub returns-in_err-send-clause-written : goal.returns-in_err-send-clause-written
returns-in_err-send-clause-written g c =
    let w = rw (c.as_bytes.ensures.value, c.behind_head.ensures) at c.in_err-send.ensures.written in
    let told = err_from_is_err_and c.from_residual.result c.from_residual.ensures.1 in
    rw told.1 (Appends-first _ _ _ c.args.body.now w.0 w.1)

pub returns-clause-written : goal.returns-clause-written
returns-clause-written g c =
    let w = rw (c.as_bytes.ensures.value, c.behind_head.ensures) at c.in_ok-send.ensures.written in
    Writes-behind _ _ _ _ _ c.send-2.result w c.send-2.ensures.written
