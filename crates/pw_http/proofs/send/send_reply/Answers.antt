use Rattle.std.proofs.Common.{◌≡◌, ◌∙◌, List, ℕ, ◌++◌, ap, sym, append_assoc}
use Rattle.pw_http.specs.inner.Fronts.{rest_of_head}
use Rattle.pw_http.proofs.KnownLemmas.{Appends-first}
use Rattle.pw_http.proofs.Written.{Writes-behind}
use Rattle.pw_http.proofs.send.send_reply.Goals as goal

-- three parts, of which the first two are the head
in-parts : (head line rest body : List ℕ) → line ++ rest ≡ head → head ++ body ≡ line ++ (rest ++ body)
in-parts head line rest body e = ap (λ (t : List ℕ). t ++ body) (sym e) ∙ append_assoc line rest body

pub returns-in-Err-clause-written : goal.returns-in-Err-clause-written
returns-in-Err-clause-written g c =
    let w = rw (c.as_bytes.ensures.value, c.as_str.ensures.value) at c.in-Err.ensures.written in
    rw (in-parts _ _ (rest_of_head c.args.content) c.args.body.now c.head-text.ensures) (Appends-first _ _ _ (rest_of_head c.args.content ++ c.args.body.now) w.0 w.1)

pub returns-in-Ok-clause-written : goal.returns-in-Ok-clause-written
returns-in-Ok-clause-written g c =
    let w = rw (c.as_bytes.ensures.value, c.as_str.ensures.value) at c.in-Ok.ensures.written in
    rw (in-parts _ _ (rest_of_head c.args.content) c.args.body.now c.head-text.ensures) (Writes-behind _ _ _ _ _ c.send_rest.result w c.send_rest.ensures.written)
