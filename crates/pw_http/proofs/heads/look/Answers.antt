use Rattle.std.proofs.Common.{◌≤◌, arith, length, rules}
use Rattle.httparse.specs.Grammar.{HasNoRequest}
use Rattle.pw_http.specs.Heads.{longest_head}
use Rattle.pw_http.proofs.HeadLemmas.{full_has_none}
use Rattle.pw_http.proofs.heads.look.Goals as goal

pub returns-else-buf-lt-LONGEST_HEAD-clause-outcome : goal.returns-else-buf-lt-LONGEST_HEAD-clause-outcome
returns-else-buf-lt-LONGEST_HEAD-clause-outcome c =
    let full : longest_head ≤ length c.args.buf.now = omega (arith, c.if-buf-lt-LONGEST_HEAD.false) in
    let none : HasNoRequest c.args.buf.now = rw c.in-Ok-Partial.field-0-is at c.in-Ok-Partial.ensures.partial in
    full_has_none c.args.buf.now none full

pub returns-then-buf-lt-LONGEST_HEAD-clause-outcome : goal.returns-then-buf-lt-LONGEST_HEAD-clause-outcome
returns-then-buf-lt-LONGEST_HEAD-clause-outcome c = search rules
