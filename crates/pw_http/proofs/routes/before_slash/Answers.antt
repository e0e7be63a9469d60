use Rattle.std.proofs.Common.{◌≡◌, length, arith}
use Rattle.pw_http.proofs.Slashes.{first-slash, slash-here}
use Rattle.pw_http.proofs.routes.before_slash.Goals as goal

pub returns-then-byte-eq47-clause-place : goal.returns-then-byte-eq47-clause-place
returns-then-byte-eq47-clause-place c =
    first-slash c.args.text.now c.loop-place.place (omega arith) c.loop-place.invariant
    (λ d l. slash-here c.args.text.now c.loop-place.place _ d l c.if-byte-eq47.true)

pub returns-clause-place : goal.returns-clause-place
returns-clause-place c =
    let ended : length c.args.text.now ≡ c.loop-place.place = omega arith in
    rw ended (first-slash c.args.text.now c.loop-place.place (omega arith) c.loop-place.invariant (λ d l. absurd (omega arith)))
