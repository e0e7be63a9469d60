use Rattle.std.proofs.Common.{◌++◌, ◌∷◌, [], drop, length-drop, true≢false, refl, arith}
use Rattle.std.proofs.lemmas.List.{drop-drop, take_rest}
use Rattle.pw_http.proofs.Readings.{begin, read-last, read-nothing, read-on, read-refused}
use Rattle.pw_http.proofs.laws.each_stream_has_one_reading.Goals as goal

pub requests-init : goal.requests-init
requests-init c = record { requests = []; begins = begin c.args.audience c.args.stream.now; within = omega arith; room = refl }

pub returns-in-Nothing : goal.returns-in-Nothing
returns-in-Nothing c =
    let i = c.requests.invariant in
    let n = rw (take_rest c.args.stream.now c.requests.at) at c.in-Nothing.ensures.next in
    read-nothing c.args.audience c.args.stream.now _ i.requests i.begins n.0

pub returns-in-More : goal.returns-in-More
returns-in-More c = absurd (true≢false c.in-More.ensures.next.1)

pub returns-in-Refused : goal.returns-in-Refused
returns-in-Refused c =
    let i = c.requests.invariant in
    let n = rw (take_rest c.args.stream.now c.requests.at) at c.in-Refused.ensures.next in
    read-refused c.args.audience c.args.stream.now _ i.requests _ i.begins (n [] (λ _. refl))

pub returns-then-whole : goal.returns-then-whole
returns-then-whole c =
    let i = c.requests.invariant in
    let n = rw (take_rest c.args.stream.now c.requests.at) at c.in-Ready.ensures.next in
    read-last c.args.audience c.args.stream.now _ i.requests c.in-Ready.whole n.0 i.begins n.1 c.if-whole.true

pub requests-preserved : goal.requests-preserved
requests-preserved c =
    let i = c.requests.invariant in
    let n = rw (take_rest c.args.stream.now c.requests.at) at c.in-Ready.ensures.next in
    let on = read-on c.args.audience c.args.stream.now (drop c.requests.at c.args.stream.now) i.requests c.in-Ready.whole n.0 i.begins n.1 c.if-whole.false in
    record {
      requests = i.requests ++ n.0 ∷ [];
      begins = rw (drop-drop c.in-Ready.whole.len c.requests.at c.args.stream.now) at on;
      within = omega (arith, n.1.within, i.within, length-drop c.requests.at c.args.stream.now);
      room = c.in-Ready.ensures.room;
    }
