use Rattle.std.proofs.Common.{◌≡◌, ◌-◌, ◌<◌, ◌≤◌, rules}
use Rattle.pw_time.specs.declared.instant.TheConstants.{LAST_SECOND}
use Rattle.pw_book.proofs.NewStarts.{behind-more, until-found, until-last}
use Rattle.pw_book.proofs.starts.until_next.Goals as goal

pub loop-start-preserved : goal.loop-start-preserved
loop-start-preserved c =
    let far : c.start-item.result.0 ≤ c.args.from = search rules in
    behind-more c.args.starts.now c.loop-start.start-index c.args.from c.start-item.result c.loop-start-test.true c.start-item.is far c.loop-start.invariant

pub returns-then-lt : goal.returns-then-lt
returns-then-lt c = λ told l.
    let near : c.args.from < c.start-item.result.0 = search rules in
    let at : c.unwrap.result ≡ c.start-item.result.0 - 1 = search rules in
    until-found told c.args.starts.now c.loop-start.start-index c.args.from c.unwrap.result c.start-item.result l c.loop-start-test.true c.start-item.is near c.loop-start.invariant at

pub returns : goal.returns
returns c = λ told l.
    let within : c.args.from ≤ LAST_SECOND = search rules in
    let at : c.unwrap-2.result ≡ LAST_SECOND = search rules in
    until-last told c.args.starts.now c.loop-start.start-index c.args.from c.unwrap-2.result l c.loop-start-test.false c.loop-start.invariant within at
