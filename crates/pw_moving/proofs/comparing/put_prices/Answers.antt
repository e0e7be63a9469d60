use Rattle.std.proofs.Common.{arith}
use Rattle.pw_moving.specs.Renaming.{Offices}
use Rattle.pw_moving.proofs.Lines.{prices-all, prices-next}
use Rattle.pw_moving.proofs.comparing.put_prices.Goals as goal

pub loop-band-preserved : goal.loop-band-preserved
loop-band-preserved c =
    let o : Offices = record { old = c.args.old.now; new = c.args.new.now } in
    prices-next o c.args.period (record { 0 = c.loop-band.band }) c.args.changes.now.items c.loop-band.changes.items c.put_price.new.changes.items c.put_price-in-loop-band.new.changes.items
    c.loop-band.invariant c.in_ok-put_price.ensures c.in_ok-put_price-2.ensures

pub returns : goal.returns
returns c =
    let o : Offices = record { old = c.args.old.now; new = c.args.new.now } in
    let end = c.min-band-end.ensures in
    let olds = c.bands.ensures.count in
    let news = c.bands-2.ensures.count in
    let past = c.loop-band-test.false in
    let within = c.loop-band.auto.band-end in
    prices-all o c.args.period c.loop-band.band c.args.changes.now.items c.loop-band.changes.items (omega (arith, end, olds, news, within)) (λ i l k. omega (arith, end, olds, news, past, l, k)) c.loop-band.invariant
