use Rattle.std.proofs.Common.{sym, ◌∙◌, arith}
use Rattle.pw_model.proofs.Found.{looked-first, looked-next, owner-here, owner-none}
use Rattle.pw_model.proofs.plain.search.owner_at.Goals as goal

pub loop-start-init : goal.loop-start-init
loop-start-init c = looked-first c.args.entries.now c.args.meter.0 c.args.second

pub loop-start-preserved : goal.loop-start-preserved
loop-start-preserved c =
    looked-next c.args.entries.now c.args.meter.0 c.loop-start.until c.args.second c.in-Some.start _ c.contents_at-contents.result c.loop-start.invariant c.in-Some.ensures c.contents_at-contents.ensures
    (sym c.in_default-owner_in.is ∙ c.owner_in.ensures) (omega (arith, c.seconds-until.ensures.value, c.seconds-until.ensures.within))

pub returns-in-Some-owner_in : goal.returns-in-Some-owner_in
returns-in-Some-owner_in c =
    owner-here c.args.entries.now c.args.meter.0 c.loop-start.until c.args.second c.in-Some.start c.contents_at-contents.result c.in-Some-owner_in.owner c.loop-start.invariant c.in-Some.ensures
    c.contents_at-contents.ensures (sym c.in-Some-owner_in.is ∙ c.owner_in.ensures)

pub returns : goal.returns
returns c = owner-none c.args.entries.now c.args.meter.0 c.loop-start.until c.args.second c.loop-start.invariant c.in_default.ensures
