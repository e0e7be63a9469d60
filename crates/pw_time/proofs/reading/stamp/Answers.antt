use Rattle.std.proofs.Common.{refl, inl, inr}
use Rattle.pw_time.proofs.OutcomeFacts.{stamp_outcome}
use Rattle.pw_time.proofs.reading.stamp.Goals as goal

pub returns-in-83 : goal.returns-in-83
returns-in-83 c =
    stamp_outcome c.args.text.now c.in-Some.civil c.in-Some.mark 7200 c.at_offset.result c.in-Some.ensures (inl (c.in-83.is, refl)) c.at_offset.ensures

pub returns-in-87 : goal.returns-in-87
returns-in-87 c =
    stamp_outcome c.args.text.now c.in-Some.civil c.in-Some.mark 3600 c.at_offset-in-87.result c.in-Some.ensures (inr (c.in-87.is, refl)) c.at_offset-in-87.ensures
