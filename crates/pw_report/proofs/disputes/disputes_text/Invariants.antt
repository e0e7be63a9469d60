use Rattle.std.proofs.Common.{◌≡◌, ◌++◌, take, codes}
use Rattle.std.specs.List.{flat_map}
use Rattle.pw_report.specs.Tables.{dispute_line}
use Rattle.pw_report.proofs.disputes.disputes_text.Given as goal

abbrev pub invariant-loop-dispute : goal.invariant-loop-dispute
invariant-loop-dispute l = l.text.items ≡ codes "key records\n" ++ flat_map (dispute_line l.office) (take l.dispute-index l.disputes)
