use Rattle.std.proofs.Common.{◌≡◌, ◌++◌, take, codes}
use Rattle.std.specs.List.{flat_map}
use Rattle.pw_report.specs.Tables.{fall_line}
use Rattle.pw_report.proofs.falls.falls_text.Given as goal

abbrev pub invariant-loop-fall : goal.invariant-loop-fall
invariant-loop-fall l = l.text.items ≡ codes "meter register from wh to wh\n" ++ flat_map (fall_line l.office) (take l.fall-index l.falls)
