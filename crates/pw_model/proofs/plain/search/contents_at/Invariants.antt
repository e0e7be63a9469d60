use Rattle.std.proofs.Common.{◌≡◌, take}
use Rattle.pw_model.specs.Counting.{contents_among, standing_among}
use Rattle.pw_model.proofs.plain.search.contents_at.Given as goal

abbrev pub invariant-loop-entry : goal.invariant-loop-entry
invariant-loop-entry l = l.contents ≡ contents_among (standing_among l.entries (take l.entry-index l.entries)) l.key
