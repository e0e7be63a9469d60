use Rattle.std.proofs.Common.{◌≡◌, codes, length}
use Rattle.sqlite_catalog.specs.Listing.{mentions}
use Rattle.pw_schema.proofs.conflicts.speaks_of_conflict.Given as goal

abbrev pub invariant-loop-rest : goal.invariant-loop-rest
invariant-loop-rest l = mentions (codes "conflict") l.rest ≡ mentions (codes "conflict") l.fn.text

abbrev pub decreases-loop-rest : goal.decreases-loop-rest
decreases-loop-rest l = length l.rest
