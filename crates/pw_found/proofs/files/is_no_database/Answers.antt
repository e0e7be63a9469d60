use Rattle.std.proofs.Common.{subst, inl, inr, IsTrue, ◌↔◌, true}
use Rattle.std.proofs.lemmas.Bool.{iff_false}
use Rattle.sqlite_wal.specs.Recovery.{Image}
use Rattle.sqlite_pool.specs.Opening.{IsBlankFile}
use Rattle.sqlite_pool.specs.Stored.{used_size}
use Rattle.sqlite_wal.proofs.CleanLemmas.{both_clean}
use Rattle.pw_found.proofs.Logs.{same_image}
use Rattle.pw_found.proofs.files.is_no_database.Goals as goal

pub returns-in_ok-is_blank-2-clause-ok : goal.returns-in_ok-is_blank-2-clause-ok
returns-in_ok-is_blank-2-clause-ok g c clean =
    let first = c.is_blank.ensures in
    let second = c.is_blank-else-branch.ensures in
    let plain = c.in_ok-is_blank.ensures.ok (both_clean _ _ _ _ second.log.clean second.db.clean clean) in
    let summed = subst (λ (image : Image). IsTrue c.in_ok-is_blank-2.field-0 ↔ IsBlankFile (used_size 4096 true) image)
    (same_image first.log first.db) (c.in_ok-is_blank-2.ensures.ok clean) in (
      λ yes. inr (summed.0 yes),
      λ none. elim none [ inl is ↦ absurd (iff_false plain c.if-branch.false is) | inr is ↦ summed.1 is ],
    )
