use Rattle.pw_book.proofs.Outcomes.{EachHas}
use Rattle.pw_book.proofs.laws.uploads_have_one_after.Given as goal

abbrev pub invariant-loop-upload : goal.invariant-loop-upload
invariant-loop-upload l = EachHas l.office l.uploads l.upload-index
