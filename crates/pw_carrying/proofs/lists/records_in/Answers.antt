use Rattle.std.proofs.Common.{sym, subst}
use Rattle.std.proofs.lemmas.Result.{IfOk-weaker}
use Rattle.pw_model.specs.Kinds.{ListsHeld}
use Rattle.pw_carrying.specs.declared.lists.HeldList.{HeldList}
use Rattle.pw_carrying.specs.inner.Stages.{IsOfList}
use Rattle.pw_carrying.proofs.lists.records_in.Goals as goal

pub returns-in-Assignments-clause-rows : goal.returns-in-Assignments-clause-rows
returns-in-Assignments-clause-rows g c = λ k of.
    let records = (g.S.Shelf.state c.args.shelf.now).content.records in
    IfOk-weaker c.assignments_of.result _ _ (λ found h. (let L : HeldList → Type 0 = λ l. ListsHeld (IsOfList l) records found.items in subst L (sym c.in-Assignments.is) h)) (c.assignments_of.ensures.rows k)
