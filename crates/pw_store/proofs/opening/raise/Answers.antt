use Rattle.std.proofs.lemmas.Result.{IfOk-from_err}
use Rattle.pw_store.proofs.opening.raise.Goals as goal

pub returns-in_err-begin-clause-within : goal.returns-in_err-begin-clause-within
returns-in_err-begin-clause-within g c clean = IfOk-from_err c.from_residual.result _ c.from_residual.ensures.0

pub returns-in_err-begin-clause-raised : goal.returns-in_err-begin-clause-raised
returns-in_err-begin-clause-raised g c clean = IfOk-from_err c.from_residual.result _ c.from_residual.ensures.0

pub returns-in_err-begin-clause-crash : goal.returns-in_err-begin-clause-crash
returns-in_err-begin-clause-crash g c = c.begin.ensures.writes.crash

pub returns-in_err-raise_to_third-clause-within : goal.returns-in_err-raise_to_third-clause-within
returns-in_err-raise_to_third-clause-within g c clean = IfOk-from_err c.from_residual-in_err-raise_to_third.result _ c.from_residual-in_err-raise_to_third.ensures.0

pub returns-in_err-raise_to_third-clause-raised : goal.returns-in_err-raise_to_third-clause-raised
returns-in_err-raise_to_third-clause-raised g c clean = IfOk-from_err c.from_residual-in_err-raise_to_third.result _ c.from_residual-in_err-raise_to_third.ensures.0

pub returns-clause-within : goal.returns-clause-within
returns-clause-within g c = c.in_ok-raise_to_third.ensures.made
