use Rattle.std.proofs.Common.{◌≡◌, ◌++◌, ◌∷◌, [], List, subst, rules}
use Rattle.sqlite.specs.Order.{Row}
use Rattle.pw_schema.proofs.empty.NoRowsJudge.take.Goals as goal

pub returns-clause-foreign : goal.returns-clause-foreign
returns-clause-foreign c first rows tail held e none =
    let row : Row = c.args._row.now in
    let bad : row ∷ tail ≡ [] = subst (λ (xs : List Row). xs ++ row ∷ tail ≡ []) held none in
    cc

pub returns-clause-took : goal.returns-clause-took
returns-clause-took c = search rules depth 0 fits 100
