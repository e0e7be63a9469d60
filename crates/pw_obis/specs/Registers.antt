-- The registers in their order, and their names.
use Rattle.std.specs.Prelude.{ℕ, List, [], ◌∷◌, codes}
use Rattle.pw_obis.specs.declared.reference.Register.{Register}
use Rattle.pw_obis.specs.declared.reference.Register.TheVariants.{I0, I1, I2, E0, E1, E2}

-- import first, then export; of each the total, rate 1, rate 2
abbrev pub registers : List Register
registers = I0 ∷ I1 ∷ I2 ∷ E0 ∷ E1 ∷ E2 ∷ []

abbrev pub register_name : Register → List ℕ
register_name I0 = codes "I0"
register_name I1 = codes "I1"
register_name I2 = codes "I2"
register_name E0 = codes "E0"
register_name E1 = codes "E1"
register_name E2 = codes "E2"
