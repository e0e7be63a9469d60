-- A code is of one register at most.
use Rattle.std.proofs.Common.{◌≡◌, ℕ, cond, eqb, Option, Some, None, refl, sym, ap, ◌∙◌}
use Rattle.pw_obis.specs.declared.reference.Code.{Code}
use Rattle.pw_obis.specs.declared.reference.Register.{Register}
use Rattle.pw_obis.specs.declared.reference.Register.TheVariants.{I0, I1, I2, E0, E1, E2}
use Rattle.pw_obis.specs.References.{Energy, IsCodeOfRegister, IsRegisterOf}

-- the register that C and E alone would name
by_groups : ℕ → Option ℕ → Register
by_groups c None = I0
by_groups c (Some e) = cond (eqb c 1) (cond (eqb e 0) I0 (cond (eqb e 1) I1 I2)) (cond (eqb e 0) E0 (cond (eqb e 1) E1 E2))

named : (code : Code) (c e : ℕ) → Energy code c e → by_groups code.c code.e ≡ by_groups c (Some e)
named code c e x = ap (λ (n : ℕ). by_groups n code.e) x.refers.c_is ∙ ap (by_groups c) x.refers.e_is

is_named : (register : Register) (code : Code) → IsCodeOfRegister register code → by_groups code.c code.e ≡ register
unfolding by_groups
is_named I0 code x = named code 1 0 x
is_named I1 code x = named code 1 1 x
is_named I2 code x = named code 1 2 x
is_named E0 code x = named code 2 0 x
is_named E1 code x = named code 2 1 x
is_named E2 code x = named code 2 2 x

pub one_register : (code : Code) (r q : Option Register) → IsRegisterOf code r → IsRegisterOf code q → r ≡ q
one_register code None None x y = refl
one_register code None (Some q) x y = absurd (x q y)
one_register code (Some r) None x y = absurd (y r x)
one_register code (Some r) (Some q) x y = ap Some (sym (is_named r code x) ∙ is_named q code y)
