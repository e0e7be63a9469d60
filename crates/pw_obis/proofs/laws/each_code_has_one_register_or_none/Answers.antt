use Rattle.pw_obis.proofs.OneRegister.{one_register}
use Rattle.pw_obis.proofs.laws.each_code_has_one_register_or_none.Goals as goal

pub returns : goal.returns
returns c = record { answer = c.register.result; holds = c.register.ensures; only = λ other x. one_register c.args.code.now c.register.result other c.register.ensures x }
