use Rattle.pw_obis.proofs.OneCode.{one_code_or_none}
use Rattle.pw_obis.proofs.laws.each_address_has_one_code_or_none.Goals as goal

pub returns : goal.returns
returns c = record { answer = c.code.result; holds = c.code.ensures; only = λ other x. one_code_or_none c.args.address.now c.code.result other c.code.ensures x }
