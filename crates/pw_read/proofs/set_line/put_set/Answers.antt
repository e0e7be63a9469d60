use Rattle.pw_read.proofs.Unread.{no_code, no_meaning}
use Rattle.pw_read.proofs.set_line.put_set.Goals as goal

pub returns-in_default-clause-ok : goal.returns-in_default-clause-ok
returns-in_default-clause-ok c = no_code c.args.kind c.args.set.now c.args.text.now.items c.requires c.in_default.is

pub returns-in_default-register-clause-ok : goal.returns-in_default-register-clause-ok
returns-in_default-register-clause-ok c =
    no_meaning c.args.kind c.args.set.now c.in-Some.code c.args.text.now.items c.requires c.in-Some.is c.in_default-text_name.ensures.none c.in_default-register.ensures
