use Rattle.std.proofs.Common.{◌∙◌, sym, take, ap}
use Rattle.pw_http.proofs.Slashes.{before-slash}
use Rattle.pw_http.proofs.routes.up_to_slash.Goals as goal

pub returns : goal.returns
returns c = ap (λ n. take n c.args.text.now) c.before_slash.ensures.place ∙ sym (before-slash c.args.text.now)
