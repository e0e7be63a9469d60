use Rattle.std.proofs.Common.{◌∙◌, ◌+◌, sym, drop, ap}
use Rattle.pw_http.proofs.Slashes.{after-slash}
use Rattle.pw_http.proofs.routes.behind_slash.Goals as goal

pub returns : goal.returns
returns c = c.behind.ensures ∙ ap (λ n. drop (n + 1) c.args.text.now) c.before_slash.ensures.place ∙ sym (after-slash c.args.text.now)
