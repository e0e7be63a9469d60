use Rattle.std.proofs.Common.{rules, ◌≡◌, sym, ◌∙◌, true}
use Rattle.pw_shelf.proofs.InOrder.{any-member, member-any}
use Rattle.pw_shelf.proofs.held.Held.has.Goals as goal

pub returns : goal.returns
returns c = (
  λ h. any-member c.args.self.now.records.keys c.args.entry.now (let e : c.contains.result ≡ true = search rules in sym c.contains.ensures ∙ e),
  λ m. let e = c.contains.ensures ∙ member-any c.args.self.now.records.keys c.args.entry.now m in search rules,
)
