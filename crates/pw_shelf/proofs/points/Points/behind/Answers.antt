use Rattle.std.proofs.Common.{rules}
use Rattle.pw_shelf.proofs.Beside.{earliest-of-register, none-behind, none-of-register-behind}
use Rattle.pw_shelf.proofs.points.Points.behind.Goals as goal

pub returns-then-is_of_register : goal.returns-then-is_of_register
returns-then-is_of_register c =
    let of = c.is_of_register.ensures.0 (search rules) in
    earliest-of-register c.args.self.now.table c.first_behind.ensures.ordered c.args.meter c.args.register c.args.instant
    (c.in-Some.key, c.in-Some.wh) c.in-Some.ensures.first.0 c.in-Some.ensures.first.1 of.0 of.1

pub returns-else-is_of_register : goal.returns-else-is_of_register
returns-else-is_of_register c =
    none-of-register-behind c.args.self.now.table c.first_behind.ensures.ordered c.args.meter c.args.register c.args.instant
    (c.in-Some.key, c.in-Some.wh) c.in-Some.ensures.first.0 c.in-Some.ensures.first.1
    (λ of. let h = c.is_of_register.ensures.1 of in search rules)

pub returns-in-None : goal.returns-in-None
returns-in-None c = none-behind c.args.self.now.table c.first_behind.ensures.ordered c.args.meter c.args.register c.args.instant
    c.in-None.ensures.first
