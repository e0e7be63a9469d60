use Rattle.std.proofs.Common.{ap, sym, ◌∙◌}
use Rattle.std.proofs.lemmas.Bool.{true≢false}
use Rattle.std.proofs.lemmas.Result.{IfOk-weaker}
use Rattle.pw_model.specs.Counting.{withdraws}
use Rattle.pw_model.proofs.Same.{same_content-decides}
use Rattle.pw_book.proofs.Inferred.{before-alone, before-by-point, before-none, before-other}
use Rattle.pw_book.proofs.effect.told_before.Goals as goal

pub returns-in-Several-clause-before : goal.returns-in-Several-clause-before
returns-in-Several-clause-before g c = λ k office s i n o p b.
    let content = (g.S.Shelf.state c.args.shelf.now).content in
    let m = c.args.meter.0 in
    let here = before-by-point s content.records c.args.entry.now i n (λ x. ap (withdraws x) c.requires.key) office m c.args.register c.args.instant (content.point m c.args.register c.args.instant) o c.requires.key
    (ap (λ f. f m c.args.register c.args.instant) p) (sym b ∙ c.in-Several.is) in
    IfOk-weaker c.told_at_point.result _ _ (λ told t. t ∙ here) (c.told_at_point.ensures.told k)

pub returns-in-Nothing-clause-before : goal.returns-in-Nothing-clause-before
returns-in-Nothing-clause-before g c = λ k office s i n o p b.
    sym (before-none s (g.S.Shelf.state c.args.shelf.now).content.records c.args.entry.now i n (λ x. ap (withdraws x) c.requires.key) (sym b ∙ c.in-Nothing.is))

pub returns-then-is_same_content-clause-before : goal.returns-then-is_same_content-clause-before
returns-then-is_same_content-clause-before g c = λ k office s i n o p b.
    sym (before-alone s (g.S.Shelf.state c.args.shelf.now).content.records c.args.entry.now i n (λ x. ap (withdraws x) c.requires.key) c.in-One.content (sym b ∙ c.in-One.is)
    ((same_content-decides c.in-One.content c.args.entry.now.content).0 (sym c.is_same_content.ensures ∙ c.if-is_same_content.true)))

pub returns-else-is_same_content-clause-before : goal.returns-else-is_same_content-clause-before
returns-else-is_same_content-clause-before g c = λ k office s i n o p b.
    c.in-One.is ∙ sym (before-other s (g.S.Shelf.state c.args.shelf.now).content.records c.args.entry.now i n (λ x. ap (withdraws x) c.requires.key) c.in-One.content (sym b ∙ c.in-One.is)
    (λ j. true≢false (sym ((same_content-decides c.in-One.content c.args.entry.now.content).1 j) ∙ (sym c.is_same_content.ensures ∙ c.if-is_same_content.false))))
