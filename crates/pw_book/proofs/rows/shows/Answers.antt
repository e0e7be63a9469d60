use Rattle.std.proofs.Common.{sym, ◌∙◌}
use Rattle.std.proofs.lemmas.Bool.{eq-eqb, eqb-true, ltb-false, ltb-true, true≢false}
use Rattle.pw_model.specs.inner.Search.{IsAt}
use Rattle.pw_book.proofs.RowFacts.{none-there, shows-there, told-there}
use Rattle.pw_book.proofs.rows.shows.Goals as goal

pub returns-then-eq : goal.returns-then-eq
returns-then-eq c = λ told l.
    let a = c.in-Some.point.now in
    let at : IsAt c.args.points.now c.stand_before.result a = (ltb-true _ _ (sym c.in-Some.ensures.lookup.0), sym c.in-Some.ensures.lookup.1) in
    let b = c.stand_before.ensures l.rising in (
      λ q. shows-there told c.args.points.now l c.args.instant c.args.wh c.stand_before.result b a at (eqb-true a.0 c.args.instant (sym c.eq.ensures ∙ c.if-eq.true), eqb-true a.1 c.args.wh (sym c.eq-then-eq.ensures ∙ q)),
      λ e. c.eq-then-eq.ensures ∙ eq-eqb a.1 c.args.wh (told-there told c.args.points.now l c.args.instant c.args.wh c.stand_before.result b a at e).1,
    )

pub returns-else-eq : goal.returns-else-eq
returns-else-eq c = λ told l.
    let a = c.in-Some.point.now in
    let at : IsAt c.args.points.now c.stand_before.result a = (ltb-true _ _ (sym c.in-Some.ensures.lookup.0), sym c.in-Some.ensures.lookup.1) in
    let b = c.stand_before.ensures l.rising in (
      λ q. absurd (true≢false (sym q ∙ c.if-eq.false)),
      λ e. c.eq.ensures ∙ eq-eqb a.0 c.args.instant (told-there told c.args.points.now l c.args.instant c.args.wh c.stand_before.result b a at e).0,
    )

pub returns-in-None : goal.returns-in-None
returns-in-None c = λ told l. (
  λ q. absurd (true≢false (sym q)),
  λ e. absurd (none-there told c.args.points.now l c.args.instant c.args.wh c.stand_before.result (c.stand_before.ensures l.rising) (ltb-false _ _ (sym c.in-None.ensures.lookup.0)) e),
)
