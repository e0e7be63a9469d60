use Rattle.std.proofs.Common.{ap, sym, ◌∙◌}
use Rattle.std.proofs.lemmas.Result.{on_ok_weaker}
use Rattle.pw_book.proofs.Neighbouring.{others-agree, starts-agree}
use Rattle.pw_model.specs.Shelf.{ShelfContent}
use Rattle.pw_book.proofs.Known.{still-known}
use Rattle.pw_book.proofs.reading_change.cease_to_count.Goals as goal

pub returns-clause-gathered : goal.returns-clause-gathered
returns-clause-gathered g c = λ k was is points starts more ends.
    let first = c.point_del.ensures.written.kept.clean k in
    let reading = c.args.reading.now in
    on_ok_weaker c.point_del.result (λ deleted t.
    sym (c.in_ok-weigh_around.ensures.around first is was (λ u n. ap (λ p. p reading.meter.0 reading.register u) points ∙ others-agree is was reading.meter.0 reading.register reading.instant c.args.wh more u n)
    (ap (λ p. p reading.meter.0) starts ∙ starts-agree is was reading.meter.0 reading.register reading.instant c.args.wh more) more ends t)) (c.point_del.ensures.deleted k)

pub returns-clause-known : goal.returns-clause-known
returns-clause-known g c = λ k.
    on_ok_weaker c.point_del.result
    (λ h. still-known _ _ c.weigh_around.new.so_far.known (ap (λ (d : ShelfContent). d.start) h) (c.in_ok-weigh_around.ensures.known (c.point_del.ensures.written.kept.clean k))) (c.point_del.ensures.deleted k)
