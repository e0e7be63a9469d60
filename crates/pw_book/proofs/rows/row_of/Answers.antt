use Rattle.std.proofs.Common.{Bool, not, ◌&&◌, subst, ap, sym, ◌∙◌}
use Rattle.pw_model.specs.declared.records.Content.{Content}
use Rattle.pw_model.specs.declared.records.Key.{Key}
use Rattle.pw_model.specs.declared.records.Key.TheVariants as key
use Rattle.pw_model.specs.Counting.{is_withdrawn as is_withdrawn_by}
use Rattle.pw_parts.specs.Shown.{shown_at}
use Rattle.pw_book.proofs.rows.row_of.Goals as goal
use Rattle.pw_book.proofs.rows.row_of.Goals.{then-not-counted+in_ok-withdrawn, else-not-counted}

pub returns-clause-row : goal.returns-clause-row
returns-clause-row g c = λ k told p.
    let entry = c.args.entry.now in
    let gone = is_withdrawn_by (g.S.Shelf.state c.args.shelf.now).content.records entry in
    record {
      shows = ap (λ (v : Key). shown_at v entry.content) c.in-Reading.is ∙ ap (λ (x : Content). shown_at (key.Reading c.in-Reading.meter c.in-Reading.register c.in-Reading.instant) x) c.in-Reading-content.is;
      counted = c.shows-counted.ensures told p;
      withdrawn = elim c.if-not-counted.branch [
        | then-not-counted+in_ok-withdrawn w ↦ w.withdrawn-is ∙ w.in_ok-withdrawn.ensures.withdrawn (subst g.S.Shelf.clean w.shelf-is k) ∙ sym (ap (λ (counted : Bool). not counted && gone) w.if-not-counted.true)
        | else-not-counted w ↦ w.withdrawn-is ∙ ap not w.if-not-counted.false ∙ sym (ap (λ (counted : Bool). not counted && gone) w.if-not-counted.false)
      ];
    }
