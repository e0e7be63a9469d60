use Rattle.std.proofs.Common.{◌+◌, ◌++◌, ◌∙◌, [], ◌∷◌, List, Ok, Err, ap, drop, subst, sym, take}
use Rattle.std.proofs.lemmas.List.{append_assoc, take-append-drop, take_all}
use Rattle.std.proofs.lemmas.Result.{err_from_is_err_and}
use Rattle.pw_model.specs.declared.records.Entry.{Entry}
use Rattle.pw_model.proofs.Places.{at-told, drop-at, take-at}
use Rattle.pw_carrying.specs.inner.Stages.{Gives}
use Rattle.pw_carrying.proofs.Sent.{gives-short, gives-then}
use Rattle.pw_carrying.proofs.Uploads.{uploads-failed, uploads-then}
use Rattle.pw_carrying.proofs.waiting.give_all.Goals as goal

pub loop-entry-preserved : goal.loop-entry-preserved
loop-entry-preserved g c =
    let was = c.loop-entry.invariant in
    let e = c.entry-item.result in
    let entries = c.args.entries.now in
    let i = c.loop-entry.entry-index in
    let at = at-told entries i e c.loop-entry-test.true c.entry-item.is in
    record {
      gives = λ k.
          let before = c.in_ok-give.ensures.uploads.clean k in
          let G : List Entry → Type 0 = λ xs. Gives c.args.basis.now.office.now c.args.into.now.office xs (g.T.Shelf.state c.args.into.now.shelf).content.records c.args.waiting.now.entries.items
          (g.T.Shelf.state c.give.new.into.shelf).content.records c.give.new.waiting.entries.items (Ok (tt {0})) in
          subst G (sym (take-at entries i e at))
          (gives-then (tt {0}) (Ok (tt {0})) c.args.basis.now.office.now c.args.into.now.office c.loop-entry.into.office (take i entries) (e ∷ []) (g.T.Shelf.state c.args.into.now.shelf).content.records c.args.waiting.now.entries.items
          (g.T.Shelf.state c.loop-entry.into.shelf).content.records c.loop-entry.waiting.entries.items (g.T.Shelf.state c.give.new.into.shelf).content.records c.give.new.waiting.entries.items was.uploads.office (was.gives before) (c.in_ok-give.ensures.gives k));
      uploads = uploads-then g.T.Shelf g.met.T.Shelf.same_then (tt {0}) (Ok (tt {0})) _ _ _ was.uploads c.in_ok-give.ensures.uploads;
    }

pub returns-in_err-give-clause-gives : goal.returns-in_err-give-clause-gives
returns-in_err-give-clause-gives g c = λ k.
    let was = c.loop-entry.invariant in
    let e = c.entry-item.result in
    let entries = c.args.entries.now in
    let i = c.loop-entry.entry-index in
    let before = c.in_err-give.ensures.uploads.clean k in
    let p = err_from_is_err_and c.from_residual.result c.from_residual.ensures.1 in
    let at = at-told entries i e c.loop-entry-test.true c.entry-item.is in
    let all = append_assoc (take i entries) (e ∷ []) (drop (i + 1) entries) ∙ ap (λ (xs : List Entry). take i entries ++ xs) (sym (drop-at entries i e at)) ∙ take-append-drop i entries in
    gives-short (Unit {0}) c.in_err-give.field-0.0 p.0 c.from_residual.result c.args.basis.now.office.now c.args.into.now.office (take i entries ++ e ∷ []) (drop (i + 1) entries) entries (g.T.Shelf.state c.args.into.now.shelf).content.records
    c.args.waiting.now.entries.items (g.T.Shelf.state c.give.new.into.shelf).content.records c.give.new.waiting.entries.items all p.1 p.2
    (gives-then {Y = Unit {0}} (tt {0}) (Err c.in_err-give.field-0.0) c.args.basis.now.office.now c.args.into.now.office c.loop-entry.into.office (take i entries) (e ∷ []) (g.T.Shelf.state c.args.into.now.shelf).content.records c.args.waiting.now.entries.items
    (g.T.Shelf.state c.loop-entry.into.shelf).content.records c.loop-entry.waiting.entries.items (g.T.Shelf.state c.give.new.into.shelf).content.records c.give.new.waiting.entries.items was.uploads.office (was.gives before) (c.in_err-give.ensures.gives k))

pub returns-in_err-give-clause-uploads : goal.returns-in_err-give-clause-uploads
returns-in_err-give-clause-uploads g c =
    let p = err_from_is_err_and c.from_residual.result c.from_residual.ensures.1 in
    uploads-failed g.T.Shelf (Unit {0}) c.in_err-give.field-0.0 p.0 c.from_residual.result _ _ p.1 p.2 (uploads-then g.T.Shelf g.met.T.Shelf.same_then (tt {0}) _ _ _ _ c.loop-entry.invariant.uploads c.in_err-give.ensures.uploads)

pub returns-clause-gives : goal.returns-clause-gives
returns-clause-gives g c = λ k.
    let G : List Entry → Type 0 = λ xs. Gives c.args.basis.now.office.now c.args.into.now.office xs (g.T.Shelf.state c.args.into.now.shelf).content.records c.args.waiting.now.entries.items
    (g.T.Shelf.state c.loop-entry.into.shelf).content.records c.loop-entry.waiting.entries.items (Ok (tt {0})) in
    subst G (take_all c.loop-entry.entry-index c.args.entries.now c.loop-entry-test.false) (c.loop-entry.invariant.gives k)
