use Rattle.std.proofs.Common.{IfOk, subst, sym, ◌≡◌}
use Rattle.sqlite.specs.Held.{state}
use Rattle.sqlite.specs.State.{HasCleanDisk}
use Rattle.pw_tariff.specs.Office.{office_of}
use Rattle.pw_model.specs.Laws.{HaveSameFigures}
use Rattle.pw_store.specs.OpenStore.{held_in}
use Rattle.pw_store.proofs.OneOffice.{opened-of-office, opened-true}
use Rattle.pw_commands.proofs.Figures.{figures-stay, if_ok_more}
use Rattle.pw_commands.proofs.adopting.adopt_book.Goals as goal

pub returns-clause-content : goal.returns-clause-content
returns-clause-content g c =
    subst (λ shelf. IfOk c.adopt.result (λ s. HasCleanDisk (state g.S.Store s.conn) → held_in g.S.Store s ≡ held_in g.S.Store shelf))
    c.into_shelf.ensures c.adopt.ensures.same

pub returns-clause-kept : goal.returns-clause-kept
returns-clause-kept g c =
    if_ok_more _ _ _ c.adopt.result c.adopt.ensures.of_office c.adopt.ensures.truth
    (λ s all truth clean. record {
      of_office = opened-of-office c.args.new_text.now c.args.new.now _ c.requires.text (all clean);
      truth = opened-true c.args.new_text.now c.args.new.now _ c.requires.text (truth clean);
    })

pub returns-clause-figures : goal.returns-clause-figures
returns-clause-figures g c =
    if_ok_more _ _ _ c.adopt.result c.adopt.ensures.was_clean (returns-clause-content g c)
    (λ s was same clean. subst (λ content. HaveSameFigures (office_of c.args.book.office) (office_of c.args.new.now) content.records) (sym (same clean))
    (figures-stay c.args.new_text.now c.args.words.now c.args.book.office c.args.new.now _ c.args.book.sound c.requires.text
    (c.args.book.of_office c.requires.open_yet (subst (λ shelf. HasCleanDisk (state g.S.Store shelf.conn)) c.into_shelf.ensures (was clean).0))
    (c.requires.adopted (subst (λ shelf. HasCleanDisk (state g.S.Store shelf.conn)) c.into_shelf.ensures (was clean).0))))
