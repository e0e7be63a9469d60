use Rattle.std.proofs.Common.{◌+◌, List, arith, refl, sym, subst, ◌∙◌}
use Rattle.std.proofs.lemmas.Result.{on_ok_weaker}
use Rattle.pw_tariff.specs.Office.{office_of}
use Rattle.pw_model.specs.declared.records.Entry.{Entry}
use Rattle.pw_model.specs.declared.records.Key.{Key}
use Rattle.pw_model.specs.declared.records.Key.TheVariants as key
use Rattle.pw_model.proofs.SoundOffice.{sound-office}
use Rattle.pw_book.specs.inner.Added.{ChangesOneKey, IsJustChanged, TakesAtMost}
use Rattle.pw_book.specs.inner.Gathered.{due}
use Rattle.pw_book.proofs.Known.{none-known, still-known}
use Rattle.pw_book.proofs.Putting.{takes-then}
use Rattle.pw_book.proofs.Truthful.{paid-alone, paid-records, paid-true, true-but-nothing, withdrawal-true, written-true}
use Rattle.pw_book.proofs.Walking.{due-most, due-none}
use Rattle.pw_book.proofs.settling.settle.Goals as goal

-- ---- a reading
pub returns-in-Reading-clause-settled : goal.returns-in-Reading-clause-settled
returns-in-Reading-clause-settled g c = λ k s j v.
    let J : Key → Type 0 = λ l. IsJustChanged (office_of c.args.basis.now.office.now) s l c.args.before.now c.args.behind.now (g.S.Shelf.state c.args.shelf.now).content.records in
    c.reading_changed.ensures.settled k s (subst J c.in-Reading.is j) v

pub returns-in-Reading-clause-tally : goal.returns-in-Reading-clause-tally
returns-in-Reading-clause-tally g c = λ k.
    let office = office_of c.args.basis.now.office.now in
    let was = (g.S.Shelf.state c.args.shelf.now).tally + due office c.args.so_far.now.changes.rows.entries in
    let now = (g.S.Shelf.state c.reading_changed.new.shelf).tally + due office c.reading_changed.new.so_far.changes.rows.entries in
    let P : Key → Type 0 = λ l. TakesAtMost 0 office (g.S.Shelf.state c.args.shelf.now).content l was now in
    let most = due-most office c.reading_changed.new.so_far.changes.rows.entries in
    subst P (sym c.in-Reading.is) (λ starts s. let x = c.reading_changed.ensures.tally k starts s in omega (arith, x, most))

pub returns-in-Reading-clause-alone : goal.returns-in-Reading-clause-alone
returns-in-Reading-clause-alone g c = λ k.
    let P : Key → Type 0 = λ l. ChangesOneKey l (g.S.Shelf.state c.args.shelf.now).content (g.S.Shelf.state c.reading_changed.new.shelf).content in
    on_ok_weaker c.reading_changed.result (λ h. subst P (sym c.in-Reading.is) h) (c.reading_changed.ensures.alone k)

-- ---- an assignment: first all that is gathered is written
pub returns-in_ok-move_energies-in-Assignment-clause-settled : goal.returns-in_ok-move_energies-in-Assignment-clause-settled
returns-in_ok-move_energies-in-Assignment-clause-settled g c = λ k s j v.
    let office = office_of c.args.basis.now.office.now in
    let first = c.assignment_changed.ensures.kept.clean k in
    let moved = c.in_ok-move_energies-in-Assignment.ensures.moved first in
    let J : Key → Type 0 = λ l. IsJustChanged office s l c.args.before.now c.args.behind.now (g.S.Shelf.state c.args.shelf.now).content.records in
    let H : List Entry → Type 0 = λ held. IsJustChanged office s (key.Assignment c.in-Assignment.meter c.in-Assignment.start) c.args.before.now c.args.behind.now held in
    let all = written-true office c.args.so_far.now.changes.rows s (g.S.Shelf.state c.args.shelf.now).content (g.S.Shelf.state c.move_energies.new.shelf).content (sound-office c.args.basis.now.office.now c.requires.sound) j.small j.fewer v moved in
    on_ok_weaker c.assignment_changed.result (λ h. record { truth = true-but-nothing office _ _ c.nothing_gathered.ensures.changes h.truth; records = h.records ∙ moved.records })
    (c.assignment_changed.ensures.settled k s (subst H (sym moved.records) (subst J c.in-Assignment.is j)) all)

pub returns-in_ok-move_energies-in-Assignment-clause-tally : goal.returns-in_ok-move_energies-in-Assignment-clause-tally
returns-in_ok-move_energies-in-Assignment-clause-tally g c = λ k.
    let office = office_of c.args.basis.now.office.now in
    let moved = c.in_ok-move_energies-in-Assignment.ensures.moved (c.assignment_changed.ensures.kept.clean k) in
    let none = due-none office _ c.nothing_gathered.ensures.changes in
    let was = (g.S.Shelf.state c.args.shelf.now).tally + due office c.args.so_far.now.changes.rows.entries in
    let now = (g.S.Shelf.state c.assignment_changed.new.shelf).tally in
    let P : Key → Type 0 = λ l. TakesAtMost 0 office (g.S.Shelf.state c.args.shelf.now).content l was (now + due office c.nothing_gathered.result.changes.rows.entries) in
    subst P (sym c.in-Assignment.is) (takes-then office (key.Assignment c.in-Assignment.meter c.in-Assignment.start) (g.S.Shelf.state c.args.shelf.now).content (g.S.Shelf.state c.move_energies.new.shelf).content was _ now _ moved.start moved.point c.move_energies.ensures.tally (omega (arith, none)) (c.assignment_changed.ensures.tally k))

-- ---- a top-up
pub returns-in-TopUp-clause-settled : goal.returns-in-TopUp-clause-settled
returns-in-TopUp-clause-settled g c = λ k s j v.
    let office = office_of c.args.basis.now.office.now in
    let J : Key → Type 0 = λ l. IsJustChanged office s l c.args.before.now c.args.behind.now (g.S.Shelf.state c.args.shelf.now).content.records in
    on_ok_weaker c.top_up_changed.result
    (λ m. record { truth = paid-true office (sound-office c.args.basis.now.office.now c.requires.sound) s c.in-TopUp.reference c.args.before.now c.args.behind.now _ c.args.so_far.now.changes.rows (subst J c.in-TopUp.is j) v _ m; records = paid-records _ _ _ _ m })
    (c.top_up_changed.ensures.moved k)

pub returns-in-TopUp-clause-tally : goal.returns-in-TopUp-clause-tally
returns-in-TopUp-clause-tally g c = λ k.
    let office = office_of c.args.basis.now.office.now in
    let owed = due office c.args.so_far.now.changes.rows.entries in
    let P : Key → Type 0 = λ l. TakesAtMost 0 office (g.S.Shelf.state c.args.shelf.now).content l ((g.S.Shelf.state c.args.shelf.now).tally + owed) ((g.S.Shelf.state c.top_up_changed.new.shelf).tally + owed) in
    let more = c.top_up_changed.ensures.tally in
    subst P (sym c.in-TopUp.is) (omega (arith, more))

pub returns-in-TopUp-clause-alone : goal.returns-in-TopUp-clause-alone
returns-in-TopUp-clause-alone g c = λ k.
    let P : Key → Type 0 = λ l. ChangesOneKey l (g.S.Shelf.state c.args.shelf.now).content (g.S.Shelf.state c.top_up_changed.new.shelf).content in
    on_ok_weaker c.top_up_changed.result (λ m. subst P (sym c.in-TopUp.is) (paid-alone _ _ _ _ m)) (c.top_up_changed.ensures.moved k)

-- ---- a withdrawal
pub returns-in-Withdrawal-clause-settled : goal.returns-in-Withdrawal-clause-settled
returns-in-Withdrawal-clause-settled g c = λ k s j v.
    let office = office_of c.args.basis.now.office.now in
    let J : Key → Type 0 = λ l. IsJustChanged office s l c.args.before.now c.args.behind.now (g.S.Shelf.state c.args.shelf.now).content.records in
    record { truth = withdrawal-true office (sound-office c.args.basis.now.office.now c.requires.sound) s c.in-Withdrawal.named c.args.before.now c.args.behind.now _ c.args.so_far.now.changes.rows (subst J c.in-Withdrawal.is j) v; records = refl }

pub returns-in-Withdrawal-clause-alone : goal.returns-in-Withdrawal-clause-alone
returns-in-Withdrawal-clause-alone g c = λ k.
    let P : Key → Type 0 = λ l. ChangesOneKey l (g.S.Shelf.state c.args.shelf.now).content (g.S.Shelf.state c.args.shelf.now).content in
    subst P (sym c.in-Withdrawal.is) (refl, refl)

-- ---- the starts that are known: none behind an assignment
pub returns-in_ok-move_energies-in-Assignment-clause-known : goal.returns-in_ok-move_energies-in-Assignment-clause-known
returns-in_ok-move_energies-in-Assignment-clause-known g c = λ k.
    on_ok_weaker c.assignment_changed.result (λ h. none-known _ c.nothing_gathered.result.known c.nothing_gathered.ensures.known) (c.assignment_changed.ensures.alone k)

pub returns-in-TopUp-clause-known : goal.returns-in-TopUp-clause-known
returns-in-TopUp-clause-known g c = λ k.
    on_ok_weaker c.top_up_changed.result (λ m. still-known _ _ c.args.so_far.now.known (paid-alone _ _ _ _ m).1 (c.requires.known (c.top_up_changed.ensures.kept.clean k))) (c.top_up_changed.ensures.moved k)
