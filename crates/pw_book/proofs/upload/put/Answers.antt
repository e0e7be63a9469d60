use Rattle.std.proofs.Common.{◌+◌, refl, subst, sym, ◌∙◌, arith}
use Rattle.std.proofs.lemmas.Result.{on_ok_weaker}
use Rattle.pw_tariff.specs.Office.{office_of}
use Rattle.pw_model.specs.declared.records.Key.{Key}
use Rattle.pw_model.specs.Bearing.{bears_on}
use Rattle.pw_model.specs.Kinds.{IsReading}
use Rattle.pw_book.specs.inner.Added.{ChangesOneKey, IsJustChanged, IsKeyOf, TakesAtMost}
use Rattle.pw_book.specs.inner.Gathered.{due}
use Rattle.pw_book.proofs.Known.{still-known}
use Rattle.pw_book.proofs.Putting.{added-then, just-changed, key-of, put-added, still-true, takes-on}
use Rattle.pw_book.proofs.upload.put.Goals as goal

pub settle-requires-clause-of_office : goal.settle-requires-clause-of_office
settle-requires-clause-of_office g c =
    let office = office_of c.args.basis.now.office.now in
    let P : Key → Type 0 = λ l. IsKeyOf office l in
    subst P (sym c.bears_on-key.ensures) (key-of office c.args.entry.now.key c.args.entry.now.content c.requires.of_office)

pub returns-clause-put : goal.returns-clause-put
returns-clause-put g c = λ k t h.
    let second = c.settle.ensures.kept.clean k in
    let start = c.add_told.ensures.kept.clean second in
    let office = office_of c.args.basis.now.office.now in
    let e = c.args.entry.now in
    let told = c.in_ok-told.told in
    let old = (g.S.Shelf.state c.args.shelf.now).content in
    let mid = (g.S.Shelf.state c.add_told.new.shelf).content in
    let added = c.in_ok-told.ensures.added second in
    let J : Key → Type 0 = λ l. IsJustChanged office old.records l told.before told.behind mid.records in
    let j = just-changed office e told.before told.behind old old mid mid refl added refl (c.in_ok-told.ensures.before second office h t.points) (c.in_ok-told.ensures.behind second) c.requires.of_office h (c.requires.room start) in
    let still = still-true office c.args.so_far.now.changes.rows e old old mid mid refl added refl t in
    on_ok_weaker c.settle.result (λ q. put-added office _ e old old mid mid _ refl added refl q.records q.truth) (c.settle.ensures.settled k old.records (subst J (sym c.bears_on-key.ensures) j) still)

pub returns-clause-start : goal.returns-clause-start
returns-clause-start g c = λ k r.
    let added = c.in_ok-told.ensures.added (c.settle.ensures.kept.clean k) in
    let P : Key → Type 0 = λ l. IsReading l in
    on_ok_weaker c.settle.result (λ h. h ∙ added.start) (c.settle.ensures.start k (subst P (sym c.bears_on-key.ensures) r))

pub returns-clause-alone : goal.returns-clause-alone
returns-clause-alone g c = λ k.
    let old = (g.S.Shelf.state c.args.shelf.now).content in
    let mid = (g.S.Shelf.state c.add_told.new.shelf).content in
    let added = c.in_ok-told.ensures.added (c.settle.ensures.kept.clean k) in
    let P : Key → Type 0 = λ l. ChangesOneKey l mid (g.S.Shelf.state c.settle.new.shelf).content in
    on_ok_weaker c.settle.result (λ h. added-then (bears_on c.args.entry.now) c.args.entry.now old old mid mid _ refl added refl (subst P c.bears_on-key.ensures h)) (c.settle.ensures.alone k)

pub returns-clause-tally : goal.returns-clause-tally
returns-clause-tally g c = λ k.
    let second = c.settle.ensures.kept.clean k in
    let office = office_of c.args.basis.now.office.now in
    let old = (g.S.Shelf.state c.args.shelf.now).content in
    let mid = (g.S.Shelf.state c.add_told.new.shelf).content in
    let added = c.in_ok-told.ensures.added second in
    let owed = due office c.args.so_far.now.changes.rows.entries in
    let was = (g.S.Shelf.state c.args.shelf.now).tally + owed in
    let then = (g.S.Shelf.state c.add_told.new.shelf).tally + owed in
    let now = (g.S.Shelf.state c.settle.new.shelf).tally + due office c.settle.new.so_far.changes.rows.entries in
    let P : Key → Type 0 = λ l. TakesAtMost 0 office mid l then now in
    let t = c.add_told.ensures.tally second in
    takes-on office (bears_on c.args.entry.now) old mid was then now added.start added.point (omega (arith, t)) (subst P c.bears_on-key.ensures (c.settle.ensures.tally k))

pub settle-requires-clause-known : goal.settle-requires-clause-known
settle-requires-clause-known g c = λ k.
    still-known _ _ c.args.so_far.now.known (c.in_ok-told.ensures.added k).start (c.requires.known (c.add_told.ensures.kept.clean k))
