use Rattle.std.proofs.Common.{ℕ, sym, subst, arith, rules}
use Rattle.pw_bills.specs.Stretches.{AreStretches}
use Rattle.pw_bills.specs.inner.Gathering.{AreEnoughToGather, IsGathered, pass_of}
use Rattle.pw_bills.proofs.Reading.{first-read, stretches-within}
use Rattle.pw_bills.proofs.gathering.gather.Goals as goal

pub last_before-last-requires-clause-later : goal.last_before-last-requires-clause-later
last_before-last-requires-clause-later g c =
    let from = first-read c.args.begins.now c.args.end c.index-begins-0.result c.requires.stretches in
    let within = stretches-within c.args.begins.now c.args.end c.requires.stretches in
    omega (arith, from, within)

pub gather_held-requires-clause-stretches : goal.gather_held-requires-clause-stretches
gather_held-requires-clause-stretches g c =
    let P : ℕ → Type 0 = λ e. AreStretches c.args.begins.now e in
    subst P (sym c.last_before-last.ensures) c.requires.stretches

pub gather_held-requires-clause-sound : goal.gather_held-requires-clause-sound
gather_held-requires-clause-sound g c = λ k.
    let book = c.args.book.now in
    let opened = c.in_ok-still_open.ensures in
    record { truth = book.truth opened k; of_office = book.of_office opened k; few = book.few opened k }

pub returns-in_err-gather_held-clause-cost : goal.returns-in_err-gather_held-clause-cost
returns-in_err-gather_held-clause-cost g c = λ k most h.
    let P : ℕ → Type 0 = λ e. AreEnoughToGather g.G.Gathers.reads (pass_of c.args.book.now.office (g.S.Shelf.state c.args.book.now.shelf).content c.args.account c.args.begins.now e) most in
    c.gather_held.ensures.tally k most (subst P (sym c.last_before-last.ensures) h)

pub returns-clause-gathered : goal.returns-clause-gathered
returns-clause-gathered g c = λ k.
    let P : ℕ → Type 0 = λ e. IsGathered g.G.Gathers.adds (pass_of c.args.book.now.office (g.S.Shelf.state c.args.book.now.shelf).content c.args.account c.args.begins.now e) c.args.gathered.now c.gather_held.new.gathered in
    subst P c.last_before-last.ensures (c.in_ok-gather_held.ensures.gathered k)

pub returns-clause-cost : goal.returns-clause-cost
returns-clause-cost g c = λ k most h.
    let P : ℕ → Type 0 = λ e. AreEnoughToGather g.G.Gathers.reads (pass_of c.args.book.now.office (g.S.Shelf.state c.args.book.now.shelf).content c.args.account c.args.begins.now e) most in
    c.gather_held.ensures.tally k most (subst P (sym c.last_before-last.ensures) h)

pub gather_held-requires-clause-idle : goal.gather_held-requires-clause-idle
gather_held-requires-clause-idle g c = search rules depth 0 fits 100
