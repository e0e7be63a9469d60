use Rattle.std.proofs.Common.{arith, rules}
use Rattle.pw_tariff.specs.Office.{office_of}
use Rattle.pw_book.proofs.Spending.{costs-more}
use Rattle.pw_book.proofs.upload.upload.Goals as goal

pub returns-in-Ok-clause-tally : goal.returns-in-Ok-clause-tally
returns-in-Ok-clause-tally g c = λ k.
    costs-more (office_of c.args.basis.now.office.now) c.args.entries.now _ _ _ _ _ _ (c.begin.ensures.same (c.write.ensures.cleanness k)) c.begin.ensures.tally (c.write.ensures.tally k) (omega arith)

pub returns-in-Ok-abandon-clause-tally : goal.returns-in-Ok-abandon-clause-tally
returns-in-Ok-abandon-clause-tally g c = λ k.
    let before = c.abandon.ensures.cleanness k in
    let t = c.abandon.ensures.tally in
    costs-more (office_of c.args.basis.now.office.now) c.args.entries.now _ _ _ _ _ _ (c.begin.ensures.same (c.write.ensures.cleanness before)) c.begin.ensures.tally (c.write.ensures.tally before) (omega (arith, t))

pub returns-in-Err-abandon-clause-tally : goal.returns-in-Err-abandon-clause-tally
returns-in-Err-abandon-clause-tally g c = λ k.
    let before = c.abandon.ensures.cleanness k in
    let t = c.abandon.ensures.tally in
    costs-more (office_of c.args.basis.now.office.now) c.args.entries.now _ _ _ _ _ _ (c.begin.ensures.same (c.write.ensures.cleanness before)) c.begin.ensures.tally (c.write.ensures.tally before) (omega (arith, t))

pub returns-in-Err-clause-failures : goal.returns-in-Err-clause-failures
returns-in-Err-clause-failures g c = search rules depth 0 fits 100

pub returns-in-Ok-abandon-clause-failures : goal.returns-in-Ok-abandon-clause-failures
returns-in-Ok-abandon-clause-failures g c = search rules depth 0 fits 100

pub returns-in-Ok-clause-back : goal.returns-in-Ok-clause-back
returns-in-Ok-clause-back g c = assumption

pub returns-in-Ok-abandon-clause-reopen : goal.returns-in-Ok-abandon-clause-reopen
returns-in-Ok-abandon-clause-reopen g c = search rules depth 0 fits 100

pub returns-in-Err-abandon-clause-back : goal.returns-in-Err-abandon-clause-back
returns-in-Err-abandon-clause-back g c = search rules depth 0 fits 100
