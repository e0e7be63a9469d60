use Rattle.std.proofs.Common.{sym, ◌∙◌}
use Rattle.std.proofs.lemmas.Bool.{true≢false}
use Rattle.pw_tariff.specs.Office.{office_of}
use Rattle.pw_model.specs.Office.{IsOfOffice}
use Rattle.pw_model.proofs.Places.{at-told, at-member, taken-each}
use Rattle.pw_model.proofs.plain.of_office.are_of_office.Goals as goal

pub returns-then-not-is_entry_of_office : goal.returns-then-not-is_entry_of_office
returns-then-not-is_entry_of_office c =
    let at = at-told c.args.entries.now c.loop-entry.entry-index c.entry-item.result c.loop-entry-test.true c.entry-item.is in
    (λ t. absurd (true≢false (sym t)), λ all. absurd (true≢false (sym (c.is_entry_of_office.ensures.1 (all c.entry-item.result (at-member c.args.entries.now c.loop-entry.entry-index c.entry-item.result at))) ∙ c.if-not-is_entry_of_office.true)))

pub loop-entry-preserved : goal.loop-entry-preserved
loop-entry-preserved c =
    let at = at-told c.args.entries.now c.loop-entry.entry-index c.entry-item.result c.loop-entry-test.true c.entry-item.is in
    taken-each (IsOfOffice (office_of c.args.terms.now)) c.args.entries.now c.loop-entry.entry-index c.entry-item.result at c.loop-entry.invariant
    (c.is_entry_of_office.ensures.0 c.if-not-is_entry_of_office.false)
