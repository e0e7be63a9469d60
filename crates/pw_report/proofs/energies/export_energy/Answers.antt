use Rattle.std.proofs.Common.{◌++◌, ◌≡◌, ◌∙◌, ℕ, [], Some, None, ap, length, arith}
use Rattle.std.specs.List.{flat_map}
use Rattle.pw_tariff.specs.Office.{OfficeFile}
use Rattle.pw_model.specs.Energy.{account}
use Rattle.pw_model.specs.Shelf.{ShelfContent}
use Rattle.pw_report.specs.Exports.{csv_line, energies_header, energies_text, energy_row_line, energy_rows, owner_rows}
use Rattle.pw_report.specs.Layout.{listed_below}
use Rattle.pw_report.proofs.Asking.{asked-then}
use Rattle.pw_report.proofs.Fields.{all-next, ended-is, text-is}
use Rattle.pw_report.proofs.Listed.{listed-none}
use Rattle.pw_report.proofs.energies.export_energy.Goals as goal

pub loop-account-init : goal.loop-account-init
loop-account-init g c =
    let none = c.in_ok-still_open.ensures.report.asked in
    let one = c.in_ok-put_owner.ensures.report.asked in
    let header = csv_line energies_header in
    let file = c.args.book.now.office in
    let records = (g.S.Shelf.state c.args.book.now.shelf).content.records in
    record {
      text = λ k.
          let prior = one.kept.clean k in
          let same = ap (λ (d : ShelfContent). d.records) (none.content prior) in
          text-is _ _ _ ((λ i. header ++ flat_map (energy_row_line (none.office i)) (owner_rows (none.office i) (same i) None)) ∙ ap (λ xs. header ++ flat_map (energy_row_line file) xs) (listed-none (owner_rows file records None) (λ a. owner_rows file records (Some (account a)))))
          (c.in_ok-put_owner.ensures.text k _ (c.in_ok-put_header.ensures.text [] c.new-rows.ensures));
      asked = asked-then _ g.met.S.Shelf.same_then _ _ _ _ none one;
      open_yet = c.in_ok-still_open.ensures.open_yet;
    }

pub loop-account-preserved : goal.loop-account-preserved
loop-account-preserved g c =
    let was = c.loop-account.invariant in
    let one = c.in_ok-put_owner-2.ensures.report.asked in
    let header = csv_line energies_header in
    let file = c.args.book.now.office in
    let records = (g.S.Shelf.state c.args.book.now.shelf).content.records in
    let rows = λ (a : ℕ). owner_rows file records (Some (account a)) in
    let first = owner_rows file records None in
    let line = energy_row_line file in
    let a = c.loop-account.account in
    record {
      text = λ k.
          let prior = one.kept.clean k in
          let same = ap (λ (d : ShelfContent). d.records) (was.asked.content prior) in
          text-is _ _ _ ((λ i. (header ++ flat_map line (first ++ listed_below a rows)) ++ flat_map (energy_row_line (was.asked.office i)) (owner_rows (was.asked.office i) (same i) (Some (account a)))) ∙ all-next line header first rows a)
          (c.in_ok-put_owner-2.ensures.text k _ (was.text prior));
      asked = asked-then _ g.met.S.Shelf.same_then _ _ _ _ was.asked one;
      open_yet = was.open_yet;
    }

pub returns-clause-text : goal.returns-clause-text
unfolding energies_text energy_rows
returns-clause-text g c = λ k.
    let was = c.loop-account.invariant in
    let file = c.args.book.now.office in
    let records = (g.S.Shelf.state c.args.book.now.shelf).content.records in
    let same = ap (λ (o : OfficeFile). length o.accounts) (c.office.ensures ∙ c.in_ok-put_owner.ensures.report.asked.office ∙ c.in_ok-still_open.ensures.report.asked.office) in
    let all : c.loop-account.account ≡ length file.accounts = omega (arith, same, c.accounts-account-end.ensures.count) in
    ended-is _ _ _ (ap (λ n. csv_line energies_header ++ flat_map (energy_row_line file) (owner_rows file records None ++ listed_below n (λ a. owner_rows file records (Some (account a))))) all)
    (c.finish.ensures.text _ [] (was.text k))
