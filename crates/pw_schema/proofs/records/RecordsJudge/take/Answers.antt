use Rattle.std.proofs.Common.{◌≡◌, [], ◌∷◌, ◌++◌, IfNone, IfSome, Equal, sym, subst, rules}
use Rattle.std.specs.declared.cmp.Ordering.TheVariants.{Less}
use Rattle.sqlite.specs.Order.{Row}
use Rattle.pw_tariff.specs.Office.{office_of}
use Rattle.pw_model.specs.Same.{entry_order}
use Rattle.pw_schema.specs.Judging.{IsRecord}
use Rattle.pw_schema.specs.Rows.{ReadsRows}
use Rattle.pw_schema.proofs.InTurn.{read_push}
use Rattle.pw_schema.proofs.Pushed.{all_push}
use Rattle.pw_schema.proofs.Foreign.{no_record, same_record}
use Rattle.pw_schema.proofs.records.RecordsJudge.take.Goals as goal

pub returns-in_default-clause-foreign : goal.returns-in_default-clause-foreign
returns-in_default-clause-foreign c first rows tail held e records = no_record first c.args.self.now rows tail c.args.row.now held records c.in_default.ensures.none

pub returns-in_err-see_behind-clause-foreign : goal.returns-in_err-see_behind-clause-foreign
returns-in_err-see_behind-clause-foreign c first rows tail held e records =
    let tie : c.place_of.result ≡ Equal = c.see_behind.ensures.twice (let gives = c.from_residual.ensures.1 in let was = c.in_err-see_behind.was in search rules) in
    same_record first c.args.self.now rows tail c.args.row.now held records c.in-Some.entry c.in-Some.ensures.some.0 (subst (λ o. IfSome c.args.self.now.last (λ l. entry_order l c.in-Some.entry ≡ o)) tie c.place_of.ensures.some) (subst (λ o. IfNone c.args.self.now.last (o ≡ Less)) tie c.place_of.ensures.none)

pub returns-clause-took : goal.returns-clause-took
returns-clause-took c first rows held =
    let row : Row = c.args.row.now in
    let next = read_push c.args.self.now.kind rows c.args.self.now.found.items c.args.self.now.last row c.in-Some.entry held.read held.behind c.in-Some.ensures.some.1.0 c.in-Some.ensures.some.0 (subst (λ o. IfSome c.args.self.now.last (λ l. entry_order l c.in-Some.entry ≡ o)) c.in_ok-see_behind.ensures.behind c.place_of.ensures.some) in
    record {
      same_office = held.same_office;
      same_kind = held.same_kind;
      read = subst (ReadsRows c.args.self.now.kind (rows ++ row ∷ [])) (sym c.in-Ok.ensures.items) next;
      behind = (c.args.self.now.found.items, c.in-Ok.ensures.items);
      each = all_push (IsRecord (office_of c.args.self.now.office.now) c.args.self.now.kind) row rows held.each c.in-Some.ensures.some.1;
    }
