use Rattle.std.proofs.Common.{List, subst}
use Rattle.pw_moving.specs.declared.change.Change.{Change}
use Rattle.pw_moving.specs.Renaming.{Offices}
use Rattle.pw_moving.specs.inner.Comparing.{Puts}
use Rattle.pw_moving.proofs.Rising.{AreBefore, before-none, list-next, lists-all}
use Rattle.pw_moving.proofs.comparing.changes_between.Goals as goal

pub returns : goal.returns
returns c =
    let o : Offices = record { old = c.args.old.now; new = c.args.new.now } in
    let start : List Change = c.new-changes.result.items in
    let accounts = list-next o 0 start start c.put_list.new.changes.items (before-none o start) c.in_ok-put_list.ensures in
    let meters = list-next o 1 start c.put_list.new.changes.items c.put_list-2.new.changes.items accounts c.in_ok-put_list-2.ensures in
    let bands = list-next o 2 start c.put_list-2.new.changes.items c.put_list-3.new.changes.items meters c.in_ok-put_list-3.ensures in
    let periods = list-next o 3 start c.put_list-3.new.changes.items c.put_periods.new.changes.items bands c.in_ok-put_periods.ensures in
    let P : List Change → Type 0 = λ l. Puts (AreBefore o 4) l c.put_periods.new.changes.items in
    lists-all o c.put_periods.new.changes.items (subst P c.new-changes.ensures.items periods)
