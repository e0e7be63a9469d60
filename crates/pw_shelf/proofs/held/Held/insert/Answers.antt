use Rattle.std.proofs.Common.{◌≡◌, ◌≤◌, ◌<◌, ◌+◌, List, length, arith}
use Rattle.std.specs.BTreeSet.{insert_key}
use Rattle.pw_model.specs.declared.records.Entry.{Entry}
use Rattle.pw_model.specs.Counting.{IsInserted, EachOnce}
use Rattle.pw_model.specs.Office.{most_records}
use Rattle.pw_shelf.specs.inner.Held.{AreNamed, IsNamed}
use Rattle.pw_shelf.proofs.InOrder.{order, insert-inserts, inserted-once, inserted-all, inserted-length, either}
use Rattle.pw_shelf.proofs.Removed.{without-inserted, without-refused}
use Rattle.pw_shelf.proofs.held.Held.insert.Goals as goal

pub returns-clause-added : goal.returns-clause-added
returns-clause-added c =
    rw c.in_ok-insert.ensures.keys (insert-inserts c.args.self.now.records.keys c.args.entry c.requires.fresh)

pub returns-clause-begin : goal.returns-clause-begin
returns-clause-begin c = without-inserted c.args.self.now.added.items c.extend_from_slice.new.self.items c.args.entry
    c.args.self.now.records.keys c.insert.new.self.keys c.in_ok-extend_from_slice.ensures.items c.requires.fresh
    (rw c.in_ok-insert.ensures.keys (insert-inserts c.args.self.now.records.keys c.args.entry c.requires.fresh))

pub returns-in_err-insert-clause-begin : goal.returns-in_err-insert-clause-begin
returns-in_err-insert-clause-begin c = without-refused c.args.self.now.added.items c.extend_from_slice.new.self.items c.args.entry
    c.args.self.now.records.keys c.insert.new.self.keys c.in_ok-extend_from_slice.ensures.items c.requires.fresh
    c.in_err-insert.ensures.err

pub invariant_of-self-2 : goal.invariant_of-self-2
invariant_of-self-2 c =
    let old : List Entry = c.args.self.now.records.keys in
    let more : List Entry = insert_key order old c.args.entry in
    let i : IsInserted c.args.entry old more = insert-inserts old c.args.entry c.requires.fresh in
    let few : List Entry → Type 0 = λ s. length s ≤ most_records in
    let n : length more ≡ length old + 1 = inserted-length c.args.entry old more i in
    let room : length old < most_records = c.requires.room in
    record {
      once = either EachOnce c.insert.result old c.insert.new.self.keys more c.insert.ensures.keys c.insert.ensures.err
          (inserted-once c.args.entry old more i c.requires.fresh c.args.self.now.once) c.args.self.now.once;
      few = either few c.insert.result old c.insert.new.self.keys more c.insert.ensures.keys c.insert.ensures.err
          (omega arith) c.args.self.now.few;
      named = either AreNamed c.insert.result old c.insert.new.self.keys more c.insert.ensures.keys
          c.insert.ensures.err (inserted-all (λ (e : Entry). IsNamed e.key) c.args.entry old more i
          c.name_of.ensures c.args.self.now.named) c.args.self.now.named;
    }
