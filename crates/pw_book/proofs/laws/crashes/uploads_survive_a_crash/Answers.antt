use Rattle.std.proofs.Common.{◌<◌, List, Some, refl, sym, subst, ◌∙◌, inl, length, slice_index_or, take, arith}
use Rattle.std.proofs.Math.Seq.{map-set_same}
use Rattle.std.proofs.lemmas.Bool.{true≢false}
use Rattle.std.proofs.lemmas.List.{take_more_set}
use Rattle.std.proofs.lemmas.List.Elements.{All-get_or, All-set}
use Rattle.pw_tariff.specs.Office.{OfficeFile, office_of}
use Rattle.pw_model.specs.declared.records.Entry.{Entry}
use Rattle.pw_model.specs.Counting.{SameMembers}
use Rattle.pw_model.specs.Office.{AllOfOffice}
use Rattle.pw_book.specs.declared.laws.crashes.Sent.{Sent}
use Rattle.pw_book.specs.Posting.{IsPosted, LeavesPosted, LeavesSound}
use Rattle.pw_book.specs.Crashes.{AreWhole, acknowledged}
use Rattle.pw_book.proofs.Crashing.{held-all, held-next, left-next, open-before, sound-first, whole-all}
use Rattle.pw_book.proofs.laws.crashes.uploads_survive_a_crash.Goals as goal

pub loop-sent-preserved : goal.loop-sent-preserved
loop-sent-preserved g c =
    let xs = c.loop-sent.uploads in
    let i = c.loop-sent.sent-index in
    let was = c.loop-sent.invariant in
    let s : Sent = record { entries = (slice_index_or xs i c.sent-item.result).entries; answer = Some c.post-answer.result } in
    let same = c.loop-sent.auto.uploads in
    let low = c.loop-sent-test.true in
    let here : i < length xs = omega (arith, same, low) in
    let more = take_more_set xs i s here in
    let before = (g.S.Shelf.state c.args.book.now.shelf).content.records in
    let old = c.loop-sent.book in
    let new = c.post-answer.new.self in
    let office = office_of old.office in
    let was_held = (g.S.Shelf.state old.shelf).content in
    let is_held = (g.S.Shelf.state new.shelf).content in
    let answer = c.post-answer.result in
    let post = c.post-answer.ensures in
    let posted : g.S.Shelf.clean new.shelf → IsPosted office old.limit s.entries.items was_held is_held answer =
    λ k. subst (λ (e : List Entry). IsPosted office old.limit e was_held is_held answer) c.deref.ensures.value (post.posted k) in
    let left : g.S.Shelf.clean new.shelf → LeavesPosted office old.limit s.entries.items was_held is_held (g.S.Shelf.left old.shelf) (g.S.Shelf.left new.shelf) answer =
    λ k. subst (λ (e : List Entry). LeavesPosted office old.limit e was_held is_held (g.S.Shelf.left old.shelf) (g.S.Shelf.left new.shelf) answer) c.deref.ensures.value (post.left k) in
    record {
      entries = map-set_same (λ (sent : Sent). sent.entries) xs i s c.sent-item.result refl ∙ was.entries;
      of_office = All-set (λ (sent : Sent). AllOfOffice (office_of c.args.book.now.office) sent.entries.items) xs i s
          (All-get_or (λ (sent : Sent). AllOfOffice (office_of c.args.book.now.office) sent.entries.items) xs i c.sent-item.result here was.of_office) was.of_office;
      office = post.book.0 ∙ was.office;
      held = λ k yet.
          subst (λ (l : List Sent). SameMembers is_held.records (acknowledged before l)) (sym more)
          (held-next before (take i xs) s office old.limit was_held is_held answer refl (posted k) (λ e. true≢false (sym (post.shut.1 e) ∙ yet))
          (was.held (post.cleanness k) (open-before old.shut (λ t. true≢false (sym (post.shut.1 (post.reopen.1 (inl t))) ∙ yet)))));
      whole = λ k d l.
          subst (λ (done : List Sent). AreWhole before done d.records) (sym more)
          (left-next before (take i xs) s office old.limit was_held is_held (g.S.Shelf.left old.shelf) (g.S.Shelf.left new.shelf) (was.whole (post.cleanness k)) old.shut answer refl (posted k) (left k)
          (was.held (post.cleanness k)) (λ t. post.reopen.1 (inl t)) (λ t e m. subst (λ shelf. g.S.Shelf.left shelf e) (post.untouched t) m) d l);
      sound = λ k all.
          subst (λ (file : OfficeFile). LeavesSound (office_of file) (g.S.Shelf.left old.shelf) (g.S.Shelf.left new.shelf)) was.office (post.sound k) (was.sound (post.cleanness k) all);
      clean = λ k. was.clean (post.cleanness k);
      store = g.met.S.Shelf.same_then _ _ _ was.store post.store;
    }

pub returns-clause-held : goal.returns-clause-held
returns-clause-held g c = λ k yet.
    let same = c.loop-sent.auto.uploads in
    let low = c.loop-sent-test.false in
    held-all _ c.loop-sent.uploads c.loop-sent.sent-index _ (omega (arith, same, low)) (c.loop-sent.invariant.held k yet)

pub returns-clause-left : goal.returns-clause-left
returns-clause-left g c = λ k d l.
    let was = c.loop-sent.invariant in
    let book = c.args.book.now in
    let start = was.clean k in
    let same = c.loop-sent.auto.uploads in
    let low = c.loop-sent-test.false in
    record {
      sound = was.sound k (sound-first (office_of book.office) (g.S.Shelf.state book.shelf).content (g.S.Shelf.left book.shelf) (c.requires.settled start) (book.truth c.requires.open_yet start) (book.of_office c.requires.open_yet start) (book.few c.requires.open_yet start)) d l;
      whole = whole-all _ c.loop-sent.uploads c.loop-sent.sent-index d.records (omega (arith, same, low)) (was.whole k d l);
    }
