use Rattle.std.proofs.Common.{◌≡◌, ◌++◌, List, Vec, Global, ap, ◌∙◌}
use Rattle.std.specs.List.{filter}
use Rattle.pw_book.proofs.NewStarts.{Start, early, started-some, started-none}
use Rattle.pw_book.proofs.starts.with_start.Goals as goal
use Rattle.pw_book.proofs.starts.with_start.Goals.{in-Some+in_ok-push, in_default}

pub returns : goal.returns
returns c = λ told l.
    let z = c.args.start in
    let first : c.add_before.new.with.items ≡ filter (early z) c.args.starts.now = c.in_ok-add_before.ensures ∙ ap (λ (xs : List Start). xs ++ filter (early z) c.args.starts.now) c.new-with.ensures.items in
    elim c.match-owner.branch [
      | in-Some+in_ok-push w ↦ started-some told z c.args.owner w.in-Some.owner c.args.starts.now _ c.match-owner.with.items _ l first w.in-Some.is
          (ap (λ (v : Vec Start Global). v.items) w.with-is ∙ w.in_ok-push.ensures.items) c.in_ok-add_behind.ensures
      | in_default w ↦ started-none told z c.args.owner c.args.starts.now _ c.match-owner.with.items _ l first w.in_default.is
          (ap (λ (v : Vec Start Global). v.items) w.with-is) c.in_ok-add_behind.ensures
    ]
