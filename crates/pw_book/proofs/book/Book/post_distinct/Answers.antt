use Rattle.std.proofs.Common.{sym, ◌∙◌}
use Rattle.std.proofs.lemmas.Bool.{true≢false}
use Rattle.pw_tariff.specs.Office.{office_of}
use Rattle.pw_book.proofs.Keeping.{posted-few, posted-of_office, posted-sound, posted-true}
use Rattle.pw_book.proofs.book.Book.post_distinct.Goals as goal

pub invariant_of-self : goal.invariant_of-self
invariant_of-self g c =
    record {
      limited = c.args.self.now.limited;
      few = λ f k. posted-few (office_of c.args.self.now.office) c.args.self.now.limit c.args.entries.now _ _ c.post_to-answer.result c.args.self.now.limited.1 (c.args.self.now.few c.if-self.false (c.post_to-answer.ensures.cleanness k)) (c.post_to-answer.ensures.posted k)
          (λ e. true≢false (sym (c.is_reopen-self.ensures.1 e) ∙ f));
      of_office = λ f k. posted-of_office (office_of c.args.self.now.office) c.args.self.now.limit c.args.entries.now _ _ c.post_to-answer.result c.requires (c.args.self.now.of_office c.if-self.false (c.post_to-answer.ensures.cleanness k)) (c.post_to-answer.ensures.posted k)
          (λ e. true≢false (sym (c.is_reopen-self.ensures.1 e) ∙ f));
      truth = λ f k. posted-true (office_of c.args.self.now.office) c.args.self.now.limit c.args.entries.now _ _ c.post_to-answer.result (c.args.self.now.truth c.if-self.false (c.post_to-answer.ensures.cleanness k)) (c.post_to-answer.ensures.posted k)
          (λ e. true≢false (sym (c.is_reopen-self.ensures.1 e) ∙ f));
      sound = c.args.self.now.sound;
      idle = λ f. c.post_to-answer.ensures.idle (λ e. true≢false (sym (c.is_reopen-self.ensures.1 e) ∙ f));
    }

pub returns-clause-sound : goal.returns-clause-sound
returns-clause-sound g c = λ k.
    let before = c.post_to-answer.ensures.cleanness k in
    posted-sound (office_of c.args.self.now.office) c.args.self.now.limit c.args.entries.now _ _ _ _ c.post_to-answer.result c.args.self.now.limited.1 c.requires (c.args.self.now.of_office c.if-self.false before)
    (c.post_to-answer.ensures.posted k) (c.post_to-answer.ensures.left k)

pub returns-then-self-clause-untouched : goal.returns-then-self-clause-untouched
returns-then-self-clause-untouched g c = assumption

pub returns-clause-shut : goal.returns-clause-shut
returns-clause-shut g c = assumption
