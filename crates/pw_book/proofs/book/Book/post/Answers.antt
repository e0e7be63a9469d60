use Rattle.pw_tariff.specs.Office.{office_of}
use Rattle.pw_book.proofs.SameEntries.{cheap-same, leaves-posted-same, posted-same}
use Rattle.pw_book.proofs.book.Book.post.Goals as goal

pub post_distinct-requires : goal.post_distinct-requires
post_distinct-requires g c = λ e m. c.requires e ((c.in_ok-distinct.ensures.sorted.members e).0 m)

pub returns-clause-posted : goal.returns-clause-posted
returns-clause-posted g c = λ k.
    posted-same c.in_ok-distinct.distinct c.args.entries.now c.in_ok-distinct.ensures.sorted.members (office_of c.args.self.now.office) c.args.self.now.limit _ _ c.post_distinct.result (c.post_distinct.ensures.posted k)

pub returns-clause-left : goal.returns-clause-left
returns-clause-left g c = λ k.
    leaves-posted-same c.in_ok-distinct.distinct c.args.entries.now c.in_ok-distinct.ensures.sorted.members (office_of c.args.self.now.office) c.args.self.now.limit _ _ _ _ c.post_distinct.result (c.post_distinct.ensures.left k)

pub returns-clause-cost : goal.returns-clause-cost
returns-clause-cost g c = λ k.
    cheap-same c.in_ok-distinct.distinct c.args.entries.now c.in_ok-distinct.ensures.sorted.members (office_of c.args.self.now.office) _ _ _ (c.post_distinct.ensures.cost k)
