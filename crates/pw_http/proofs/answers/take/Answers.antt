use Rattle.std.proofs.Common.{refl}
use Rattle.pw_book.specs.After.{Refused, Posted}
use Rattle.pw_http.proofs.answers.take.Goals as goal

pub returns-in-Err : goal.returns-in-Err
returns-in-Err g c = (Refused c.in-Err.fault, c.refused.ensures, (rw c.office.ensures at c.in-Err.ensures.refused, refl))

pub returns-in-Ok : goal.returns-in-Ok
returns-in-Ok g c = (
  Posted c.post_distinct.result,
  c.posted.ensures,
  (
    c.in-Ok.entries,
    rw c.office.ensures at c.in-Ok.ensures.entries,
    record {
      posted = c.post_distinct.ensures.posted;
      left = c.post_distinct.ensures.left;
      failures = c.post_distinct.ensures.failures;
      reopen = c.post_distinct.ensures.reopen;
      abandons = c.post_distinct.ensures.abandons;
      shut = c.post_distinct.ensures.shut;
      untouched = c.post_distinct.ensures.untouched;
      clean = c.post_distinct.ensures.cleanness;
      store = c.post_distinct.ensures.store;
      office = c.post_distinct.ensures.book.0;
      zone = c.post_distinct.ensures.book.1;
      limit = c.post_distinct.ensures.book.2;
    },
  ),
)
