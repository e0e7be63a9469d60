use Rattle.pw_book.proofs.Order.{order-of_uploads}
use Rattle.pw_book.proofs.laws.order_of_uploads_counts_nothing.Goals as goal

pub returns : goal.returns
returns c = order-of_uploads c.args.office.now
