use Rattle.std.proofs.Common.{sym, subst}
use Rattle.sqlite.specs.Held.{state}
use Rattle.pw_model.specs.Counting.{Member}
use Rattle.pw_shelf.specs.State.{IsWithRecord}
use Rattle.pw_store.specs.Content.{content_of, records_of}
use Rattle.pw_store.proofs.entries.add_entry.Goals as goal

pub add_named-requires-clause-fresh : goal.add_named-requires-clause-fresh
add_named-requires-clause-fresh g c clean m = c.requires.fresh clean (subst (λ e. Member e (records_of (state g.S.Store c.args.conn.now).now.trees)) (sym c.in-Some.ensures.some) m)

pub returns-clause-added : goal.returns-clause-added
returns-clause-added g c clean =
    λ is. subst (λ e. IsWithRecord (content_of (state g.S.Store c.args.conn.now).now.trees) e (content_of (state g.S.Store c.add_named.new.conn).now.trees)) (sym c.in-Some.ensures.some) (c.in_ok-add_named.ensures.done clean).content

pub returns-clause-keeps : goal.returns-clause-keeps
returns-clause-keeps g c clean = (c.in_ok-add_named.ensures.done clean).keeps
