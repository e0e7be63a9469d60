use Rattle.std.proofs.Common.{ℕ, Option, length, subst, sym, ap, ◌∙◌, arith}
use Rattle.std.specs.Option.{unwrap_or}
use Rattle.pw_obis.specs.Block.{StopsAt}
use Rattle.pw_obis.specs.Coming.{from_place}
use Rattle.pw_obis.proofs.Taken.{lines_of_block, place_has}
use Rattle.pw_obis.proofs.reader.Sets.new.Goals as goal

pub up_to-requires : goal.up_to-requires
up_to-requires c =
    let b = c.args.block.now in
    let a = lines_of_block b in
    let told = c.unwrap_or-stop.ensures ∙ ap (λ (r : Option ℕ). unwrap_or r (length b)) c.first_bad_line-refusal.ensures in
    (a.0, subst (λ (stop : ℕ). StopsAt b stop (from_place b 0).refusal) (sym told) a.1)

pub returns : goal.returns
returns c = let m = place_has c.args.block.now 0 (omega arith) in (m.0, rw c.up_to.ensures (rw c.first_bad_line-refusal.ensures m.1))
