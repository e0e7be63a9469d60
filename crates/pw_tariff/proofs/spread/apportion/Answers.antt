use Rattle.std.proofs.Common.{arith}
use Rattle.pw_tariff.proofs.Gathered.{nothing-yet, nothing-more, share-more, all-shared}
use Rattle.pw_tariff.proofs.spread.apportion.Goals as goal

pub loop-basis-init : goal.loop-basis-init
loop-basis-init c = record {
  begun = omega arith;
  within = omega arith;
  so_far = rw c.new-cells.ensures.items (nothing-yet c.args.office.now c.args.owners.now c.args.span);
}

pub loop-basis-preserved-in-Continue-1 : goal.loop-basis-preserved-in-Continue-1
loop-basis-preserved-in-Continue-1 c =
    let p = c.piece_at-piece.ensures.piece in
    let g = p.begun in
    let e = c.piece_at-piece.ensures.begin in
    record {
      begun = let b = c.loop-basis.invariant.begun in omega (arith, b, g, e);
      within = p.within;
      so_far = share-more c.args.office.now c.args.owners.now c.args.span c.loop-basis.at c.piece_at-piece.result c.loop-basis.cells.items c.add.new.cells.items
          c.requires.earlier c.requires.rising c.loop-basis.invariant.begun e p c.in_ok-add.ensures c.loop-basis.invariant.so_far;
    }

pub loop-basis-preserved : goal.loop-basis-preserved
loop-basis-preserved c =
    let p = c.piece_at-piece.ensures.piece in
    let g = p.begun in
    let e = c.piece_at-piece.ensures.begin in
    record {
      begun = let b = c.loop-basis.invariant.begun in omega (arith, b, g, e);
      within = p.within;
      so_far = nothing-more c.args.office.now c.args.owners.now c.args.span c.loop-basis.at c.piece_at-piece.result c.loop-basis.cells.items
          c.requires.earlier c.requires.rising c.loop-basis.invariant.begun e p c.if-piece-gt0.false c.loop-basis.invariant.so_far;
    }

pub returns : goal.returns
returns c =
    all-shared c.args.office.now c.args.owners.now c.args.span c.loop-basis.at c.loop-basis.cells.items
    c.requires.earlier c.requires.rising (omega arith) c.loop-basis.invariant.so_far
