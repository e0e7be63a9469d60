use Rattle.std.proofs.Common.{None, slice_index_or, arith}
use Rattle.pw_tariff.specs.declared.cells.Cell.{Cell}
use Rattle.pw_model.specs.declared.records.TotalKey.{TotalKey}
use Rattle.pw_model.specs.declared.records.TotalKey.TheVariants.{Energy}
use Rattle.pw_parts.proofs.Gathering.{cell-fits, cells-bound, cells-ended}
use Rattle.pw_parts.proofs.changes.Changes.add_cells.Goals as goal

pub returns-clause-gathered : goal.returns-clause-gathered
returns-clause-gathered c k =
    let l = c.loop-cell-test.false in
    cells-ended c.args.direction k c.args.cells.now c.loop-cell.cell-index _ _ c.requires.in_order l (c.loop-cell.invariant.told k)

pub returns-clause-all : goal.returns-clause-all
returns-clause-all c k =
    let l = c.loop-cell-test.false in
    let a = cells-ended c.args.direction k c.args.cells.now c.loop-cell.cell-index _ _ c.requires.in_order l (c.loop-cell.invariant.told k) in
    let b = cells-bound c.args.direction k c.args.cells.now c.requires.in_order in
    omega (arith, a, b)

pub add-requires : goal.add-requires
add-requires c =
    let x : Cell = record { owner = None; period = record { 0 = 0 }; band = record { 0 = 0 }; wh = 0 } in
    let cell : Cell = slice_index_or c.args.cells.now c.loop-cell.cell-index x in
    let k : TotalKey = Energy cell.owner cell.period cell.band c.args.direction in
    record { fits = cell-fits c.args.direction c.args.cells.now c.loop-cell.cell-index x _ _ _ c.loop-cell-test.true (c.loop-cell.invariant.told k) (c.requires.fits k) }
