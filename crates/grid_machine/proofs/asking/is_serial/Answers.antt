use Rattle.std.proofs.Common.{◌≡◌, ◌∙◌, Some, sym, arith, slice_get}
use Rattle.trips_isa.specs.declared.block.Block.{Block}
use Rattle.grid_machine.proofs.ShapeFacts.{block_there, shape_at, shape_count}
use Rattle.grid_machine.proofs.asking.is_serial.Goals as goal

pub at-requires : goal.at-requires
at-requires c =
    let n = shape_count c.args.window.now.image.blocks _ c.requires in
    let k = c.in-Some.ensures.within in
    omega (arith, n, k)

pub returns-in-None : goal.returns-in-None
returns-in-None c = sym c.in-None.ensures.serial

pub returns-in-Some : goal.returns-in-Some
returns-in-Some c =
    let blocks = c.args.window.now.image.blocks in
    let there = block_there blocks c.in-Some.block c.in-Some.ensures.within in
    c.is_serial.ensures there.0 (shape_at blocks c.args.shapes.now.shapes.items c.requires c.in-Some.block there.0 _
    there.1 c.at.ensures) ∙ sym (c.in-Some.ensures.serial there.0 there.1)
