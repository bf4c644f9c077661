use Rattle.std.proofs.Common.{arith, Ok, Err, refl}
use Rattle.block_check.specs.inside.Holds.{image_of}
use Rattle.block_check.proofs.Making.{indexed_search, small_count}
use Rattle.block_check.proofs.checked_image.CheckedImage.starting_at.Goals as goal

pub overflow_cast-result : goal.overflow_cast-result
overflow_cast-result c =
    let small = small_count (image_of c.self.inside.blocks.items c.self.inside.bytes)
    c.self.invariant.checked.fits in
    let found = indexed_search c.self.inside.blocks.items c.self.inside.starts.items
    c.self.inside.bytes c.as_slice.result.now (image_of c.self.inside.blocks.items
    c.self.inside.bytes) c.args.chunk (Ok c.in-Ok.number) c.self.invariant refl
    c.as_slice.ensures.value c.in-Ok.ensures.position in
    omega (arith, small, found.1)

pub returns-in-Ok-clause-value : goal.returns-in-Ok-clause-value
returns-in-Ok-clause-value c = (indexed_search c.self.inside.blocks.items
    c.self.inside.starts.items c.self.inside.bytes c.as_slice.result.now c.args.self.now
    c.args.chunk (Ok c.in-Ok.number) c.self.invariant c.self.view_is c.as_slice.ensures.value
    c.in-Ok.ensures.position).0

pub returns-in-Err-clause-value : goal.returns-in-Err-clause-value
returns-in-Err-clause-value c = indexed_search c.self.inside.blocks.items
    c.self.inside.starts.items c.self.inside.bytes c.as_slice.result.now c.args.self.now
    c.args.chunk (Err c.in-Err.field-0) c.self.invariant c.self.view_is c.as_slice.ensures.value
    c.in-Err.ensures.position
