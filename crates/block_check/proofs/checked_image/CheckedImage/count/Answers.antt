use Rattle.std.proofs.Common.{arith}
use Rattle.block_check.specs.inside.Holds.{image_of}
use Rattle.block_check.proofs.Making.{small_count}
use Rattle.block_check.proofs.checked_image.CheckedImage.count.Goals as goal

pub overflow_cast-result : goal.overflow_cast-result
overflow_cast-result c =
    let small = small_count (image_of c.self.inside.blocks.items c.self.inside.bytes)
    c.self.invariant.checked.fits in
    let whole = c.self.inside.blocks.ok in
    omega (arith, small, whole.0)
