use Rattle.std.proofs.Common.{arith, ◌∙◌}
use Rattle.block_check.proofs.Making.{indexed_length, indexed_at}
use Rattle.block_check.proofs.checked_image.CheckedImage.address.Goals as goal

pub index-requires : goal.index-requires
index-requires c =
    let size = indexed_length c.self.inside.blocks.items c.self.inside.starts.items
    c.self.inside.bytes c.args.self.now c.self.invariant c.self.view_is in
    let whole = c.self.inside.starts.ok in
    omega (arith, size, whole.0)

pub returns-clause-value : goal.returns-clause-value
returns-clause-value c = c.index.ensures ∙ indexed_at c.self.inside.blocks.items
    c.self.inside.starts.items c.self.inside.bytes c.args.self.now c.args.number _ c.self.invariant
    c.self.view_is c.requires.number
