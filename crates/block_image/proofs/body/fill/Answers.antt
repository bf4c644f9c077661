use Rattle.std.proofs.Common.{sym, ◌∙◌, ap}
use Rattle.block_image.specs.inside.Reading.{least_at}
use Rattle.block_image.proofs.BlockLaws.{size_read}
use Rattle.block_image.proofs.body.fill.Goals as goal

pub returns-clause-size : goal.returns-clause-size
returns-clause-size c =
    size_read c.args.total c.args.at c.in-Ok.info c.args.words.now c.body.new.out.items _
    c.pad.new.insts.items
    (sym c.in-Ok.ensures.read) c.in-Ok.ensures.good c.in_default.ensures.full
    (ap (least_at c.args.at _) (sym c.as_slice.ensures.value)
    ∙ c.in_default-least.ensures) c.pad.ensures
