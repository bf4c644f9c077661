use Rattle.std.proofs.Common.{sym}
use Rattle.block_image.proofs.Lists.{good_info}
use Rattle.block_image.proofs.body.header.Goals as goal

pub returns-in-None-clause-good : goal.returns-in-None-clause-good
returns-in-None-clause-good c =
    good_info c.info-info.result c.args.words.now c.requires.words (sym c.in-None.ensures.value)
