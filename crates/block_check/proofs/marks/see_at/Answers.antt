use Rattle.std.proofs.Common.{◌<◌, length, arith}
use Rattle.block_check.proofs.Seeing.{seen_at}
use Rattle.block_check.proofs.marks.see_at.Goals as goal

pub returns : goal.returns
returns c q lt =
    let within : c.args.place < length c.args.seen.now = omega arith in
    seen_at c.args.seen.now c.args.place c.one_more.result q within c.one_more.ensures
    (c.requires.low q lt)
