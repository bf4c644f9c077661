use Rattle.std.proofs.Common.{◌<◌, length, arith}
use Rattle.grid_parts.proofs.FlagFacts.{one_less}
use Rattle.grid_parts.proofs.frame_flags.FrameFlags.take.Goals as goal

pub returns : goal.returns
returns c =
    let inside : c.args.frame < length c.args.self.now.words = omega arith in
    one_less c.args.self.now.words c.args.frame _ inside c.args.flag c.without_bit.ensures
