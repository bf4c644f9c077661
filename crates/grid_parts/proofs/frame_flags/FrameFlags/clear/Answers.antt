use Rattle.std.proofs.Common.{◌<◌, length, arith}
use Rattle.grid_parts.proofs.FlagFacts.{no_flag}
use Rattle.grid_parts.proofs.frame_flags.FrameFlags.clear.Goals as goal

pub returns : goal.returns
returns c =
    let inside : c.args.frame < length c.args.self.now.words = omega arith in
    no_flag c.args.self.now.words c.args.frame inside
