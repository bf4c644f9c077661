use Rattle.std.proofs.Common.{◌==◌, get_or, ap}
use Rattle.std.proofs.lemmas.Nat.Bits.{shr_and_one}
use Rattle.grid_parts.proofs.frame_flags.FrameFlags.has.Goals as goal

pub returns : goal.returns
returns c = ap (λ z. z == 1) (shr_and_one (get_or c.args.self.now.words c.args.frame 0) c.args.flag)
