use Rattle.grid_parts.proofs.FlagFacts.{set_one}
use Rattle.grid_parts.proofs.frame_flags.with_bit.Goals as goal

pub returns : goal.returns
returns c = λ i. set_one c.args.word c.args.bit i c.requires
