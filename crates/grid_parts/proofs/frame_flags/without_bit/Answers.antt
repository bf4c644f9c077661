use Rattle.std.proofs.Common.{◌<◌, ◌^◌, arith}
use Rattle.grid_parts.proofs.FlagFacts.{clear_one}
use Rattle.grid_parts.proofs.frame_flags.without_bit.Goals as goal

pub returns : goal.returns
returns c = λ i. let fits : c.args.word < 2 ^ 128 = omega arith in clear_one c.args.word c.args.bit i c.requires fits
