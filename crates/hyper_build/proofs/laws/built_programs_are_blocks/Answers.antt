use Rattle.hyper_build.proofs.Built.{build_gives}
use Rattle.hyper_build.proofs.laws.built_programs_are_blocks.Goals as goal

pub returns : goal.returns
returns c = build_gives
