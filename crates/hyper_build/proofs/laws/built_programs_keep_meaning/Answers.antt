use Rattle.hyper_build.proofs.Built.{build_keeps}
use Rattle.hyper_build.proofs.laws.built_programs_keep_meaning.Goals as goal

pub returns : goal.returns
returns c = build_keeps
