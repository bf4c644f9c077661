use Rattle.hyper_build.proofs.FunctionParts.{entries_begin}
use Rattle.hyper_build.proofs.laws.entries_begin_functions.Goals as goal

pub returns : goal.returns
returns c = entries_begin
