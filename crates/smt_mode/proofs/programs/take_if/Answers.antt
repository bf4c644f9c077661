use Rattle.std.proofs.Common.{lit<}
use Rattle.smt_mode.proofs.Chosen.{not_taken}
use Rattle.smt_mode.proofs.programs.take_if.Goals as goal

pub push-requires : goal.push-requires
push-requires c = (lit< tt, c.requires)

pub returns-else-is_taken : goal.returns-else-is_taken
returns-else-is_taken c = not_taken c.args.is_taken c.args.program c.args.programs.now.items c.if-is_taken.false
