use Rattle.std.proofs.Common.{sym}
use Rattle.c_parse.proofs.Answered.{last_is}
use Rattle.c_parse.proofs.unit.last_offset.Goals as goal

pub returns-in-len1-up : goal.returns-in-len1-up
returns-in-len1-up c = sym (last_is c.args.tokens.now c.last-item.result c.in-len1-up.len_at_least c.last-item.is)
