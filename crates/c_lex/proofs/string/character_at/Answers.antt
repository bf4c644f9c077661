use Rattle.c_lex.proofs.Strings.{escape_within}
use Rattle.c_lex.proofs.string.character_at.Goals as goal

pub returns-then-b-eq92-clause-within : goal.returns-then-b-eq92-clause-within
returns-then-b-eq92-clause-within c = escape_within c.args.bs.now c.escape_at.result c.escape_at.ensures
