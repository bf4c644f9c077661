use Rattle.std.proofs.Common.{subst}
use Rattle.c_tree.specs.Limits.{most_tokens}
use Rattle.c_pre.specs.declared.said.Said.{Said}
use Rattle.c_pre.specs.Programs.{read_plain}
use Rattle.c_pre.specs.inside.Gives.{Gives}
use Rattle.c_pre.proofs.reader.Reader.read_plain.Goals as goal

pub returns : goal.returns
returns c =
    subst
    (λ (s : Said). Gives (read_plain most_tokens s c.args.token.now c.args.self.now) c.read_said.result
    c.read_said.new.self) c.said_by-said.ensures c.read_said.ensures
