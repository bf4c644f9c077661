use Rattle.std.proofs.Common.{false, length, get_or, ap, sym, ◌∙◌, arith}
use Rattle.base.proofs.FlagFacts.{flag_is, past_flag, length_flags}
use Rattle.base.proofs.flags.Flags.has.Goals as goal

pub returns-then-q-clause-value : goal.returns-then-q-clause-value
returns-then-q-clause-value g c = flag_is g.row.N c.self.inside.words c.args.q (omega arith)
    ∙ ap (λ z. get_or z c.args.q false) c.self.view_is

pub returns-then-q-clause-size : goal.returns-then-q-clause-size
returns-then-q-clause-size g c = ap length (sym c.self.view_is) ∙ length_flags g.row.N c.self.inside.words

pub returns-else-q-clause-value : goal.returns-else-q-clause-value
returns-else-q-clause-value g c = past_flag g.row.N c.self.inside.words c.args.q (omega arith)
    ∙ ap (λ z. get_or z c.args.q false) c.self.view_is

pub returns-else-q-clause-size : goal.returns-else-q-clause-size
returns-else-q-clause-size g c = ap length (sym c.self.view_is) ∙ length_flags g.row.N c.self.inside.words
