use Rattle.std.proofs.Common.{sym, ◌∙◌}
use Rattle.c_sizes.proofs.ValueFacts.{atom_is}
use Rattle.c_sizes.proofs.value.+value.Goals as goal

pub returns-then-is_alone : goal.returns-then-is_alone
returns-then-is_alone t c =
    c.atom.ensures
    ∙ sym (atom_is c.args.levels c.args.known.now c.args.tokens.now c.cut-rule.result.1.now c.cut-rule.result.2.now
    c.cut-rule.result.3.now c.cut-rule.result.0 c.if-levels-eq0.false c.cut-rule.ensures (sym c.is_alone.ensures ∙ c.if-is_alone.true))
