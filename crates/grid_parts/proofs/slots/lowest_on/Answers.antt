use Rattle.std.proofs.Common.{sym, arith}
use Rattle.grid_parts.proofs.SlotFacts.{every_16, none_on, first_on, row_below}
use Rattle.grid_parts.proofs.slots.lowest_on.Goals as goal

pub returns-then-row-eq0-clause-value : goal.returns-then-row-eq0-clause-value
unfolding every_16
returns-then-row-eq0-clause-value c = sym (none_on c.args.marks c.args.tile c.requires c.if-row-eq0.true)

pub returns-else-row-eq0-clause-value : goal.returns-else-row-eq0-clause-value
unfolding every_16
returns-else-row-eq0-clause-value c = sym (first_on c.args.marks c.args.tile c.requires (omega arith)
    c.if-row-eq0.false (row_below c.args.marks c.args.tile)).0

pub returns-else-row-eq0-clause-within : goal.returns-else-row-eq0-clause-within
unfolding every_16
returns-else-row-eq0-clause-within c = (first_on c.args.marks c.args.tile c.requires (omega arith)
    c.if-row-eq0.false (row_below c.args.marks c.args.tile)).1
