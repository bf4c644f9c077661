use Rattle.std.proofs.Common.{ap, ◌∙◌}
use Rattle.grid_cycle_spec.specs.Banks.{read_chosen}
use Rattle.grid_parts.specs.Seen.{seen}
use Rattle.grid_parts.proofs.grid.Grid.bank_turn.Goals as goal

pub returns-in-Some-clause-change : goal.returns-in-Some-clause-change
returns-in-Some-clause-change g c =
    let w = c.args.self.now.window in
    c.answer_read.ensures.change
    ∙ ap (λ o. read_chosen (g.V.Windows.blocks w) (g.V.Windows.budget w) c.args.bank o
    (seen (g.V.Windows.held w) c.args.self.now.state)) c.in-Some.ensures.value

pub returns-in-None-clause-change : goal.returns-in-None-clause-change
returns-in-None-clause-change g c =
    let w = c.args.self.now.window in
    ap (λ o. read_chosen (g.V.Windows.blocks w) (g.V.Windows.budget w) c.args.bank o
    (seen (g.V.Windows.held w) c.args.self.now.state)) c.in-None.ensures.value
