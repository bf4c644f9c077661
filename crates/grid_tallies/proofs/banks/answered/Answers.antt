use Rattle.std.proofs.Common.{subst}
use Rattle.grid_parts.specs.Seen.{seen}
use Rattle.grid_tallies.specs.declared.statistic.Statistic.TheVariants as statistic
use Rattle.grid_tallies.specs.inside.Adding.{Adds}
use Rattle.grid_tallies.proofs.Entered.{read_heard}
use Rattle.grid_tallies.proofs.banks.answered.Goals as goal

pub returns-clause-heard : goal.returns-clause-heard
returns-clause-heard g c =
    let v = c.args.grid.now.window in
    let h = c.answer_read.new.self in
    read_heard (g.V.Windows.blocks v) (g.V.Windows.budget v) c.args.bank c.args.frame c.args.read
    (seen (g.V.Windows.held v) c.args.grid.now.state) (seen (g.V.Windows.held h.window) h.state) c.args.told.now
    c.add.new.self c.answer_read.ensures.change
    (subst (λ n. Adds statistic.Parcels n c.args.told.now c.add.new.self) c.tokens_at-entered.ensures c.add.ensures)
