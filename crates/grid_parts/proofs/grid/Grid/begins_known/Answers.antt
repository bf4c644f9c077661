use Rattle.std.proofs.Common.{sym, ap, ap₂, ◌∙◌}
use Rattle.block_predict.specs.Predicts.{entered}
use Rattle.grid_cycle_spec.specs.Acting.{repaired}
use Rattle.grid_cycle_spec.specs.Fetches.{begun, stands}
use Rattle.grid_parts.specs.Seen.{seen}
use Rattle.grid_parts.proofs.grid.Grid.begins_known.Goals as goal

pub returns-clause-change : goal.returns-clause-change
returns-clause-change g c = λ f x en ee es.
    let w = g.V.Windows.held c.args.self.now.window in
    let here = seen w c.args.self.now.state in
    let entering = repaired (entered (here.histories c.args.frame) c.args.exit) here in
    c.begin.ensures w
    ∙ ap (begun c.args.block c.stands-stands.result) (c.enter_exit.ensures w)
    ∙ ap (λ b. begun c.args.block b entering) c.stands-stands.ensures
    ∙ ap (λ k. begun k (stands here.standing k) entering) (sym es)
    ∙ ap₂ (λ n y. begun x.successor (stands here.standing x.successor) (repaired (entered (here.histories n) y) here))
    (sym en) (sym ee)
