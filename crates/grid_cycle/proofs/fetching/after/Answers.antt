use Rattle.std.proofs.Common.{Some, ap, ◌∙◌, arith}
use Rattle.commit_flush_spec.specs.Older.{after_all, committed}
use Rattle.grid_parts.specs.inside.Asked.{found_in}
use Rattle.grid_parts.proofs.FetchFacts.{HasYoungest, has_youngest, none_flies, block_is}
use Rattle.grid_cycle.proofs.FetchFacts.{after_none, after_youngest}
use Rattle.grid_cycle.proofs.fetching.after.Goals as goal

pub returns-in-Some : goal.returns-in-Some
returns-in-Some g c =
    let x = c.args.grid.now in
    let w = g.V.Windows.held x.window in
    let y : HasYoungest w.frames c.args.order.now =
    has_youngest w.frames c.args.order.now c.requires.order (omega arith) c.requires.distinct in
    c.behind.ensures y.frame y.named (block_is _ y.frame c.in-Some.block c.in-Some.ensures.value y.named) y.is
    ∙ after_youngest (g.V.Windows.blocks x.window) x.state.predictor x.state.standing w.state y.frame w.frames y.is

pub returns-in-None : goal.returns-in-None
returns-in-None g c =
    let w = g.V.Windows.held c.args.grid.now.window in
    let y : HasYoungest w.frames c.args.order.now =
    has_youngest w.frames c.args.order.now c.requires.order (omega arith) c.requires.distinct in
    absurd (let e = c.in-None.ensures.value ∙ ap (found_in (λ h. Some h.block)) y.named in cc)

pub returns-else-order-gt0 : goal.returns-else-order-gt0
returns-else-order-gt0 g c =
    let x = c.args.grid.now in
    let w = g.V.Windows.held x.window in
    let none = none_flies w.frames c.args.order.now c.requires.order (omega arith) in
    c.successor.ensures ∙ ap (λ fs. (after_all fs (committed w.state)).known) none
    ∙ after_none (g.V.Windows.blocks x.window) x.state.predictor x.state.standing w.state w.frames none
