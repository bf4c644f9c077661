use Rattle.std.proofs.Common.{subst}
use Rattle.grid_parts.specs.Seen.{seen}
use Rattle.grid_tallies.specs.inside.Adding.{AnswersHeard, TokensHeard}
use Rattle.grid_tallies.proofs.Answering.{answer_heard, none_heard}
use Rattle.grid_tallies.proofs.data_tiles.answered.Goals as goal

pub returns-in-Some-clause-heard : goal.returns-in-Some-clause-heard
returns-in-Some-clause-heard g c =
    let v = c.args.grid.now.window in
    let h = c.answer.new.self in
    answer_heard (g.V.Windows.blocks v) (g.V.Windows.budget v) c.args.tile c.args.frame c.args.number
    (seen (g.V.Windows.held v) c.args.grid.now.state) (seen (g.V.Windows.held h.window) h.state) c.args.told.now
    c.count.new.told c.count_entering.new.told
    c.in-Some.request c.saturating_sub-flushed.result c.in-Some.ensures.value c.answer.ensures.change
    c.saturating_sub-flushed.ensures
    (subst (λ s. AnswersHeard s c.saturating_sub-flushed.result c.args.told.now c.count.new.told)
    c.is_store-store.ensures c.count.ensures)
    (subst (λ s. TokensHeard s c.args.frame c.in-Some.request.slot (g.V.Windows.held h.window).frames c.count.new.told
    c.count_entering.new.told) c.is_store-store.ensures c.count_entering.ensures)

pub returns-in-None-clause-heard : goal.returns-in-None-clause-heard
returns-in-None-clause-heard g c =
    let v = c.args.grid.now.window in
    none_heard (g.V.Windows.blocks v) (g.V.Windows.budget v) c.args.tile c.args.frame c.args.number
    (seen (g.V.Windows.held v) c.args.grid.now.state) c.args.told.now c.in-None.ensures.value
