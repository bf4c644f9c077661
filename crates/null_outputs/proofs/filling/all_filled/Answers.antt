use Rattle.std.proofs.Common.{ap, ◌∙◌, ◌++◌, ◌∷◌, []}
use Rattle.ir_forms.specs.declared.flow.FlowWrite.{FlowWrite}
use Rattle.null_outputs.specs.inside.Listed as listed
use Rattle.null_outputs.proofs.Fillings.{filled_turn}
use Rattle.null_outputs.proofs.filling.all_filled.Goals as goal

pub loop-w-preserved : goal.loop-w-preserved
loop-w-preserved c =
    filled_turn (listed.sure_in_guess c.args.nodes.now c.args.guess.now)
    (listed.cover_in c.args.nodes.now c.args.guess.now c.args.starts.now) c.args.writes.now c.loop-w.found
    c.push.new.self c.loop-w.p c.in_ok-p.p c.loop-w.w-index c.w-item.result c.loop-w-test.true c.w-item.is
    (c.in_ok-push.ensures.ok ∙ ap (λ (x : FlowWrite). c.loop-w.found ++ x ∷ []) c.in_ok-filled.ensures)
    c.in_ok-p.ensures
    ∙ c.loop-w.invariant
