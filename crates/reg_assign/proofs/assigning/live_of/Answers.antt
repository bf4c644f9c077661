use Rattle.std.proofs.Common.{reverse, map, ap, ◌∙◌}
use Rattle.ir_forms.specs.inside.FlatViews.{function_of}
use Rattle.reg_assign.specs.inside.Pass.{lists_backward}
use Rattle.reg_assign.proofs.Passes.{turned_round}
use Rattle.reg_assign.proofs.assigning.live_of.Goals as goal

pub returns : goal.returns
returns c =
    c.turned.ensures ∙ ap reverse c.in_ok-lists.ensures
    ∙ ap (λ fs. reverse (lists_backward (map function_of fs))) c.as_slice.ensures.value
    ∙ turned_round (map function_of c.args.flat.now.functions)
