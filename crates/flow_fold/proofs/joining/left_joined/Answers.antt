use Rattle.std.proofs.Common.{◌∙◌, ap}
use Rattle.flow_fold.specs.inside.Folds.{left_behind, with_left}
use Rattle.flow_fold.specs.inside.Draws.{all_behind}
use Rattle.flow_fold.proofs.joining.left_joined.Goals as goal

pub returns : goal.returns
returns c =
    let v = c.as_slice.ensures.value in
    left_behind c.args.marks.now
    (c.in_ok-m.ensures
    ∙ ap (with_left c.args.n.now) (c.in_ok-sources.ensures
    ∙ ap (all_behind c.args.nodes.now c.args.marks.now c.args.j) v))
