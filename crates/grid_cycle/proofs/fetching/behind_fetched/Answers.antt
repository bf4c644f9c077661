use Rattle.std.proofs.Common.{◌≡◌, Some, None, cond, not, ◌&&◌, true, nat_lt, length, slice_get, sym, ap, ap₂, ◌∙◌}
use Rattle.commit_flush_spec.specs.Older.{is_serial}
use Rattle.block_predict.specs.Predicts.{predicted}
use Rattle.grid_cycle.proofs.DueFacts.{same_block}
use Rattle.grid_cycle.proofs.fetching.behind_fetched.Goals as goal

pub returns-then-is_serial : goal.returns-then-is_serial
returns-then-is_serial g c = λ b is.
    let x = c.args.grid.now in
    let bs = g.V.Windows.blocks x.window in
    let fs = (g.V.Windows.held x.window).frames in
    let same : c.block_at.result.now ≡ b = same_block bs c.args.block c.block_at.result.now b
    (ap (λ ks. slice_get ks c.args.block) (sym c.image-image.ensures) ∙ c.block_at.ensures.value) is in
    ap₂ (λ y z. cond ((y && not z) && nat_lt (length fs) x.state.predictor.ahead)
    (predicted bs x.state.predictor c.args.block) None)
    c.if-any_empty.ensures (c.if-is_serial.ensures ∙ ap is_serial same)

pub returns-then-may_follow : goal.returns-then-may_follow
returns-then-may_follow g c = λ b is.
    let x = c.args.grid.now in
    let bs = g.V.Windows.blocks x.window in
    let fs = (g.V.Windows.held x.window).frames in
    let same : c.block_at.result.now ≡ b = same_block bs c.args.block c.block_at.result.now b
    (ap (λ ks. slice_get ks c.args.block) (sym c.image-image.ensures) ∙ c.block_at.ensures.value) is in
    c.peek.ensures.value ∙ ap (λ ks. predicted ks x.state.predictor c.args.block) c.image-image.ensures
    ∙ ap (λ w. cond w (predicted bs x.state.predictor c.args.block) None) c.if-may_follow.ensures
    ∙ ap₂ (λ y z. cond ((y && not z) && nat_lt (length fs) x.state.predictor.ahead)
    (predicted bs x.state.predictor c.args.block) None)
    c.if-any_empty.ensures (c.if-is_serial.ensures ∙ ap is_serial same)

pub returns-else-may_follow : goal.returns-else-may_follow
returns-else-may_follow g c = λ b is.
    let x = c.args.grid.now in
    let bs = g.V.Windows.blocks x.window in
    let fs = (g.V.Windows.held x.window).frames in
    let same : c.block_at.result.now ≡ b = same_block bs c.args.block c.block_at.result.now b
    (ap (λ ks. slice_get ks c.args.block) (sym c.image-image.ensures) ∙ c.block_at.ensures.value) is in
    ap (λ w. cond w (predicted bs x.state.predictor c.args.block) None) c.if-may_follow.ensures
    ∙ ap₂ (λ y z. cond ((y && not z) && nat_lt (length fs) x.state.predictor.ahead)
    (predicted bs x.state.predictor c.args.block) None)
    c.if-any_empty.ensures (c.if-is_serial.ensures ∙ ap is_serial same)

pub returns-else-any_empty : goal.returns-else-any_empty
returns-else-any_empty g c = λ b is.
    let x = c.args.grid.now in
    let bs = g.V.Windows.blocks x.window in
    let fs = (g.V.Windows.held x.window).frames in
    ap (λ y. cond ((y && not (is_serial b)) && nat_lt (length fs) x.state.predictor.ahead)
    (predicted bs x.state.predictor c.args.block) None) c.if-any_empty.ensures
