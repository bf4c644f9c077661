use Rattle.std.proofs.Common.{◌≡◌, ◌==◌, ◌||◌, true, false, sym, ap, ◌∙◌, is_some}
use Rattle.grid_parts.specs.inside.Asked.{block_of}
use Rattle.grid_cycle.proofs.DueFacts.{flies}
use Rattle.grid_cycle.proofs.fetching.is_taken.Goals as goal

pub returns-then-is_some : goal.returns-then-is_some
returns-then-is_some g c =
    let fs = (g.V.Windows.held c.args.window.now).frames in
    let there : is_some (block_of c.args.frame fs) ≡ true = cc in
    ap (λ b. b || (c.args.filled == c.args.frame)) (sym there ∙ flies c.args.frame fs)

pub returns-else-is_some : goal.returns-else-is_some
returns-else-is_some g c =
    let fs = (g.V.Windows.held c.args.window.now).frames in
    let away : is_some (block_of c.args.frame fs) ≡ false = cc in
    ap (λ b. b || (c.args.filled == c.args.frame)) (sym away ∙ flies c.args.frame fs)
