use Rattle.std.proofs.Common.{◌<◌, ◌==◌, false, cond, length, slice_index_or, ap, ◌∙◌, arith}
use Rattle.std.proofs.Math.Path.{fun_ext}
use Rattle.grid_cycle_spec.specs.Fetches.{one_fetched}
use Rattle.grid_parts.specs.Seen.{seen}
use Rattle.grid_parts.proofs.PartFacts.{filled}
use Rattle.grid_parts.proofs.RowFacts.{set_row}
use Rattle.grid_parts.proofs.state.State.fill.Goals as goal

pub returns : goal.returns
returns g c = λ w f e.
    let s = c.args.self.now in
    let size = c.set.ensures.size in
    let inside : c.args.frame < length s.careful = omega (arith, size) in
    filled (seen w s) _ _ _ _ _ (one_fetched s.counts) c.clear.ensures
    (ap (λ xs m. slice_index_or xs m false) c.set.ensures.value
    ∙ set_row s.careful c.args.frame c.is_careful-careful.result false inside
    ∙ ap (λ b m. cond (m == c.args.frame) b (slice_index_or s.careful m false)) (c.is_careful-careful.ensures f e))
    (fun_ext c.set-2.ensures
    ∙ ap (λ h m. cond (m == c.args.frame) h (slice_index_or s.histories m 0)) (c.history-history.ensures.value f e))
