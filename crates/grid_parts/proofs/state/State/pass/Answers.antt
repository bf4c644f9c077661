use Rattle.std.proofs.Common.{◌≡◌, ◌<◌, ◌-◌, ◌==◌, cond, length, get_or, slice_index_or, ap, ◌∙◌, arith}
use Rattle.grid_parts.specs.Seen.{seen}
use Rattle.grid_parts.proofs.PartFacts.{with_units}
use Rattle.grid_parts.proofs.RowFacts.{set_row}
use Rattle.grid_parts.proofs.state.State.pass.Goals as goal

pub returns : goal.returns
returns g c = λ w.
    let inside : c.args.tile < length c.args.self.now.units = omega arith in
    let less : c.saturating_sub.result ≡ get_or c.args.self.now.units c.args.tile 0 - 1 = omega arith in
    ap (λ u. with_units u (seen w c.args.self.now)) (set_row c.args.self.now.units c.args.tile _ 0 inside
    ∙ ap (λ n m. cond (m == c.args.tile) n (slice_index_or c.args.self.now.units m 0)) less)
