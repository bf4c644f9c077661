use Rattle.std.proofs.Common.{◌<◌, length, ap, arith}
use Rattle.grid_parts.specs.Seen.{seen}
use Rattle.grid_parts.proofs.PartFacts.{with_units}
use Rattle.grid_parts.proofs.RowFacts.{set_row}
use Rattle.smt_mode.proofs.turns.free_unit.Goals as goal

pub returns : goal.returns
returns c = λ w.
    let s = c.args.state.now in
    let inside : c.args.tile < length s.units = omega arith in
    ap (λ u. with_units u (seen w s)) (set_row s.units c.args.tile 0 0 inside)
