use Rattle.std.proofs.Common.{◌<◌, ◌==◌, ◌||◌, Some, false, length, slice_index_or, ap, ◌∙◌, arith}
use Rattle.grid_parts.specs.Seen.{seen}
use Rattle.grid_parts.proofs.PartFacts.{with_waits}
use Rattle.grid_parts.proofs.RowFacts.{flag_more}
use Rattle.grid_parts.proofs.state.State.wait_from_now.Goals as goal

pub returns : goal.returns
returns g c = λ w.
    let size = c.put.ensures.size in
    let near = c.bit_of.ensures.within in
    let inside : c.bit_of.result < length c.args.self.now.waits = omega (arith, size, near) in
    ap (λ v. with_waits v (Some c.args.block) (seen w c.args.self.now))
    (ap (λ xs k. slice_index_or xs k false) c.put.ensures.value
    ∙ flag_more c.args.self.now.waits c.bit_of.result inside
    ∙ ap (λ b k. (k == b) || slice_index_or c.args.self.now.waits k false) c.bit_of.ensures.value)
