use Rattle.std.proofs.Common.{ap, ◌∙◌, ◌+◌, ℕ, length}
use Rattle.null_outputs.specs.inside.Listed as listed
use Rattle.null_outputs.proofs.Fillings.{write_by_length}
use Rattle.null_outputs.proofs.RegionLoops.{region_turn}
use Rattle.null_outputs.proofs.emission.push_writes.Goals as goal

pub loop-w-preserved : goal.loop-w-preserved
loop-w-preserved c =
    region_turn (listed.write_part_by (listed.sure_in_guess c.args.nodes.now c.args.guess.now)
    (listed.cover_in c.args.nodes.now c.args.guess.now c.args.starts.now))
    (listed.write_size_by (listed.sure_in_guess c.args.nodes.now c.args.guess.now))
    (write_by_length (listed.sure_in_guess c.args.nodes.now c.args.guess.now)
    (listed.cover_in c.args.nodes.now c.args.guess.now c.args.starts.now))
    (length c.args.nodes.now) c.args.writes.now c.loop-w.out c.push_write_part.new.out c.in_ok-p.p c.loop-w.w-index
    c.loop-w.w-index c.w-item.result
    c.loop-w-test.true c.w-item.is (c.in_ok-p.ensures
    ∙ ap (λ (k : ℕ). length c.args.nodes.now + k) c.len.ensures.value) c.in_ok-push_write_part.ensures
    ∙ c.loop-w.invariant
