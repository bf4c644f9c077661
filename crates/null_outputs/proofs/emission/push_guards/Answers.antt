use Rattle.std.proofs.Common.{arith, ap, ◌∙◌, ◌+◌, ℕ, length}
use Rattle.null_outputs.specs.inside.Groups as groups
use Rattle.null_outputs.specs.inside.Listed as listed
use Rattle.null_outputs.proofs.Spaces.{guard_part_length}
use Rattle.null_outputs.proofs.RegionLoops.{region_turn}
use Rattle.null_outputs.proofs.emission.push_guards.Goals as goal

pub loop-n-preserved : goal.loop-n-preserved
loop-n-preserved c =
    let i = c.loop-n.invariant in (
      (let e = i.0 in omega (arith, e)),
      region_turn (groups.guard_part (listed.want_in_guess c.args.guess.now) c.args.nodes.now
          (listed.cover_in c.args.nodes.now c.args.guess.now c.args.starts.now) c.args.s)
          (groups.guard_part_size (listed.want_in_guess c.args.guess.now) c.args.nodes.now
          (listed.sure_in_guess c.args.nodes.now c.args.guess.now) c.args.s)
          (guard_part_length (listed.want_in_guess c.args.guess.now) c.args.nodes.now
          (listed.sure_in_guess c.args.nodes.now c.args.guess.now) (listed.places_in c.args.starts.now) c.args.s)
          (length c.args.nodes.now) c.args.nodes.now c.loop-n.out c.push_guard_part.new.out c.in_ok-p.p c.loop-n.j
          c.loop-n.n-index c.n-item.result
          c.loop-n-test.true c.n-item.is (c.in_ok-p.ensures
          ∙ ap (λ (k : ℕ). length c.args.nodes.now + k) c.len.ensures.value) c.in_ok-push_guard_part.ensures
          ∙ i.1,
    )
