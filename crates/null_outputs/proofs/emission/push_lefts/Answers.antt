use Rattle.std.proofs.Common.{arith, ap, ◌∙◌, ◌+◌, ℕ, length}
use Rattle.null_outputs.specs.inside.Groups as groups
use Rattle.null_outputs.specs.inside.Listed as listed
use Rattle.null_outputs.proofs.Spaces.{left_length}
use Rattle.null_outputs.proofs.RegionLoops.{region_turn}
use Rattle.null_outputs.proofs.emission.push_lefts.Goals as goal

pub loop-n-preserved : goal.loop-n-preserved
loop-n-preserved c =
    let i = c.loop-n.invariant in (
      (let e = i.0 in omega (arith, e)),
      region_turn (groups.left_part (listed.sure_in_guess c.args.nodes.now c.args.guess.now)
          (listed.want_in_guess c.args.guess.now)
          (listed.cover_in c.args.nodes.now c.args.guess.now c.args.starts.now))
          (groups.left_size (listed.sure_in_guess c.args.nodes.now c.args.guess.now)
          (listed.want_in_guess c.args.guess.now))
          (left_length (listed.sure_in_guess c.args.nodes.now c.args.guess.now)
          (listed.want_in_guess c.args.guess.now)
          (listed.cover_in c.args.nodes.now c.args.guess.now c.args.starts.now))
          (length c.args.nodes.now) c.args.nodes.now c.loop-n.out c.push_left_part.new.out c.in_ok-p.p c.loop-n.j
          c.loop-n.n-index c.n-item.result
          c.loop-n-test.true c.n-item.is (c.in_ok-p.ensures
          ∙ ap (λ (k : ℕ). length c.args.nodes.now + k) c.len.ensures.value) c.in_ok-push_left_part.ensures
          ∙ i.1,
    )
