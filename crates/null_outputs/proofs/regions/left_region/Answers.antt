use Rattle.std.proofs.Common.{arith, ◌∙◌}
use Rattle.null_outputs.specs.inside.Groups as groups
use Rattle.null_outputs.specs.inside.Listed as listed
use Rattle.null_outputs.proofs.RegionLoops.{starts_turn, end_turn}
use Rattle.null_outputs.proofs.regions.left_region.Goals as goal

pub loop-n-preserved : goal.loop-n-preserved
loop-n-preserved c =
    let i = c.loop-n.invariant in
    let size = groups.left_size (listed.sure_in_guess c.args.nodes.now c.args.guess.now)
    (listed.want_in_guess c.args.guess.now) in (
      (let e = i.0 in omega (arith, e)),
      starts_turn size c.args.nodes.now c.loop-n.starts c.push.new.self c.loop-n.p c.in_ok-p.p c.loop-n.j
          c.loop-n.n-index c.n-item.result
          c.loop-n-test.true c.n-item.is c.in_ok-push.ensures.ok c.in_ok-p.ensures ∙ i.1,
      end_turn size c.args.nodes.now c.loop-n.p c.in_ok-p.p c.loop-n.j c.loop-n.n-index c.n-item.result
          c.loop-n-test.true c.n-item.is c.in_ok-p.ensures ∙ i.2,
    )
