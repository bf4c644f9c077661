use Rattle.std.proofs.Common.{◌≡◌, ◌||◌, [], refl, ap, ◌∙◌, arith}
use Rattle.operand_net.specs.Places.{at}
use Rattle.operand_net.specs.inside.Rows.{taken}
use Rattle.grid_tallies.proofs.Tallying.{heard_none}
use Rattle.grid_tallies.proofs.Travelled.{all_wanted, none_wanted, row_heard}
use Rattle.grid_tallies.proofs.travelling.frame_moves.Goals as goal

pub loop-from-init : goal.loop-from-init
loop-from-init c = record {
  heard = heard_none c.args.told.now [] (λ s. refl);
  marks = λ k. none_wanted (taken c.args.links.now.nodes k);
  within = omega arith;
}

pub loop-from-preserved : goal.loop-from-preserved
loop-from-preserved c = record {
  heard = c.next_moves-from.ensures.heard (taken c.args.links.now.nodes) c.args.told.now c.loop-from.invariant.marks
      c.loop-from.invariant.heard;
  marks = c.next_moves-from.ensures.marks (taken c.args.links.now.nodes) c.loop-from.invariant.marks;
  within = c.next_moves-from.ensures.within;
}

pub returns-clause-heard : goal.returns-clause-heard
returns-clause-heard c =
    let all : c.loop-from.from ≡ 320 = omega arith in
    row_heard (taken c.args.links.now.nodes) c.args.frame (at c.args.mesh.now c.args.frame) c.loop-from.from
    c.args.told.now c.loop-from.told all c.loop-from.invariant.heard

pub returns-clause-marks : goal.returns-clause-marks
returns-clause-marks c = λ l.
    let all : c.loop-from.from ≡ 320 = omega arith in
    c.loop-from.invariant.marks l ∙ ap (λ z. taken c.args.links.now.nodes l || z)
    (all_wanted (at c.args.mesh.now c.args.frame) c.loop-from.from l all)
