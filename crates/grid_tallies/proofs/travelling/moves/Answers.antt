use Rattle.std.proofs.Common.{◌≡◌, [], length, refl, subst, arith}
use Rattle.operand_net.specs.Places.{at}
use Rattle.operand_net.specs.inside.Rows.{taken}
use Rattle.grid_tallies.specs.Statistics.{Heard}
use Rattle.grid_tallies.specs.inside.Travelling.{frame_moves}
use Rattle.grid_tallies.proofs.Tallying.{heard_none}
use Rattle.grid_tallies.proofs.Travelled.{frame_heard, frame_marks}
use Rattle.grid_tallies.proofs.travelling.moves.Goals as goal

pub loop-n-init : goal.loop-n-init
loop-n-init c = record {
  heard = heard_none c.args.told.now [] (λ s. refl);
  marks = c.none-links.ensures;
}

pub loop-n-preserved : goal.loop-n-preserved
loop-n-preserved c = record {
  heard = frame_heard c.args.order.now (at c.args.mesh.now) c.loop-n.n _ (taken c.loop-n.links.nodes) c.args.told.now
      c.loop-n.told c.frame_moves.new.told refl c.loop-n.invariant.marks c.loop-n.invariant.heard
      c.frame_moves.ensures.heard;
  marks = frame_marks c.args.order.now (at c.args.mesh.now) c.loop-n.n _ (taken c.loop-n.links.nodes)
      (taken c.frame_moves.new.links.nodes) refl c.loop-n.invariant.marks c.frame_moves.ensures.marks;
}

pub returns : goal.returns
returns c =
    let all : c.loop-n.n ≡ length c.args.order.now = omega arith in
    subst (λ n. Heard c.args.told.now (frame_moves c.args.order.now (at c.args.mesh.now) n) c.loop-n.told) all
    c.loop-n.invariant.heard
