use Rattle.std.proofs.Common.{◌≡◌, length, subst, refl, arith}
use Rattle.operand_net.specs.Places.{at}
use Rattle.operand_net.specs.Tick.{Ticked}
use Rattle.operand_net.specs.inside.Rows.{taken}
use Rattle.operand_net.proofs.Frames.{begins, one_frame}
use Rattle.operand_net.proofs.mesh.Mesh.tick_frames.Goals as goal

pub loop-i-init : goal.loop-i-init
loop-i-init g c = begins g.W.Weather.next g.W.Weather.follows c.args.order.now (at c.args.self.now)
    c.args.weather.now (taken c.none-links.result.nodes) c.none-links.ensures

pub loop-i-preserved : goal.loop-i-preserved
loop-i-preserved g c = one_frame g.W.Weather.next g.W.Weather.follows c.args.order.now (at c.args.self.now)
    c.args.weather.now c.loop-i.i _ (taken c.loop-i.links.nodes) (taken c.tick_frame.new.links.nodes)
    (at c.loop-i.self) (at c.tick_frame.new.self) c.loop-i.weather c.tick_frame.new.weather c.loop-i.invariant
    c.requires.once c.loop-i-test.true refl c.tick_frame.ensures.ticks c.tick_frame.ensures.others
    c.tick_frame.ensures.marks

pub returns : goal.returns
returns g c =
    let all : c.loop-i.i ≡ length c.args.order.now = omega arith in
    subst (λ n. Ticked g.W.Weather.next g.W.Weather.follows c.args.order.now (at c.args.self.now)
    (at c.loop-i.self) c.args.weather.now c.loop-i.weather n) all c.loop-i.invariant.ticked
