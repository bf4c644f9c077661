use Rattle.std.proofs.Common.{◌≡◌, length, refl, ap, ◌∙◌, subst, arith}
use Rattle.operand_net.specs.Tick.{Ticked}
use Rattle.operand_net.specs.inside.Rows.{taken}
use Rattle.operand_net.proofs.Frames.{begins, one_frame}
use Rattle.smt_spec.specs.Programs.{mesh, travelled}
use Rattle.smt_mode.specs.Machines.{four_of}
use Rattle.smt_mode.proofs.FetchesOf.{after_two}
use Rattle.smt_mode.proofs.OneProgram.{kept_still}
use Rattle.smt_mode.proofs.Ticks.{travelled_same, travelled_twice}
use Rattle.smt_mode.proofs.machine.Machine.tick_frames.Goals as goal

pub loop-i-init : goal.loop-i-init
loop-i-init g c =
    let m = c.args.self.now in
    record {
      going = begins g.W.Weather.next g.W.Weather.follows c.args.order.now (mesh (four_of m)) m.weather
          (taken c.none-links.result.nodes) c.none-links.ensures;
      rest = travelled_same (four_of m);
      keeps = kept_still 4 m.programs.items m.budget m.cycles c.requires.ready;
    }

pub tick_frame-requires-clause-ready : goal.tick_frame-requires-clause-ready
tick_frame-requires-clause-ready g c = c.loop-i.invariant.keeps.ready

pub loop-i-preserved : goal.loop-i-preserved
loop-i-preserved g c =
    let m = c.args.self.now in
    let k = c.loop-i.self in
    let h = c.tick_frame.new.self in
    let v = c.loop-i.invariant in
    record {
      going = one_frame g.W.Weather.next g.W.Weather.follows c.args.order.now (mesh (four_of m)) m.weather c.loop-i.i
          _
          (taken c.loop-i.links.nodes) (taken c.tick_frame.new.links.nodes) (mesh (four_of k)) (mesh (four_of h))
          k.weather h.weather v.going c.requires.once (omega arith) refl c.tick_frame.ensures.ticks
          c.tick_frame.ensures.others c.tick_frame.ensures.marks;
      rest = c.tick_frame.ensures.rest ∙ ap (travelled (mesh (four_of h)) h.weather) v.rest
          ∙ travelled_twice (mesh (four_of k)) (mesh (four_of h)) k.weather h.weather (four_of m);
      keeps = after_two 4 4 m k h v.keeps c.tick_frame.ensures.keeps;
    }

pub returns-clause-ticked : goal.returns-clause-ticked
returns-clause-ticked g c =
    let m = c.args.self.now in
    let k = c.loop-i.self in
    let all : c.loop-i.i ≡ length c.args.order.now = omega arith in
    subst (λ n. Ticked g.W.Weather.next g.W.Weather.follows c.args.order.now (mesh (four_of m)) (mesh (four_of k))
    m.weather k.weather n) all c.loop-i.invariant.going.ticked
