use Rattle.std.proofs.Common.{◌<◌, ◌^◌, sym, ◌∙◌, subst, arith}
use Rattle.smt_mode.specs.Machines.{four_of, images_of}
use Rattle.smt_mode.specs.inside.Histories.{HasCome}
use Rattle.smt_mode.proofs.Histories.{come_on, few_cycles, two_frames}
use Rattle.smt_mode.proofs.running.cycle_going.Goals as goal

pub cycle-requires-clause-frames : goal.cycle-requires-clause-frames
cycle-requires-clause-frames g c =
    let m = c.args.machine.now in
    two_frames (images_of m) m.budget m.programs.items m.units m.weather m.cycles c.requires.engine.ready.four
    c.requires.engine.come.rule

pub cycle-requires-clause-ready : goal.cycle-requires-clause-ready
cycle-requires-clause-ready g c = c.requires.engine.ready

pub cycle-requires-clause-cycles : goal.cycle-requires-clause-cycles
cycle-requires-clause-cycles g c =
    let m = c.args.machine.now in
    let room = c.requires.engine.ready.cycles in
    let small = c.requires.engine.small in
    let few =
    few_cycles g.W.Weather.next g.W.Weather.follows g.met.W.Weather.bounded (images_of m) m.budget (four_of m)
    c.requires.engine.come (omega (arith, room)) (λ z. c.requires.some (c.requires.going ∙ z)) in
    omega (arith, few, small)

pub returns-clause-engine : goal.returns-clause-engine
returns-clause-engine g c =
    let m = c.args.machine.now in
    let h = c.cycle.new.self in
    let next = g.W.Weather.next in
    let follows = g.W.Weather.follows in
    let e = c.cycle.ensures in
    record {
      ready = e.ready;
      small = subst (λ n. n < 2 ^ 32) (sym e.budget) c.requires.engine.small;
      come = subst (λ bs. HasCome next follows bs h.budget (four_of h)) (sym e.images)
          (subst (λ n. HasCome next follows (images_of m) n (four_of h)) (sym e.budget)
          (come_on next follows g.met.W.Weather.bounded (images_of m) m.budget (four_of m) (four_of h)
          c.requires.engine.come e.eager (λ z. c.requires.some (c.requires.going ∙ z))));
    }
