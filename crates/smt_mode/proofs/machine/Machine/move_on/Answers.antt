use Rattle.std.proofs.Common.{◌+◌, refl, ap, ◌∙◌, arith}
use Rattle.smt_mode.specs.Machines.{four_by, four_of, images_of}
use Rattle.smt_mode.proofs.CycleOf.{moves_by}
use Rattle.smt_mode.proofs.Counted.{ready_more}
use Rattle.smt_mode.proofs.machine.Machine.move_on.Goals as goal

pub arrive_each-requires-clause-ready : goal.arrive_each-requires-clause-ready
arrive_each-requires-clause-ready g c = c.tick.ensures.keeps.ready

pub returns-clause-change : goal.returns-clause-change
returns-clause-change g c =
    let m = c.args.self.now in
    let x = c.tick.new.self in
    let y = c.arrive_each.new.self in
    let k = c.tick.ensures.keeps in
    moves_by g.W.Weather.next g.W.Weather.follows (images_of m) (images_of x) m.budget x.budget k.images k.budget
    c.args.programs.now (four_of m) (four_of x) (four_of y)
    (four_by y.programs.items y.units y.weather (y.cycles + 1))
    c.tick.ensures.rest c.tick.ensures.ticked c.arrive_each.ensures.change refl

pub returns-clause-images : goal.returns-clause-images
returns-clause-images g c = c.arrive_each.ensures.keeps.images ∙ c.tick.ensures.keeps.images

pub returns-clause-budget : goal.returns-clause-budget
returns-clause-budget g c = c.arrive_each.ensures.keeps.budget ∙ c.tick.ensures.keeps.budget

pub returns-clause-cycles : goal.returns-clause-cycles
returns-clause-cycles g c = ap (λ n. n + 1) (c.arrive_each.ensures.keeps.cycles ∙ c.tick.ensures.keeps.cycles)

pub returns-clause-ready : goal.returns-clause-ready
returns-clause-ready g c =
    let y = c.arrive_each.new.self in
    let e = c.arrive_each.ensures.keeps.cycles ∙ c.tick.ensures.keeps.cycles in
    let l = c.requires.cycles in
    ready_more y.programs.items y.budget y.cycles (omega (arith, e, l)) c.arrive_each.ensures.keeps.ready
