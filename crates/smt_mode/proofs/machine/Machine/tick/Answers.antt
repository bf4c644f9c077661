use Rattle.std.proofs.Common.{◌<◌, length, sym, ◌∙◌, subst}
use Rattle.std.specs.Prelude.{All}
use Rattle.operand_net.specs.Tick.{Ticked}
use Rattle.operand_net.specs.inside.Places.{Once}
use Rattle.grid_machine.proofs.NumberFacts.{all_below, each_once}
use Rattle.smt_spec.specs.Programs.{mesh}
use Rattle.smt_mode.specs.Machines.{four_of}
use Rattle.smt_mode.proofs.MeshOrder.{order_numbers}
use Rattle.smt_mode.proofs.machine.Machine.tick.Goals as goal

pub tick_frames-requires-clause-within : goal.tick_frames-requires-clause-within
tick_frames-requires-clause-within g c =
    subst (All (λ f. f < 8)) (sym (c.as_slice.ensures.value ∙ c.order-order.ensures.value)) (all_below _
    (order_numbers (four_of c.args.self.now) c.requires.frames c.args.programs.now c.requires.distinct
    c.requires.within c.order-order.ensures.apart))

pub tick_frames-requires-clause-once : goal.tick_frames-requires-clause-once
tick_frames-requires-clause-once g c =
    subst Once (sym (c.as_slice.ensures.value ∙ c.order-order.ensures.value)) (each_once _
    (order_numbers (four_of c.args.self.now) c.requires.frames c.args.programs.now c.requires.distinct
    c.requires.within c.order-order.ensures.apart))

pub returns-clause-ticked : goal.returns-clause-ticked
returns-clause-ticked g c =
    let m = c.args.self.now in
    let h = c.tick_frames.new.self in
    subst (λ ns. Ticked g.W.Weather.next g.W.Weather.follows ns (mesh (four_of m)) (mesh (four_of h)) m.weather
    h.weather (length ns)) (c.as_slice.ensures.value ∙ c.order-order.ensures.value) c.tick_frames.ensures.ticked
