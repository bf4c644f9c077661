use Rattle.std.proofs.Common.{ap, ◌∙◌}
use Rattle.smt_spec.specs.Parts.{gives}
use Rattle.smt_spec.specs.Turns.{all_do}
use Rattle.smt_mode.specs.Machines.{four_of}
use Rattle.smt_mode.proofs.FetchesOf.{after_two}
use Rattle.smt_mode.proofs.UnitsOn.{last_of, less_of}
use Rattle.smt_mode.proofs.machine.Machine.unit_less.Goals as goal

pub give_each-requires-clause-ready : goal.give_each-requires-clause-ready
give_each-requires-clause-ready g c = c.set_busy.ensures.keeps.ready

pub returns-then-left-eq0-clause-change : goal.returns-then-left-eq0-clause-change
returns-then-left-eq0-clause-change g c =
    c.give_each.ensures.change ∙ ap (all_do (gives c.args.tile) c.args.programs.now) c.set_busy.ensures.change
    ∙ last_of c.args.programs.now c.args.tile c.args.left (four_of c.args.self.now) c.if-left-eq0.true

pub returns-then-left-eq0-clause-marks : goal.returns-then-left-eq0-clause-marks
returns-then-left-eq0-clause-marks g c = λ marks k. c.give_each.ensures.marks marks (c.set_busy.ensures.marks marks k)

pub returns-then-left-eq0-clause-keeps : goal.returns-then-left-eq0-clause-keeps
returns-then-left-eq0-clause-keeps g c = after_two 4 4 c.args.self.now c.set_busy.new.self c.give_each.new.self
    c.set_busy.ensures.keeps c.give_each.ensures.keeps

pub returns-else-left-eq0-clause-change : goal.returns-else-left-eq0-clause-change
returns-else-left-eq0-clause-change g c =
    c.set_busy.ensures.change
    ∙ less_of c.args.programs.now c.args.tile c.args.left (four_of c.args.self.now) c.if-left-eq0.false
