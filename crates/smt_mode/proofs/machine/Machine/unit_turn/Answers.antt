use Rattle.std.proofs.Common.{ap, ap₂, ◌∙◌}
use Rattle.smt_spec.specs.Parts.{issues_of}
use Rattle.smt_mode.specs.Machines.{four_of, images_of}
use Rattle.smt_mode.proofs.FetchesOf.{after_two}
use Rattle.smt_mode.proofs.machine.Machine.unit_turn.Goals as goal

pub issues-requires-clause-ready : goal.issues-requires-clause-ready
issues-requires-clause-ready g c = c.unit_on.ensures.keeps.ready

pub issues-requires-clause-marked : goal.issues-requires-clause-marked
issues-requires-clause-marked g c = c.unit_on.ensures.marks c.args.marks.now c.requires.marked

pub returns-clause-change : goal.returns-clause-change
returns-clause-change g c =
    let m = c.args.self.now in
    let k = c.unit_on.ensures.keeps in
    c.issues.ensures.change
    ∙ ap₂ (λ bs b. issues_of bs b c.args.programs.now c.args.tile (four_of c.unit_on.new.self)) k.images k.budget
    ∙ ap (issues_of (images_of m) m.budget c.args.programs.now c.args.tile) c.unit_on.ensures.change

pub returns-clause-keeps : goal.returns-clause-keeps
returns-clause-keeps g c = after_two 4 4 c.args.self.now c.unit_on.new.self c.issues.new.self
    c.unit_on.ensures.keeps c.issues.ensures.keeps
