use Rattle.std.proofs.Common.{◌≡◌, ◌+◌, ◌-◌, slice_index_or, sym, ap, ◌∙◌, arith}
use Rattle.smt_spec.specs.Parts.{unit_on_of}
use Rattle.smt_mode.specs.Machines.{four_of}
use Rattle.smt_mode.proofs.OneProgram.{kept_still}
use Rattle.smt_mode.proofs.machine.Machine.unit_on.Goals as goal

pub returns-then-left-gt0-clause-change : goal.returns-then-left-gt0-clause-change
returns-then-left-gt0-clause-change g c =
    let m = c.args.self.now in
    let same : slice_index_or m.units c.args.tile 0 - 1 + 1 ≡ slice_index_or m.units c.args.tile 0 = omega arith in
    c.unit_less.ensures.change ∙ ap (λ n. unit_on_of c.args.programs.now c.args.tile n (four_of m)) same

pub returns-else-left-gt0-clause-change : goal.returns-else-left-gt0-clause-change
returns-else-left-gt0-clause-change g c =
    let m = c.args.self.now in
    let none : slice_index_or m.units c.args.tile 0 ≡ 0 = omega arith in
    sym (ap (λ n. unit_on_of c.args.programs.now c.args.tile n (four_of m)) none)

pub returns-else-left-gt0-clause-keeps : goal.returns-else-left-gt0-clause-keeps
returns-else-left-gt0-clause-keeps g c =
    let m = c.args.self.now in
    kept_still 4 m.programs.items m.budget m.cycles c.requires.ready
