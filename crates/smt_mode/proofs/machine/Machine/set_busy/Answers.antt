use Rattle.std.proofs.Common.{ℕ, ◌<◌, length, ap, arith}
use Rattle.grid_parts.proofs.RowFacts.{set_row}
use Rattle.smt_mode.specs.Machines.{four_of}
use Rattle.smt_mode.proofs.OneProgram.{kept_still}
use Rattle.smt_mode.proofs.machine.Machine.set_busy.Goals as goal

pub returns-clause-change : goal.returns-clause-change
returns-clause-change g c =
    let m = c.args.self.now in
    let inside : c.args.tile < length m.units = omega arith in
    ap (λ (u : ℕ → ℕ). record (four_of m) { units = u }) (set_row m.units c.args.tile c.args.left 0 inside)

pub returns-clause-keeps : goal.returns-clause-keeps
returns-clause-keeps g c =
    let m = c.args.self.now in
    kept_still 4 m.programs.items m.budget m.cycles c.requires.ready
