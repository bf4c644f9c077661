use Rattle.std.proofs.Common.{Some}
use Rattle.grid_cycle.proofs.Starts.{is_ran}
use Rattle.grid_cycle.specs.Engines.{blocks_of, grid_of}
use Rattle.grid_cycle.proofs.seeded.run_out.Goals as goal

pub returns-clause-ran : goal.returns-clause-ran
returns-clause-ran c = λ s conditions fresh e.
    let x = c.args.grid in
    let y = c.run-ending.new.self in
    let r = c.run-ending.ensures in
    is_ran (blocks_of x) s x.window.budget conditions (Some c.run-ending.result) (grid_of y) fresh (grid_of x) e r.run
    (λ k. r.few) r.commits (r.comes c.requires.goes)
