use Rattle.std.proofs.Common.{◌≡◌, ap, ◌∙◌, arith}
use Rattle.commit_flush.specs.Seen.{Seen}
use Rattle.grid_cycle.proofs.Starts.{started_cycles, started_going}
use Rattle.grid_cycle.specs.Engines.{blocks_of, grid_of}
use Rattle.grid_counted.proofs.SeedRuns.{has_counted, starts_engine}
use Rattle.grid_counted.proofs.seeded.run_out.Goals as goal

pub run-ending-requires : goal.run-ending-requires
run-ending-requires c =
    let x = c.args.grid in
    let s = c.requires.started in
    let small : c.budget.result ≡ x.window.budget =
    c.budget.ensures.value ∙ ap (λ (v : Seen). v.budget) c.window.ensures.value in
    record {
      engine = starts_engine (blocks_of x) x.window.budget (grid_of x) c.keeps_invariant.ensures.blocks
          (omega (arith, small)) c.keeps_invariant.ensures.window s c.requires.kept;
      none = started_cycles s.state s.conditions (grid_of x) s.starts;
      goes = started_going s.state s.conditions x.window.budget (grid_of x) s.fresh c.requires.some s.starts;
    }

pub returns-clause-ran : goal.returns-clause-ran
returns-clause-ran c = λ s conditions fresh starts.
    let x = c.args.grid in
    let r = c.run-ending.ensures in
    has_counted (blocks_of x) s x.window.budget conditions c.run-ending.result (grid_of x)
    (grid_of c.run-ending.new.grid)
    c.none-told.result c.run-ending.new.told c.none-flights.result c.run-ending.new.flights fresh starts
    c.none-told.ensures c.none-flights.ensures r.counted r.few r.commits r.comes
