-- That there are generations for as many events as are left: they are few for each block of a budget.
use Rattle.std.proofs.Common.{ℕ, ◌+◌, ◌-◌, ◌*◌, ◌^◌, ◌<◌, ◌≤◌, List, length, slice_index, arith}
use Rattle.trips_isa.specs.declared.block.Block.{Block}
use Rattle.trips_isa.specs.declared.run.Stepped.{Stepped}
use Rattle.trips_isa.specs.declared.run.Stepped.TheVariants.{Went, Ended, StackFull, Trap}
use Rattle.commit_flush_spec.specs.Older.{committed}
use Rattle.commit_flush_spec.specs.Window.{Window}
use Rattle.commit_flush_spec.specs.inside.Laws.{WindowOk}
use Rattle.commit_flush_spec.specs.inside.Work.{oldest_left, work_while, work}
use Rattle.commit_flush_spec.specs.inside.DrivingLaws.{HasGenerations}
use Rattle.commit_flush_spec.proofs.FramesSeen.{most_of}

most_while : (o : Stepped) (n : ℕ) → work_while o n ≤ n
most_while Went n = omega arith
most_while Ended n = omega arith
most_while StackFull n = omega arith
most_while (Trap c) n = omega arith

-- work is at most 1,638 for each block of the budget, and 1,637 for the oldest frame
most_work : (blocks : List Block) (budget : ℕ) (w : Window) → WindowOk blocks budget w
    → work budget w ≤ budget * 1638 + 1637
most_work blocks budget w ok =
    let a : oldest_left w.frames ≤ 1637 = most_of blocks w.frames (committed w.state) ok.frames in
    let b : work budget w ≤ (budget - length w.state.trace) * 1638 + oldest_left w.frames =
    most_while w.over ((budget - length w.state.trace) * 1638 + oldest_left w.frames) in
    omega (arith, a, b)

fits : (g n b p q r : ℕ) → g < p → n ≤ b * 1638 + 1637 → b < q → p + q * 1638 ≤ r → g + n < r
fits g n b p q r a c d e = omega (arith, a, c, d, e)

-- below 2 ^ 62 a generation can rise as often as events are left
pub has_generations : (blocks : List Block) (budget : ℕ) (w : Window) → WindowOk blocks budget w → budget < 2 ^ 32
    → slice_index w.generations 0 < 2 ^ 62 → HasGenerations budget w
has_generations blocks budget w ok small young =
    fits (slice_index w.generations 0) (work budget w) budget (2 ^ 62) (2 ^ 32) (2 ^ 64) young
    (most_work blocks budget w ok) small (omega arith)
