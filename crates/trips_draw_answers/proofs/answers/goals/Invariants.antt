use Rattle.std.proofs.Common.{◌≡◌, ◌++◌, drop, map}
use Rattle.trips_draw_answers.specs.Drawn.{goal_at}
use Rattle.trips_draw_answers.proofs.answers.goals.Given as goal

-- those so far, and those of the slots to come
abbrev pub invariant-loop-inst : goal.invariant-loop-inst
invariant-loop-inst l =
    l.all.items ++ map (goal_at l.image.blocks l.number) (drop l.inst-index l.slots)
    ≡ map (goal_at l.image.blocks l.number) l.slots
