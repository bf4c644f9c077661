use Rattle.std.proofs.Common.{map, take}
use Rattle.ir_forms.specs.inside.FlatViews.{function_of}
use Rattle.hyper_plan.specs.inside.Answers.{AreAnswers}
use Rattle.hyper_plan.proofs.plans.greedy.Given as goal

-- the answers of the functions before
abbrev pub invariant-loop-f : goal.invariant-loop-f
invariant-loop-f l = AreAnswers l.rooms (map function_of (take l.f l.functions)) l.cuts
