use Rattle.std.proofs.Common.{◌≡◌, ◌+◌, length, drop, true}
use Rattle.ir_forms.specs.inside.FlatFits.{steps_of}
use Rattle.ir_forms.specs.inside.FlatViews.{code_of}
use Rattle.hyper_plan.specs.inside.Answers.{only_cuts}
use Rattle.hyper_plan.proofs.walk.+walk.Given as goal

abbrev pub invariant-walk_stmts-loop-s : goal.invariant-walk_stmts-loop-s
invariant-walk_stmts-loop-s l = record {
  size : length l.walk.answers + steps_of (code_of (drop l.s-index l.stmts))
      ≡ length l.fn.walk.answers + steps_of (code_of l.stmts);
  cuts : l.site.room ≡ 0 → only_cuts l.fn.walk.answers ≡ true → only_cuts l.walk.answers ≡ true;
}
