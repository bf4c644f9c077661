use Rattle.std.proofs.Common.{◌≡◌, ◌≤◌, length, drop}
use Rattle.ir_forms.specs.inside.FlatViews.{code_of}
use Rattle.reg_assign.specs.inside.Pass as pass
use Rattle.reg_assign.proofs.walking.+walk.Given as goal

abbrev pub invariant-walk_stmts-loop-at : goal.invariant-walk_stmts-loop-at
invariant-walk_stmts-loop-at l = record {
  within : l.at ≤ length l.stmts;
  walked : l.walk ≡ pass.walk (code_of (drop l.at l.stmts)) l.on_break l.on_continue l.fn.walk;
}

abbrev pub decreases-walk_stmts-loop-at : goal.decreases-walk_stmts-loop-at
decreases-walk_stmts-loop-at l = l.at
