use Rattle.std.proofs.Common.{◌≡◌, ◌≤◌, length, drop}
use Rattle.ir_forms.specs.inside.FlatViews.{code_of}
use Rattle.hyper_build.specs.inside.Backward.{emission_of}
use Rattle.hyper_build.specs.inside.BackwardCode as code
use Rattle.hyper_build.proofs.code.+emit.Given as goal

abbrev pub invariant-put_stmts-loop-at : goal.invariant-put_stmts-loop-at
invariant-put_stmts-loop-at l = record {
  within : l.at ≤ length l.stmts;
  done : emission_of l.emitting
      ≡ code.emit l.site l.broke l.again (code_of (drop l.at l.stmts)) (emission_of l.fn.emitting);
}

abbrev pub decreases-put_stmts-loop-at : goal.decreases-put_stmts-loop-at
decreases-put_stmts-loop-at l = l.at

abbrev pub invariant-put_turn-loop-at : goal.invariant-put_turn-loop-at
invariant-put_turn-loop-at l = record {
  within : l.at ≤ length l.stmts;
  done : emission_of l.emitting
      ≡ code.emit_turn l.site l.broke l.again (code_of (drop l.at l.stmts)) (emission_of l.fn.emitting);
}

abbrev pub decreases-put_turn-loop-at : goal.decreases-put_turn-loop-at
decreases-put_turn-loop-at l = l.at
