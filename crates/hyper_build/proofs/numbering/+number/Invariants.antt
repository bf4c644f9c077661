use Rattle.std.proofs.Common.{◌≡◌, ◌≤◌, ◌-◌, length, drop}
use Rattle.ir_forms.specs.inside.FlatViews.{code_of}
use Rattle.hyper_build.specs.inside.Ground.{plan}
use Rattle.hyper_build.specs.inside.Forward.{number, number_turn}
use Rattle.hyper_build.proofs.numbering.+number.Given as goal

abbrev pub invariant-number_stmts-loop-at : goal.invariant-number_stmts-loop-at
invariant-number_stmts-loop-at l = record {
  within : l.at ≤ length l.stmts;
  done : number (plan l.site) (code_of (drop l.at l.stmts)) l.numbering
      ≡ number (plan l.site) (code_of l.stmts) l.fn.numbering;
}

abbrev pub decreases-number_stmts-loop-at : goal.decreases-number_stmts-loop-at
decreases-number_stmts-loop-at l = length l.stmts - l.at

abbrev pub invariant-number_turn-loop-at : goal.invariant-number_turn-loop-at
invariant-number_turn-loop-at l = record {
  within : l.at ≤ length l.stmts;
  done : number_turn (plan l.site) (code_of (drop l.at l.stmts)) l.numbering
      ≡ number_turn (plan l.site) (code_of l.stmts) l.fn.numbering;
}

abbrev pub decreases-number_turn-loop-at : goal.decreases-number_turn-loop-at
decreases-number_turn-loop-at l = length l.stmts - l.at
