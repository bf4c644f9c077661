use Rattle.frame_state.specs.inside.Phases.{HasBlock}
use Rattle.window_tests.proofs.frame_tests.assert_rows.Given as goal

abbrev pub invariant-loop-row : goal.invariant-loop-row
invariant-loop-row g l = HasBlock l.image.blocks l.phase
