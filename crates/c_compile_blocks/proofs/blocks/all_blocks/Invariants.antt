use Rattle.std.proofs.Common.{map}
use Rattle.hyper_narrow.specs.inside.NarrowedViews.{narrowed_of}
use Rattle.c_compile_blocks.specs.inside.Blocks.{AreFirstPassed}
use Rattle.c_compile_blocks.proofs.blocks.all_blocks.Given as goal

-- those before are done
abbrev pub invariant-loop-block : goal.invariant-loop-block
invariant-loop-block l =
    AreFirstPassed l.is_eased l.placing (map narrowed_of l.program) l.block-index l.blocks
