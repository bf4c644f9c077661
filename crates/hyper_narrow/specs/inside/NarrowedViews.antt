-- The declared narrowed programs, seen as plain data.
use Rattle.std.specs.Prelude.{List, map}
use Rattle.hyper_narrow.specs.declared.narrowed.NarrowedBlock.{NarrowedBlock}
use Rattle.hyper_narrow.specs.declared.narrowed.NarrowedProgram.{NarrowedProgram}
use Rattle.ir_forms.specs.inside.HyperViews.{block_of}
use Rattle.hyper_narrow.specs.inside.NarrowedCode.{Narrowed}

-- a declared block with what outlasts it
abbrev pub narrowed_of : NarrowedBlock → Narrowed
narrowed_of c = record { block = block_of c.block; lasting = c.lasting }

-- the blocks of a declared program
abbrev pub narrowed_blocks : NarrowedProgram → List Narrowed
narrowed_blocks p = map narrowed_of p.blocks
