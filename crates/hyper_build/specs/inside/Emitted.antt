-- What emitters do. They go backward over the program, so that what comes later is there already.
use Rattle.std.specs.Prelude.{List, map, reverse}
use Rattle.ir_forms.specs.declared.hyper.HyperBlock.{HyperBlock}
use Rattle.ir_forms.specs.inside.HyperCode.{Block}
use Rattle.ir_forms.specs.inside.HyperViews.{items_of, tail_of, block_of}
use Rattle.hyper_build.specs.declared.rest.Rest.{Rest}

-- the rest of a block, whose items are held last first
abbrev pub rest_of : Rest → Block
rest_of r = record { items = items_of (reverse r.items); tail = tail_of r.tail }

-- the blocks that are put out, which are held last first
abbrev pub out_of : List HyperBlock → List Block
out_of out = map block_of (reverse out)
