use Rattle.std.proofs.Common.{arith, map}
use Rattle.std.proofs.lemmas.Grind.{common_steps}
use Rattle.hyper_narrow.specs.inside.NarrowedViews.{narrowed_of}
use Rattle.c_compile_blocks.proofs.Programs.{none_passed, one_more, block_there, labels_there}
use Rattle.c_compile_blocks.proofs.Programs.{refused_there, memory_there}
use Rattle.c_compile_blocks.proofs.blocks.all_blocks.Goals as goal

pub loop-block-init : goal.loop-block-init
loop-block-init c =
    none_passed c.args.is_eased c.args.placing (map narrowed_of c.args.program.now) c.new-blocks.result
    c.new-blocks.ensures.value

pub machine_block-requires : goal.machine_block-requires
machine_block-requires c = record {
  labels = labels_there c.args.program.now c.loop-block.block-index c.block-item.result
      c.loop-block-test.true c.block-item.is c.requires.followed c.requires.few;
}

pub returns-in_err-machine_block-clause-err : goal.returns-in_err-machine_block-clause-err
returns-in_err-machine_block-clause-err c =
    let bad = refused_there c.args.is_eased c.args.placing c.args.program.now c.loop-block.block-index
    c.block-item.result c.loop-block.blocks c.in_err-machine_block.field-0.0 c.loop-block-test.true
    c.block-item.is c.loop-block.invariant c.in_err-machine_block.ensures.err in
    grind (arith, common_steps, bad)

pub returns-in_err-keep-clause-err : goal.returns-in_err-keep-clause-err
returns-in_err-keep-clause-err c =
    let bad = memory_there c.args.is_eased c.args.placing c.args.program.now c.loop-block.block-index
    c.block-item.result c.loop-block.blocks c.in_err-keep.field-0.0 c.loop-block-test.true
    c.block-item.is c.loop-block.invariant c.in_err-keep.ensures.err in
    grind (arith, common_steps, bad)

pub loop-block-preserved : goal.loop-block-preserved
loop-block-preserved c =
    one_more c.args.is_eased c.args.placing (map narrowed_of c.args.program.now) c.loop-block.block-index
    c.loop-block.blocks c.keep.new.blocks (narrowed_of c.block-item.result) c.in_ok-machine_block.field-0
    c.loop-block.invariant
    (block_there c.args.program.now c.loop-block.block-index c.block-item.result c.loop-block-test.true
    c.block-item.is) c.in_ok-machine_block.ensures.ok c.in_ok-keep.ensures.ok
