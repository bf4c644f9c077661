use Rattle.std.proofs.Common.{arith}
use Rattle.std.proofs.lemmas.Grind.{common_steps}
use Rattle.ir_forms.specs.declared.fault.FlowFault.{FlowFault}
use Rattle.hyper_narrow.specs.inside.NarrowedViews.{narrowed_of}
use Rattle.c_compile_blocks.specs.inside.Refusals.{IsRefused}
use Rattle.c_compile_blocks.proofs.Passes.{is_flow, by_first, by_second, handed_on}
use Rattle.c_compile_blocks.proofs.blocks.flow_block.Goals as goal

pub returns-in_err-convert-clause-err : goal.returns-in_err-convert-clause-err
returns-in_err-convert-clause-err c =
    let bad = by_first (narrowed_of c.args.block.now) c.in_err-convert.field-0.0 c.in_err-convert.ensures.err in
    grind (arith, common_steps, bad)

pub returns-in_err-flow-clause-err : goal.returns-in_err-flow-clause-err
returns-in_err-flow-clause-err c =
    let bad = by_second (narrowed_of c.args.block.now) c.in_ok-convert.field-0 c.in_err-flow.field-0.0
    c.in_ok-convert.ensures.ok c.in_ok-convert.ensures.room c.in_err-flow.ensures.err in
    handed_on (λ (e : FlowFault). IsRefused (narrowed_of c.args.block.now) e) c.from_residual-in_err-flow.result
    c.in_err-flow.field-0.0 (grind (arith, common_steps)) bad

pub returns-clause-ok : goal.returns-clause-ok
returns-clause-ok c =
    is_flow (narrowed_of c.args.block.now) c.in_ok-convert.field-0 c.in_ok-flow.flow c.in_ok-convert.ensures.ok
    c.in_ok-convert.ensures.room c.in_ok-flow.ensures.ok.0 c.in_ok-flow.ensures.ok.1
