use Rattle.std.proofs.Common.{arith}
use Rattle.std.proofs.lemmas.Grind.{common_steps}
use Rattle.ir_forms.specs.declared.fault.FlowFault.{FlowFault}
use Rattle.hyper_narrow.specs.inside.NarrowedViews.{narrowed_of}
use Rattle.c_compile_blocks.specs.inside.Refusals.{IsRefused}
use Rattle.c_compile_blocks.proofs.Passes.{plain_passed, by_third, handed_on}
use Rattle.c_compile_blocks.proofs.blocks.plain_block.Goals as goal

pub returns-in_err-placed-clause-err : goal.returns-in_err-placed-clause-err
returns-in_err-placed-clause-err c =
    let bad = by_third (narrowed_of c.args.block.now) c.in_ok-flow.flow c.in_err-placed.field-0.0
    c.in_ok-flow.ensures.ok c.in_err-placed.ensures.err in
    handed_on (λ (e : FlowFault). IsRefused (narrowed_of c.args.block.now) e) c.from_residual-in_err-placed.result
    c.in_err-placed.field-0.0 (grind (arith, common_steps)) bad

pub returns-clause-ok : goal.returns-clause-ok
returns-clause-ok c =
    plain_passed c.args.placing (narrowed_of c.args.block.now) c.in_ok-flow.flow c.in_ok-placed.placed
    c.in_ok-flow.ensures.ok c.in_ok-placed.ensures.ok
