use Rattle.std.proofs.Common.{◌≡◌, false}
use Rattle.std.proofs.lemmas.Result.{IfOk-weaker, IfErr-weaker}
use Rattle.trips_isa.specs.declared.block.Block.{Block}
use Rattle.ir_forms.specs.declared.fault.FlowFault.{FlowFault}
use Rattle.ir_forms.specs.declared.fault.FlowFault.TheVariants.{Memory}
use Rattle.ir_forms.specs.inside.HyperFits.{FitsHyper, IsSmall}
use Rattle.hyper_narrow.specs.inside.NarrowedViews.{narrowed_of}
use Rattle.c_compile_blocks.specs.inside.Blocks.{IsMachineBlock, IsPassed}
use Rattle.c_compile_blocks.specs.inside.Limits.{FitsMachine}
use Rattle.c_compile_blocks.specs.inside.Refusals.{IsRefused}
use Rattle.c_compile_blocks.proofs.NeverRefused.{never_refused, small_never}
use Rattle.c_compile_blocks.proofs.Passes.{is_machine_block}
use Rattle.c_compile_blocks.proofs.blocks.machine_block.Goals as goal

pub returns-clause-machine : goal.returns-clause-machine
returns-clause-machine c =
    let t = c.args.is_eased in
    let p = c.args.placing in
    let b = narrowed_of c.args.block.now in
    IfOk-weaker c.passed_block.result (λ (u : Block). IsPassed t p b u)
    (λ (u : Block). t ≡ false → FitsMachine b → IsMachineBlock p b u)
    (λ u h e f. is_machine_block t p b u h e f) c.passed_block.ensures.ok

pub returns-clause-fits : goal.returns-clause-fits
returns-clause-fits c =
    let b = narrowed_of c.args.block.now in
    IfErr-weaker c.passed_block.result (λ (e : FlowFault). IsRefused b e)
    (λ (e : FlowFault). FitsMachine b → e ≡ Memory)
    (λ e h f. never_refused b e h f) c.passed_block.ensures.err

pub returns-clause-small : goal.returns-clause-small
returns-clause-small c =
    let b = narrowed_of c.args.block.now in
    IfErr-weaker c.passed_block.result (λ (e : FlowFault). IsRefused b e)
    (λ (e : FlowFault). IsSmall b.block → FitsHyper b.block → e ≡ Memory)
    (λ e h s f. small_never b e h s f) c.passed_block.ensures.err
