use Rattle.std.proofs.Common.{◌≡◌, false, List, map, subst}
use Rattle.std.proofs.lemmas.Result.{IfOk-weaker, IfErr-weaker}
use Rattle.trips_isa.specs.declared.block.Block.{Block}
use Rattle.ir_forms.specs.declared.fault.FlowFault.{FlowFault}
use Rattle.ir_forms.specs.declared.fault.FlowFault.TheVariants.{Memory}
use Rattle.hyper_narrow.specs.declared.narrowed.NarrowedBlock.{NarrowedBlock}
use Rattle.hyper_narrow.specs.inside.NarrowedViews.{narrowed_of, narrowed_blocks}
use Rattle.c_compile_blocks.specs.inside.Blocks.{ArePassed, AreMachineBlocks}
use Rattle.c_compile_blocks.specs.inside.Refusals.{FitMachine, HasRefused}
use Rattle.c_compile_blocks.proofs.Programs.{are_machine_blocks, none_refused}
use Rattle.c_compile_blocks.proofs.blocks.machine_blocks.Goals as goal

pub returns-clause-machine : goal.returns-clause-machine
returns-clause-machine c =
    let t = c.args.is_eased in
    let p = c.args.placing in
    let B = narrowed_blocks c.args.program.now in
    IfOk-weaker c.all_blocks.result (λ (us : List Block). ArePassed t p (map narrowed_of c.as_slice.result.now) us)
    (λ (us : List Block). t ≡ false → FitMachine B → AreMachineBlocks p B us)
    (λ us h e f. are_machine_blocks t p B us
    (subst (λ (bs : List NarrowedBlock). ArePassed t p (map narrowed_of bs) us)
    c.as_slice.ensures.value h) e f) c.all_blocks.ensures.ok

pub returns-clause-fits : goal.returns-clause-fits
returns-clause-fits c =
    let t = c.args.is_eased in
    let p = c.args.placing in
    let B = narrowed_blocks c.args.program.now in
    IfErr-weaker c.all_blocks.result (λ (e : FlowFault). HasRefused t p (map narrowed_of c.as_slice.result.now) e)
    (λ (e : FlowFault). FitMachine B → e ≡ Memory)
    (λ e h f. none_refused t p B e (subst (λ (bs : List NarrowedBlock). HasRefused t p (map narrowed_of bs) e)
    c.as_slice.ensures.value h) f) c.all_blocks.ensures.err
