-- The blocks of a program whose plan cuts everywhere fit the machine, and none of them is refused.
use Rattle.std.proofs.Common.{◌≡◌, [], refl, arith}
use Rattle.ir_forms.specs.declared.flow.FlowBlock.{FlowBlock}
use Rattle.hyper_build.proofs.Assigned.{gives_assigned, assigned_little}
use Rattle.hyper_narrow.specs.inside.NarrowedCode.{whole}
use Rattle.predication.specs.inside.Tails.{labelled}
use Rattle.predication.specs.inside.Converted.{predicated}
use Rattle.null_outputs.specs.inside.Wants.{complete}
use Rattle.ir_forms.specs.declared.fault.FlowFault.{FlowFault}
use Rattle.ir_forms.specs.declared.fault.FlowFault.TheVariants.{TooBig, Memory}
use Rattle.ir_forms.specs.declared.fault.Part.TheVariants as part
use Rattle.null_outputs.specs.inside.Refusals as null_outputs
use Rattle.fan_out.specs.inside.Refusals as fan_out_refusals
use Rattle.fan_out.specs.inside.Targeted.{HasRoom}
use Rattle.fan_out.proofs.Rooms.{few_nodes}
use Rattle.c_compile_blocks.specs.inside.Limits.{CutProgramsFit, OnlyMemoryRefuses}
use Rattle.c_compile_blocks.proofs.Machine.{fits_machine}

-- each block of an assigned program whose plan cuts everywhere fits the machine
pub programs_fit : CutProgramsFit
programs_fit P lists groups fits assigned few k b e =
    let all = gives_assigned [] [] P lists groups fits assigned in
    fits_machine (whole b) (all.fit few k b e) (assigned_little P lists groups fits assigned k b e)

target_alone : (f : FlowBlock) → HasRoom f → (e : FlowFault) → fan_out_refusals.IsRefusal f e → e ≡ Memory
target_alone f room Memory r = refl
target_alone f room (TooBig part.Insts n) r =
    let a = room.insts in let b = r.0 in let c = r.1 in absurd (omega (arith, a, b, c))
target_alone f room (TooBig part.Reads n) r =
    let a = room.reads in let b = r.1 in let c = r.2 in absurd (omega (arith, a, b, c))
target_alone f room (TooBig part.Writes n) r =
    let a = room.writes in let b = r.2 in let c = r.3 in absurd (omega (arith, a, b, c))
target_alone f room (TooBig part.Numbers n) r = absurd r
target_alone f room (TooBig part.Exits n) r = absurd r

complete_alone : (c : FlowBlock) → HasRoom c → (e : FlowFault) → null_outputs.IsOver c e → e ≡ Memory
complete_alone c room Memory r = refl
complete_alone c room (TooBig part.Insts n) r =
    let a = few_nodes c room in let x = r.0 in let y = r.1 in absurd (omega (arith, a, x, y))
complete_alone c room (TooBig part.Reads n) r =
    let a = room.reads in let x = r.1 in let y = r.2 in absurd (omega (arith, a, x, y))
complete_alone c room (TooBig part.Writes n) r =
    let a = room.writes in let x = r.2 in let y = r.3 in absurd (omega (arith, a, x, y))
complete_alone c room (TooBig part.Numbers n) r = absurd r
complete_alone c room (TooBig part.Exits n) r = absurd r

-- a block within the limits is refused for want of memory only
pub only_memory : OnlyMemoryRefuses
only_memory b fits =
    let f = complete (predicated (labelled b)) in
    record {
      completing = λ e r. complete_alone f fits.room e r;
      targeting = λ e r. target_alone f fits.room e r;
    }
