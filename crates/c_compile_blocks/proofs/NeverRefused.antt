-- No pass refuses a block within all limits for its size.
use Rattle.std.proofs.Common.{◌≡◌, ◌⊎◌, inl, inr, refl, arith}
use Rattle.ir_forms.specs.declared.fault.Part.TheVariants.{Insts, Reads, Writes, Numbers, Exits}
use Rattle.ir_forms.specs.declared.fault.FlowFault.{FlowFault}
use Rattle.ir_forms.specs.declared.fault.FlowFault.TheVariants.{TooBig, Memory}
use Rattle.ir_forms.specs.inside.HyperFits.{FitsHyper, IsSmall}
use Rattle.hyper_narrow.specs.inside.NarrowedCode.{Narrowed}
use Rattle.predication.specs.inside.Tails.{labelled}
use Rattle.predication.specs.inside.Outcomes.{Counts, HasRoomFor, counts_of}
use Rattle.predication.specs.inside.Outcomes as convert
use Rattle.c_compile_blocks.specs.inside.Limits.{FitsMachine}
use Rattle.c_compile_blocks.specs.inside.Refusals.{IsRefused, IsIncomplete, IsUntargeted}
use Rattle.c_compile_blocks.proofs.FittingPrograms.{only_memory}
use Rattle.c_compile_blocks.proofs.SmallFit.{small_fits}

room_for : (b : Narrowed) → FitsMachine b → HasRoomFor (counts_of (labelled b))
unfolding counts_of
room_for b f =
    let p = f.parts in
    record { insts = p.nodes; reads = p.reads; writes = p.writes; numbers = p.numbers; exits = p.exits }

by_convert : (c : Counts) (e : FlowFault) → HasRoomFor c → convert.IsRefusal c e → e ≡ Memory
by_convert c Memory r h = refl
by_convert c (TooBig Insts n) r h =
    let a = r.insts in let x = h.0 in let y = h.1 in absurd (omega (arith, a, x, y))
by_convert c (TooBig Reads n) r h =
    let a = r.reads in let x = h.1 in let y = h.2 in absurd (omega (arith, a, x, y))
by_convert c (TooBig Writes n) r h =
    let a = r.writes in let x = h.2 in let y = h.3 in absurd (omega (arith, a, x, y))
by_convert c (TooBig Numbers n) r h =
    let a = r.numbers in let x = h.3 in let y = h.4 in absurd (omega (arith, a, x, y))
by_convert c (TooBig Exits n) r h =
    let a = r.exits in let x = h.4 in let y = h.5 in absurd (omega (arith, a, x, y))

-- no pass refuses a block within all limits
pub never_refused : (b : Narrowed) (e : FlowFault) → IsRefused b e → FitsMachine b → e ≡ Memory
never_refused b e h f = go h.first
  where
    go : convert.IsRefusal (counts_of (labelled b)) e ⊎ IsIncomplete b e ⊎ IsUntargeted b e → e ≡ Memory
    go (inl x) = by_convert (counts_of (labelled b)) e (room_for b f) x
    go (inr (inl x)) = let n = only_memory b f in n.completing e x.refused
    go (inr (inr x)) = let n = only_memory b f in n.targeting e x.refused

-- nor a small one
pub small_never : (b : Narrowed) (e : FlowFault) → IsRefused b e → IsSmall b.block → FitsHyper b.block
    → e ≡ Memory
small_never b e h small fits = never_refused b e h (small_fits b small fits)
