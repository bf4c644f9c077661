-- The image of a program has a guarded instruction for each small if.
use Rattle.std.proofs.Common.{◌≡◌, ℕ, ◌≤◌, List, Some, slice_get, sym, subst, arith}
use Rattle.trips_isa.specs.declared.block.Block.{Block}
use Rattle.trips_isa.specs.declared.block.Image.{Image}
use Rattle.trips_isa.specs.Images.{chunk_of}
use Rattle.ir_forms.specs.inside.FlatFits.{small_ifs_of_all}
use Rattle.ir_forms.specs.inside.HyperFits.{FitsHyper}
use Rattle.hyper_narrow.specs.inside.NarrowedCode.{Narrowed}
use Rattle.hyper_build.specs.inside.Laws.{plan_of}
use Rattle.predication.specs.inside.Tails.{labelled}
use Rattle.grid_place.specs.declared.placed.Placing.{Placing}
use Rattle.grid_place.specs.Moves.{goes}
use Rattle.c_compile_laws.specs.Counts.{guarded_in}
use Rattle.c_compile_laws.specs.inside.GuardLaws.{AreGuarded}
use Rattle.c_compile_laws.proofs.Compiled.{blocks_pass}
use Rattle.c_compile_laws.proofs.Machines.{machines}
use Rattle.c_compile_laws.proofs.GuardPrograms.{programs}
use Rattle.c_compile_laws.proofs.UnrolledPrograms.{unrolled_ifs}
use Rattle.c_compile_blocks.specs.inside.Blocks.{AreMachineBlocks}
use Rattle.c_compile_laws.specs.inside.Laws.{GuardsSmallIfs}

-- each machine block has as many guarded instructions as its narrowed block has filled if-items
are_guarded : (p : Placing) (B : List Narrowed) (us : List Block) → AreMachineBlocks p B us
    → ((k : ℕ) (b : Narrowed) → slice_get B k ≡ Some b → FitsHyper b.block) → AreGuarded B us
are_guarded p B us all fit = record {
  size = all.size;
  each = λ k b u is_b is_u.
      let m = all.each k b u is_b is_u in
      machines (goes m.placed.to) m.placed.permutes.back (labelled b) m.flow m.target u (fit k b is_b).items
      m.stands.guards m.room m.targeted m.placed.permutes.permutes m.placed.moved;
}

-- the image has at least as many guarded instructions other than branches as the flat program has small ifs
pub guards_small_ifs : GuardsSmallIfs
guards_small_ifs P F t p w i m c =
    let pass = blocks_pass P F t p w i m c in
    let g = are_guarded p c.left c.blocks c.made (λ k x e. pass.fit k x e) in
    let x = unrolled_ifs c.times (plan_of c.cuts c.joins c.groups) F c.left c.narrows in
    let y = programs (chunk_of c.blocks) 0 c.left c.blocks g in
    subst (λ (j : Image). small_ifs_of_all F.functions ≤ guarded_in j.blocks) (sym c.is) (omega (arith, x, y))
