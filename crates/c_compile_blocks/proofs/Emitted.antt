-- The machine blocks that the passes make are what the layout takes.
use Rattle.std.proofs.Common.{◌≡◌, ℕ, zero, suc, ◌≤◌, List, [], ◌∷◌, length, Some}
use Rattle.std.proofs.Common.{slice_get, refl, sym, subst, arith}
use Rattle.std.specs.List.{All}
use Rattle.trips_isa.specs.declared.block.Block.{Block}
use Rattle.ir_forms.specs.inside.HyperFits.{FitsHyper, AllLeadOn}
use Rattle.ir_forms.specs.inside.HyperRuns.{Layout}
use Rattle.hyper_narrow.specs.inside.NarrowedCode.{Narrowed}
use Rattle.predication.specs.inside.Laws.{HasShortAddresses}
use Rattle.grid_place.specs.declared.placed.Placing.{Placing}
use Rattle.grid_place.specs.Moves.{goes}
use Rattle.c_compile_layout.specs.inside.Layouts.{laid_out, AreFew}
use Rattle.c_compile_layout.specs.inside.Emitted.{IsEmitted}
use Rattle.hyper_narrow.proofs.BareBlocks.{leads_there}
use Rattle.c_compile_layout.proofs.Faithful.{has_places}
use Rattle.c_compile_layout.proofs.Sums.{few_chunks}
use Rattle.c_compile_blocks.specs.inside.Blocks.{IsMachineBlock, AreMachineBlocks, FitsPasses}
use Rattle.c_compile_blocks.specs.inside.Laws.{GivesEmitted}
use Rattle.c_compile_blocks.proofs.EasedFlows.{eased_complete, eased_regular, eased_means, eased_labels}
use Rattle.c_compile_blocks.proofs.Resolving.{all_by_index}

-- A BLOCK

-- the machine block of a narrowed block is what the layout takes
pub is_emitted : (at : Layout) → HasShortAddresses at → (n k : ℕ) (p : Placing) (b : Narrowed) (u : Block)
    → IsMachineBlock p b u → FitsHyper b.block → AllLeadOn k n b.block.tail → IsEmitted at n b u
is_emitted at short n k p b u m fits leads = record {
  flow = m.flow;
  means = eased_means at short b m.numbers fits m.flow m.stands.eases;
  complete = eased_complete at short b m.numbers fits m.flow m.stands.eases;
  labels = eased_labels n k b fits leads m.flow m.stands.eases;
  regular = eased_regular at short b m.numbers fits m.flow m.stands.eases;
  room = m.room;
  target = m.target;
  targeted = m.targeted;
  cases = m.cases;
  there = goes m.placed.to;
  back = m.placed.permutes.back;
  permutes = m.placed.permutes.permutes;
  placed = m.placed.moved;
}

-- ALL BLOCKS

-- a machine block and the narrowed block that it is made of
pub record From (B : List Narrowed) (k : ℕ) : Type 0 where
  pub block : Narrowed
  pub there : slice_get B k ≡ Some block

-- each machine block is made from the narrowed block at its place
pub made_from : (B : List Narrowed) (us : List Block) (k : ℕ) (u : Block) → length us ≡ length B
    → slice_get us k ≡ Some u → From B k
made_from B [] k u s e = absurd (cc)
made_from [] (x ∷ us) k u s e = absurd (omega (arith, s))
made_from (b ∷ B) (x ∷ us) zero u s e = record { block = b; there = refl }
made_from (b ∷ B) (x ∷ us) (suc k) u s e =
    let f = made_from B us k u (omega (arith, s)) e in record { block = f.block; there = f.there }

-- each has 128 slots
pub sizes : (p : Placing) (B : List Narrowed) (us : List Block) → AreMachineBlocks p B us
    → All (λ (u : Block). length u.insts.items ≡ 128) us
sizes p B us all = all_by_index (λ (u : Block). length u.insts.items ≡ 128) us (λ k u e.
    let f = made_from B us k u all.size e in (all.each k f.block u f.there e).placed.moved.size)

-- so they have few chunks
pub chunks_few : (p : Placing) (B : List Narrowed) (us : List Block) → FitsPasses B
    → AreMachineBlocks p B us → AreFew us
chunks_few p B us fits all =
    let n = all.size in
    let l = fits.few in
    few_chunks us (omega (arith, n, l)) (sizes p B us all)

-- whatever permutation places each block, the layout takes what the passes give
pub gives_emitted : GivesEmitted
gives_emitted p B us fits all =
    let few = chunks_few p B us fits all in
    let n = all.size in
    let s = fits.some in
    let l = fits.few in
    let some : 1 ≤ length us = omega (arith, n, s) in
    record {
      size = all.size;
      some = some;
      few = omega (arith, n, l);
      followed = fits.followed;
      fit = fits.fit;
      each = λ k b u is_b is_u.
          is_emitted (laid_out us) (has_places us few).low (length us) k p b u
          (all.each k b u is_b is_u) (fits.fit k b is_b)
          (subst (λ (m : ℕ). AllLeadOn k m b.block.tail) (sym n) (leads_there B fits.followed k b is_b));
    }
