-- Beside what is believed of Emitted.antt: what the passes give before anything is laid out.
use Rattle.std.specs.Prelude.{◌≡◌, ℕ, ◌<◌, ◌≤◌, ℤ, true, false, List, All, length, slice_get, Some}
use Rattle.trips_isa.specs.declared.block.Block.{Block}
use Rattle.trips_isa.specs.declared.block.Image.{Image}
use Rattle.trips_isa.specs.declared.op.Op.{Op}
use Rattle.trips_isa.specs.declared.op.Op.TheVariants.{Bro, Callo}
use Rattle.trips_isa.specs.declared.causes.TrapCause.{TrapCause}
use Rattle.trips_isa.specs.declared.run.Stepped.TheVariants.{Trap}
use Rattle.trips_isa.specs.Machine.{start, runs}
use Rattle.trips_isa.specs.Places.{nodes_of}
use Rattle.trips_isa.specs.Stores.{data_size}
use Rattle.block_cases.specs.Cases.{cases}
use Rattle.block_cases.specs.inside.Plain.{plain_runs}
use Rattle.ir_forms.specs.declared.flow.FlowBlock.{FlowBlock}
use Rattle.ir_forms.specs.inside.FlowFits.{IsComplete}
use Rattle.ir_forms.specs.inside.FlowRegular.{IsRegular}
use Rattle.ir_forms.specs.inside.HyperFits.{FitsHyper, IsFollowed}
use Rattle.ir_forms.specs.inside.HyperRuns.{Layout, IsUnclean}
use Rattle.ir_forms.specs.inside.HyperWords.{AreBytes}
use Rattle.ir_forms.specs.inside.Laws.{StandsAs}
use Rattle.hyper_narrow.specs.inside.NarrowedCode.{Narrowed, bare}
use Rattle.hyper_narrow.specs.inside.NarrowedMeaning.{MeansNarrowed}
use Rattle.hyper_narrow.specs.inside.NarrowedRuns.{narrowed_run}
use Rattle.grid_place.specs.Moves.{Permutes}
use Rattle.grid_place.specs.inside.Moves.{IsMoved}
use Rattle.fan_out.specs.inside.Targeted.{HasRoom, IsTargeted}
use Rattle.c_compile_layout.specs.inside.Linking.{resolved, by_address, label_in}
use Rattle.c_compile_layout.specs.inside.Layouts.{laid_out, linked}
use Rattle.c_compile_layout.specs.inside.Standings.{trimmed, standing_of}

-- WHAT THE PASSES GIVE

-- a branch's label is one of n
abbrev pub LabelBelow : ℕ → Op → ℤ → Type 0
LabelBelow n Bro imm = label_in imm < n
LabelBelow n Callo imm = label_in imm < n
LabelBelow n op imm = Unit {0}

-- u is the machine block of a narrowed block b, one of n: it has the targets of a flow block with
-- labels, and its instructions stand in other slots; the flow block is complete and means b once its
-- constants hold the addresses
pub record IsEmitted (at : Layout) (n : ℕ) (b : Narrowed) (u : Block) : Type 0 where
  -- its constants and branches hold labels
  pub flow : FlowBlock
  -- with addresses in its constants
  pub means : MeansNarrowed at b (resolved (by_address at.address) flow)
  -- on every path each output has its token, once addresses stand in its constants
  pub complete : IsComplete (resolved (by_address at.address) flow)
  -- each branch names a block that there is
  pub labels : All (λ x. LabelBelow n x.op x.imm) flow.nodes
  -- so that targets can be given
  pub regular : IsRegular flow
  -- for its nodes and the `mov`s that spread their results
  pub room : HasRoom flow
  -- with targets, in the slots of the flow block's nodes
  pub target : Block
  pub targeted : IsTargeted flow target
  -- the checker takes no more
  pub cases : cases (nodes_of target) ≤ 256
  -- where each slot goes, and back
  pub there : ℕ → ℕ
  pub back : ℕ → ℕ
  pub permutes : Permutes there back
  -- with every target that names them
  pub placed : IsMoved there target u

-- 104,857 blocks of five chunks lie in an image
abbrev pub most_blocks : ℕ
most_blocks = 104857

-- us are the machine blocks of a narrowed program, whose exits lead to its blocks
pub record AreEmitted (B : List Narrowed) (us : List Block) : Type 0 where
  pub size : length us ≡ length B
  -- a run begins with block 0
  pub some : 1 ≤ length us
  pub few : length us ≤ most_blocks
  pub followed : IsFollowed (bare B)
  pub fit : (k : ℕ) (b : Narrowed) → slice_get B k ≡ Some b → FitsHyper b.block
  -- in the layout that these blocks have
  pub each : (k : ℕ) (b : Narrowed) (u : Block) → slice_get B k ≡ Some b
      → slice_get us k ≡ Some u → IsEmitted (laid_out us) (length us) b u

-- THEIR IMAGE

-- the image of blocks that hold labels, and of the data that a program starts from
abbrev pub image_of : List Block → List ℕ → Image
image_of us bytes = record {
  blocks = linked us;
  bytes = trimmed bytes;
}

-- n blocks of its image come to what n blocks of the narrowed program, whose labels stand where its
-- blocks do, come to, where none of these faults
abbrev pub ImageMeans : List Narrowed → List Block → Type 0
ImageMeans B us =
    (bytes input : List ℕ) (n : ℕ) → AreBytes bytes → AreBytes input → length bytes ≤ data_size
    → StandsAs (narrowed_run true (laid_out us) B bytes input n)
    (standing_of (runs (image_of us bytes).blocks (start (image_of us bytes).bytes input) n))

-- where none of the first n blocks of the narrowed program faults, none of its image traps
abbrev pub NeverTraps : List Narrowed → List Block → Type 0
NeverTraps B us =
    (bytes input : List ℕ) (n : ℕ) (c : TrapCause) → AreBytes bytes → AreBytes input → length bytes ≤ data_size
    → (IsUnclean (narrowed_run true (laid_out us) B bytes input n) → ⊥)
    → (runs (image_of us bytes).blocks (start (image_of us bytes).bytes input) n).1 ≡ Trap c → ⊥

-- whatever faults, n blocks of the narrowed program come to what n blocks of its image come to whose
-- marks nothing looks at
abbrev pub ImageMeansPlainly : List Narrowed → List Block → Type 0
ImageMeansPlainly B us =
    (bytes input : List ℕ) (n : ℕ) → AreBytes bytes → AreBytes input → length bytes ≤ data_size
    → narrowed_run false (laid_out us) B bytes input n
    ≡ standing_of (plain_runs (image_of us bytes).blocks
    (start (image_of us bytes).bytes input) n)
