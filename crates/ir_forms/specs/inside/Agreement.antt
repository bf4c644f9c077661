-- A flow block that means what a hyper block means: from the same start the same registers, data
-- memory and exit.
use Rattle.std.specs.Prelude.{◌≡◌, ℕ, pos, List, [], ◌∷◌}
use Rattle.trips_isa.specs.declared.op.Op.TheVariants.{Bro, Callo, Ret, Scall}
use Rattle.trips_isa.specs.declared.block.Token.{Token}
use Rattle.trips_isa.specs.declared.block.Token.TheVariants.{Word}
use Rattle.trips_isa.specs.declared.block.Inst.{Inst}
use Rattle.trips_isa.specs.Rule.{Answer}
use Rattle.ir_forms.specs.declared.hyper.Exit.{Exit}
use Rattle.ir_forms.specs.declared.hyper.Exit.TheVariants as exit
use Rattle.ir_forms.specs.declared.flow.FlowBlock.{FlowBlock}
use Rattle.ir_forms.specs.inside.HyperCode.{Block}
use Rattle.ir_forms.specs.inside.HyperRuns.{Machine, Layout, after_items, after_block, acts, exit_of}
use Rattle.ir_forms.specs.inside.HyperWords.{HasWords}
use Rattle.ir_forms.specs.inside.FlowRuns.{AtStart, written, stored_all, exits, fired}

-- a branch with its token is an exit of a machine after its items; a label stands where an offset
-- will
abbrev pub IsExit : Exit → Machine → Inst × Token → Type 0
IsExit (exit.Jump l) m b = ((b.0).op ≡ Bro) × ((b.0).imm ≡ pos l)
IsExit (exit.Call l back) m b = ((b.0).op ≡ Callo) × ((b.0).imm ≡ pos l)
IsExit exit.Return m b = ((b.0).op ≡ Ret) × (b.1 ≡ Word (m.registers 2))
IsExit (exit.System l) m b = (b.0).op ≡ Scall

-- the one exit that is taken
pub record TakesExit (e : Exit) (m : Machine) (taken : List (Inst × Token)) : Type 0 where
  pub branch : Inst × Token
  -- no other branch fires
  pub only : taken ≡ branch ∷ []
  -- it is the exit that the hyper block leaves by
  pub is : IsExit e m branch

-- what a table of the flow block comes to where the hyper block begins at m
pub record Comes (at : Layout) (b : Block) (f : FlowBlock) (m : Machine) (h : ℕ → Answer) : Type 0
  where
    -- each register holds afterwards what the hyper block leaves in it
    pub registers : (r : ℕ) → written m.registers h f.writes r ≡ (after_block at b m).registers r
    -- the stores that fire, in the order of their numbers, do what the saves do in order
    pub memory : stored_all m.registers h f.nodes m.memory ≡ (after_block at b m).memory
    -- the branch that fires is the exit that the tail's tests choose
    pub exit : TakesExit (exit_of b.tail (after_items b.items m).registers) (after_items b.items m)
        (exits h 0 f.nodes)
    -- the same operations are done in the same order, so that what is clean stays clean
    pub acts : fired m.registers h f.nodes ≡ acts b.items m

-- The flow block means the hyper block from every machine that has words. From others it need not: of
-- an address in a register the flow block takes the low 64 bits.
abbrev pub MeansBlock : Layout → Block → FlowBlock → Type 0
MeansBlock at b f =
    (m : Machine) (h : ℕ → Answer) → HasWords m → AtStart m.registers m.memory h f
    → Comes at b f m h
