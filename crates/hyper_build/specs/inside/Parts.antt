-- Rests of blocks, and how they are cut and joined.
use Rattle.std.specs.Prelude.{ℕ, suc, ◌+◌, min, Bool, true, false, List, [], ◌∷◌, ◌++◌}
use Rattle.trips_isa.specs.declared.op.Op.{Op}
use Rattle.trips_isa.specs.declared.op.Op.TheVariants.{Mov}
use Rattle.ir_forms.specs.declared.flat.Arg.{Arg}
use Rattle.ir_forms.specs.declared.flat.Arg.TheVariants as arg
use Rattle.ir_forms.specs.declared.hyper.Source.{Source}
use Rattle.ir_forms.specs.declared.hyper.Source.TheVariants.{Const, Reg}
use Rattle.ir_forms.specs.inside.Frames.{register_of, frame_limit}
use Rattle.ir_forms.specs.inside.HyperCode.{Set, Load, Save, Block}
use Rattle.ir_forms.specs.inside.HyperRuns.{Machine, value_of, with_register, jump}

-- where the value of an operand is
abbrev pub source : Arg → Source
source (arg.Const w) = Const w
source (arg.Var v) = Reg (register_of v)

-- A number of bytes as a constant of the code. A frame that is larger than all frames may be is met
-- as too large, whatever its size.
abbrev pub capped : ℕ → ℕ
capped n = min n (frame_limit + 8)

-- AN ITEM BEFORE THE REST OF A BLOCK

-- an operation into register r
abbrev pub set_then : ℕ → Op → Source → Source → Block → Block
set_then r op a b k = record { items = Set r op a b k.items; tail = k.tail }

-- a load into register r
abbrev pub load_then : ℕ → Op → Source → Block → Block
load_then r op a k = record { items = Load r op a k.items; tail = k.tail }

-- a save to memory
abbrev pub save_then : Op → Source → Source → Block → Block
save_then op a v k = record { items = Save op a v k.items; tail = k.tail }

-- CUTS

-- the block ends before k, which then stands at label l, or goes on with k
abbrev pub cut : Bool → ℕ → Block → Block
cut true l k = jump l
cut false l k = k

-- the block that a cut begins
abbrev pub cut_blocks : Bool → Block → List Block
cut_blocks true k = k ∷ []
cut_blocks false k = []

-- how many labels a cut takes
abbrev pub cut_size : Bool → ℕ
cut_size true = 1
cut_size false = 0

-- CHAINS

-- Parts one after the other, and then k. Where c holds the block ends behind each part; the blocks that this begins
-- stand from label l on.
abbrev pub chain : Bool → List (Block → Block) → ℕ → Block → Block
chain c [] l k = k
chain c (part ∷ parts) l k = part (cut c l (chain c parts (l + cut_size c) k))

-- the blocks that such a chain begins, with what goes on behind each cut
abbrev pub chain_blocks : Bool → List (Block → Block) → ℕ → Block → List Block
chain_blocks c [] l k = []
chain_blocks c (part ∷ parts) l k =
    cut_blocks c (chain c parts (l + cut_size c) k) ++ chain_blocks c parts (l + cut_size c) k

-- how many labels a chain of so many parts takes
abbrev pub chain_size : {A : Type 0} → Bool → List A → ℕ
chain_size c [] = 0
chain_size c (part ∷ parts) = cut_size c + chain_size c parts

-- MOVES

-- a register becomes a value
pub record Move : Type 0 where
  -- the number of the register
  pub to : ℕ
  pub from : Source

-- Moves from number i on, and then k. `cuts` says behind which the block ends; the blocks that this
-- begins stand from label l on.
abbrev pub moved : (ℕ → Bool) → ℕ → List Move → ℕ → Block → Block
moved cuts i [] l k = k
moved cuts i (x ∷ xs) l k =
    set_then x.to Mov x.from (Const 0)
    (cut (cuts i) l (moved cuts (suc i) xs (l + cut_size (cuts i)) k))

-- the blocks that such moves begin, with what goes on behind each cut
abbrev pub moved_blocks : (ℕ → Bool) → ℕ → List Move → ℕ → Block → List Block
moved_blocks cuts i [] l k = []
moved_blocks cuts i (x ∷ xs) l k =
    cut_blocks (cuts i) (moved cuts (suc i) xs (l + cut_size (cuts i)) k)
    ++ moved_blocks cuts (suc i) xs (l + cut_size (cuts i)) k

-- how many labels such moves take
abbrev pub moved_size : (ℕ → Bool) → ℕ → List Move → ℕ
moved_size cuts i [] = 0
moved_size cuts i (x ∷ xs) = cut_size (cuts i) + moved_size cuts (suc i) xs

-- the machine after moves
abbrev pub after_moves : List Move → Machine → Machine
after_moves [] m = m
after_moves (x ∷ xs) m = after_moves xs (with_register m x.to (value_of m.registers x.from))
