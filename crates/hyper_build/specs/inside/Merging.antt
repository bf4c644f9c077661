-- A block that goes on as one of two rests of a block, by a test: hyperblock formation.
use Rattle.std.specs.Prelude.{ℕ, ◌<◌}
use Rattle.trips_isa.specs.declared.op.Op.TheVariants.{Mov}
use Rattle.ir_forms.specs.declared.hyper.Source.{Source}
use Rattle.ir_forms.specs.declared.hyper.Source.TheVariants.{Const, Reg}
use Rattle.ir_forms.specs.declared.hyper.Exit.TheVariants as exit
use Rattle.ir_forms.specs.inside.HyperCode.{Items, Done, Set, Load, Save, If, Tail, Leave, Test, Block}

-- The first rest where t is not 0, else the second. The test is kept in register r, for the end chooses
-- by the registers behind all items, and these may set t's.
abbrev pub merged : ℕ → Source → Block → Block → Block
merged r t one other = record {
  items = Set r Mov t (Const 0) (If (Reg r) one.items other.items Done);
  tail = Test (Reg r) one.tail other.tail;
}

-- the register in which a loop's test is kept; no variable has it, nor one above it
abbrev pub test_register : ℕ
test_register = 92

-- the end of a block that goes on as the test says: to a tail, or by a jump
abbrev pub fork : Tail → ℕ → Block
fork one out = record { items = Done; tail = Test (Reg test_register) one (Leave (exit.Jump out)) }

-- each register that items set is below the test's
abbrev pub SetsLow : Items → Type 0
SetsLow Done = Unit {0}
SetsLow (Set to op a b rest) = (to < test_register) × SetsLow rest
SetsLow (Load to op a rest) = (to < test_register) × SetsLow rest
SetsLow (Save op a v rest) = SetsLow rest
SetsLow (If t one other rest) = SetsLow one × SetsLow other × SetsLow rest
