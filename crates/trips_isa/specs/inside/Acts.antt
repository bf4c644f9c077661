-- What a block does that can fault: the divisions and the accesses of the instructions that fire,
-- all their operands being words. Own (docs/MACHINE.md,
-- "Exceptions"): a word of its laws, that a run without a fault has no mark.
use Rattle.std.specs.Prelude.{◌≡◌, ℕ, zero, suc, ◌+◌, Bool, true, false, cond, not, ◌&&◌, nat_eq, List}
use Rattle.std.specs.Prelude.{[], ◌∷◌, ◌++◌, length, Option, Some, None, slice_get}
use Rattle.trips_isa.specs.declared.op.Op.{Op}
use Rattle.trips_isa.specs.declared.form.Form.{Form}
use Rattle.trips_isa.specs.declared.form.Form.TheVariants.{General, Immediate, Load, Store, Branch}
use Rattle.trips_isa.specs.declared.form.Form.TheVariants.{Constant}
use Rattle.trips_isa.specs.declared.block.Inst.{Inst}
use Rattle.trips_isa.specs.declared.block.Block.{Block}
use Rattle.trips_isa.specs.declared.node.Node.{Node}
use Rattle.trips_isa.specs.Forms.{form_of, size_of}
use Rattle.trips_isa.specs.Rule.{Answer}
use Rattle.trips_isa.specs.Places.{nodes_of}
use Rattle.trips_isa.specs.Stores.{address_of, is_good_address}
use Rattle.trips_isa.specs.Blocks.{at_place, is_read, inst_at}
use Rattle.trips_isa.specs.Faults.{divides}
use Rattle.trips_isa.specs.declared.operands.Operands.{Operands}
use Rattle.trips_isa.specs.declared.operands.Operands.TheVariants.{Missing, Nulls, Words}
use Rattle.trips_isa.specs.Operands.{operands}

-- what was done and can fault: a division by a word, and an access of some bytes at an address
pub data Act : Type 0 where
  Divided : (by : ℕ) → Act
  Accessed : (address size : ℕ) → Act

-- whether it faults
abbrev pub is_fault : Act → Bool
is_fault (Divided b) = nat_eq b 0
is_fault (Accessed a size) = not (is_good_address a size)

-- what an operation on words adds to what was done
abbrev pub divisions : Op → ℕ → List Act
divisions op b = cond (divides op) (Divided b ∷ []) []

-- nothing faulted
abbrev pub is_clean : List Act → Bool
is_clean [] = true
is_clean (a ∷ rest) = not (is_fault a) && is_clean rest

-- what an instruction of a form does on its operands' words
abbrev pub acts_in : Form → Inst → ℕ → ℕ → List Act
acts_in General i l r = divisions i.op r
acts_in Immediate i l r = []
acts_in Constant i l r = []
acts_in Branch i l r = []
acts_in Load i l r = Accessed (address_of i l) (size_of i.op) ∷ []
acts_in Store i l r = Accessed (address_of i l) (size_of i.op) ∷ []

-- an empty slot does nothing
abbrev pub own_acts : Option Inst → ℕ → ℕ → List Act
own_acts None l r = []
own_acts (Some i) l r = acts_in (form_of i.op) i l r

-- a read does nothing
abbrev pub acts_if_read : Bool → Option Inst → ℕ → ℕ → List Act
acts_if_read true i l r = []
acts_if_read false i l r = own_acts i l r

-- nothing is done unless all operands are words
abbrev pub acts_by : (ℕ → ℕ → List Act) → Operands → List Act
acts_by own Missing = []
acts_by own (Nulls a b) = []
acts_by own (Words l r) = own l r

-- what does not fire does nothing
abbrev pub fired_acts : Option Node → (ℕ → ℕ → List Act) → (ℕ → Answer) → Answer → List Act
fired_acts None own pull t = []
fired_acts (Some n) own pull None = []
fired_acts (Some n) own pull (Some t) =
    acts_by own (operands n.role (pull n.slot) (pull (128 + n.slot)))

-- what node x does where the tokens are as g says
abbrev pub node_acts : Block → (ℕ → Answer) → ℕ → List Act
node_acts b g x = fired_acts (slice_get (nodes_of b) x) (acts_if_read (is_read b x) (inst_at b x))
    (at_place b g) (g x)

-- what the first n nodes do
abbrev pub acts_to : Block → (ℕ → Answer) → ℕ → List Act
acts_to b g zero = []
acts_to b g (suc n) = acts_to b g n ++ node_acts b g n

-- what a block does
abbrev pub block_acts : Block → (ℕ → Answer) → List Act
block_acts b g = acts_to b g (length (nodes_of b))

-- nothing that a node does faults, in whatever order the nodes stand
abbrev pub IsClean : Block → (ℕ → Answer) → Type 0
IsClean b g = (x : ℕ) → is_clean (node_acts b g x) ≡ true
