-- The test of straight blocks, as the code makes it.
use Rattle.std.specs.Prelude.{ℕ, zero, suc, Bool, true, false, not, ◌&&◌, ◌||◌, nat_lt}
use Rattle.std.specs.Prelude.{List, [], ◌∷◌, Option, Some, None}
use Rattle.trips_isa.specs.Forms.{role_of, takes_left, takes_right}
use Rattle.ir_forms.specs.declared.flow.FlowSource.{FlowSource}
use Rattle.ir_forms.specs.declared.flow.FlowSource.TheVariants.{Read, Node}
use Rattle.ir_forms.specs.declared.flow.Guard.{Guard}
use Rattle.ir_forms.specs.declared.flow.FlowNode.{FlowNode}
use Rattle.ir_forms.specs.declared.flow.FlowWrite.{FlowWrite}
use Rattle.ir_forms.specs.declared.flow.FlowBlock.{FlowBlock}
use Rattle.ir_forms.specs.inside.FlowFits.{in_mask}
use Rattle.null_outputs.specs.inside.Groups.{stores_of}

-- whether a source stands before node y
abbrev pub is_before : ℕ → FlowSource → Bool
is_before y (Read r) = true
is_before y (Node j) = nat_lt j y

-- whether a list has a source, and the first stands before node y
abbrev pub is_fed : ℕ → List FlowSource → Bool
is_fed y [] = false
is_fed y (s ∷ ss) = is_before y s

-- the same of a list that is asked for
abbrev pub fed_if : Bool → ℕ → List FlowSource → Bool
fed_if asked y ss = not asked || is_fed y ss

-- whether there is no guard
abbrev pub is_unguarded : Option Guard → Bool
is_unguarded None = true
is_unguarded (Some g) = false

-- whether node y has no guard, and each operand that it takes is fed
abbrev pub is_plain : ℕ → FlowNode → Bool
is_plain y n =
    is_unguarded n.guard
    && (fed_if (takes_left (role_of n.op)) y n.left && fed_if (takes_right (role_of n.op)) y n.right)

-- one more, where something is so, and else none
abbrev pub counted : Bool → ℕ → ℕ
counted true k = suc k
counted false k = 0

-- how many of some nodes, the first of which is node y, are plain before the first that is not
abbrev pub plain_front : ℕ → List FlowNode → ℕ
plain_front y [] = 0
plain_front y (n ∷ ns) = counted (is_plain y n) (plain_front (suc y) ns)

-- whether each write is fed
abbrev pub all_fed : ℕ → List FlowWrite → Bool
all_fed y [] = true
all_fed y (w ∷ ws) = is_fed y w.sources && all_fed y ws

-- whether store number k has a store before node y, if the mask has it
abbrev pub number_fed : FlowBlock → ℕ → ℕ → Bool
number_fed b y k = fed_if (in_mask b.mask k) y (stores_of 0 b.nodes k)

-- the same of m numbers from k on
abbrev pub numbers_fed : FlowBlock → ℕ → ℕ → ℕ → Bool
numbers_fed b y k zero = true
numbers_fed b y k (suc m) = number_fed b y k && numbers_fed b y (suc k) m

-- the same of all numbers; not an `abbrev`, since the numeral unrolls
unfoldable pub all_numbers_fed : FlowBlock → ℕ → Bool
all_numbers_fed b y = numbers_fed b y 0 32

-- whether each write and number hangs on the nodes before node y
abbrev pub hangs_on : FlowBlock → ℕ → Bool
hangs_on b y = all_fed y b.writes && all_numbers_fed b y

-- whether a block is straight; behind its front nodes may be guarded
abbrev pub is_straight : FlowBlock → Bool
is_straight b = hangs_on b (plain_front 0 b.nodes)
