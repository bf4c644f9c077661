-- The groups of nodes that are added, one after another.
use Rattle.std.specs.Prelude.{ℕ, suc, ◌+◌, Bool, true, false, not, cond, nat_eq, ◌&&◌}
use Rattle.std.specs.Prelude.{◌||◌, List, [], ◌∷◌, ◌++◌, Option, Some, None}
use Rattle.trips_isa.specs.declared.form.Form.{Form}
use Rattle.trips_isa.specs.declared.form.Form.TheVariants.{Store}
use Rattle.trips_isa.specs.declared.block.Sense.{Sense}
use Rattle.trips_isa.specs.declared.block.Sense.TheVariants.{OnTrue, OnFalse}
use Rattle.trips_isa.specs.Forms.{form_of}
use Rattle.ir_forms.specs.declared.flow.FlowSource.{FlowSource}
use Rattle.ir_forms.specs.declared.flow.FlowSource.TheVariants.{Node}
use Rattle.ir_forms.specs.declared.flow.Guard.{Guard}
use Rattle.ir_forms.specs.declared.flow.FlowNode.{FlowNode}
use Rattle.ir_forms.specs.declared.flow.FlowBlock.{FlowBlock}
use Rattle.ir_forms.specs.inside.FlowFits.{in_mask}
use Rattle.null_outputs.specs.inside.Covers.{null_under, copy_under, both_under, guard_on, Sure, Want, Places}
use Rattle.null_outputs.specs.inside.Covers.{left_open, right_open, one_if, cover_of, Cover, list_top}
use Rattle.null_outputs.specs.inside.Covers.{list_nodes, list_size}

-- GROUPS OF NODES

-- where the guard (y, s) is not met: it has the other bit, or its node is absent
abbrev pub guard_group : ℕ → Bool → ℕ → List FlowSource → List FlowNode
guard_group p s y [] = null_under (Some (guard_on (not s) y)) ∷ []
guard_group p s y (m ∷ ms) =
    copy_under None (Node (suc p) ∷ m ∷ ms) ∷ null_under (Some (guard_on (not s) y)) ∷ []

-- how many nodes these are
abbrev pub guard_size : List FlowSource → ℕ
guard_size [] = 1
guard_size (m ∷ ms) = 2

-- whether a sense is met by this bit
abbrev pub sense_is : Bool → Sense → Bool
sense_is true OnTrue = true
sense_is false OnFalse = true
sense_is _ _ = false

-- whether a guard asks node y for this bit
abbrev pub guard_is : Bool → ℕ → Option Guard → Bool
guard_is s y None = false
guard_is s y (Some g) = nat_eq g.node y && sense_is s g.sense

-- whether a node whose cover is wanted is guarded so
abbrev pub is_used : Want → ℕ → List FlowNode → Bool → ℕ → Bool
is_used want j [] s y = false
is_used want j (n ∷ rest) s y = (want j && guard_is s y n.guard) || is_used want (suc j) rest s y

-- the group of the guard (y, s), where it is used
abbrev pub guard_part : Want → List FlowNode → Cover → Bool → ℕ → ℕ → FlowNode → List FlowNode
guard_part want nodes c s p y n =
    cond (is_used want 0 nodes s y) (guard_group p s y (c (Node y))) []

-- whether the cover of a node's left operand is made
abbrev pub left_needed : Sure → Want → ℕ → FlowNode → Bool
left_needed sure want y n = want y && left_open sure n

-- whether that of its right one is
abbrev pub right_needed : Sure → Want → ℕ → FlowNode → Bool
right_needed sure want y n = want y && right_open sure n

-- a null where the guard is met and the left operand absent
abbrev pub left_part : Sure → Want → Cover → ℕ → ℕ → FlowNode → List FlowNode
left_part sure want c p y n =
    cond (left_needed sure want y n)
    (copy_under n.guard (list_top c (suc p) n.left) ∷ list_nodes c (suc p) n.left) []

-- a null where the guard is met, the left operand there and the right one absent
abbrev pub right_part : Sure → Want → Cover → ℕ → ℕ → FlowNode → List FlowNode
right_part sure want c p y n =
    cond (right_needed sure want y n)
    (both_under n.guard n.left (list_top c (suc p) n.right) ∷ list_nodes c (suc p) n.right) []

-- how many nodes the cover of a left operand has
abbrev pub left_size : Sure → Want → ℕ → FlowNode → ℕ
left_size sure want y n = cond (left_needed sure want y n) (suc (list_size n.left)) 0

-- how many that of a right one has
abbrev pub right_size : Sure → Want → ℕ → FlowNode → ℕ
right_size sure want y n = cond (right_needed sure want y n) (suc (list_size n.right)) 0

-- the cover's size does not depend on where it stands
abbrev pub nowhere : Places
nowhere = record { on_true = λ y. 0; on_false = λ y. 0; left = λ y. 0; right = λ y. 0 }

-- how many nodes the group of the guard (y, s) has
abbrev pub guard_part_size : Want → List FlowNode → Sure → Bool → ℕ → FlowNode → ℕ
guard_part_size want nodes sure s y n =
    cond (is_used want 0 nodes s y) (guard_size (cover_of nodes sure nowhere (Node y))) 0

-- REGIONS

-- a group for each item, one after another from p on
abbrev pub region : {A X : Type 0} → (ℕ → ℕ → A → List X) → (ℕ → A → ℕ) → ℕ → ℕ → List A
    → List X
region part size p j [] = []
region part size p j (x ∷ rest) = part p j x ++ region part size (p + size j x) (suc j) rest

-- where the group of item y begins
abbrev pub start_of : {A : Type 0} → (ℕ → A → ℕ) → ℕ → ℕ → List A → ℕ → ℕ
start_of size p j [] y = p
start_of size p j (x ∷ rest) y = cond (nat_eq y j) p (start_of size (p + size j x) (suc j) rest y)

-- where the next region begins
abbrev pub end_of : {A : Type 0} → (ℕ → A → ℕ) → ℕ → ℕ → List A → ℕ
end_of size p j [] = p
end_of size p j (x ∷ rest) = end_of size (p + size j x) (suc j) rest

-- STORE NUMBERS

-- whether a node is a store of number k
abbrev pub is_store_of : Form → FlowNode → ℕ → Bool
is_store_of Store n k = nat_eq n.number k
is_store_of _ n k = false

-- node j, where it is a store of number k
abbrev pub store_source : Form → FlowNode → ℕ → ℕ → List FlowSource
store_source form n j k = one_if (is_store_of form n k) j

-- the stores of number k
abbrev pub stores_of : ℕ → List FlowNode → ℕ → List FlowSource
stores_of j [] k = []
stores_of j (n ∷ rest) k = store_source (form_of n.op) n j k ++ stores_of (suc j) rest k

-- whether a number of the mask may get no store
abbrev pub number_open : Sure → FlowBlock → ℕ → Bool
number_open sure b k = in_mask b.mask k && not (sure None (stores_of 0 b.nodes k))
