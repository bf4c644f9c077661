-- How many nodes are added.
use Rattle.std.specs.Prelude.{◌≡◌, ℕ, zero, suc, ◌+◌, Bool, true, false, cond, List, [], ◌∷◌}
use Rattle.std.specs.Prelude.{Some, slice_get}
use Rattle.ir_forms.specs.declared.flow.FlowNode.{FlowNode}
use Rattle.ir_forms.specs.declared.flow.FlowBlock.{FlowBlock}
use Rattle.null_outputs.specs.inside.Completed.{write_size, number_size}
use Rattle.null_outputs.specs.inside.Covers.{Sure, Want, left_open, right_open}
use Rattle.null_outputs.specs.inside.Groups.{is_used, left_size, right_size, guard_part_size}

-- the sum of the sizes of a list's items, the first of which is item j
abbrev pub sum_of : {A : Type 0} → (ℕ → A → ℕ) → ℕ → List A → ℕ
sum_of size j [] = 0
sum_of size j (x ∷ rest) = size j x + sum_of size (suc j) rest

-- the nodes that are added for m store numbers from k on
abbrev pub numbers_size : Sure → Want → FlowBlock → ℕ → ℕ → ℕ
numbers_size sure want b k zero = 0
numbers_size sure want b k (suc m) = number_size sure want b k + numbers_size sure want b (suc k) m

-- the nodes that are added, exactly
unfoldable pub growth : Sure → Want → FlowBlock → ℕ
growth sure want b =
    sum_of (guard_part_size want b.nodes sure true) 0 b.nodes
    + (sum_of (guard_part_size want b.nodes sure false) 0 b.nodes
    + (sum_of (left_size sure want) 0 b.nodes
    + (sum_of (right_size sure want) 0 b.nodes
    + (sum_of (write_size sure want b) 0 b.writes + numbers_size sure want b 0 32))))

-- the guards that a wanted node has, each counted once
abbrev pub guards_used : Want → List FlowNode → Bool → ℕ → FlowNode → ℕ
guards_used want nodes s y n = cond (is_used want 0 nodes s y) 1 0

-- each node's operands are found to be there where its guard is met
abbrev pub AllFirm : Sure → FlowBlock → Type 0
AllFirm sure b = (y : ℕ) (n : FlowNode) → slice_get b.nodes y ≡ Some n
    → (left_open sure n ≡ false) × (right_open sure n ≡ false)

-- where the groups begin, one after another
abbrev pub starts : {A : Type 0} → (ℕ → A → ℕ) → ℕ → ℕ → List A → List ℕ
starts size p j [] = []
starts size p j (x ∷ rest) = p ∷ starts size (p + size j x) (suc j) rest
