-- A rank for each node of a completed block.
use Rattle.std.proofs.Common.{◌≡◌, ℕ, zero, suc, ◌+◌, ◌≤◌, List, [], ◌∷◌, ◌++◌, get_or, max}
use Rattle.std.proofs.Common.{length, refl, ◌∙◌, arith, cond, Bool, true, false, length-append}
use Rattle.std.specs.Prelude.{None, slice_get}
use Rattle.ir_forms.specs.declared.flow.FlowSource.{FlowSource}
use Rattle.ir_forms.specs.declared.flow.FlowSource.TheVariants.{Read, Node}
use Rattle.ir_forms.specs.declared.flow.FlowNode.{FlowNode}
use Rattle.ir_forms.specs.declared.flow.FlowWrite.{FlowWrite}
use Rattle.ir_forms.specs.declared.flow.FlowBlock.{FlowBlock}
use Rattle.null_outputs.specs.inside.Completed.{number_part, trues, falses, lefts, rights, writes_at, places}
use Rattle.null_outputs.specs.inside.Completed.{cover, write_size, number_size, numbers_part}
use Rattle.null_outputs.specs.inside.Covers.{Want, cover_of, Sure, list_size}
use Rattle.null_outputs.specs.inside.Groups.{nowhere, left_needed, right_needed, guard_size, guard_part_size}
use Rattle.null_outputs.specs.inside.Groups.{left_size, right_size, region, is_used, stores_of, number_open}
use Rattle.null_outputs.proofs.Spaces.{cond_length, guard_same, cover_length}
use Rattle.null_outputs.proofs.Outputs.{number_length}

-- a times k
abbrev pub scaled : ℕ → ℕ → ℕ
scaled k zero = 0
scaled k (suc a) = scaled k a + k

-- multiples of a number grow with the factor
pub scaled_le : (k a c : ℕ) → a ≤ c → scaled k a ≤ scaled k c
scaled_le k zero c l = omega arith
scaled_le k (suc a) zero l = absurd (omega (arith, l))
scaled_le k (suc a) (suc c) l = let r = scaled_le k a c (omega (arith, l)) in omega (arith, r)

-- the ranks of the joins of some sources, which fall towards the base
abbrev pub pair_ranks : ℕ → List FlowSource → List ℕ
pair_ranks base [] = []
pair_ranks base (t ∷ rest) = (base + suc (length rest)) ∷ pair_ranks base rest

-- the ranks of the nodes of a list of sources
abbrev pub list_ranks : ℕ → List FlowSource → List ℕ
list_ranks base [] = base ∷ []
list_ranks base (s ∷ rest) = pair_ranks base rest

-- the ranks of the nodes for a guard
abbrev pub group_ranks : ℕ → List FlowSource → List ℕ
group_ranks base [] = base ∷ []
group_ranks base (m ∷ ms) = suc base ∷ base ∷ []

-- a bound of the ranks that the sources of one node need
abbrev pub widest : List FlowNode → ℕ
widest [] = 0
widest (n ∷ rest) = 2 + (length n.left + length n.right) + widest rest

pair_length : (base : ℕ) (rest : List FlowSource) → length (pair_ranks base rest) ≡ length rest
pair_length base [] = refl
pair_length base (t ∷ rest) = let e = pair_length base rest in omega (arith, e)

list_length : (base : ℕ) (ss : List FlowSource) → length (list_ranks base ss) ≡ list_size ss
list_length base [] = refl
list_length base (s ∷ rest) = pair_length base rest

group_length : (base : ℕ) (ms : List FlowSource) → length (group_ranks base ms) ≡ guard_size ms
group_length base [] = refl
group_length base (m ∷ ms) = refl

group_same : (base p y : ℕ) (s : Bool) (ms : List FlowSource) → length (group_ranks base ms) ≡ guard_size ms
group_same base p y s ms = group_length base ms

module _ (sure : Sure) (want : Want) (b : FlowBlock) (rank : ℕ → ℕ) where
  -- the ranks that one node of the block may need
  abbrev pub width : ℕ
  width = widest b.nodes

  -- how far the ranks of two nodes of the block lie apart at least
  abbrev pub step : ℕ
  step = width + length b.nodes + 4

  -- the rank of a node of the block
  abbrev pub base_of : ℕ → ℕ
  base_of y = scaled step (suc (rank y))

  -- the ranks of the block's own nodes
  abbrev pub old_ranks : ℕ → List FlowNode → List ℕ
  old_ranks j [] = []
  old_ranks j (n ∷ rest) = base_of j ∷ old_ranks (suc j) rest

  -- the ranks of the nodes for a guard that waits for one sense of a node
  abbrev pub guard_ranks : Bool → ℕ → ℕ → FlowNode → List ℕ
  guard_ranks s p y n = cond (is_used want 0 b.nodes s y)
      (group_ranks (base_of y + width) (cover sure want b (Node y))) []

  -- the ranks of the nodes for a node's left operand
  abbrev pub left_ranks : ℕ → ℕ → FlowNode → List ℕ
  left_ranks p y n = cond (left_needed sure want y n)
      ((base_of y + suc (length n.left)) ∷ list_ranks (base_of y) n.left) []

  -- the ranks of the nodes for a node's right operand
  abbrev pub right_ranks : ℕ → ℕ → FlowNode → List ℕ
  right_ranks p y n = cond (right_needed sure want y n)
      ((base_of y + suc (length n.right)) ∷ list_ranks (base_of y) n.right) []

  -- a rank above those of all nodes of the block and their groups
  abbrev pub top_rank : ℕ → List FlowNode → ℕ
  top_rank j [] = 0
  top_rank j (n ∷ rest) = (base_of j + width) + top_rank (suc j) rest

  -- the ranks of the nodes for a write
  abbrev pub write_ranks : ℕ → ℕ → FlowWrite → List ℕ
  write_ranks p j w = cond (sure None w.sources) [] (list_ranks (top_rank 0 b.nodes) w.sources)

  -- a rank behind some sources
  abbrev pub level : List FlowSource → ℕ
  level [] = 0
  level (Read r ∷ rest) = level rest
  level (Node x ∷ rest) = max (suc (rank x)) (level rest)

  -- the rank behind the stores of a number
  abbrev pub number_base : ℕ → ℕ
  number_base k = scaled step (level (stores_of 0 b.nodes k)) + width

  -- the ranks of the nodes for a number of the mask
  abbrev pub number_ranks : ℕ → List ℕ
  number_ranks k =
      cond (number_open sure b k)
      ((number_base k + suc (length (stores_of 0 b.nodes k))) ∷ list_ranks (number_base k) (stores_of 0 b.nodes k)) []

  -- the ranks of the nodes for m numbers from k on
  abbrev pub numbers_ranks : ℕ → ℕ → List ℕ
  numbers_ranks k zero = []
  numbers_ranks k (suc m) = number_ranks k ++ numbers_ranks (suc k) m

  -- the ranks of the nodes for all numbers
  unfoldable pub all_number_ranks : List ℕ
  all_number_ranks = numbers_ranks 0 32

  -- the ranks of the nodes for true guards
  abbrev pub true_ranks : List ℕ
  true_ranks = region (guard_ranks true) (guard_part_size want b.nodes sure true) (trues sure want b) 0 b.nodes

  -- the ranks of the nodes for false guards
  abbrev pub false_ranks : List ℕ
  false_ranks = region (guard_ranks false) (guard_part_size want b.nodes sure false) (falses sure want b) 0 b.nodes

  -- the ranks of the nodes for left operands
  abbrev pub lefts_ranks : List ℕ
  lefts_ranks = region left_ranks (left_size sure want) (lefts sure want b) 0 b.nodes

  -- the ranks of the nodes for right operands
  abbrev pub rights_ranks : List ℕ
  rights_ranks = region right_ranks (right_size sure want) (rights sure want b) 0 b.nodes

  -- the ranks of the nodes for writes
  abbrev pub writes_ranks : List ℕ
  writes_ranks = region write_ranks (write_size sure want b) (writes_at sure want b) 0 b.writes

  -- the ranks of all nodes that completing adds
  abbrev pub new_ranks : List ℕ
  new_ranks = true_ranks ++ (false_ranks ++ (lefts_ranks ++ (rights_ranks ++ (writes_ranks ++ all_number_ranks))))

  -- the ranks of all nodes of a completed block
  abbrev pub ranks : List ℕ
  ranks = old_ranks 0 b.nodes ++ new_ranks

  -- the rank of a node of a completed block
  unfoldable pub rank_in : ℕ → ℕ
  rank_in i = get_or ranks i 0

  -- LENGTHS

  -- there is a rank for each of the block's own nodes
  pub old_length : (j : ℕ) (ns : List FlowNode) → length (old_ranks j ns) ≡ length ns
  old_length j [] = refl
  old_length j (n ∷ ns) = let e = old_length (suc j) ns in omega (arith, e)

  -- there is a rank for each node for a guard
  pub guard_fits : (s : Bool) (p j : ℕ) (n : FlowNode)
      → length (guard_ranks s p j n) ≡ guard_part_size want b.nodes sure s j n
  guard_fits s p j n =
      cond_length (is_used want 0 b.nodes s j) _ _
      (group_length (base_of j + width) (cover sure want b (Node j))
      ∙ guard_same (cover_of b.nodes sure (places sure want b) (Node j))
      (cover_of b.nodes sure nowhere (Node j))
      (cover_length sure (places sure want b) j (slice_get b.nodes j)))

  -- there is a rank for each node for a left operand
  pub left_fits : (p j : ℕ) (n : FlowNode) → length (left_ranks p j n) ≡ left_size sure want j n
  left_fits p j n = cond_length (left_needed sure want j n) _ _
      (let e = list_length (base_of j) n.left in omega (arith, e))

  -- there is a rank for each node for a right operand
  pub right_fits : (p j : ℕ) (n : FlowNode) → length (right_ranks p j n) ≡ right_size sure want j n
  right_fits p j n = cond_length (right_needed sure want j n) _ _
      (let e = list_length (base_of j) n.right in omega (arith, e))

  -- there is a rank for each node for a write
  pub write_fits : (p j : ℕ) (w : FlowWrite) → length (write_ranks p j w) ≡ write_size sure want b j w
  write_fits p j w = go (sure None w.sources)
    where
      go : (t : Bool) → length (cond t [] (list_ranks (top_rank 0 b.nodes) w.sources))
          ≡ cond t 0 (list_size w.sources)
      go true = refl
      go false = list_length (top_rank 0 b.nodes) w.sources

  -- there is a rank for each node for a number
  pub number_fits : (k : ℕ) → length (number_ranks k) ≡ number_size sure want b k
  number_fits k = cond_length (number_open sure b k) _ _
      (let e = list_length (number_base k) (stores_of 0 b.nodes k) in omega (arith, e))

  -- there is a rank for each node for some numbers
  pub numbers_fit : (m p k : ℕ) → length (numbers_ranks k m) ≡ length (numbers_part sure want b p k m)
  numbers_fit zero p k = refl
  numbers_fit (suc m) p k =
      let e = numbers_fit m (p + number_size sure want b k) (suc k) in
      let x = length-append (number_ranks k) (numbers_ranks (suc k) m) in
      let y = length-append (number_part sure want b p k)
      (numbers_part sure want b (p + number_size sure want b k) (suc k) m) in
      let z = number_fits k in
      let w = number_length sure want b p k in
      omega (arith, e, x, y, z, w)
