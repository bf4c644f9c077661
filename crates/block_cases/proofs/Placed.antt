-- The nodes of a block stand in its slots, and its reads have no predicate.
use Rattle.std.proofs.Common.{◌≡◌, ℕ, zero, suc, ◌+◌, ◌≤◌, inl, inr, List, [], ◌∷◌, ◌++◌, map}
use Rattle.std.proofs.Common.{length, Option, Some, None, ap, arith}
use Rattle.trips_isa.specs.declared.node.Node.{Node}
use Rattle.trips_isa.specs.declared.block.Inst.{Inst}
use Rattle.trips_isa.specs.declared.block.ReadSlot.{ReadSlot}
use Rattle.trips_isa.specs.declared.block.Block.{Block}
use Rattle.trips_isa.specs.Fits.{FitsBlock}
use Rattle.block_cases.specs.inside.Good.{IsPlaced}
use Rattle.block_cases.specs.Blocks.{read_node, inst_node, inst_nodes, nodes_of}

reads_placed : (rs : List ReadSlot) (rest : List Node) → IsPlaced rest
    → IsPlaced (map read_node rs ++ rest)
reads_placed [] rest g k n e = g k n e
reads_placed (r ∷ rs) rest g zero n e = inr (ap (λ (k : Node). k.sense) (same n e))
  where
    same : (n : Node) → Some (read_node r) ≡ Some n → n ≡ read_node r
    same n e = cc
reads_placed (r ∷ rs) rest g (suc k) n e = reads_placed rs rest g k n e

insts_placed : (j : ℕ) (is : List (Option Inst)) → j + length is ≤ 128 → IsPlaced (inst_nodes j is)
insts_placed j [] b k n e = absurd (cc)
insts_placed j (i ∷ is) b zero n e = inl (let s : n.slot ≡ j = slot i n e in omega arith)
  where
    slot : (i : Option Inst) (n : Node) → Some (inst_node j i) ≡ Some n → n.slot ≡ j
    slot None n e = let k : n ≡ inst_node j None = cc in ap (λ (m : Node). m.slot) k
    slot (Some i) n e = let k : n ≡ inst_node j (Some i) = cc in ap (λ (m : Node). m.slot) k
insts_placed j (i ∷ is) b (suc k) n e = insts_placed (suc j) is (omega arith) k n e

-- the nodes of a block that fits its form are placed
pub nodes_placed : (b : Block) → FitsBlock b → IsPlaced (nodes_of b)
nodes_placed b f = reads_placed b.reads.items (inst_nodes 0 b.insts.items)
    (insts_placed 0 b.insts.items (let s : length b.insts.items ≡ 128 = f.insts in omega arith))
