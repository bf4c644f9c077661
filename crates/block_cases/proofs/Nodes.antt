-- Where the reads and the slots of a block stand among its nodes, and what is taken at a place.
use Rattle.std.proofs.Common.{◌≡◌, ℕ, zero, suc, ◌+◌, ◌≤◌, Bool, true, false, List, [], ◌∷◌, ◌++◌}
use Rattle.std.proofs.Common.{map, length, Option, Some, None, slice_get, get_or, refl, sym, ap}
use Rattle.std.proofs.Common.{ap₂, ◌∙◌, arith}
use Rattle.std.proofs.lemmas.Bool.Decides.{nat_tests}
use Rattle.trips_isa.specs.declared.node.Node.{Node}
use Rattle.trips_isa.specs.declared.block.Inst.{Inst}
use Rattle.trips_isa.specs.declared.block.ReadSlot.{ReadSlot}
use Rattle.trips_isa.specs.declared.block.Block.{Block}
use Rattle.trips_isa.specs.Places.{targets, names, read_node, inst_node, inst_nodes, nodes_of}
use Rattle.trips_isa.specs.Tables.{taken, or_else, first}
use Rattle.trips_isa.specs.Blocks.{is_read, slot_at, inst_at}

-- the nodes that name a place decide what is taken there
pub taken_same : {A : Type 0} → (ns : List Node) (q : ℕ) (f g : ℕ → Option A)
    → ((y : ℕ) (m : Node) → slice_get ns y ≡ Some m → names (targets m) q ≡ true → f y ≡ g y)
    → first ns q f ≡ first ns q g
taken_same [] q f g h = refl
taken_same (n ∷ ns) q f g h = ap₂ or_else (head (names (targets n) q) refl)
    (taken_same ns q (λ y. f (suc y)) (λ y. g (suc y)) (λ y m i e. h (suc y) m i e))
  where
    head : (b : Bool) → names (targets n) q ≡ b → taken b f ≡ taken b g
    head true e = h 0 n refl e
    head false e = refl

-- past the reads stand the slots
pub past_reads : (rs : List ReadSlot) (is : List (Option Inst)) (x k : ℕ) → x ≡ length rs + k
    → slice_get (map read_node rs ++ inst_nodes 0 is) x ≡ slice_get (inst_nodes 0 is) k
past_reads [] is x k e = let same : x ≡ k = omega arith in ap (slice_get (inst_nodes 0 is)) same
past_reads (r ∷ rs) is zero k e = absurd (omega arith)
past_reads (r ∷ rs) is (suc x) k e = past_reads rs is x k (omega arith)

pub inst_got : (is : List (Option Inst)) (j k : ℕ) (n : Node)
    → slice_get (inst_nodes j is) k ≡ Some n → n ≡ inst_node (j + k) (get_or is k None)
inst_got [] j k n e = absurd (cc)
inst_got (i ∷ is) j zero n e =
    let here : n ≡ inst_node j i = cc in
    let same : j ≡ j + 0 = omega arith in
    here ∙ ap (λ m. inst_node m i) same
inst_got (i ∷ is) j (suc k) n e =
    let same : suc j + k ≡ j + suc k = omega arith in
    inst_got is (suc j) k n e ∙ ap (λ m. inst_node m (get_or is k None)) same

-- a node that is no read comes behind the reads, by its slot
pub not_read : (b : Block) (x : ℕ) → is_read b x ≡ false → x ≡ length b.reads.items + slot_at b x
not_read b x e = let le : length b.reads.items ≤ x = grind (arith, nat_tests) in omega arith

-- a node that is no read is its slot's
pub slot_got : (b : Block) (x : ℕ) (n : Node) → is_read b x ≡ false
    → slice_get (nodes_of b) x ≡ Some n → n ≡ inst_node (slot_at b x) (inst_at b x)
slot_got b x n r e =
    let same : 0 + slot_at b x ≡ slot_at b x = omega arith in
    inst_got b.insts.items 0 (slot_at b x) n
    (sym (past_reads b.reads.items b.insts.items x (slot_at b x) (not_read b x r)) ∙ e)
    ∙ ap (λ j. inst_node j (inst_at b x)) same
