-- One more of a list, for the functions over a block.
use Rattle.std.proofs.Common.{◌≡◌, ℕ, zero, suc, ◌+◌, ◌<◌, Bool, true, false, ◌||◌, List, [], ◌∷◌}
use Rattle.std.proofs.Common.{◌++◌, map, length, get_or, take, Option, None, refl, sym, ap, ◌∙◌}
use Rattle.std.proofs.Common.{arith, ◌==◌, append_assoc}
use Rattle.trips_isa.specs.declared.node.Node.{Node}
use Rattle.trips_isa.specs.declared.block.Inst.{Inst}
use Rattle.trips_isa.specs.declared.block.ReadSlot.{ReadSlot}
use Rattle.block_cases.specs.Blocks.{read_node, inst_node, inst_nodes}
use Rattle.block_cases.specs.Orders.{loads, has_load, has_item}

or_move : (a b c : Bool) → (a || (b || c)) ≡ ((a || b) || c)
or_move true b c = refl
or_move false b c = refl

or_none : (a : Bool) → (a || false) ≡ a
or_none true = refl
or_none false = refl

-- a load of a number is among the first k + 1 instructions where it is among the first k or is instruction k
pub has_load_more : (is : List (Option Inst)) (k n : ℕ) (found new : Bool) → k < length is →
    found ≡ has_load (take k is) n → new ≡ (found || loads (get_or is k None) n) →
    new ≡ has_load (take (k + 1) is) n
has_load_more is k n found new lt a b = let one : suc k ≡ k + 1 = omega arith in b ∙ ap (λ v. v
    || loads (get_or is k None) n) a ∙ go is k lt ∙ ap (λ j. has_load (take j is) n) one
  where
    go : (is : List (Option Inst)) (k : ℕ) → k < length is →
        (has_load (take k is) n || loads (get_or is k None) n) ≡ has_load (take (suc k) is) n
    go [] k lt = absurd (omega arith)
    go (i ∷ is) zero lt = sym (or_none (loads i n))
    go (i ∷ is) (suc k) lt = sym (or_move (loads i n) (has_load (take k is) n) (loads (get_or is k
        None) n)) ∙ ap (λ v. loads i n || v) (go is k (omega arith))

-- a number is among the first k + 1 items where it is among the first k or is item k
pub has_item_more : (l : List ℕ) (k n : ℕ) (found new : Bool) → k < length l →
    found ≡ has_item (take k l) n → new ≡ (found || (get_or l k 0 == n)) →
    new ≡ has_item (take (k + 1) l) n
has_item_more l k n found new lt a b = let one : suc k ≡ k + 1 = omega arith in b ∙ ap (λ v. v
    || (get_or l k 0 == n)) a ∙ go l k lt ∙ ap (λ j. has_item (take j l) n) one
  where
    go : (l : List ℕ) (k : ℕ) → k < length l → (has_item (take k l) n
        || (get_or l k 0 == n)) ≡ has_item (take (suc k) l) n
    go [] k lt = absurd (omega arith)
    go (i ∷ l) zero lt = sym (or_none (i == n))
    go (i ∷ l) (suc k) lt = sym (or_move (i == n) (has_item (take k l) n) (get_or l k 0 == n))
        ∙ ap (λ v. (i == n) || v) (go l k (omega arith))

pub reads_more : (rs : List ReadSlot) (i : ℕ) (d : ReadSlot) (old new : List Node) → i < length rs →
    old ≡ map read_node (take i rs) → new ≡ old ++ (read_node (get_or rs i d) ∷ []) →
    new ≡ map read_node (take (i + 1) rs)
reads_more rs i d old new lt a b = let one : suc i ≡ i + 1 = omega arith in b
    ∙ ap (λ v. v ++ (read_node (get_or rs i d) ∷ [])) a ∙ go rs i lt
    ∙ ap (λ j. map read_node (take j rs)) one
  where
    go : (rs : List ReadSlot) (i : ℕ) → i < length rs → map read_node (take i rs) ++ (read_node
        (get_or rs i d) ∷ []) ≡ map read_node (take (suc i) rs)
    go [] i lt = absurd (omega arith)
    go (r ∷ rs) zero lt = refl
    go (r ∷ rs) (suc i) lt = ap (λ v. read_node r ∷ v) (go rs i (omega arith))

-- the nodes of the first j + 1 slots are those of the first j and that of slot j
pub insts_more : (front : List Node) (is : List (Option Inst)) (j : ℕ) (old new : List Node) →
    j < length is → old ≡ front ++ inst_nodes 0 (take j is) →
    new ≡ old ++ (inst_node j (get_or is j None) ∷ []) →
    new ≡ front ++ inst_nodes 0 (take (j + 1) is)
insts_more front is j old new lt a b =
    let one : suc j ≡ j + 1 = omega arith in
    let none : 0 + j ≡ j = omega arith in
    b ∙ ap (λ v. v ++ (inst_node j (get_or is j None) ∷ [])) a
    ∙ append_assoc front (inst_nodes 0 (take j is)) (inst_node j (get_or is j None) ∷ [])
    ∙ ap (λ v. front ++ v) (ap (λ k. inst_nodes 0 (take j is) ++ (inst_node k (get_or is j None) ∷
    [])) (sym none) ∙ go 0 is j lt)
    ∙ ap (λ k. front ++ inst_nodes 0 (take k is)) one
  where
    go : (from : ℕ) (is : List (Option Inst)) (j : ℕ) → j < length is →
        inst_nodes from (take j is) ++ (inst_node (from + j) (get_or is j None) ∷ []) ≡ inst_nodes
        from (take (suc j) is)
    go from [] j lt = absurd (omega arith)
    go from (i ∷ is) zero lt = let e : from + 0 ≡ from = omega arith in
        ap (λ k. inst_node k i ∷ []) e
    go from (i ∷ is) (suc j) lt =
        let e : from + suc j ≡ suc from + j = omega arith in
        ap (λ k. inst_node from i ∷ (inst_nodes (suc from) (take j is) ++ (inst_node k (get_or is j
        None) ∷ []))) e ∙ ap (λ v. inst_node from i ∷ v) (go (suc from) is j (omega arith))
