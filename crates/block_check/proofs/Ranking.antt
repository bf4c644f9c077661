-- Nodes without a cycle have an order along their edges: one more can always be placed.
use Rattle.std.proofs.Common.{◌≡◌, ℕ, zero, suc, ◌+◌, ◌<◌, ◌≤◌, Bool, true, false, ◌||◌, ◌&&◌, ◌⊎◌}
use Rattle.std.proofs.Common.{inl, inr, List, [], ◌∷◌, ◌++◌, map, length, get_or, Option, Some}
use Rattle.std.proofs.Common.{slice_get, slice_set, refl, sym, ap, ◌∙◌, arith, ◌==◌, true≢false}
use Rattle.trips_isa.specs.declared.block.Inst.{Inst}
use Rattle.trips_isa.specs.declared.block.ReadSlot.{ReadSlot}
use Rattle.trips_isa.specs.declared.block.Block.{Block}
use Rattle.trips_isa.specs.declared.node.Node.{Node}
use Rattle.trips_isa.specs.Fits.{FitsBlock}
use Rattle.trips_isa.specs.Limits.{most_nodes}
use Rattle.block_cases.specs.Nodes.{feeds, IsRanked}
use Rattle.block_cases.specs.Blocks.{read_node, inst_nodes, nodes_of}
use Rattle.block_cases.specs.inside.Good.{IsAcyclic}
use Rattle.block_cases.proofs.Alike.{or_true, and_true}
use Rattle.block_check.specs.inside.PartOrder.{Stuck, PartOrder, AllStuck}
use Rattle.block_check.proofs.Cycles.{eq_is, eq_not, near, same, some_node, stuck_cycle}
use Rattle.block_check.proofs.Ordering.{placing_none, placing_more, all_ordered}

-- whether a node of those that u marks feeds n
abbrev any_feeds : List Node → (ℕ → Bool) → Node → Bool
any_feeds [] u n = false
any_feeds (m ∷ ms) u n = (u 0 && feeds m n) || any_feeds ms (λ y. u (suc y)) n

or_false : (a b : Bool) → (a || b) ≡ false → b ≡ false
or_false true b h = absurd (true≢false h)
or_false false b h = h

none_feeds : (ms : List Node) (u : ℕ → Bool) (n : Node) → any_feeds ms u n ≡ false → (y : ℕ)
    (m : Node) → slice_get ms y ≡ Some m → u y ≡ true → feeds m n ≡ false
none_feeds [] u n h y m e i = absurd (cc)
none_feeds (k ∷ ks) u n h zero m e i =
    let is : k ≡ m = cc in
    ap (λ (v : Node). feeds v n) (sym is)
    ∙ first (u 0) (feeds k n) (any_feeds ks (λ y. u (suc y)) n) h i
  where
    first : (a b c : Bool) → ((a && b) || c) ≡ false → a ≡ true → b ≡ false
    first true true c h i = absurd (true≢false h)
    first true false c h i = refl
    first false b c h i = absurd (true≢false (sym i))
none_feeds (k ∷ ks) u n h (suc y) m e i =
    none_feeds ks (λ z. u (suc z)) n (or_false (u 0 && feeds k n) _ h) y m e i

abbrev Feeder : List Node → (ℕ → Bool) → Node → Type 0
Feeder ms u n = (y : ℕ) × (m : Node) × (slice_get ms y ≡ Some m) × (u y ≡ true) × (feeds m n ≡ true)

some_feeds : (ms : List Node) (u : ℕ → Bool) (n : Node) → any_feeds ms u n ≡ true → Feeder ms u n
some_feeds [] u n h = absurd (true≢false (sym h))
some_feeds (k ∷ ks) u n h = go (or_true _ _ h) (some_feeds ks (λ z. u (suc z)) n)
  where
    go : ((u 0 && feeds k n) ≡ true) ⊎ (any_feeds ks (λ z. u (suc z)) n ≡ true) →
        (any_feeds ks (λ z. u (suc z)) n ≡ true → Feeder ks (λ z. u (suc z)) n) →
        Feeder (k ∷ ks) u n
    go (inl i) r = let w = and_true _ _ i in (0, k, refl, w.0, w.1)
    go (inr i) r = let t = r i in (suc t.0, t.1, t.2, t.3, t.4)

abbrev waits : List ℕ → ℕ → Bool
waits ranks y = get_or ranks y 0 == 255

-- a node that is not placed, while all that feed it are
record FreeNode (ns : List Node) (ranks : List ℕ) : Type 0 where
  number : ℕ
  below : number < length ns
  node : Node
  is_node : slice_get ns number ≡ Some node
  waiting : get_or ranks number 0 ≡ 255
  free : any_feeds ns (waits ranks) node ≡ false

more_stuck : (ns : List Node) (ranks : List ℕ) (end : ℕ) → AllStuck ns ranks end → ((n : Node) →
    slice_get ns end ≡ Some n → get_or ranks end 0 ≡ 255 → Stuck ns ranks n) →
    AllStuck ns ranks (suc end)
more_stuck ns ranks end s h x n lt e r = go (x == end) refl
  where
    go : (b : Bool) → (x == end) ≡ b → Stuck ns ranks n
    go true k = let i = eq_is x end k in h n (ap (slice_get ns) (sym i) ∙ e) (ap (λ z. get_or ranks
        z 0) (sym i) ∙ r)
    go false k = s x n (near x end lt (eq_not x end k)) e r

-- of the nodes below `end` one can be placed, or each that is left waits for another one
pick : (ns : List Node) (ranks : List ℕ) (end : ℕ) → end ≤ length ns →
    FreeNode ns ranks ⊎ AllStuck ns ranks end
pick ns ranks zero le = inr (λ x n lt e r. absurd (omega arith))
pick ns ranks (suc end) le = go (pick ns ranks end (omega arith)) (some_node ns end (omega arith))
  where
    in_list : end < length ns
    in_list = omega arith

    go : FreeNode ns ranks ⊎ AllStuck ns ranks end → ((n : Node) × (slice_get ns end ≡ Some n)) →
        FreeNode ns ranks ⊎ AllStuck ns ranks (suc end)
    go (inl f) m = inl f
    go (inr s) m = by (waits ranks end) refl (any_feeds ns (waits ranks) m.0) refl
      where
        one : (n : Node) → slice_get ns end ≡ Some n → m.0 ≡ n
        one n e = let k : Some m.0 ≡ Some n = sym m.1 ∙ e in cc

        by : (a : Bool) → waits ranks end ≡ a → (b : Bool) → any_feeds ns (waits ranks) m.0 ≡ b →
            FreeNode ns ranks ⊎ AllStuck ns ranks (suc end)
        by false a b e = inr (more_stuck ns ranks end s (λ n i r. absurd (eq_not _ _ a r)))
        by true a false e = inl (record {
          number = end;
          below = in_list;
          node = m.0;
          is_node = m.1;
          waiting = eq_is _ _ a;
          free = e;
        })
        by true a true e = inr (more_stuck ns ranks end s (λ n i r.
            let f = some_feeds ns (waits ranks) m.0 e in
            record {
              source = f.0;
              node = f.1;
              is_node = f.2;
              waits = eq_is _ _ f.3;
              fed = ap (λ (v : Node). feeds f.1 v) (sym (one n i)) ∙ f.4;
            }))

ranked_from : (ns : List Node) → length ns ≤ most_nodes → IsAcyclic ns → (left : ℕ) (ranks order : List ℕ)
    (placed : ℕ) → PartOrder ns ranks order placed → placed + left ≡ length ns → IsRanked ns
ranked_from ns size a zero ranks order placed p e =
    let o = all_ordered ns ranks order placed p size (omega arith) in
    (o.0, o.1)
ranked_from ns size a (suc left) ranks order placed p e = go (pick ns ranks (length ns) (omega
    arith)) (λ f. ranked_from ns size a left (slice_set ranks f.number placed) (slice_set order
    placed f.number) (placed + 1) (placing_more ns ranks order (slice_set ranks f.number placed)
    (slice_set order placed f.number) placed f.number f.node p size f.below f.is_node f.waiting
    (λ y m i w. none_feeds ns (waits ranks) f.node f.free y m i (same _ _ w)) refl refl) (omega
    arith))
  where
    go : FreeNode ns ranks ⊎ AllStuck ns ranks (length ns) → (FreeNode ns ranks → IsRanked ns) →
        IsRanked ns
    go (inl f) k = k f
    go (inr s) k = absurd (a (stuck_cycle ns ranks order placed p s (omega arith)))

abbrev copies : ℕ → ℕ → List ℕ
copies zero v = []
copies (suc n) v = v ∷ copies n v

copies_length : (n v : ℕ) → length (copies n v) ≡ n
copies_length zero v = refl
copies_length (suc n) v = ap suc (copies_length n v)

copies_at : (n v k : ℕ) → k < n → get_or (copies n v) k 0 ≡ v
copies_at zero v k lt = absurd (omega arith)
copies_at (suc n) v zero lt = refl
copies_at (suc n) v (suc k) lt = copies_at n v k (omega arith)

-- nodes without a cycle, no more than a block may have, have an order along their edges
pub acyclic_ranked : (ns : List Node) → length ns ≤ most_nodes → IsAcyclic ns → IsRanked ns
acyclic_ranked ns size a = ranked_from ns size a (length ns) (copies (length ns) 255) (copies
    (length ns) 0) 0 (placing_none ns (copies (length ns) 255) (copies (length ns) 0)
    (copies_length (length ns) 255) (copies_length (length ns) 0) (λ k lt. copies_at (length ns)
    255 k lt)) (omega arith)

-- each slot is one node
pub insts_count : (j : ℕ) (is : List (Option Inst)) → length (inst_nodes j is) ≡ length is
insts_count j [] = refl
insts_count j (i ∷ is) = ap suc (insts_count (suc j) is)

-- the nodes of a block are its reads and the others
pub nodes_count : (rs : List ReadSlot) (rest : List Node) →
    length (map read_node rs ++ rest) ≡ length rs + length rest
nodes_count [] rest = sym (omega arith)
nodes_count (r ∷ rs) rest = let h = nodes_count rs rest in omega (arith, h)

-- a block that fits has no more nodes than a block may have
pub nodes_few : (b : Block) → FitsBlock b → length (nodes_of b) ≤ most_nodes
nodes_few b f =
    let a = nodes_count b.reads.items (inst_nodes 0 b.insts.items) in
    let s = insts_count 0 b.insts.items in
    let reads : length b.reads.items ≤ 32 = f.reads in
    let insts : length b.insts.items ≡ 128 = f.insts in
    omega (arith, a, s, reads, insts)
