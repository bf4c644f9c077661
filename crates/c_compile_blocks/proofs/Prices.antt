-- A machine block has no more instructions than the nodes and the sources of its flow block cost,
-- where a constant that is used costs nothing but its source.
use Rattle.std.proofs.Common.{◌≡◌, ℕ, zero, suc, ◌+◌, ◌<◌, ◌≤◌, Bool, true, false, ◌==◌, List, [], ◌∷◌, ◌++◌}
use Rattle.std.proofs.Common.{length, refl, ap, ap₂, arith, length-append, Some, slice_get}
use Rattle.std.proofs.lemmas.Bool.Decides.{nat_tests}
use Rattle.trips_isa.specs.declared.form.Form.{Form}
use Rattle.trips_isa.specs.declared.form.Form.TheVariants.{General, Immediate, Load, Store, Branch}
use Rattle.trips_isa.specs.declared.form.Form.TheVariants.{Constant}
use Rattle.trips_isa.specs.Forms.{form_of}
use Rattle.ir_forms.specs.declared.flow.FlowSource.{FlowSource}
use Rattle.ir_forms.specs.declared.flow.FlowSource.TheVariants.{Read, Node}
use Rattle.ir_forms.specs.declared.flow.FlowNode.{FlowNode}
use Rattle.ir_forms.specs.declared.flow.FlowWrite.{FlowWrite}
use Rattle.ir_forms.specs.declared.flow.FlowBlock.{FlowBlock}
use Rattle.ir_forms.specs.inside.FlowRegular.{same_source}
use Rattle.block_cases.specs.Nodes.{one_if}
use Rattle.fan_out.specs.inside.Wires.{guard_sources}
use Rattle.fan_out.specs.inside.Counts.{if_noted, noted, node_kinds, nodes_kinds, writes_kinds, kinds, two_count}
use Rattle.fan_out.specs.inside.Counts.{one_count}
use Rattle.fan_out.specs.inside.Counts.{all_true, tree_count, form_count, read_count, nodes_count, reads_count}
use Rattle.fan_out.specs.inside.Targeted.{count_insts}
use Rattle.fan_out.proofs.Counting.{counted}
use Rattle.c_compile_blocks.specs.inside.Prices.{own, sources_in, price, write_price}

-- SUMS OVER PRODUCERS

-- the sum over nodes, the first of which is node j
abbrev sum_nodes : (FlowSource → ℕ) → ℕ → List FlowNode → ℕ
sum_nodes w j [] = 0
sum_nodes w j (n ∷ ns) = w (Node j) + sum_nodes w (suc j) ns

abbrev sum_reads : (FlowSource → ℕ) → List ℕ → ℕ
sum_reads w [] = 0
sum_reads w (r ∷ rs) = w (Read r) + sum_reads w rs

nodes_add : (v w : FlowSource → ℕ) (j : ℕ) (ns : List FlowNode)
    → sum_nodes (λ s. v s + w s) j ns ≡ sum_nodes v j ns + sum_nodes w j ns
nodes_add v w j [] = refl
nodes_add v w j (n ∷ ns) = let h = nodes_add v w (suc j) ns in omega (arith, h)

reads_add : (v w : FlowSource → ℕ) (rs : List ℕ)
    → sum_reads (λ s. v s + w s) rs ≡ sum_reads v rs + sum_reads w rs
reads_add v w [] = refl
reads_add v w (r ∷ rs) = let h = reads_add v w rs in omega (arith, h)

nodes_zero : (j : ℕ) (ns : List FlowNode) → sum_nodes (λ s. 0) j ns ≡ 0
nodes_zero j [] = refl
nodes_zero j (n ∷ ns) = let h = nodes_zero (suc j) ns in omega (arith, h)

reads_zero : (rs : List ℕ) → sum_reads (λ s. 0) rs ≡ 0
reads_zero [] = refl
reads_zero (r ∷ rs) = let h = reads_zero rs in omega (arith, h)

nodes_same : (v w : FlowSource → ℕ) → ((s : FlowSource) → v s ≡ w s) → (j : ℕ) (ns : List FlowNode)
    → sum_nodes v j ns ≡ sum_nodes w j ns
nodes_same v w h j [] = refl
nodes_same v w h j (n ∷ ns) = ap₂ (λ (a b : ℕ). a + b) (h (Node j)) (nodes_same v w h (suc j) ns)

reads_same : (v w : FlowSource → ℕ) → ((s : FlowSource) → v s ≡ w s) → (rs : List ℕ)
    → sum_reads v rs ≡ sum_reads w rs
reads_same v w h [] = refl
reads_same v w h (r ∷ rs) = ap₂ (λ (a b : ℕ). a + b) (h (Read r)) (reads_same v w h rs)

-- no read stands twice
abbrev pub Different : List ℕ → Type 0
Different rs = (i j r : ℕ) → slice_get rs i ≡ Some r → slice_get rs j ≡ Some r → i ≡ j

-- ONE SOURCE

abbrev is : FlowSource → FlowSource → ℕ
is x s = one_if (same_source s x)

node_past : (k j : ℕ) (ns : List FlowNode) → k < j → sum_nodes (is (Node k)) j ns ≡ 0
node_past k j [] l = refl
node_past k j (n ∷ ns) l =
    let e : (j == k) ≡ false = grind (arith, nat_tests) in
    let h = node_past k (suc j) ns (omega (arith, l)) in
    let z = ap one_if e in
    omega (arith, h, z)

node_once : (k j : ℕ) (ns : List FlowNode) → sum_nodes (is (Node k)) j ns ≤ 1
node_once k j [] = omega arith
node_once k j (n ∷ ns) = by (j == k) refl (node_once k (suc j) ns)
  where
    by : (c : Bool) → (j == k) ≡ c → sum_nodes (is (Node k)) (suc j) ns ≤ 1
        → one_if (j == k) + sum_nodes (is (Node k)) (suc j) ns ≤ 1
    by true e r =
        let s : j ≡ k = grind (arith, nat_tests) in
        let h = node_past k (suc j) ns (omega (arith, s)) in
        let z = ap one_if e in
        omega (arith, h, z)
    by false e r =
        let z = ap one_if e in
        omega (arith, r, z)

read_of_node : (k : ℕ) (rs : List ℕ) → sum_reads (is (Node k)) rs ≡ 0
read_of_node k [] = refl
read_of_node k (r ∷ rs) = let h = read_of_node k rs in omega (arith, h)

node_of_read : (q j : ℕ) (ns : List FlowNode) → sum_nodes (is (Read q)) j ns ≡ 0
node_of_read q j [] = refl
node_of_read q j (n ∷ ns) = let h = node_of_read q (suc j) ns in omega (arith, h)

read_none : (q : ℕ) (rs : List ℕ) → ((i : ℕ) → slice_get rs i ≡ Some q → ⊥)
    → sum_reads (is (Read q)) rs ≡ 0
read_none q [] h = refl
read_none q (r ∷ rs) h = by (r == q) refl (read_none q rs (λ i x. h (suc i) x))
  where
    by : (c : Bool) → (r == q) ≡ c → sum_reads (is (Read q)) rs ≡ 0
        → one_if (r == q) + sum_reads (is (Read q)) rs ≡ 0
    by true e k =
        let s : r ≡ q = grind (arith, nat_tests) in
        absurd (h 0 (ap (λ (x : ℕ). Some x) s))
    by false e k =
        let z = ap one_if e in
        omega (arith, k, z)

read_once : (q : ℕ) (rs : List ℕ) → Different rs → sum_reads (is (Read q)) rs ≤ 1
read_once q [] d = omega arith
read_once q (r ∷ rs) d =
    by (r == q) refl
    (read_once q rs (λ i j x a b. let z : suc i ≡ suc j = d (suc i) (suc j) x a b in omega (arith, z)))
  where
    by : (c : Bool) → (r == q) ≡ c → sum_reads (is (Read q)) rs ≤ 1
        → one_if (r == q) + sum_reads (is (Read q)) rs ≤ 1
    by true e h =
        let s : r ≡ q = grind (arith, nat_tests) in
        let k = read_none q rs (λ i x. let z : 0 ≡ suc i = d 0 (suc i) q (ap (λ (y : ℕ). Some y) s) x in
        absurd (omega (arith, z))) in
        let z = ap one_if e in
        omega (arith, k, z)
    by false e h =
        let z = ap one_if e in
        omega (arith, h, z)

noted_size : (c b : Bool) (l : List Bool) → length (if_noted c b l) ≡ one_if c + length l
noted_size true b l = omega arith
noted_size false b l = omega arith

-- the sources of nodes
abbrev total : List FlowNode → ℕ
total [] = 0
total (n ∷ ns) = sources_in n + total ns

-- ALL SOURCES

module _ (ms : List FlowNode) (rs : List ℕ) (d : Different rs) where
  -- the sum over all nodes and reads
  abbrev all : (FlowSource → ℕ) → ℕ
  all w = sum_nodes w 0 ms + sum_reads w rs

  all_add : (v w : FlowSource → ℕ) → all (λ s. v s + w s) ≡ all v + all w
  all_add v w =
      let a = nodes_add v w 0 ms in let b = reads_add v w rs in omega (arith, a, b)

  all_same : (v w : FlowSource → ℕ) → ((s : FlowSource) → v s ≡ w s) → all v ≡ all w
  all_same v w h = ap₂ (λ (a b : ℕ). a + b) (nodes_same v w h 0 ms) (reads_same v w h rs)

  all_zero : all (λ s. 0) ≡ 0
  all_zero = let a = nodes_zero 0 ms in let b = reads_zero rs in omega (arith, a, b)

  -- a source is that of one producer
  all_once : (x : FlowSource) → all (is x) ≤ 1
  all_once (Node k) = let a = node_once k 0 ms in let b = read_of_node k rs in omega (arith, a, b)
  all_once (Read q) = let a = node_of_read q 0 ms in let b = read_once q rs d in omega (arith, a, b)

  noted_sum : (b : Bool) (ss : List FlowSource) → all (λ s. length (noted b s ss)) ≤ length ss
  noted_sum b [] = let z = all_zero in omega (arith, z)
  noted_sum b (x ∷ xs) =
      let e = all_same (λ s. length (noted b s (x ∷ xs))) (λ s. is x s + length (noted b s xs))
      (λ s. noted_size (same_source s x) b (noted b s xs)) in
      let a = all_add (is x) (λ s. length (noted b s xs)) in
      let o = all_once x in
      let h = noted_sum b xs in
      omega (arith, e, a, o, h)

  two_sum : (v w : FlowSource → List Bool) (m n : ℕ) → all (λ s. length (v s)) ≤ m
      → all (λ s. length (w s)) ≤ n → all (λ s. length (v s ++ w s)) ≤ m + n
  two_sum v w m n x y =
      let e = all_same (λ s. length (v s ++ w s)) (λ s. length (v s) + length (w s))
      (λ s. length-append (v s) (w s)) in
      let a = all_add (λ s. length (v s)) (λ s. length (w s)) in
      omega (arith, e, a, x, y)

  node_sum : (n : FlowNode) → all (λ s. length (node_kinds s n)) ≤ sources_in n
  node_sum n =
      two_sum (λ s. noted true s n.left) (λ s. noted true s n.right ++ noted false s (guard_sources n.guard))
      (length n.left) (length n.right + length (guard_sources n.guard)) (noted_sum true n.left)
      (two_sum (λ s. noted true s n.right) (λ s. noted false s (guard_sources n.guard)) (length n.right)
      (length (guard_sources n.guard)) (noted_sum true n.right) (noted_sum false (guard_sources n.guard)))

  nodes_sum : (ns : List FlowNode) → all (λ s. length (nodes_kinds s ns)) ≤ total ns
  nodes_sum [] = let z = all_zero in omega (arith, z)
  nodes_sum (n ∷ ns) =
      two_sum (λ s. node_kinds s n) (λ s. nodes_kinds s ns) (sources_in n) (total ns) (node_sum n) (nodes_sum ns)

  writes_sum : (ws : List FlowWrite) → all (λ s. length (writes_kinds s ws)) ≤ write_price ws
  writes_sum [] = let z = all_zero in omega (arith, z)
  writes_sum (w ∷ ws) =
      two_sum (λ s. noted false s w.sources) (λ s. writes_kinds s ws) (length w.sources) (write_price ws)
      (noted_sum false w.sources) (writes_sum ws)

-- COUNTS

two_most : (k : ℕ) → two_count k ≤ k
two_most zero = omega arith
two_most (suc zero) = omega arith
two_most (suc (suc k)) = omega arith

one_most : (k : ℕ) → one_count k ≤ k
one_most zero = omega arith
one_most (suc zero) = omega arith
one_most (suc (suc k)) = omega arith

one_used : (k : ℕ) → 1 ≤ k → 1 + one_count k ≤ k
one_used zero l = absurd (omega (arith, l))
one_used (suc zero) l = omega arith
one_used (suc (suc k)) l = omega arith

tree_most : (k : ℕ) → tree_count k ≤ k
tree_most zero = omega arith
tree_most (suc zero) = omega arith
tree_most (suc (suc k)) = omega arith

read_most : (b : Bool) (k : ℕ) → read_count b k ≤ k
read_most true k = two_most k
read_most false k = tree_most k

form_most : (e : Form) (k : ℕ) → (e ≡ Constant → 1 ≤ k) → 1 + form_count e k ≤ own e + k
form_most General k u = let a = two_most k in omega (arith, a)
form_most Immediate k u = let a = one_most k in omega (arith, a)
form_most Load k u = let a = one_most k in omega (arith, a)
form_most Store k u = omega arith
form_most Branch k u = omega arith
form_most Constant k u = let a = one_used k (u refl) in omega (arith, a)

module _ (f : FlowBlock) where
  -- how often a source is named
  abbrev often : FlowSource → ℕ
  often s = length (kinds s f)

  -- each constant of some nodes, the first of which is node j, is named
  abbrev pub Feeding : ℕ → List FlowNode → Type 0
  Feeding j [] = Unit {0}
  Feeding j (n ∷ ns) = (form_of n.op ≡ Constant → 1 ≤ often (Node j)) × Feeding (suc j) ns

  -- the nodes themselves, but for constants
  abbrev owns : List FlowNode → ℕ
  owns [] = 0
  owns (n ∷ ns) = own (form_of n.op) + owns ns

  nodes_most : (j : ℕ) (ns : List FlowNode) → Feeding j ns
      → nodes_count f j ns ≤ owns ns + sum_nodes often j ns
  nodes_most j [] h = omega arith
  nodes_most j (n ∷ ns) h =
      let a = form_most (form_of n.op) (often (Node j)) h.0 in
      let b = nodes_most (suc j) ns h.1 in
      omega (arith, a, b)

  reads_most : (rs : List ℕ) → reads_count f rs ≤ sum_reads often rs
  reads_most [] = omega arith
  reads_most (r ∷ rs) =
      let a = read_most (all_true (kinds (Read r) f)) (often (Read r)) in
      let b = reads_most rs in
      omega (arith, a, b)

  priced : (ns : List FlowNode) → owns ns + total ns ≡ price ns
  priced [] = refl
  priced (n ∷ ns) = let h = priced ns in omega (arith, h)

  -- a block has no more instructions than its nodes and its writes are priced
  pub few_insts : Different f.reads → Feeding 0 f.nodes
      → count_insts f ≤ price f.nodes + write_price f.writes
  few_insts d h =
      let a = counted f in
      let b = nodes_most 0 f.nodes h in
      let c = reads_most f.reads in
      let e = two_sum f.nodes f.reads d (λ s. nodes_kinds s f.nodes) (λ s. writes_kinds s f.writes)
      (total f.nodes) (write_price f.writes) (nodes_sum f.nodes f.reads d f.nodes)
      (writes_sum f.nodes f.reads d f.writes) in
      let p = priced f.nodes in
      omega (arith, a, b, c, e, p)
